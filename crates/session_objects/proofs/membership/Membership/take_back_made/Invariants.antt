use Rattle.std.proofs.Common.{[]}
use Rattle.session_objects.specs.Members.{session_calls}
use Rattle.session_objects.proofs.membership.Membership.take_back_made.Given as goal

abbrev pub ghost-take_back_members : goal.ghost-take_back_members
ghost-take_back_members g a = session_calls a.self.now.lists.now [] [] a.members
