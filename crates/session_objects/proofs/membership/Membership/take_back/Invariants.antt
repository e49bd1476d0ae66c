use Rattle.turn_lock.specs.Passes.{seen_by, own_entries}
use Rattle.session_objects.specs.Members.{session_calls}
use Rattle.session_objects.proofs.membership.Membership.take_back.Given as goal

abbrev pub ghost-take_back_all : goal.ghost-take_back_all
ghost-take_back_all g a = session_calls a.self.now.lists.now (own_entries a.main_engine) (seen_by a.main_database) a.members
