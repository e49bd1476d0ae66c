-- So far those that are not left are back, with what the logger among them leaves.
use Rattle.std.proofs.Common.{◌≡◌, ◌++◌, List, length}
use Rattle.frontend_kit.specs.declared.generator.Generator.{Generator}
use Rattle.daq_members.specs.Members.{MemberSeen}
use Rattle.session_objects.specs.Kept.{out_to}
use Rattle.session_objects.specs.Records.{HasCallsBut}
use Rattle.session_objects.specs.Returns.{left_among}
use Rattle.session_objects.proofs.membership.Membership.take_back_members.Given as goal

abbrev pub invariant-loop-member : goal.invariant-loop-member
invariant-loop-member g l = record {
  done : List (MemberSeen Generator _);
  all : l.fn.members ≡ l.members ++ done;
  left : l.left ≡ left_among done;
  out : HasCallsBut (out_to l.self.lists.now (length l.members)) g.calls l.self.objects.now l.self.database.now l.passes;
}

abbrev pub decreases-loop-member : goal.decreases-loop-member
decreases-loop-member g l = length l.members

abbrev pub ghost-take_back_member : goal.ghost-take_back_member
ghost-take_back_member g a = g.calls
