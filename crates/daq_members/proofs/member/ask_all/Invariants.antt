-- So far each member was asked.
use Rattle.std.specs.Prelude.{All, take}
use Rattle.daq_members.specs.Members.{KeepsContract, member_told}
use Rattle.daq_members.proofs.member.ask_all.Given as goal

abbrev pub invariant-loop-member : goal.invariant-loop-member
invariant-loop-member g l =
    All (KeepsContract (member_told g.X.Equipment.takes g.X.Equipment.makes g.F.Files.told)) (take l.member-index l.members)
