use Rattle.std.proofs.Common.{List, subst}
use denote.Param.Send.{sendable}
use Rattle.daq_members.specs.Members.{MemberSeen, KeepsContract, member_told}
use Rattle.std.specs.Prelude.{All}
use Rattle.daq_members.proofs.SendLaws.{member_send}
use Rattle.daq_members.proofs.play.play_members.Goals as goal

pub play-played-requires-send-M : goal.play-played-requires-send-M
play-played-requires-send-M g c κs within = search (sendable, member_send)

pub returns-clause-back : goal.returns-clause-back
returns-clause-back g c = c.play-played.ensures.back

pub returns-clause-stay : goal.returns-clause-stay
returns-clause-stay g c =
    let told = member_told g.X.Equipment.takes g.X.Equipment.makes g.F.Files.told in
    let P : List (MemberSeen _ _) → Type 0 = λ members. All (KeepsContract told) members in
    c.members_stay.ensures _ _ (returns-clause-back g c) (subst P c.as_slice.ensures c.ask_all.ensures)
