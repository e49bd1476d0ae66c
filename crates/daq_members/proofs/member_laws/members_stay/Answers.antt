use Rattle.daq_members.proofs.LoggerSeatLaws.{NotedLaws}
use Rattle.daq_members.specs.Members.{member_told}
use Rattle.daq_members.proofs.StayLaws.{members_stay_so}
use Rattle.daq_members.proofs.member_laws.members_stay.Goals as goal

pub returns : goal.returns
returns g c =
    let noted = c.faults_noted.ensures in
    let laws : NotedLaws = record { turns = noted.turns; pulls = noted.pulls; finishes = noted.finishes; follow = noted.follow } in
    members_stay_so (member_told g.X.Equipment.takes g.X.Equipment.makes g.F.Files.told) laws
