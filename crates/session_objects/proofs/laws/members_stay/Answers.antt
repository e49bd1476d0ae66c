use Rattle.session_objects.proofs.StayLaws.{members_stay}
use Rattle.session_objects.proofs.laws.members_stay.Goals as goal

pub returns : goal.returns
returns g c = members_stay _ g.F.Files.told
