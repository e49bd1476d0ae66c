use Rattle.odb_value.proofs.FirstPlace.{first_place}
use Rattle.odb_value.proofs.laws.first_place.Goals as goal

pub returns : goal.returns
returns c = first_place
