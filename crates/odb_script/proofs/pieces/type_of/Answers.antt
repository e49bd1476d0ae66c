use Rattle.odb_script.proofs.TypeLaws.{type_named_is}
use Rattle.odb_script.proofs.pieces.type_of.Goals as goal

pub returns : goal.returns
returns c = type_named_is c.args.name.now c.from_name.result c.from_name.ensures.found c.from_name.ensures.none
