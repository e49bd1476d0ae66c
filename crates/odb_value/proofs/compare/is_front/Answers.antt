use Rattle.std.proofs.Common.{sym}
use Rattle.odb_value.proofs.PathLaws.{is_front-longer}
use Rattle.odb_value.proofs.compare.is_front.Goals as goal

pub returns-then-names-front : goal.returns-then-names-front
returns-then-names-front c = sym (is_front-longer c.args.front.now c.args.names.now c.if-names-front.true)
