use Rattle.std.proofs.Common.{arith}
use Rattle.std.proofs.lemmas.Int.{ints}
use Rattle.odb_value.proofs.FormSteps.{negative_held}
use Rattle.odb_value.proofs.forms.negative.Goals as goal

pub returns-then-number : goal.returns-then-number
returns-then-number c = negative_held c.args.number _ c.if-number.true (omega (arith, ints))
