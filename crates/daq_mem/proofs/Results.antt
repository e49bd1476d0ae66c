-- A fact that holds whatever the result, for a clause on one variant.
use Rattle.std.specs.Bool.{OnTrue}
use Rattle.std.proofs.Common.{Bool, true, false}

-- what is said of an answer `true`, from another thing that is
pub on_true : {P Q : Type 0} (b : Bool) → (P → Q) → OnTrue b P → OnTrue b Q
on_true true f p = f p
on_true false f p = tt
