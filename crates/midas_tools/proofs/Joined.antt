-- Texts added one behind the other.
use Rattle.std.specs.Prelude.{◌≡◌, ℕ, List, ◌++◌, Result, Ok, Err, OnOk}
use Rattle.std.proofs.Common.{ap, ◌∙◌, append_assoc}

-- what is added last is added behind what was added before
pub behind : {X E : Type 0} → (r : Result X E) → (start before after : List ℕ) → (a b : List ℕ) →
    before ≡ start ++ a → OnOk r (after ≡ before ++ b) → OnOk r (after ≡ start ++ (a ++ b))
behind (Ok x) start before after a b front last = last ∙ (ap (λ (l : List ℕ). l ++ b) front ∙ append_assoc start a b)
behind (Err e) start before after a b front last = tt
