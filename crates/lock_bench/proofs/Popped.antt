-- What follows for lists that passes are put behind or taken from.
use Rattle.std.proofs.Common.{◌≡◌, ◌∙◌, ℕ, zero, suc, ◌+◌, List, [], ◌∷◌, ◌++◌, length, refl, sym, subst, ap, arith}
use Rattle.std.proofs.lemmas.List.{length-append}
use Rattle.turn_lock.specs.Closing.{AreComplete}

only_zero : AreComplete (0 ∷ []) 1
only_zero zero below = (0, omega arith, refl)
only_zero (suc k) below = absurd (omega (arith, below))

-- Number 0, taken out of a list of it alone and put back, is that below 1.
pub complete_one : (old left both : List ℕ) (a b count : ℕ) → old ≡ 0 ∷ [] → old ≡ left ++ a ∷ [] → both ≡ left ++ b ∷ [] → b ≡ a → count ≡ 1
    → AreComplete both count
complete_one old left both a b count only out back same one =
    let list : both ≡ 0 ∷ [] = back ∙ ap (λ (n : ℕ). left ++ n ∷ []) same ∙ sym out ∙ only in
    subst (λ (l : List ℕ). AreComplete l count) (sym list) (subst (λ (n : ℕ). AreComplete (0 ∷ []) n) (sym one) only_zero)

zero_and_one : AreComplete (0 ∷ 1 ∷ []) 2
zero_and_one zero below = (0, omega arith, refl)
zero_and_one (suc zero) below = (1, omega arith, refl)
zero_and_one (suc (suc k)) below = absurd (omega (arith, below))

-- Numbers 0 and 1, put one after the other into a list of none, are those below 2.
pub complete_two : (none first both : List ℕ) (a b count : ℕ) → none ≡ [] → first ≡ none ++ a ∷ [] → both ≡ first ++ b ∷ [] → a ≡ 0 → b ≡ 1 → count ≡ 2
    → AreComplete both count
complete_two none first both a b count empty one_in two_in is_zero is_one two =
    let list : both ≡ 0 ∷ 1 ∷ [] = two_in ∙ ap (λ (l : List ℕ). l ++ b ∷ []) (one_in ∙ ap (λ (l : List ℕ). l ++ a ∷ []) empty)
    ∙ ap (λ (n : ℕ). a ∷ n ∷ []) is_one ∙ ap (λ (n : ℕ). n ∷ 1 ∷ []) is_zero in
    subst (λ (l : List ℕ). AreComplete l count) (sym list) (subst (λ (n : ℕ). AreComplete (0 ∷ 1 ∷ []) n) (sym two) zero_and_one)

module _ {A : Type 0} where
  pub popped_length : (old new : List A) (last : A) → old ≡ new ++ last ∷ [] → length new + 1 ≡ length old
  popped_length old new last is = omega (arith, ap length is, length-append new (last ∷ []))
