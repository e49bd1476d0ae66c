-- Signed numbers that grow past 64 bits.
use Rattle.std.proofs.Common.{◌≡◌, ℕ, zero, suc, ◌-◌, ◌^◌, ◌<◌, ◌≤◌, refl, sym, ap, subst, ◌∙◌, arith, le-leb}
use Rattle.std.specs.Prelude.{Option, Some, None, MatchOption, Result, Ok, Err, ℤ, pos, neg_ℤ}
use Rattle.std.proofs.lemmas.Bool.{lt-leb, cases_lt}
use Rattle.std.proofs.Math.Logic.{⊎_elim}
use Rattle.daq_text.specs.Numbers.{mapped, up_to}
use Rattle.odb_value.specs.Sized.{in_signed_64_bits}

up_to-held : (n : ℕ) → n < 2 ^ 64 → up_to (2 ^ 64 - 1) n ≡ Some n
up_to-held n small = rw (le-leb n (2 ^ 64 - 1) (omega (arith, small))) refl

up_to-not_held : (n : ℕ) → 2 ^ 64 ≤ n → up_to (2 ^ 64 - 1) n ≡ None
up_to-not_held n past = rw (lt-leb n (2 ^ 64 - 1) (omega (arith, past))) refl

-- a number past 64 bits does not fit with a sign either
in_signed_64_bits-past : (n : ℕ) → 2 ^ 64 ≤ n → in_signed_64_bits (pos n) ≡ None
in_signed_64_bits-past n past = rw (lt-leb n (2 ^ 63 - 1) (omega (arith, past))) refl

positive_of_number : (n : ℕ) (r : Option ℤ) → MatchOption (up_to (2 ^ 64 - 1) n) (r ≡ None) (λ x. r ≡ in_signed_64_bits (pos x)) → r ≡ in_signed_64_bits (pos n)
positive_of_number n r h = ⊎_elim
    (λ small. let s : up_to (2 ^ 64 - 1) n ≡ Some n = up_to-held n small in
    let P : Option ℕ → Type 0 = λ o. MatchOption o (r ≡ None) (λ x. r ≡ in_signed_64_bits (pos x)) in
    subst P s h)
    (λ past. let s : up_to (2 ^ 64 - 1) n ≡ None = up_to-not_held n past in
    let P : Option ℕ → Type 0 = λ o. MatchOption o (r ≡ None) (λ x. r ≡ in_signed_64_bits (pos x)) in
    subst P s h ∙ sym (in_signed_64_bits-past n past))
    (cases_lt n (2 ^ 64))

pub positive_of : (u : Result ℕ ℕ) (n : Option ℕ) (r : Option ℤ) → Ok n ≡ mapped (up_to (2 ^ 64 - 1)) u → MatchOption n (r ≡ None) (λ x. r ≡ in_signed_64_bits (pos x))
    → Ok r ≡ mapped in_signed_64_bits (mapped pos u)
positive_of (Err left) n r e h = absurd (cc)
positive_of (Ok v) n r e h =
    let same : n ≡ up_to (2 ^ 64 - 1) v = (cc) in
    let P : Option ℕ → Type 0 = λ o. MatchOption o (r ≡ None) (λ x. r ≡ in_signed_64_bits (pos x)) in
    ap (λ (o : Option ℤ). let x : Result (Option ℤ) ℕ = Ok o in x) (positive_of_number v r (subst P same h))

-- a number below zero that fits
pub negative_held : (n : ℕ) (z : ℤ) → n - 1 ≤ 2 ^ 63 - 1 → z ≡ neg_ℤ (pos n) → Some z ≡ in_signed_64_bits (neg_ℤ (pos n))
negative_held zero z small e = ap (λ (y : ℤ). let o : Option ℤ = Some y in o) e
negative_held (suc k) z small e = rw (le-leb k (2 ^ 63 - 1) (omega (arith, small))) (ap (λ (y : ℤ). let o : Option ℤ = Some y in o) e)
