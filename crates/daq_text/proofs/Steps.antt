-- The bytes in front that pass a test, and those behind them; numbers that grow past what 64 bits hold.
use Rattle.std.proofs.Common.{◌≡◌, ℕ, suc, ◌+◌, ◌-◌, ◌*◌, ◌^◌, ◌<◌, ◌≤◌, Bool, true, false, List, [], ◌∷◌, length, take, drop, get_or, refl, ap, ◌∙◌, arith, le-leb}
use Rattle.std.specs.Prelude.{Some, None, Ok, Err, if◌then◌else◌, nat_eq}
use Rattle.std.specs.Char.{digit_value}
use Rattle.std.specs.Str.Parse.{digits_value}
use Rattle.std.proofs.lemmas.Int.Digits.{digits_value_more}
use Rattle.std.proofs.lemmas.Str.Parse.{digits_value-take-le}
use Rattle.std.proofs.lemmas.Bool.{lt-leb}
use Rattle.daq_text.specs.Numbers.{front, behind, is_blank, ended, mapped, up_to}

pub length-behind-le : (passes : ℕ → Bool) (bs : List ℕ) → length (behind passes bs) ≤ length bs
length-behind-le passes [] = omega arith
length-behind-le passes (b ∷ bs) =
    elim (passes b) as (λ t. length (if t then behind passes bs else b ∷ bs) ≤ length (b ∷ bs))
    [ true ↦ omega (arith, length-behind-le passes bs) | false ↦ omega arith ]

-- the bytes in front are what stands before those behind them
pub front_is : (passes : ℕ → Bool) (bs : List ℕ) → take (length bs - length (behind passes bs)) bs ≡ front passes bs
front_is passes [] = refl
front_is passes (b ∷ bs) =
    elim (passes b) as (λ t. take (length (b ∷ bs) - length (if t then behind passes bs else b ∷ bs)) (b ∷ bs) ≡ (if t then b ∷ front passes bs else [])) [
      | true ↦ ap (λ (n : ℕ). take n (b ∷ bs)) {x = length (b ∷ bs) - length (behind passes bs)} {y = suc (length bs - length (behind passes bs))} (omega (arith, length-behind-le passes bs))
          ∙ ap (λ (l : List ℕ). b ∷ l) (front_is passes bs)
      | false ↦ ap (λ (n : ℕ). take n (b ∷ bs)) {x = length (b ∷ bs) - length (b ∷ bs)} {y = 0} (omega arith)
    ]

pub behind_is : (passes : ℕ → Bool) (bs : List ℕ) → drop (length bs - length (behind passes bs)) bs ≡ behind passes bs
behind_is passes [] = refl
behind_is passes (b ∷ bs) =
    elim (passes b) as (λ t. drop (length (b ∷ bs) - length (if t then behind passes bs else b ∷ bs)) (b ∷ bs) ≡ (if t then behind passes bs else b ∷ bs)) [
      | true ↦ ap (λ (n : ℕ). drop n (b ∷ bs)) {x = length (b ∷ bs) - length (behind passes bs)} {y = suc (length bs - length (behind passes bs))} (omega (arith, length-behind-le passes bs))
          ∙ behind_is passes bs
      | false ↦ ap (λ (n : ℕ). drop n (b ∷ bs)) {x = length (b ∷ bs) - length (b ∷ bs)} {y = 0} (omega arith)
    ]

pub up_to-past : (most n : ℕ) → most < n → up_to most n ≡ None
up_to-past most n past = rw (lt-leb n most past) refl

pub up_to-small : (most n : ℕ) → n ≤ most → up_to most n ≡ Some n
up_to-small most n small = rw (le-leb n most small) refl

-- a number that has grown past 64 bits stays past them, and past what they hold
pub digits_value-past : (most base : ℕ) (ds : List ℕ) (i : ℕ) → most < 2 ^ 64 → 1 ≤ base → i < length ds
    → 2 ^ 64 ≤ digits_value base (take i ds) * base + digit_value (get_or ds i 0) → up_to most (digits_value base ds) ≡ None
digits_value-past most base ds i held some inside past =
    up_to-past most (digits_value base ds) (omega (arith, past, digits_value_more base ds i inside, digits_value-take-le base ds (i + 1) some))

pub ended_mapped : {A B : Type 0} (f : A → B) (value : A) (rest : List ℕ) → ended (f value) rest ≡ mapped f (ended value rest)
ended_mapped f value rest =
    elim (nat_eq (length (behind is_blank rest)) 0)
    as (λ t. (if t then Ok (f value) else Err (length (behind is_blank rest))) ≡ mapped f (if t then Ok value else Err (length (behind is_blank rest))))
    [ true ↦ refl | false ↦ refl ]
