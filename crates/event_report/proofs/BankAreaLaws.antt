-- The banks of an event are those of a bank area, as the format has it.
use Rattle.std.proofs.Common.{◌≡◌, ℕ, zero, suc, ◌+◌, ◌≤◌, Bool, true, false, cond, eqb, leb, List, [], ◌∷◌, length, drop, Option, Some, None, refl, ap, subst, ◌∙◌, arith, inl, inr, length-append}
use Rattle.std.specs.Prelude.{◌||◌, ◌&&◌, ◌⊎◌, is_some, option_and_then}
use Rattle.std.proofs.lemmas.Bool.{le-leb, leb-true, eqb-true}
use Rattle.std.proofs.lemmas.List.{nil_from_length, get_or-drop}
use Rattle.std.proofs.lemmas.List.Sums.{sum_by-cons}
use Rattle.bank_format.specs.declared.formats.Format.{Format}
use Rattle.bank_format.specs.declared.faults.BankFault.{BankFault}
use Rattle.bank_format.specs.Formats.{format_with, header_len, padded}
use Rattle.bank_format.specs.BankAreas.{BankValue, BanksBefore}
use Rattle.bank_format.specs.Places.{stated_flags, stated_size, behind_bank, HasBank, banks_within, banks_in}
use Rattle.bank_format.specs.Faults.{front_fault, IsFirstFault, HoldsBanks}
use Rattle.bank_format.specs.Spelled.{IsBytes}
use Rattle.bank_format.proofs.BankLaws.{front_is, front_back, behind_is_shorter, header_is_some, IsBytes-behind}
use Rattle.bank_format.proofs.FrontLaws.{front_right, named_by, front_of, banks_are, is_bank_area}
use Rattle.bank_format.proofs.FaultLaws.{area_has_no_fault}
use Rattle.event_report.specs.EventBanks.{are_banks, area_banks, banks_of}
use Rattle.event_report.specs.Held.{weight}

-- ---- an area of whole banks is one where each bank fits

whole_are : (f : Format) (bs : List BankValue) (area : List ℕ) (n : ℕ) → BanksBefore f bs [] area → length area ≤ n → are_banks n f area ≡ true
unfolding are_banks
whole_are f [] area zero none le = rw none refl
whole_are f [] area (suc n) none le = rw none refl
whole_are f (b ∷ bs) area zero (middle, first, tail) le =
    let front = front_is f b middle area first in
    absurd (omega (arith, front.has.header, header_is_some f))
whole_are f (b ∷ bs) area (suc n) (middle, first, tail) le =
    let front = front_is f b middle area first in
    let shorter = behind_is_shorter f area front.has in
    let fits : leb (header_len f + padded (stated_size f area)) (length area) ≡ true = le-leb _ _ front.has.with_data in
    let more : are_banks n f (behind_bank f area) ≡ true =
    ap (are_banks n f) front.rest_is ∙ whole_are f bs middle n tail (omega (arith, ap length front.rest_is, shorter, header_is_some f)) in
    rw (fits, more) (or_true (eqb (length area) 0))
  where
    or_true : (a : Bool) → (a || true) ≡ true
    or_true true = refl
    or_true false = refl

both_true : (a b : Bool) → (a && b) ≡ true → (a ≡ true) × (b ≡ true)
both_true true b e = (refl, e)
both_true false b e = absurd cc

one_true : (a b : Bool) → (a || b) ≡ true → (a ≡ true) ⊎ ((a ≡ false) × (b ≡ true))
one_true true b e = inl refl
one_true false b e = inr (refl, e)

are_whole : (n : ℕ) (f : Format) (area : List ℕ) → IsBytes area → are_banks n f area ≡ true → BanksBefore f (banks_within n f area) [] area
unfolding are_banks banks_within
are_whole zero f area small is = nil_from_length area (eqb-true _ _ is)
are_whole (suc n) f area small is =
    elim (one_true (eqb (length area) 0) _ is) [
      | inl none ↦ rw none (nil_from_length area (eqb-true _ _ none))
      | inr some ↦
          let parts = both_true _ _ some.1 in
          let fits = leb-true _ _ parts.0 in
          let has : HasBank f area = record { header = omega (arith, fits); with_data = fits } in
          let e = some.0 in
          rw e (behind_bank f area, front_back f area has small, are_whole n f (behind_bank f area) (IsBytes-behind f area small) parts.1)
    ]

-- ---- the banks of bytes

-- the banks of a bank area are read
pub banks_of_area : (bs : List BankValue) (bytes : List ℕ) → HoldsBanks bs bytes → banks_of bytes ≡ Some bs
unfolding banks_of
banks_of_area bs bytes (f, whole) =
    let right = front_right f bs bytes whole in
    let named = named_by f bs bytes whole in
    let front = front_of f bs bytes whole in
    let are : are_banks (length (drop 8 bytes)) f (drop 8 bytes) ≡ true =
    ap (λ (xs : List ℕ). are_banks (length xs) f xs) front.area_is ∙ whole_are f bs whole.area (length whole.area) whole.banks (omega arith) in
    rw (right, named, are) (ap Some (banks_are f bs bytes whole))

some_is : (a b : List BankValue) → Some a ≡ Some b → a ≡ b
some_is a b e = cc

none_is_not_some : (bs : List BankValue) → None ≡ Some bs → ⊥
none_is_not_some bs e = cc

with_area : (bs : List BankValue) (bytes : List ℕ) (f : Format) (b : Bool) → IsBytes bytes → front_fault bytes ≡ None → format_with (stated_flags bytes) ≡ Some f
    → are_banks (length (drop 8 bytes)) f (drop 8 bytes) ≡ b → cond b (Some (banks_in f (drop 8 bytes))) None ≡ Some bs → HoldsBanks bs bytes
unfolding banks_in
with_area bs bytes f true small right named are is =
    let area : List ℕ = drop 8 bytes in
    let whole : BanksBefore f (banks_in f area) [] area = are_whole (length area) f area (bytes_behind bytes small) are in
    (f, is_bank_area f bs bytes small right named (subst (λ (cs : List BankValue). BanksBefore f cs [] area) (some_is (banks_in f area) bs is) whole))
  where
    bytes_behind : (xs : List ℕ) → IsBytes xs → IsBytes (drop 8 xs)
    bytes_behind xs few i = rw get_or-drop (few _)
with_area bs bytes f false small right named are is = absurd (none_is_not_some bs is)

with_format : (bs : List BankValue) (bytes : List ℕ) (o : Option Format) → IsBytes bytes → front_fault bytes ≡ None → format_with (stated_flags bytes) ≡ o
    → option_and_then (λ f. area_banks f (drop 8 bytes)) o ≡ Some bs → HoldsBanks bs bytes
with_format bs bytes None small right named is = absurd (none_is_not_some bs is)
with_format bs bytes (Some f) small right named is = with_area bs bytes f (are_banks (length (drop 8 bytes)) f (drop 8 bytes)) small right named refl is

with_front : (bs : List BankValue) (bytes : List ℕ) (o : Option BankFault) → IsBytes bytes → front_fault bytes ≡ o
    → cond (is_some o) None (option_and_then (λ f. area_banks f (drop 8 bytes)) (format_with (stated_flags bytes))) ≡ Some bs → HoldsBanks bs bytes
with_front bs bytes None small right is = with_format bs bytes (format_with (stated_flags bytes)) small right refl is
with_front bs bytes (Some fault) small right is = absurd (none_is_not_some bs is)

-- what is read is a bank area
pub area_of_banks : (bs : List BankValue) (bytes : List ℕ) → IsBytes bytes → banks_of bytes ≡ Some bs → HoldsBanks bs bytes
unfolding banks_of
area_of_banks bs bytes small is = with_front bs bytes (front_fault bytes) small refl is

none_then : (bytes : List ℕ) (fault : BankFault) (o : Option (List BankValue)) → IsBytes bytes → IsFirstFault bytes fault → banks_of bytes ≡ o → o ≡ None
none_then bytes fault None small first is = refl
none_then bytes fault (Some bs) small first is =
    let whole = area_of_banks bs bytes small is in
    absurd (area_has_no_fault whole.0 bs bytes fault whole.1 first)

-- bytes with a fault have no banks
pub no_banks : (bytes : List ℕ) (fault : BankFault) → IsBytes bytes → IsFirstFault bytes fault → banks_of bytes ≡ None
no_banks bytes fault small first = none_then bytes fault (banks_of bytes) small first refl

-- ---- banks take at least their data and a byte each

weight_before : (f : Format) (bs : List BankValue) (left area : List ℕ) → BanksBefore f bs left area → weight bs ≤ length area
weight_before f [] left area here = omega arith
weight_before f (b ∷ bs) left area (middle, first, tail) =
    let more = weight_before f bs left middle tail in
    let weighs : weight (b ∷ bs) ≡ 1 + length b.body + weight bs = sum_by-cons (λ (c : BankValue). 1 + length c.body) b bs in
    omega (arith, more, weighs, ap length first.spelled, length-append {A = ℕ}, first.bank.name)

pub weight_within : (bs : List BankValue) (bytes : List ℕ) → HoldsBanks bs bytes → weight bs ≤ length bytes
weight_within bs bytes (f, whole) =
    let front = front_of f bs bytes whole in
    omega (arith, weight_before f bs [] whole.area whole.banks, front.total)
