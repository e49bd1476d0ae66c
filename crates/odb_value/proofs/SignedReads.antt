-- Signed numbers of a type, where 64 bits hold them.
use Rattle.std.proofs.Common.{◌≡◌, ℕ, ◌-◌, ◌^◌, Bool, true, false, List, ap, subst, sym, ◌∙◌}
use Rattle.std.specs.Prelude.{Some, None, Result, Ok, Err, ℤ, if◌then◌else◌}
use Rattle.daq_text.specs.Numbers.{mapped}
use Rattle.odb_value.specs.ItemTexts.{is_within, number_within}
use Rattle.odb_value.specs.Sized.{in_signed_64_bits}
use Rattle.odb_value.specs.declared.refusals.ItemRefusal.{ItemRefusal}
use Rattle.odb_value.specs.declared.refusals.ItemRefusal.TheVariants.{OutOfRange}

held_is : (fits : Bool) (z held : ℤ) → (if fits then Some z else None) ≡ Some held → z ≡ held
held_is true z held e = cc
held_is false z held e = cc

abbrev taken_if : Bool → ℤ → Result ℤ ItemRefusal
taken_if fits z = if fits then Ok z else Err OutOfRange

-- A number that 64 bits hold is taken where it is within its type, and else refused.
held_number : (most : ℕ) (text : List ℕ) (form : Result ℤ ℕ) (number held : ℤ) → mapped in_signed_64_bits form ≡ Ok (Some number) → held ≡ number
    → taken_if (is_within most held) held ≡ number_within most text form
held_number most text (Err left) number held e same = absurd (cc)
held_number most text (Ok z) number held e same =
    let is : z ≡ held = held_is (is_within (2 ^ 63 - 1) z) z number (cc) ∙ sym same in
    sym (ap (λ (y : ℤ). taken_if (is_within most y) y) is)

pub held_taken : (most : ℕ) (text : List ℕ) (form : Result ℤ ℕ) (number held : ℤ) → mapped in_signed_64_bits form ≡ Ok (Some number) → is_within most held ≡ true → held ≡ number
    → Ok held ≡ number_within most text form
held_taken most text form number held e within same =
    subst (λ (fits : Bool). taken_if fits held ≡ number_within most text form) within (held_number most text form number held e same)

pub held_refused : (most : ℕ) (text : List ℕ) (form : Result ℤ ℕ) (number held : ℤ) → mapped in_signed_64_bits form ≡ Ok (Some number) → is_within most held ≡ false → held ≡ number
    → Err OutOfRange ≡ number_within most text form
held_refused most text form number held e past same =
    subst (λ (fits : Bool). taken_if fits held ≡ number_within most text form) past (held_number most text form number held e same)
