-- The first bank of a name, found from the front of an area.
use Rattle.std.proofs.Common.{◌≡◌, ℕ, true, false, List, ◌∷◌, length, Some, None, refl, sym, ap, ◌∙◌}
use Rattle.std.specs.Prelude.{nat_eq}
use Rattle.std.specs.Cmp.Lexicographic.{pointwise}
use Rattle.bank_format.specs.declared.formats.Format.{Format}
use Rattle.bank_format.specs.BankAreas.{BankValue}
use Rattle.bank_format.specs.Places.{banks_in, front_bank, behind_bank, first_named}
use Rattle.bank_format.proofs.AreaLaws.{GoesOn, banks_in-nil}

named_first : (name : List ℕ) (b : BankValue) (bs : List BankValue) → pointwise nat_eq b.name name ≡ true → first_named name (b ∷ bs) ≡ Some b
named_first name b bs h = rw h refl

not_first : (name : List ℕ) (b : BankValue) (bs : List BankValue) → pointwise nat_eq b.name name ≡ false → first_named name (b ∷ bs) ≡ first_named name bs
not_first name b bs h = rw h refl

pub named_here : (name : List ℕ) (f : Format) (area : List ℕ) → GoesOn f area → pointwise nat_eq (front_bank f area).name name ≡ true → first_named name (banks_in f area) ≡ Some (front_bank f area)
named_here name f area on h = ap (first_named name) on.banks ∙ named_first name (front_bank f area) (banks_in f (behind_bank f area)) h

pub named_later : (name : List ℕ) (f : Format) (area : List ℕ) → GoesOn f area → pointwise nat_eq (front_bank f area).name name ≡ false → first_named name (banks_in f (behind_bank f area)) ≡ first_named name (banks_in f area)
named_later name f area on h = sym (ap (first_named name) on.banks ∙ not_first name (front_bank f area) (banks_in f (behind_bank f area)) h)

pub named_nowhere : (name : List ℕ) (f : Format) (area : List ℕ) → length area ≡ 0 → first_named name (banks_in f area) ≡ None
named_nowhere name f area none = ap (first_named name) (banks_in-nil f area none)
