-- The first place where a form cannot go on, said by the texts of the form alone.
use Rattle.std.specs.Prelude.{◌≢◌, ℕ, ◌+◌, ◌<◌, ◌≤◌, List, ◌++◌, length, take, Err}
use Rattle.daq_types.specs.declared.types.Tid.{Tid}
use Rattle.odb_value.specs.declared.refusals.ItemRefusal.TheVariants.{BadText}
use Rattle.odb_value.specs.ItemTexts.{item_read}

-- the text is in the form of the type, whatever it spells
abbrev pub IsInForm : Tid → List ℕ → Type 0
IsInForm type text = (place : ℕ) → item_read type text ≢ Err (BadText place)

-- The bytes before the place begin some text of the form, and with the byte at the place they begin none.
pub record IsFirstPlace (type : Tid) (text : List ℕ) (place : ℕ) : Type 0 where
  pub inside : place ≤ length text
  pub goes_on : (more : List ℕ) × IsInForm type (take place text ++ more)
  pub stops : place < length text → (more : List ℕ) → ¬ (IsInForm type (take (place + 1) text ++ more))
