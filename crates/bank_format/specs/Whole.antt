-- How a reader holds an area that is nothing but whole banks.
use Rattle.std.specs.Prelude.{ℕ, List, []}
use Rattle.bank_format.specs.declared.formats.Format.{Format}
use Rattle.bank_format.specs.BankAreas.{BanksBefore}
use Rattle.bank_format.specs.Places.{banks_in}

-- the area and what is left of it are whole banks
pub record IsWhole (f : Format) (area left : List ℕ) : Type 0 where
  pub area_is : BanksBefore f (banks_in f area) [] area
  pub left_is : BanksBefore f (banks_in f left) [] left
