-- Counts of an object with files.
use Rattle.std.specs.Prelude.{ℕ, List, Option}

-- how many calls failed, how many names were taken or missing, and the name of the first file at which a call failed
pub record Tallied : Type 0 where
  pub faults : ℕ
  pub clashes : ℕ
  pub first : Option (List ℕ)
