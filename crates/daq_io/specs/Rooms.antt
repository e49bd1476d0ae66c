-- Room for bytes that was taken once.
use Rattle.std.specs.Prelude.{ℕ, List}

-- the bytes in it, and how many there may be
pub record Roomed : Type 0 where
  pub bytes : List ℕ
  pub room : ℕ
