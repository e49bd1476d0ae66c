-- Lists in room that was taken once.
use Rattle.std.specs.Prelude.{◌≡◌, ℕ, ◌≤◌, length, vec_len, vec_capacity}
use Rattle.std.specs.Global.{Vec}

-- at most so many, and room for all of them
pub record HasSpaceFor {X : Type 0} (most : ℕ) (xs : Vec X) : Type 0 where
  pub counted : vec_len xs ≡ length xs.items
  pub fits : vec_len xs ≤ most
  pub room : most ≤ vec_capacity xs
