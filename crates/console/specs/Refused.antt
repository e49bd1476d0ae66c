-- The lines that were refused, as a count and the first of them.
use Rattle.std.specs.Prelude.{◌≡◌, ℕ, ◌+◌, ◌==◌, Bool, true, false, if◌then◌else◌, List, length}
use Rattle.console.specs.declared.refusals.Refusals.{Refusals}
use Rattle.console.specs.Console.{first_line}

-- the count and the first with one line more, if that was refused
abbrev pub refusals_after : Refusals → (line : ℕ) → Bool → Refusals
refusals_after old line true = record { count = old.count + 1; first = if old.count == 0 then line else old.first }
refusals_after old line false = old

-- these lines are counted, and this is the first of them
pub record CountsRefusals (lines : List ℕ) (refusals : Refusals) : Type 0 where
  pub count : refusals.count ≡ length lines
  pub first : refusals.first ≡ first_line lines
