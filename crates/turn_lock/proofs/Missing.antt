-- A pass whose tries to take the turn all missed.
use Rattle.std.specs.Prelude.{◌≡◌, None}
use mathlib.Core.List.{IsPrefix}
use Rattle.turn_lock.specs.declared.lock.Turns.{Turns}
use Rattle.turn_lock.specs.declared.lock.Pass.{Pass}
use Rattle.turn_lock.specs.Passes.{number_of, seen_by, found_by, held_by, IsOf}

module _ {M D E : Type 0} {g : _} where
  -- the pass after tries that all missed: it holds nothing, and has found more numbers
  pub record Misses (lock : Turns M D E) (before after : Pass M D E g) : Type 0 where
    pub own : IsOf lock after
    pub number : number_of after ≡ number_of before
    pub seen : seen_by after ≡ seen_by before
    pub idle : held_by after ≡ None
    pub found : IsPrefix (found_by before) (found_by after)
