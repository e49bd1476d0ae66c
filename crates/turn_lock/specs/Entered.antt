-- What a call on the locked object does to the pass that makes it, whatever the object is.
use Rattle.std.specs.Prelude.{◌≡◌, ◌≢◌, ℕ, ◌<◌, List, ◌++◌, ◌∷◌, [], None}
use mathlib.Core.List.{IsPrefix}
use Rattle.turn_lock.specs.declared.lock.Turns.{Turns}
use Rattle.turn_lock.specs.declared.lock.Pass.{Pass}
use Rattle.daq_types.specs.Callers.{entries_by}
use Rattle.turn_lock.specs.History.{Appends, Leads}
use Rattle.turn_lock.specs.Passes.{number_of, seen_by, own_entries, found_by, held_by, first_value, passes_of, IsOf}

module _ {M D E : Type 0} {g : _} where
  -- The call made this entry, and the pass holds nothing behind it. What the pass has seen begins with what it had seen and
  -- ends with the entry, before which come other passes' entries alone; its own entries are this one more; and all that it has
  -- seen leads from the first value on.
  pub record Enters (lock : Turns M D E) (entry : E) (before after : Pass M D E g) : Type 0 where
    pub own : IsOf lock after
    pub number : number_of after ≡ number_of before
    pub idle : held_by after ≡ None
    pub appends : Appends (number_of before) entry (seen_by before) (seen_by after)
    pub mine : own_entries after ≡ own_entries before ++ entry ∷ []
    pub found : IsPrefix (found_by before) (found_by after)
    pub legal : (last : D) × Leads g.step (g.state (first_value lock)) (seen_by after) last

  -- The call found that the turn was another pass's, and did nothing else: no entry is new, and that pass's number stands
  -- behind those found before, beside the history as it was: what had been seen, and behind it entries of others alone.
  -- Of each number found, `Turns::close` tells that the pass had the turn at that moment.
  pub record FindsTaken (lock : Turns M D E) (holder : ℕ) (before after : Pass M D E g) : Type 0 where
    pub own : IsOf lock after
    pub number : number_of after ≡ number_of before
    pub idle : held_by after ≡ None
    pub seen : seen_by after ≡ seen_by before
    pub others : List (ℕ × E)
    pub foreign : entries_by (number_of before) others ≡ []
    pub found : found_by after ≡ found_by before ++ (holder, seen_by before ++ others) ∷ []
    pub within : holder < passes_of lock
    pub another : holder ≢ number_of before
