-- The passes of one lock, of which some are with those that call by them.
use Rattle.std.specs.Prelude.{◌≡◌, ◌≢◌, ℕ, ◌+◌, ◌<◌, ◌++◌, ◌∷◌, [], List, slice_get, length, Contains, Some, None}
use Rattle.daq_types.specs.Callers.{main_caller}
use Rattle.turn_lock.specs.declared.lock.Turns.{Turns}
use Rattle.turn_lock.specs.declared.lock.Pass.{Pass}
use Rattle.turn_lock.specs.declared.roster.Passes.{Passes}
use Rattle.turn_lock.specs.Passes.{number_of, seen_by, held_by, passes_of, IsOf}
use Rattle.turn_lock.specs.Roster.{items_of, ArePassesOf, AreIdle, AreFresh, IsFresh}

-- a pass with this number is among these, and this holds of what it has seen
pub record HasPass {M D E : Type 0} {g : _} (passes : Passes M D E g) (number : ℕ) (told : List (ℕ × E) → Type 0) : Type 0 where
  pub pass : Pass M D E g
  pub among : Contains (items_of passes) pass
  pub is : number_of pass ≡ number
  pub seen : told (seen_by pass)

-- All passes of the lock are here and idle, but those with these numbers. What each has seen is as is told of its
-- number.
pub record KeepsPasses {M D E : Type 0} {g : _} (told : ℕ → List (ℕ × E) → Type 0) (out : List ℕ) (lock : Turns M D E)
    (passes : Passes M D E g) : Type 0 where
  pub own : ArePassesOf lock passes
  pub idle : AreIdle passes
  pub count : length (items_of passes) + length out ≡ passes_of lock
  pub rest : (number : ℕ) → number < passes_of lock → ¬ Contains out number → HasPass passes number (told number)

-- nothing was seen
abbrev pub nothing_seen : {E : Type 0} → ℕ → List (ℕ × E) → Type 0
nothing_seen number seen = seen ≡ []

-- All passes of the lock are here but those with these numbers, and none of them made a call.
pub record KeepsFresh {M D E : Type 0} {g : _} (out : List ℕ) (lock : Turns M D E) (passes : Passes M D E g) : Type 0 where
  pub keeps : KeepsPasses nothing_seen out lock passes
  pub fresh : AreFresh passes

-- This pass, which has this number, is taken out of those before; what is left are those behind.
pub record TakesFresh {M D E : Type 0} {g : _} (number : ℕ) (before : Passes M D E g) (pass : Pass M D E g) (after : Passes M D E g) : Type 0 where
  pub is : number_of pass ≡ number
  pub own : (lock : Turns M D E) → ArePassesOf lock before → IsOf lock pass
  pub fresh : AreFresh before → IsFresh pass
  pub left : (lock : Turns M D E) → (out : List ℕ) → KeepsFresh out lock before → KeepsFresh (number ∷ out) lock after

-- The pass is put back to those before: they stand in front of it.
pub record PutsBack {M D E : Type 0} {g : _} (before : Passes M D E g) (pass : Pass M D E g) (after : Passes M D E g) : Type 0 where
  pub items : items_of after ≡ items_of before ++ pass ∷ []
  pub own : (lock : Turns M D E) → ArePassesOf lock before → IsOf lock pass → ArePassesOf lock after
  pub idle : AreIdle before → held_by pass ≡ None → AreIdle after

-- Of the items of a list only the one with this number is changed, in this way.
pub record ChangesAt {X : Type 0} (Change : X → X → Type 0) (number : ℕ) (before after : List X) : Type 0 where
  pub many : length after ≡ length before
  pub there : (x : X) → slice_get before number ≡ Some x → (y : X) × (slice_get after number ≡ Some y) × Change x y
  pub others : (other : ℕ) → other ≢ number → slice_get after other ≡ slice_get before other

-- The pass is the main thread's, of this lock, and does not hold the turn.
pub record IsMainPass {M D E : Type 0} {g : _} (lock : Turns M D E) (pass : Pass M D E g) : Type 0 where
  pub is : number_of pass ≡ main_caller
  pub own : IsOf lock pass
  pub idle : held_by pass ≡ None
