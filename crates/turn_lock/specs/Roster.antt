-- What contracts see of a list of passes.
use Rattle.std.specs.Prelude.{◌≡◌, ℕ, zero, suc, ◌++◌, ◌∷◌, [], List, map, All, None}
use Rattle.turn_lock.specs.declared.lock.Turns.{Turns}
use Rattle.turn_lock.specs.declared.lock.Pass.{Pass}
use Rattle.turn_lock.specs.declared.roster.Passes.{Passes}
use Rattle.turn_lock.specs.Passes.{number_of, seen_by, found_by, held_by, first_value, passes_of, IsOf}

-- the numbers below n, in order
abbrev pub numbers_below : ℕ → List ℕ
numbers_below zero = []
numbers_below (suc n) = numbers_below n ++ n ∷ []

module _ {M D E : Type 0} {g : _} where
  abbrev pub items_of : Passes M D E g → List (Pass M D E g)
  items_of passes = passes.items.items

  -- the numbers of the passes, in order
  abbrev pub numbers_of : Passes M D E g → List ℕ
  numbers_of passes = map number_of passes.items.items

  -- how many passes there is room for
  abbrev pub room_of : Passes M D E g → ℕ
  room_of passes = passes.room

  -- the value that the passes' lock was made with
  abbrev pub made_with : Passes M D E g → M
  made_with passes = passes.first.value

  -- a pass that has seen and found nothing yet, and holds nothing
  pub record IsFresh (pass : Pass M D E g) : Type 0 where
    pub seen : seen_by pass ≡ []
    pub found : found_by pass ≡ []
    pub idle : held_by pass ≡ None

  -- no pass of the list holds the turn
  abbrev pub AreIdle : Passes M D E g → Type 0
  AreIdle passes = All (λ pass. held_by pass ≡ None) passes.items.items

  abbrev pub AreFresh : Passes M D E g → Type 0
  AreFresh passes = All IsFresh passes.items.items

  -- the passes are this lock's
  pub record ArePassesOf (lock : Turns M D E) (passes : Passes M D E g) : Type 0 where
    pub first : made_with passes ≡ first_value lock
    pub room : room_of passes ≡ passes_of lock
    pub each : All (IsOf lock) (items_of passes)
