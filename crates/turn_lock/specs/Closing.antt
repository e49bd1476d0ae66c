-- What contracts see of the end of a lock.
use Rattle.std.specs.Prelude.{◌≡◌, ℕ, ◌<◌, ◌++◌, ◌∷◌, List, Contains}
use mathlib.Core.List.{IsPrefix}
use mathlib.Core.Option as option
use lib.ListN.{get_elem?}
use Rattle.turn_lock.specs.declared.lock.Pass.{Pass}
use Rattle.turn_lock.specs.declared.closing.Closed.{Closed}
use Rattle.turn_lock.specs.Passes.{number_of, seen_by, own_entries, found_by}

-- the number is the least of those below the count that is not in the list
pub record IsLeastMissing (numbers : List ℕ) (count number : ℕ) : Type 0 where
  pub below : number < count
  pub missing : ¬ Contains numbers number
  pub least : (k : ℕ) → k < number → Contains numbers k

-- each number below the count is in the list
abbrev pub AreComplete : List ℕ → ℕ → Type 0
AreComplete numbers count = (k : ℕ) → k < count → Contains numbers k

-- the first list without one element is the second
abbrev pub TakesOut : {A : Type 0} → List A → A → List A → Type 0
TakesOut {A} xs x ys = (front : List A) × (back : List A) × (xs ≡ front ++ x ∷ back) × (ys ≡ front ++ back)

module _ {M D E : Type 0} {g : _} where
  -- the value that the lock was made with
  abbrev pub opened_with : Closed M D E g → M
  opened_with closed = closed.first.value

  -- all entries, in the order in which they were appended
  abbrev pub history_of : Closed M D E g → List (ℕ × E)
  history_of closed = closed.last.value.seat.me.0.seen

  -- number 0 has seen what the pass saw, keeps its number with its own entries, and has what its failed tries found
  pub record Absorbs (zero pass : Pass M D E g) : Type 0 where
    pub begins : IsPrefix (seen_by pass) (seen_by zero)
    pub pair : (k : ℕ) × (get_elem? zero.seat.me.0.pairs k ≡ option.some (number_of pass, own_entries pass))
    pub found : (front : _) × (back : _) × (found_by zero ≡ front ++ (found_by pass ++ back))
