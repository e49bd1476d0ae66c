-- The rule of the lock's table. Word 0 is the turn: 256 where it is free, and otherwise the number of the pass that holds it.
-- Word 1 is the count. The one slot keeps the value.
use Rattle.std.specs.Prelude.{◌≡◌, ◌≢◌, ◌⊎◌, ℕ, ◌%◌, ◌^◌, ◌<◌, ◌≤◌, List, [], length, slice_index, All, Option, Some, true}
use mathlib.Core.List.{IsPrefix}
use mathlib.Core.Option as option
use lib.ListN.{get_elem?}
use Rattle.atomic_table.specs.Table.{State}
use Rattle.turn_lock.specs.declared.rule.View.{View}
use Rattle.daq_types.specs.Callers.{entries_by}
use Rattle.turn_lock.specs.History.{Leads, IsLastBy, HadTurnThen}

-- the number is that of a kept pair
abbrev pub IsPaired : {E : Type 0} → ℕ → List (ℕ × List E) → Type 0
IsPaired {E} n pairs = (k : ℕ) × (p : ℕ × List E) × (get_elem? pairs k ≡ option.some p) × (p.0 ≡ n)

-- what a failed try found: the pass had the turn then, or has it still, and no entry came since
abbrev pub IsFoundRightly : {E : Type 0} → List (ℕ × E) → ℕ → ℕ × List (ℕ × E) → Type 0
IsFoundRightly history turn found = HadTurnThen history found ⊎ ((turn ≢ 256) × (found ≡ (turn, history)))

module _ {D E : Type 0} where
  -- how the view of one seat stands to the history, to the numbers given, to the seat that answers for each number, and to the turn
  pub record Fits (step : D → ℕ → E → D → Type 0) (first : D) (all_passes : ℕ) (history : List (ℕ × E)) (given : ℕ) (owner : ℕ → ℕ) (turn seat : ℕ) (v : View D E) : Type 0 where
    -- it knows the first data, or is spent
    pub start : (d : D) → v.start ≡ Some d → d ≡ first
    -- and how many passes there are
    pub passes : (n : ℕ) → v.passes ≡ Some n → n ≡ all_passes
    -- what it has seen is a beginning of the history
    pub seen : IsPrefix v.seen history
    -- so is each list that it met
    pub met : (k : ℕ) (l : List (ℕ × E)) → get_elem? v.met k ≡ option.some l → IsPrefix l history
    -- its number was given, and it answers for that number
    pub numbered : (n : ℕ) → v.number ≡ Some n → (n < given) × (owner n ≡ seat)
    -- it answers for no number but its own and those of its pairs
    pub answers : (n : ℕ) → n < given → owner n ≡ seat → (v.number ≡ Some n) ⊎ IsPaired n v.pairs
    -- behind what it has seen no entry has a number that it answers for
    pub silent : (n : ℕ) → n < given → owner n ≡ seat → entries_by n history ≡ entries_by n v.seen
    -- nor behind what it had seen before the last join
    pub whole : (n : ℕ) (l : List (ℕ × E)) → v.number ≡ Some n → v.whole ≡ Some l → entries_by n history ≡ entries_by n l
    -- where it holds, the turn is its own, and the history leads to the data that it keeps
    pub holding : (d : D) → v.kept ≡ Some d → (v.number ≡ Some turn) × Leads step first history d
    -- where it has counted, the turn is its own, and what it has seen is the whole history, which ends with its entry
    pub counted : v.counted ≡ true → (v.number ≡ Some turn) × ((v.seen ≡ history) × IsLastBy turn history)
    -- each number that a failed try found had the turn then
    pub found : All (IsFoundRightly history turn) v.found
    -- the next number of number 0 is above all numbers given
    pub next : v.number ≡ Some 0 → v.next ≡ given
    -- only number 0 keeps pairs: each has a number that was given, for which it answers, and the entries with that number
    pub pairs : (k : ℕ) (p : ℕ × List E) → get_elem? v.pairs k ≡ option.some p
        → (v.number ≡ Some 0) × ((0 < p.0) × ((p.0 < given) × ((owner p.0 ≡ seat) × (p.1 ≡ entries_by p.0 history))))

  -- the view j holds the turn
  abbrev pub Holds : List (View D E) → ℕ → ℕ → Type 0
  Holds views turn j = (v : View D E) × (d : D) × (get_elem? views j ≡ option.some v) × ((v.number ≡ Some turn) × (v.kept ≡ Some d))

module _ {S D E : Type 0} where
  -- the value in the slot
  abbrev pub IsLaid : State (Option S) (View D E) → S → Type 0
  IsLaid s y = get_elem? s.homes 0 ≡ option.some (option.some (Some y))

  -- What holds between any two steps.
  pub record IsLock (state_of : S → D) (step : D → ℕ → E → D → Type 0) (first : D) (passes : ℕ) (s : State (Option S) (View D E)) : Type 0 where
    -- there is one history
    pub history : List (ℕ × E)
    -- the numbers below this one are given, at least one, and no more than there are passes, of which there are at most 256
    pub given : ℕ
    pub some_given : 0 < given
    pub within : given ≤ passes
    pub few : given ≤ 256
    -- the seat that answers for each number: one number has one seat, so the numbers of views and pairs all differ
    pub owner : ℕ → ℕ
    pub owned : (n : ℕ) → n < given → owner n < length s.views
    -- each entry has a number that was given
    pub known : (n : ℕ) → given ≤ n → entries_by n history ≡ []
    -- there are two words, and the second is the length of the history modulo 2^64
    pub two : length s.words ≡ 2
    pub count : slice_index s.words 1 ≡ length history % 2 ^ 64
    -- each seat's view fits
    pub each : (j : ℕ) (v : View D E) → get_elem? s.views j ≡ option.some v → Fits step first passes history given owner (slice_index s.words 0) j v
    -- where the turn is free, the history leads to the data of the value in the slot
    pub free : slice_index s.words 0 ≡ 256 → (y : S) × IsLaid s y × Leads step first history (state_of y)
    -- otherwise the turn is the number of a view that holds
    pub busy : slice_index s.words 0 ≢ 256 → (j : ℕ) × Holds s.views (slice_index s.words 0) j
