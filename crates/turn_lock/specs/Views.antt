-- What a seat at the lock's table knows, and how each kind of step changes it.
use Rattle.std.specs.Prelude.{◌≡◌, ◌≢◌, ℕ, ◌+◌, ◌<◌, ◌≤◌, List, [], ◌∷◌, ◌++◌, length, All, Option, Some, None, true, false, if◌then◌else◌, nat_le}
use mathlib.Core.List.{IsPrefix}
use mathlib.Core.Option as option
use lib.ListN.{get_elem?}
use Rattle.atomic_table.specs.Table.{Me, Step}
use Rattle.turn_lock.specs.declared.rule.View.{View}
use Rattle.daq_types.specs.Callers.{entries_by}
use Rattle.turn_lock.specs.History.{Leads, HadTurnThen}

-- what a seat carries: the slot, empty, while it holds the turn
abbrev pub carried : {S D : Type 0} → Option D → List (ℕ × Option S)
carried None = []
carried (Some d) = (0, None) ∷ []

-- the longer of two lists; the first where they are equally long
abbrev pub longer : {A : Type 0} → List A → List A → List A
longer xs ys = if nat_le (length ys) (length xs) then xs else ys

-- the number of a pass that is joined, beside its own entries; nothing for a note
abbrev pub pair_of : {E : Type 0} → Option ℕ → List (ℕ × E) → List (ℕ × List E)
pair_of None seen = []
pair_of (Some n) seen = (n, entries_by n seen) ∷ []

module _ {D E : Type 0} where
  -- number 0 of a lock with so many passes, with this next number, before it has seen anything
  abbrev pub dealt_view : D → (passes : ℕ) → (next : ℕ) → View D E
  dealt_view d passes n = record { start = Some d; passes = Some passes; number = Some 0; next = n; kept = None; counted = false; seen = []; met = []; whole = None; found = []; pairs = [] }

  -- number 0 as the lock is made
  abbrev pub first_view : D → (passes : ℕ) → View D E
  first_view d passes = dealt_view d passes 1

  -- a seat with no number, which has seen what the other saw
  abbrev pub note_view : View D E → View D E
  note_view v = record { start = v.start; passes = v.passes; number = None; next = 0; kept = None; counted = false; seen = v.seen; met = []; whole = None; found = []; pairs = [] }

  -- the pass with the next number of this view, which has seen the same
  abbrev pub given_view : View D E → View D E
  given_view v = record { start = v.start; passes = v.passes; number = Some v.next; next = 0; kept = None; counted = false; seen = v.seen; met = []; whole = None; found = []; pairs = [] }

  -- the view that gave its next number away
  abbrev pub giver_view : View D E → View D E
  giver_view v = record v { next = v.next + 1 }

  -- the first view after the second was joined into it
  abbrev pub joined_view : View D E → View D E → View D E
  joined_view v w = record v { counted = false; seen = longer v.seen w.seen; met = v.seen ∷ w.seen ∷ v.met; whole = Some v.seen; found = v.found ++ w.found; pairs = v.pairs ++ pair_of w.number w.seen }

  -- a seat that was joined into another
  abbrev pub spent_view : View D E
  spent_view = record { start = None; passes = None; number = None; next = 0; kept = None; counted = false; seen = []; met = []; whole = None; found = []; pairs = [] }

  -- the view that holds the turn, and with it these data
  abbrev pub holding_view : View D E → D → View D E
  holding_view v d = record v { kept = Some d; counted = false }

  -- the view that holds the turn no more
  abbrev pub idle_view : View D E → View D E
  idle_view v = record v { kept = None; counted = false }

  -- the view after a try that found this number when the history was this
  abbrev pub missed_view : View D E → ℕ → List (ℕ × E) → View D E
  missed_view v n history = record v { found = v.found ++ (n, history) ∷ [] }

  -- the view that has counted: it has seen this history, and will lay back these data
  abbrev pub counted_view : View D E → List (ℕ × E) → D → View D E
  counted_view v history d = record v { kept = Some d; counted = true; seen = history; whole = None }

  -- The count: the entry stands behind all that there was, of which what was seen is a beginning and the rest is of other
  -- passes; what there was leads to the data that the seat held, and the entry from these to those that will be laid back.
  pub record Counted (step : D → ℕ → E → D → Type 0) (number : ℕ) (entry : E) (last : D) (before after : View D E) : Type 0 where
    pub others : List (ℕ × E)
    pub foreign : entries_by number others ≡ []
    pub view : after ≡ counted_view before ((before.seen ++ others) ++ (number, entry) ∷ []) last
    pub led : (first held : D) → before.start ≡ Some first → before.kept ≡ Some held → Leads step first (before.seen ++ others) held × step held number entry last

  -- The try that missed: the history had come so far as the view had seen and further by entries of other passes alone, and
  -- it is noted beside the number that was found.
  pub record Missed (found : ℕ) (before after : View D E) : Type 0 where
    pub others : List (ℕ × E)
    pub foreign : (n : ℕ) → before.number ≡ Some n → entries_by n others ≡ []
    pub view : after ≡ missed_view before found (before.seen ++ others)

  -- What a look at the count tells: what was seen and met are beginnings of one history, in which the entries with the
  -- seat's number are those that it had seen before the last join.
  pub record Agrees (v : View D E) : Type 0 where
    pub history : List (ℕ × E)
    pub seen : IsPrefix v.seen history
    pub met : (k : ℕ) (l : List (ℕ × E)) → get_elem? v.met k ≡ option.some l → IsPrefix l history
    pub own : (n : ℕ) → v.number ≡ Some n → entries_by n history ≡ entries_by n v.seen
    pub whole : (n : ℕ) (l : List (ℕ × E)) → v.number ≡ Some n → v.whole ≡ Some l → entries_by n history ≡ entries_by n l

  -- What the end tells, once every other pass was joined into number 0: what it has seen is the whole history, which leads
  -- from the first data to the last; each kept pair has the entries of its number; no other number has an entry; and each
  -- number that a failed try of a pass found had the turn then.
  pub record Settles (step : D → ℕ → E → D → Type 0) (first last : D) (count : ℕ) (v : View D E) : Type 0 where
    pub legal : Leads step first v.seen last
    pub pairs : (k : ℕ) (p : ℕ × List E) → get_elem? v.pairs k ≡ option.some p → p.1 ≡ entries_by p.0 v.seen
    pub known : (n : ℕ) → count ≤ n → entries_by n v.seen ≡ []
    pub found : All (HadTurnThen v.seen) v.found

module _ {S D E : Type 0} where
  -- The try for the turn. Where the turn was free, the seat holds it, with the slot and the data of the value in it.
  -- Otherwise the number found is that of another of the lock's passes, and is put behind those found before, with the
  -- history as it was.
  abbrev pub takes_turn : (S → D) → Step (Option S) → Me (Option S) (View D E) → ℕ → Me (Option S) (View D E) → Type 0
  takes_turn state_of step before found after =
      (found ≡ 256 → (y : S) × (after ≡ (holding_view before.0 (state_of y), (0, Some y) ∷ before.1)))
      × (found ≢ 256 → (found < 256) × (before.0.number ≢ Some found) × ((passes : ℕ) → before.0.passes ≡ Some passes → found < passes) × (Missed found before.0 after.0 × (after.1 ≡ before.1)))

  abbrev pub counts : (D → ℕ → E → D → Type 0) → Option E → Option D → Step (Option S) → Me (Option S) (View D E) → ℕ → Me (Option S) (View D E) → Type 0
  counts step entry last s before found after = (number : ℕ) (e : E) (d : D) → before.0.number ≡ Some number → entry ≡ Some e → last ≡ Some d
      → Counted step number e d before.0 after.0 × (after.1 ≡ before.1)

  -- The turn is free again.
  abbrev pub frees : Step (Option S) → Me (Option S) (View D E) → ℕ → Me (Option S) (View D E) → Type 0
  frees s before found after = after ≡ (idle_view before.0, [])

  abbrev pub looks : Step (Option S) → Me (Option S) (View D E) → ℕ → Me (Option S) (View D E) → Type 0
  looks s before found after = (after ≡ before) × Agrees before.0
