-- What contracts see of a lock, of its passes and of notes.
use Rattle.std.specs.Prelude.{◌≡◌, ℕ, List, ◌∷◌, Option, Some}
use Rattle.turn_lock.specs.declared.lock.Turns.{Turns}
use Rattle.turn_lock.specs.declared.lock.Pass.{Pass}
use Rattle.turn_lock.specs.declared.lock.Note.{Note}
use Rattle.daq_types.specs.Callers.{entries_by}
use Rattle.atomic_table.specs.Seated.{TableId}

-- the numbers that say which table of atomic words it is
abbrev pub table_numbers : TableId → List ℕ
table_numbers t = t.words ∷ t.slots ∷ t.views_name ∷ t.atom ∷ t.block ∷ t.offset ∷ t.slot_names

module _ {M D E : Type 0} where
  -- the value that the lock was made with
  abbrev pub first_value : Turns M D E → M
  first_value lock = lock.table.shared.key.first.value

  -- how many passes the lock was made with: their numbers are those below it
  abbrev pub passes_of : Turns M D E → ℕ
  passes_of lock = lock.count

  -- the numbers by which a lock is told from others
  abbrev pub lock_numbers : Turns M D E → List ℕ
  lock_numbers lock = table_numbers lock.table.shared.table_id

  -- the two are one lock: they have the same numbers, as many passes, and the same first data
  pub record IsSameLock (state_of : M → D) (one other : Turns M D E) : Type 0 where
    pub numbers : lock_numbers other ≡ lock_numbers one
    pub passes : passes_of other ≡ passes_of one
    pub first : state_of (first_value other) ≡ state_of (first_value one)

module _ {M D E : Type 0} {g : _} where
  abbrev pub number_of : Pass M D E g → ℕ
  number_of pass = pass.number

  -- a beginning of the history
  abbrev pub seen_by : Pass M D E g → List (ℕ × E)
  seen_by pass = pass.seat.me.0.seen

  -- the pass's own calls: the entries of what it has seen with its number
  abbrev pub own_entries : Pass M D E g → List E
  own_entries pass = entries_by pass.number pass.seat.me.0.seen

  -- what its failed tries found: the number, each with the history as it was then
  abbrev pub found_by : Pass M D E g → List (ℕ × List (ℕ × E))
  found_by pass = pass.seat.me.0.found

  -- the data of the value that it took, while it holds the turn
  abbrev pub held_by : Pass M D E g → Option D
  held_by pass = pass.seat.me.0.kept

  -- what the pass had seen as the note was made
  abbrev pub noted : Note M D E g → List (ℕ × E)
  noted note = note.seat.me.0.seen

  -- the pass is one of this lock's
  pub record IsOf (lock : Turns M D E) (pass : Pass M D E g) : Type 0 where
    pub table : pass.seat.table_id ≡ lock.table.shared.table_id
    pub count : pass.count ≡ lock.count
    pub start : pass.seat.me.0.start ≡ Some (g.state lock.table.shared.key.first.value)
    pub passes : pass.seat.me.0.passes ≡ Some lock.count

  -- the pass as before: the same number, and nothing seen, found or taken since
  pub record IsUnchanged (before after : Pass M D E g) : Type 0 where
    pub number : number_of after ≡ number_of before
    pub seen : seen_by after ≡ seen_by before
    pub found : found_by after ≡ found_by before
    pub held : held_by after ≡ held_by before

  -- the note is of one of this lock's passes
  abbrev pub IsNoteOf : Turns M D E → Note M D E g → Type 0
  IsNoteOf lock note = note.seat.table_id ≡ lock.table.shared.table_id
