-- What a reply of `notes` is, said by the calls before it alone: no kept note is read.
use Rattle.std.specs.Prelude.{◌≡◌, ℕ, ◌-◌, ◌==◌, if◌then◌else◌, Bool, true, false, List, [], ◌∷◌, ◌++◌, length, map, take, Option, Some, None, Ok, Err}
use Rattle.std.specs.List.{AllByRecursion}
use Rattle.std.specs.Str.Lines.{lines}
use Rattle.odb_tree.specs.declared.notes.Note.{Note}
use Rattle.odb_tree.specs.Rows.{Rows}
use Rattle.odb_tree.specs.Calls.{rows_after}
use Rattle.odb_tree.specs.Noting.{Change, changes_of, notes_limit, counted, note_of, is_of}
use Rattle.odb_text.specs.TextSteps.{TextStep, run_steps, changes_in_steps}
use Rattle.odb_text.specs.Grammar.{SpellsSteps}
use Rattle.odb_watch.specs.declared.entry.WatchEntry.{WatchEntry}
use Rattle.odb_watch.specs.declared.entry.WatchEntry.TheVariants.{Call, Watch, Notes, Unwatch, Save, Load}

-- What entries write: from these rows they lead to those, and make these changes in turn. A text that was loaded makes
-- those of its steps.
abbrev pub EntryWrites : (rows : Rows) → WatchEntry → (after : Rows) → List Change → Type 0
EntryWrites rows (Call entry) after cs = (after ≡ rows_after rows entry) × (cs ≡ changes_of rows entry)
EntryWrites rows (Watch row reply) after cs = (after ≡ rows) × (cs ≡ [])
EntryWrites rows (Notes w reply) after cs = (after ≡ rows) × (cs ≡ [])
EntryWrites rows (Unwatch w reply) after cs = (after ≡ rows) × (cs ≡ [])
EntryWrites rows (Save reply) after cs = (after ≡ rows) × (cs ≡ [])
EntryWrites rows (Load text (Ok loaded)) after cs =
    (steps : List TextStep) × SpellsSteps rows.links 1 [] (lines text) steps × (run_steps steps rows ≡ Ok after) × (cs ≡ changes_in_steps rows steps)
EntryWrites rows (Load text (Err why)) after cs = (after ≡ rows) × (cs ≡ [])

abbrev pub EntriesWrite : (rows : Rows) → List WatchEntry → (after : Rows) → List Change → Type 0
EntriesWrite rows [] after cs = (after ≡ rows) × (cs ≡ [])
EntriesWrite rows (e ∷ es) after cs =
    (between : Rows) × (first : List Change) × (more : List Change) × EntryWrites rows e between first × EntriesWrite between es after more × (cs ≡ first ++ more)

-- a `watch` that answered this number, and a `notes` of it, begin anew
abbrev pub begins : (w : ℕ) → WatchEntry → Bool
begins w (Call entry) = false
begins w (Watch row (Ok v)) = v == w
begins w (Watch row (Err refusal)) = false
begins w (Notes v (Ok reply)) = v == w
begins w (Notes v (Err e)) = false
begins w (Unwatch v reply) = false
begins w (Save reply) = false
begins w (Load text reply) = false

-- the row that a watch of this number watches, while it lives: that of the last `watch` that answered the number, where no
-- `unwatch` ended it
abbrev pub row_by : (w : ℕ) → Option ℕ → WatchEntry → Option ℕ
row_by w row (Call entry) = row
row_by w row (Watch new (Ok v)) = if v == w then Some new else row
row_by w row (Watch new (Err refusal)) = row
row_by w row (Notes v reply) = row
row_by w row (Unwatch v (Ok done)) = if v == w then None else row
row_by w row (Unwatch v (Err e)) = row
row_by w row (Save reply) = row
row_by w row (Load text reply) = row

abbrev pub watched_row : (w : ℕ) → Option ℕ → List WatchEntry → Option ℕ
watched_row w row [] = row
watched_row w row (e ∷ es) = watched_row w (row_by w row e) es

-- the changes of a row and of what lay below it, as notes
abbrev pub notes_for : (row : ℕ) → List Change → List Note
notes_for row [] = []
notes_for row (c ∷ cs) = if is_of row c then note_of c ∷ notes_for row cs else notes_for row cs

-- The changes since the watch was made or its notes were last taken, whichever is later, of the watched row and of what
-- lay below it just after the change: the first 256 of them, and how many others. The history begins with these rows.
pub record AreDue (rows : Rows) (h : List WatchEntry) (w : ℕ) (notes : List Note) (lost : ℕ) : Type 0 where
  pub row : ℕ
  pub lives : watched_row w None h ≡ Some row
  pub before : List WatchEntry
  pub opening : WatchEntry
  pub since : List WatchEntry
  pub whole : h ≡ before ++ opening ∷ since
  pub anew : begins w opening ≡ true
  pub last : AllByRecursion (λ e. begins w e ≡ false) since
  pub then_rows : Rows
  pub earlier : List Change
  pub to_then : EntriesWrite rows (before ++ opening ∷ []) then_rows earlier
  pub now_rows : Rows
  pub changes : List Change
  pub to_now : EntriesWrite then_rows since now_rows changes
  pub first : notes ≡ take notes_limit (notes_for row changes)
  pub others : lost ≡ counted (length (notes_for row changes) - notes_limit)

-- the entries of a history, whoever called
abbrev pub calls_made : List (ℕ × WatchEntry) → List WatchEntry
calls_made h = map (λ (x : ℕ × WatchEntry). x.1) h
