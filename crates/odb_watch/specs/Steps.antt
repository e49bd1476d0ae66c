-- A watched database, call by call.
use Rattle.std.specs.Prelude.{◌≡◌, ℕ, ◌≤◌, Bool, true, false, List, [], ◌∷◌, length, slice_set, Option, Some, None, Result, Ok, Err}
use Rattle.std.specs.Str.Lines.{lines}
use Rattle.daq_types.specs.declared.memory.NoMemory.{NoMemory}
use Rattle.daq_types.specs.Callers.{main_caller}
use Rattle.odb_tree.specs.declared.notes.Note.{Note}
use Rattle.odb_tree.specs.declared.notes.Watch.{Watch as a_watch}
use Rattle.odb_tree.specs.Rows.{Rows}
use Rattle.odb_tree.specs.Calls.{IsRowsReply}
use Rattle.odb_tree.specs.Noting.{Watched, watched_call}
use Rattle.odb_tree.specs.Databases.{IsSoundCall}
use Rattle.odb_tree.specs.Histories.{shapes_rows}
use Rattle.odb_text.specs.declared.acts.Loaded.{Loaded}
use Rattle.odb_text.specs.declared.acts.LoadRefusal.{LoadRefusal}
use Rattle.odb_text.specs.Dumps.{dump_text, dump_limit}
use Rattle.odb_text.specs.TextFaults.{IsTextFault}
use Rattle.odb_text.specs.Loads.{IsLoaded}
use Rattle.odb_watch.specs.declared.notes.NoWatch.{NoWatch}
use Rattle.odb_watch.specs.declared.entry.WatchEntry.{WatchEntry}
use Rattle.odb_watch.specs.declared.entry.WatchEntry.TheVariants.{Call, Watch, Notes, Unwatch, Save, Load}
use Rattle.odb_watch.specs.Slots.{slot, GivesWatch, after_watch, emptied_slot, GivesUnwatch, after_unwatch}

-- the same rows with other watches
abbrev pub with_watches : Watched → List (Option a_watch) → Watched
with_watches s slots = record { rows = s.rows; slots = slots }

-- the notes kept, and how many were lost
abbrev pub GivesKept : Option a_watch → Result (List Note × ℕ) NoWatch → Type 0
GivesKept None (Ok reply) = ⊥
GivesKept None (Err e) = Unit {0}
GivesKept (Some k) reply = reply ≡ Ok (k.notes, k.lost)

-- the reply of `notes`, with the notes that it moved out
abbrev pub moved_out : (notes : List Note) → Result ℕ NoWatch → Result (List Note × ℕ) NoWatch
moved_out notes (Ok lost) = Ok (notes, lost)
moved_out notes (Err e) = Err e

-- a watch whose notes were taken has none
abbrev pub emptied_at : List (Option a_watch) → (w : ℕ) → Result (List Note × ℕ) NoWatch → List (Option a_watch)
emptied_at slots w (Ok reply) = slice_set slots w (emptied_slot (slot slots w))
emptied_at slots w (Err e) = slots

-- the text of the rows, or memory was wanting
abbrev pub GivesDump : Rows → Result (List ℕ) NoMemory → Type 0
GivesDump s (Ok text) = text ≡ dump_text s
GivesDump s (Err e) = Unit {0}

-- the text was loaded, or it has this fault and all is as it was
abbrev pub LoadsText : (before : Watched) → (text : List ℕ) → Result Loaded LoadRefusal → (after : Watched) → Type 0
LoadsText before text (Ok loaded) after = IsLoaded before (lines text) loaded after
LoadsText before text (Err why) after = IsTextFault before.rows (lines text) why × (after ≡ before)

-- A call: the reply is one that the rows and the watches before give, and those after it are what the call leaves.
abbrev pub StepsWatched : (before : Watched) → WatchEntry → (after : Watched) → Type 0
StepsWatched before (Call entry) after = IsRowsReply before.rows entry × (after ≡ watched_call before entry)
StepsWatched before (Watch row reply) after = GivesWatch before.slots reply × (after ≡ with_watches before (after_watch before.slots row reply))
StepsWatched before (Notes w reply) after = GivesKept (slot before.slots w) reply × (after ≡ with_watches before (emptied_at before.slots w reply))
StepsWatched before (Unwatch w reply) after = GivesUnwatch before.slots w reply × (after ≡ with_watches before (after_unwatch before.slots w reply))
StepsWatched before (Save reply) after = GivesDump before.rows reply × (after ≡ before)
StepsWatched before (Load text reply) after = LoadsText before text reply after

-- the calls that may make, remove or resize a row
abbrev pub shapes_database : WatchEntry → Bool
shapes_database (Call entry) = shapes_rows entry
shapes_database (Watch row reply) = false
shapes_database (Notes w reply) = false
shapes_database (Unwatch w reply) = false
shapes_database (Save reply) = false
shapes_database (Load text reply) = true

-- arguments as their types have them; a text that is loaded is no longer than the longest dump
abbrev pub IsSoundEntry : WatchEntry → Type 0
IsSoundEntry (Call entry) = IsSoundCall entry
IsSoundEntry (Watch row reply) = Unit {0}
IsSoundEntry (Notes w reply) = Unit {0}
IsSoundEntry (Unwatch w reply) = Unit {0}
IsSoundEntry (Save reply) = Unit {0}
IsSoundEntry (Load text reply) = length text ≤ dump_limit

-- A call of this caller: the main thread alone makes those that may make, remove or resize a row.
pub record StepsDatabase (before : Watched) (caller : ℕ) (entry : WatchEntry) (after : Watched) : Type 0 where
  pub may : shapes_database entry ≡ true → caller ≡ main_caller
  pub sound : IsSoundEntry entry
  pub step : StepsWatched before entry after

-- Histories: calls with their replies, each with the number of its caller, in order. Each is legal at its point, and
-- they lead from the first rows and watches to the last.
abbrev pub LeadsDatabase : Watched → List (ℕ × WatchEntry) → Watched → Type 0
LeadsDatabase first [] last = first ≡ last
LeadsDatabase first (e ∷ es) last = (between : Watched) × StepsDatabase first e.0 e.1 between × LeadsDatabase between es last

-- each call is legal at its point
abbrev pub IsLegalDatabase : Watched → List (ℕ × WatchEntry) → Type 0
IsLegalDatabase first h = (last : Watched) × LeadsDatabase first h last

-- a database with no watch
abbrev pub unwatched : Rows → Watched
unwatched rows = record { rows = rows; slots = [] }
