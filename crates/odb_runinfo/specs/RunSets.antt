-- What a session reads from the run's parameters, and writes to them: the calls, each with whatever reply it got.
use Rattle.std.specs.Prelude.{◌≡◌, ℕ, ◌+◌, ◌-◌, nat_lt, if◌then◌else◌, ℤ, pos, negsuc, Bool, true, false, List, [], ◌∷◌, Result, Ok, Err, ⊤}
use Rattle.daq_types.specs.declared.runs.RunState.{RunState}
use Rattle.daq_types.specs.declared.runs.RunState.TheVariants.{Stopped, Paused, Running}
use Rattle.daq_types.specs.declared.types.Tid.TheVariants as tid
use Rattle.odb_value.specs.declared.items.Item.{Item}
use Rattle.odb_value.specs.declared.items.Item.TheVariants.{Int32, UInt32, UInt64, Text}
use Rattle.odb_value.specs.Values.{HeldValue}
use Rattle.odb_tree.specs.declared.entry.DatabaseEntry.{DatabaseEntry}
use Rattle.odb_tree.specs.declared.entry.DatabaseEntry.TheVariants.{Create, Get, Set}
use Rattle.odb_tree.specs.declared.refusals.OdbRefusal.{OdbRefusal}
use Rattle.odb_tree.specs.declared.rows.NewKey.TheVariants.{Keys}
use Rattle.odb_tree.specs.Rows.{Rows}
use Rattle.odb_tree.specs.Links.{resolved, through}
use Rattle.odb_tree.specs.Calls.{set_reply, rows_after}
use Rattle.odb_watch.specs.DatabasePorts.{DatabaseAccess, AddsCall, AddsCalls, IsSettled}
use Rattle.odb_runinfo.specs.declared.keys.RunKey.{RunKey}
use Rattle.odb_runinfo.specs.declared.keys.RunKey.TheVariants.{State, RunNumber, StartTime, StopTime}
use Rattle.odb_runinfo.specs.declared.sets.RunNumber.{RunNumber as NoNext}
use Rattle.odb_runinfo.specs.RunKeys.{key_path, sent_path}

-- The number of the next run.

-- the number in item 0; 0 where there is none, which the run number always has
abbrev pub number_in : List Item → ℤ
number_in (Int32 n ∷ items) = n
number_in items = pos 0

abbrev pub have_of : Result HeldValue OdbRefusal → ℤ
have_of (Ok v) = number_in v.items
have_of (Err why) = pos 0

-- one more, but for a number below 0 and for 2,147,483,647
abbrev pub next_run : ℤ → Result ℕ NoNext
next_run (pos n) = if nat_lt n 2147483647 then Ok (n + 1) else Err (record { have = pos n })
next_run (negsuc n) = Err (record { have = negsuc n })

-- the call that gets the run number
abbrev pub number_asked : Result HeldValue OdbRefusal → DatabaseEntry
number_asked reply = Get (key_path RunNumber) reply

-- The run number was got, and by it this is the number of the next run.
pub record GetsNumber (a b : DatabaseAccess) (run : Result ℕ NoNext) : Type 0 where
  pub got : Result HeldValue OdbRefusal
  pub called : AddsCall a b (number_asked got)
  pub settled : IsSettled got
  pub run_is : run ≡ next_run (have_of got)

-- The front-end's key.

-- the call that makes the key in which the front-end of this name says how many events it sent
abbrev pub sent_key_made : (front : List ℕ) → Result ℕ OdbRefusal → DatabaseEntry
sent_key_made front reply = Create (sent_path front) (Keys tid.UInt64 1) reply

-- The key was asked for: it was made, or the call was refused otherwise than for want of memory.
pub record AsksKey (a b : DatabaseAccess) (front : List ℕ) : Type 0 where
  pub reply : Result ℕ OdbRefusal
  pub called : AddsCall a b (sent_key_made front reply)
  pub settled : IsSettled reply

-- Writing.

-- A number to be set in item 0 of the key at this path.
pub record Assignment : Type 0 where
  pub path : List (List ℕ)
  pub item : Item

-- the call sets this number in item 0 of this key
pub record IsSet (a : Assignment) (entry : DatabaseEntry) : Type 0 where
  pub reply : Result ℕ OdbRefusal
  pub is : entry ≡ Set a.path 0 a.item reply

-- one such call for each of these, in order, and no other call
abbrev pub AreSets : List Assignment → List DatabaseEntry → Type 0
AreSets [] [] = ⊤
AreSets [] (entry ∷ entries) = ⊥
AreSets (a ∷ sets) [] = ⊥
AreSets (a ∷ sets) (entry ∷ entries) = IsSet a entry × AreSets sets entries

-- These numbers were set, one after the other.
pub record SetsNumbers (a b : DatabaseAccess) (sets : List Assignment) : Type 0 where
  pub calls : List DatabaseEntry
  pub made : AddsCalls a b calls
  pub are_sets : AreSets sets calls

-- the items that are numbers: all but texts
abbrev pub is_number : Item → Bool
is_number (Text bytes) = false
is_number item = true

-- a key of the run's parameters
abbrev pub key_set : RunKey → Item → Assignment
key_set key item = record { path = key_path key; item = item }

-- how many events the front-end of this name sent
abbrev pub sent_set : (front : List ℕ) → (sent : ℕ) → Assignment
sent_set front sent = record { path = sent_path front; item = UInt64 sent }

-- a start, before its run begins: the state stopped, the run's number, the time of its start, and none of its stop
abbrev pub start_sets : (run time : ℕ) → List Assignment
start_sets run time = key_set State (Int32 (pos 1)) ∷ key_set RunNumber (Int32 (pos run)) ∷ key_set StartTime (UInt32 time) ∷ key_set StopTime (UInt32 0) ∷ []

-- a start that was refused: the run's number is set back by one
abbrev pub refused_sets : (run : ℕ) → List Assignment
refused_sets run = key_set RunNumber (Int32 (pos (run - 1))) ∷ []

-- the run state as it stands in the database
abbrev pub state_item : RunState → Item
state_item Stopped = Int32 (pos 1)
state_item Paused = Int32 (pos 2)
state_item Running = Int32 (pos 3)

-- the state of the run is set
abbrev pub state_set : RunState → List Assignment
state_set state = key_set State (state_item state) ∷ []

-- a stop as it begins, in this state: the state as it is, and the time of the stop
abbrev pub stop_sets : RunState → (time : ℕ) → List Assignment
stop_sets state time = key_set State (state_item state) ∷ key_set StopTime (UInt32 time) ∷ []

-- Where the calls are legal.

-- the call, with the reply that the rows give
abbrev pub assigned : Rows → Assignment → DatabaseEntry
assigned s a = Set a.path 0 a.item (through (resolved s a.path true) (λ q. set_reply s q 0 a.item))

-- such calls one after the other
abbrev pub assignments : Rows → List Assignment → List DatabaseEntry
assignments s [] = []
assignments s (x ∷ xs) = assigned s x ∷ assignments (rows_after s (assigned s x)) xs

-- all of these are numbers
abbrev pub AreNumbers : List Assignment → Type 0
AreNumbers [] = ⊤
AreNumbers (x ∷ xs) = (is_number x.item ≡ true) × AreNumbers xs
