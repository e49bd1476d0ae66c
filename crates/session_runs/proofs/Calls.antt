-- Calls on the database, one after the other.
use Rattle.std.specs.Prelude.{ℕ, List, [], ◌∷◌, ◌++◌, Result, Ok, refl}
use Rattle.std.proofs.Common.{subst}
use Rattle.daq_types.specs.declared.memory.NoMemory.{NoMemory}
use Rattle.daq_types.specs.declared.runs.RunState.{RunState}
use Rattle.daq_types.specs.declared.runs.RunState.TheVariants.{Stopped}
use Rattle.daq_types.specs.declared.runs.StartOutcome.{StartOutcome}
use Rattle.odb_tree.specs.declared.entry.DatabaseEntry.{DatabaseEntry}
use Rattle.odb_watch.specs.declared.entry.WatchEntry.{WatchEntry}
use Rattle.odb_watch.specs.declared.entry.WatchEntry.TheVariants.{Save}
use Rattle.odb_watch.specs.DatabasePorts.{DatabaseAccess, AddsCalls, AddsEntry, AddsEntries, row_calls}
use Rattle.odb_runinfo.specs.RunSets.{Assignment, SetsNumbers, start_sets, state_set, stop_sets}
use Rattle.session_runs.specs.RunEntries.{AnnounceCalls, BeginCalls, AnnouncesStop, StopCalls, outcome_sets}

pub entries_behind : (a b c : DatabaseAccess) (some more : List WatchEntry) → AddsEntries a b some → AddsEntries b c more → AddsEntries a c (some ++ more)
entries_behind a b c [] more same then_ = subst (λ (d : DatabaseAccess). AddsEntries d c more) same then_
entries_behind a b c (entry ∷ some) more first then_ = (first.0, first.1, entries_behind first.0 b c some more first.2 then_)

-- calls on the rows are calls on a watched database
abbrev pub CallsAreEntries : Type 0
CallsAreEntries = (a b : DatabaseAccess) (calls : List DatabaseEntry) → AddsCalls a b calls → AddsEntries a b (row_calls calls)

-- sets and then the text
sets_saved : CallsAreEntries → (a b c : DatabaseAccess) (sets : List Assignment) (saved : Result (List ℕ) NoMemory) → (made : SetsNumbers a b sets) → AddsEntry b c (Save saved)
    → AddsEntries a c (row_calls made.calls ++ Save saved ∷ [])
sets_saved are a b c sets saved made then_ = entries_behind a b c (row_calls made.calls) (Save saved ∷ []) (are a b made.calls made.made) (c, then_, refl)

pub announced : CallsAreEntries → (a b c : DatabaseAccess) (run time : ℕ) (saved : Result (List ℕ) NoMemory) → SetsNumbers a b (start_sets run time) → AddsEntry b c (Save saved)
    → (entries : List WatchEntry) × AnnounceCalls run time saved entries × AddsEntries a c entries
announced are a b c run time saved made then_ =
    (row_calls made.calls ++ Save saved ∷ [], record { sets = made.calls; are_sets = made.are_sets; are = refl }, sets_saved are a b c (start_sets run time) saved made then_)

pub stop_announced : CallsAreEntries → (a b c : DatabaseAccess) (state : RunState) (time : ℕ) (saved : Result (List ℕ) NoMemory) → SetsNumbers a b (stop_sets state time) → AddsEntry b c (Save saved)
    → (entries : List WatchEntry) × AnnouncesStop state time saved entries × AddsEntries a c entries
stop_announced are a b c state time saved made then_ =
    (row_calls made.calls ++ Save saved ∷ [], record { sets = made.calls; are_sets = made.are_sets; are = refl }, sets_saved are a b c (stop_sets state time) saved made then_)

-- and then the last sets
pub begin_calls : CallsAreEntries → (a b c : DatabaseAccess) (run time : ℕ) (outcome : StartOutcome) (dump : List ℕ) (first : List WatchEntry) → AnnounceCalls run time (Ok dump) first → AddsEntries a b first
    → SetsNumbers b c (outcome_sets run outcome) → (entries : List WatchEntry) × BeginCalls run time outcome dump entries × AddsEntries a c entries
begin_calls are a b c run time outcome dump first announces adds made = (
  first ++ row_calls made.calls,
  record { first = first; announces = announces; sets = made.calls; are_sets = made.are_sets; are = refl },
  entries_behind a b c first (row_calls made.calls) adds (are b c made.calls made.made),
)

pub stop_calls : CallsAreEntries → (a b c : DatabaseAccess) (state : RunState) (time : ℕ) (saved : Result (List ℕ) NoMemory) (first : List WatchEntry) → AnnouncesStop state time saved first → AddsEntries a b first
    → SetsNumbers b c (state_set Stopped) → (entries : List WatchEntry) × StopCalls state time saved entries × AddsEntries a c entries
stop_calls are a b c state time saved first announces adds made = (
  first ++ row_calls made.calls,
  record { first = first; announces = announces; sets = made.calls; are_sets = made.are_sets; are = refl },
  entries_behind a b c first (row_calls made.calls) adds (are b c made.calls made.made),
)
