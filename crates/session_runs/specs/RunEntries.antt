-- The main thread's calls on the online database in a start and in a stop of a run, with the replies that they got; and
-- what the transitions are begun with.
use Rattle.std.specs.Prelude.{◌≡◌, ℕ, zero, suc, List, [], ◌∷◌, ◌++◌, Option, Some, None, Result, Ok, Err}
use Rattle.daq_types.specs.declared.memory.NoMemory.{NoMemory}
use Rattle.daq_types.specs.declared.runs.RunState.{RunState}
use Rattle.daq_types.specs.declared.runs.RunState.TheVariants.{Stopped, Running}
use Rattle.daq_types.specs.declared.runs.StartOutcome.{StartOutcome}
use Rattle.daq_types.specs.declared.runs.StartOutcome.TheVariants.{Completed, Refused}
use Rattle.odb_value.specs.Values.{HeldValue}
use Rattle.odb_tree.specs.declared.entry.DatabaseEntry.{DatabaseEntry}
use Rattle.odb_tree.specs.declared.refusals.OdbRefusal.{OdbRefusal}
use Rattle.odb_watch.specs.declared.entry.WatchEntry.{WatchEntry}
use Rattle.odb_watch.specs.declared.entry.WatchEntry.TheVariants.{Call, Save}
use Rattle.odb_watch.specs.DatabasePorts.{IsSettled, row_calls}
use Rattle.odb_runinfo.specs.RunSets.{Assignment, AreSets, number_asked, have_of, next_run, start_sets, refused_sets, state_set, stop_sets}
use Rattle.event_report.specs.Reports.{Totals, report_of}
use Rattle.member_model.specs.RunEngines.{Sheet}
use Rattle.session_runs.specs.declared.on.CurrentRun.{CurrentRun}

-- Sheets.

-- so many reports of no events
abbrev pub blank_reports : (count : ℕ) → List Totals
blank_reports zero = []
blank_reports (suc n) = report_of [] ∷ blank_reports n

-- what a start is begun with, where there are so many analyzers: a blank report for each
abbrev pub start_sheet : (analyzers run time quota : ℕ) → (dump : List ℕ) → Sheet
start_sheet analyzers run time quota dump =
    record { run = run; time = time; quota = quota; dump = Some dump; blanks = blank_reports analyzers }

-- what any other transition of the run is begun with: the number and the quota of its start
abbrev pub later_sheet : CurrentRun → (time : ℕ) → (dump : Option (List ℕ)) → Sheet
later_sheet r time dump = record { run = r.run; time = time; quota = r.quota; dump = dump; blanks = [] }

-- the dump that was saved; none where there was no memory for it
abbrev pub dump_saved : Result (List ℕ) NoMemory → Option (List ℕ)
dump_saved (Ok dump) = Some dump
dump_saved (Err wanting) = None

-- Calls.

-- what a start sets last: the state running, or where it was refused the run's number, back by one
abbrev pub outcome_sets : (run : ℕ) → StartOutcome → List Assignment
outcome_sets run Completed = state_set Running
outcome_sets run (Refused client why) = refused_sets run

-- A start announces its run: the state is set to 1, and the run number, the time of the start, and that of the stop to 0;
-- and then the database's text is asked for.
pub record AnnounceCalls (run time : ℕ) (saved : Result (List ℕ) NoMemory) (entries : List WatchEntry) : Type 0 where
  pub sets : List DatabaseEntry
  pub are_sets : AreSets (start_sets run time) sets
  pub are : entries ≡ row_calls sets ++ Save saved ∷ []

-- it announces its run, gets this text, and behind the run's begin, which ended so, sets what it sets last
pub record BeginCalls (run time : ℕ) (outcome : StartOutcome) (dump : List ℕ) (entries : List WatchEntry) : Type 0 where
  pub first : List WatchEntry
  pub announces : AnnounceCalls run time (Ok dump) first
  pub sets : List DatabaseEntry
  pub are_sets : AreSets (outcome_sets run outcome) sets
  pub are : entries ≡ first ++ row_calls sets

-- a whole start: before all that the run number is got, and the number after it is this run's
pub record StartCalls (run time : ℕ) (outcome : StartOutcome) (dump : List ℕ) (entries : List WatchEntry) : Type 0 where
  pub got : Result HeldValue OdbRefusal
  pub settled : IsSettled got
  pub number : next_run (have_of got) ≡ Ok run
  pub rest : List WatchEntry
  pub begins : BeginCalls run time outcome dump rest
  pub are : entries ≡ Call (number_asked got) ∷ rest

-- A stop at this time from this state announces itself: the state is set as it is, and the time of the stop; and then the
-- database's text is asked for.
pub record AnnouncesStop (state : RunState) (time : ℕ) (saved : Result (List ℕ) NoMemory) (entries : List WatchEntry) : Type 0 where
  pub sets : List DatabaseEntry
  pub are_sets : AreSets (stop_sets state time) sets
  pub are : entries ≡ row_calls sets ++ Save saved ∷ []

-- a whole stop: at its end the state is set to 1
pub record StopCalls (state : RunState) (time : ℕ) (saved : Result (List ℕ) NoMemory) (entries : List WatchEntry) : Type 0 where
  pub first : List WatchEntry
  pub announces : AnnouncesStop state time saved first
  pub sets : List DatabaseEntry
  pub are_sets : AreSets (state_set Stopped) sets
  pub are : entries ≡ first ++ row_calls sets
