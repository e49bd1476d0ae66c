-- How the record of a run stands to the main thread's own calls on the engine and on the online database.
use Rattle.std.specs.Prelude.{◌≡◌, ℕ, ◌+◌, List, [], ◌∷◌, ◌++◌, map, Option, Some, None, Result, Ok, ⊤}
use Rattle.std.specs.Option.{option_map, option_to_list}
use Rattle.std.specs.List.{AllByRecursion}
use Rattle.daq_types.specs.declared.memory.NoMemory.{NoMemory}
use Rattle.daq_types.specs.declared.runs.RunState.{RunState}
use Rattle.daq_types.specs.declared.runs.StartOutcome.{StartOutcome}
use Rattle.daq_types.specs.declared.runs.StartOutcome.TheVariants.{Completed, Refused}
use Rattle.daq_types.specs.declared.runs.Transition.TheVariants.{Start, Stop}
use Rattle.odb_watch.specs.declared.entry.WatchEntry.{WatchEntry}
use Rattle.member_model.specs.RunEngines.{ClientTally, EngineEntry}
use Rattle.transitions.specs.declared.entry.EngineEntry.TheVariants.{Begin, Check, Close}
use Rattle.session_runs.specs.declared.records.RunRecord.{RunRecord}
use Rattle.session_runs.specs.MainKnowledge.{known_from}
use Rattle.session_runs.specs.MadeTransitions.{TransitionIn}
use Rattle.session_runs.specs.declared.channels.RunChannel.{RunChannel}
use Rattle.session_runs.specs.declared.on.CurrentRun.{CurrentRun}
use Rattle.session_runs.specs.KeptRuns.{RunsSeen}
use Rattle.session_runs.specs.Members.{reporter_count, sender_count}
use Rattle.session_runs.specs.ToldTallies.{fronts_told, ends_told, files_of, reports_told}
use Rattle.session_runs.specs.RunEntries.{StartCalls, StopCalls, start_sheet, later_sheet, dump_saved}

-- Who is told of in the records: so many front-ends, which are the first clients; the channels of the logger, which is the
-- client behind them; and so many analyzers, which are the clients behind that.
pub record RunClients : Type 0 where
  pub fronts : ℕ
  pub channels : List RunChannel
  pub analyzers : ℕ

-- those of the main thread's runs
abbrev pub run_clients : RunsSeen → RunClients
run_clients s = record { fronts = sender_count s.members; channels = s.channels; analyzers = reporter_count s.members }

-- the call begins a transition, checks one, or closes the engine
abbrev pub SteersEngine : EngineEntry → Type 0
SteersEngine (Begin transition sheet reply) = ⊤
SteersEngine (Check reply tallies) = ⊤
SteersEngine (Close reply) = ⊤
SteersEngine entry = ⊥

-- The main thread's own calls on the engine and on the database.
pub record MainOwn : Type 0 where
  pub engine : List EngineEntry
  pub database : List WatchEntry

-- the calls of one and behind them those of the other
abbrev pub calls_joined : MainOwn → MainOwn → MainOwn
calls_joined one other = record { engine = one.engine ++ other.engine; database = one.database ++ other.database }

-- These calls on the database stand in those, next to one another.
pub record StandCalls (entries own : List WatchEntry) : Type 0 where
  pub before : List WatchEntry
  pub after : List WatchEntry
  pub calls : own ≡ before ++ (entries ++ after)

-- The start of this run, which ended so, stands in these calls: it is begun with the run's number, time and quota, and with
-- the text that the database gave; and its calls on the database stand there in order.
pub record FitsStart (analyzers : ℕ) (own : MainOwn) (r : CurrentRun) (outcome : StartOutcome) : Type 0 where
  pub dump : List ℕ
  pub tallies : List ClientTally
  pub made : TransitionIn own.engine Start (start_sheet analyzers r.run r.time r.quota dump) r.start outcome tallies
  pub entries : List WatchEntry
  pub are : StartCalls r.run r.time outcome dump entries
  pub stand : StandCalls entries own.database

-- what the record's front-ends, files and reports are, where the clients told this in the end of the stop
pub record RecordIsTold (clients : RunClients) (r : RunRecord) (tallies : List ClientTally) : Type 0 where
  pub sent : r.fronts ≡ fronts_told clients.fronts tallies
  pub files : r.files ≡ files_of (ends_told clients.fronts tallies) clients.channels
  pub reports : r.reports ≡ reports_told (clients.fronts + 1) clients.analyzers tallies

-- The stop of this run stands in these calls: it is begun with the number and the quota of its start, the record's time of
-- the stop, and the text that the database gave, if it gave one; its calls on the database stand there in order; and the
-- record has what the clients told.
pub record FitsStop (clients : RunClients) (own : MainOwn) (begun : CurrentRun) (r : RunRecord) : Type 0 where
  pub state : RunState
  pub saved : Result (List ℕ) NoMemory
  pub tallies : List ClientTally
  pub made : TransitionIn own.engine Stop (later_sheet begun r.time1 (dump_saved saved)) begun.start Completed tallies
  pub entries : List WatchEntry
  pub are : StopCalls state r.time1 saved entries
  pub stand : StandCalls entries own.database
  pub tells : RecordIsTold clients r tallies

-- the run of the record, with the quota of its start
abbrev pub run_of : RunRecord → (quota : ℕ) → CurrentRun
run_of r quota = record { run = r.run; start = r.start; time = r.time0; quota = quota }

-- A run that came about was started and, behind that, stopped; the state that its stop sets as it begins is the one that the
-- main thread's calls before tell.
pub record FitsWhole (clients : RunClients) (own : MainOwn) (begun : CurrentRun) (r : RunRecord) : Type 0 where
  pub early : MainOwn
  pub late : MainOwn
  pub calls : own ≡ calls_joined early late
  pub start : FitsStart clients.analyzers early begun Completed
  pub stop : FitsStop clients late begun r
  pub state_is : stop.state ≡ (known_from (early.engine ++ stop.made.before)).state

-- of a start that was refused the record has nothing more
pub record FitsRefused (clients : RunClients) (own : MainOwn) (begun : CurrentRun) (r : RunRecord) : Type 0 where
  pub start : FitsStart clients.analyzers own begun r.outcome
  pub time : r.time1 ≡ 0
  pub fronts : r.fronts ≡ []
  pub files : r.files ≡ []
  pub reports : r.reports ≡ []

-- The record of a run that was completed against the main thread's own calls, or that of one whose start was refused.
abbrev pub FitsOutcome : RunClients → MainOwn → CurrentRun → RunRecord → StartOutcome → Type 0
FitsOutcome clients own begun r Completed = FitsWhole clients own begun r
FitsOutcome clients own begun r (Refused client why) = FitsRefused clients own begun r

-- The record of a run against the main thread's own calls, by its outcome, with the quota of its start, which the record does
-- not have: it is that of the `events` line before the start.
abbrev pub FitsRun : RunClients → MainOwn → RunRecord → Type 0
FitsRun clients own r = (quota : ℕ) × FitsOutcome clients own (run_of r quota) r r.outcome

-- the run that is on was started
abbrev pub FitsCurrent : (analyzers : ℕ) → MainOwn → Option CurrentRun → Type 0
FitsCurrent analyzers own None = ⊤
FitsCurrent analyzers own (Some r) = FitsStart analyzers own r Completed

-- the start numbers of the starts that were begun by these calls, in order
abbrev pub start_begun : EngineEntry → List ℕ
start_begun (Begin Start sheet (Ok start)) = start ∷ []
start_begun entry = []

abbrev pub starts_begun : List EngineEntry → List ℕ
starts_begun [] = []
starts_begun (entry ∷ own) = start_begun entry ++ starts_begun own

-- those of the records
abbrev pub start_of : RunRecord → ℕ
start_of r = r.start

abbrev pub start_on : CurrentRun → ℕ
start_on r = r.start

-- The records of runs against the main thread's own calls, where no run is on: there is one for each start that was begun, in
-- order, and each fits.
pub record RecordsFit (clients : RunClients) (own : MainOwn) (records : List RunRecord) : Type 0 where
  pub each_start : map start_of records ≡ starts_begun own.engine
  pub runs : AllByRecursion (FitsRun clients own) records

-- The same while a run may be on: there is one record for each start that was begun, in order, but for that of the run that is
-- on, which was begun last. All records fit, and so does that run.
pub record RunsFit (s : RunsSeen) (database : List WatchEntry) : Type 0 where
  pub each_start : map start_of s.runs ++ option_to_list (option_map start_on s.on) ≡ starts_begun s.main.own
  pub runs : AllByRecursion (FitsRun (run_clients s) (record { engine = s.main.own; database = database })) s.runs
  pub on : FitsCurrent (reporter_count s.members) (record { engine = s.main.own; database = database }) s.on
