-- What every line of a script keeps of an open session.
use Rattle.std.specs.Prelude.{◌≡◌, true, List, ◌++◌, Option, Some, None, IsOk, ⊤}
use Rattle.std.specs.List.{AllByRecursion}
use Rattle.member_model.specs.RunEngines.{EngineEntry}
use Rattle.odb_watch.specs.declared.entry.WatchEntry.{WatchEntry}
use Rattle.odb_watch.specs.declared.entry.WatchEntry.TheVariants.{Save}
use Rattle.odb_watch.specs.DatabasePorts.{own_watched}
use Rattle.session_runs.specs.MainKnowledge.{known_from}
use Rattle.session_runs.specs.MainSeats.{StandsFree}
use Rattle.session_runs.specs.Members.{registrations}
use Rattle.session_setup.specs.Setup.{Declared}
use Rattle.session_runs.specs.KeptRuns.{IsInStep, RunsSeen, channels_of}
use Rattle.session_runs.specs.RunsFit.{RunsFit, SteersEngine}
use Rattle.session_commands.specs.Stages.{SessionStage, members_declared}
use Rattle.odb_commands.specs.WatchSpares.{SparesWatched}

-- The main thread keeps the declared members and channels; it registered the members on the engine, and made transitions behind
-- that; and the records of the runs fit its calls on the engine and on the database.
pub record RunsKept (declared : Declared) (database : List WatchEntry) (runs : RunsSeen) : Type 0 where
  pub opened : declared.opened ≡ true
  pub members : runs.members ≡ members_declared declared
  pub channels : runs.channels ≡ channels_of declared.channels
  pub later : List EngineEntry
  pub begins : runs.main.own ≡ registrations 0 (members_declared declared) ++ later
  pub steers : AllByRecursion SteersEngine later
  pub fit : RunsFit runs database

abbrev pub MayKeep : Declared → List WatchEntry → Option RunsSeen → Type 0
MayKeep declared database None = ⊤
MayKeep declared database (Some runs) = RunsKept declared database runs

-- That holds where a session is open.
abbrev pub StageKept : SessionStage → Type 0
StageKept s = MayKeep s.declared (own_watched s.database.access) s.runs

-- By its own calls the main thread stands between two transitions, and a run is on exactly where the engine's state is not
-- stopped.
pub record KnowsRuns (runs : RunsSeen) : Type 0 where
  pub step : IsInStep runs.on (known_from runs.main.own)
  pub free : StandsFree runs.main.own

-- Where it knows that behind a script, no run is on.
abbrev pub EndsOver : SessionStage → Type 0
EndsOver s = (last : RunsSeen) → s.runs ≡ Some last → KnowsRuns last → last.on ≡ None

-- these calls remove nothing of `/Runinfo`
abbrev pub AllSpare : List WatchEntry → Type 0
AllSpare calls = AllByRecursion SparesWatched calls

-- No call of the main thread on the database does.
abbrev pub StageSpares : SessionStage → Type 0
StageSpares s = AllSpare (own_watched s.database.access)

-- where the call asks for the text of the database, there was memory for it
abbrev pub SavesDump : WatchEntry → Type 0
SavesDump (Save saved) = IsOk saved
SavesDump entry = ⊤

-- each of these calls that asks for the text got it
abbrev pub AllSaved : List WatchEntry → Type 0
AllSaved calls = AllByRecursion SavesDump calls

-- Each call of the main thread that asked for the database's text got it.
abbrev pub StageSaved : SessionStage → Type 0
StageSaved s = AllSaved (own_watched s.database.access)
