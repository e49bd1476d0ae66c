-- The names of run files that channels give in runs of the session, and those that none gives.
use Rattle.std.specs.Prelude.{◌≡◌, ◌≢◌, ◌≤◌, ◌<◌, ◌⊎◌, ℕ, IsSome, List, [], ◌∷◌, ◌++◌, Contains, Some, None, Ok}
use Rattle.daq_types.specs.Callers.{main_caller}
use Rattle.daq_types.specs.declared.runs.ChannelEnd.{ChannelEnd}
use Rattle.daq_types.specs.declared.runs.ChannelState.TheVariants.{Broken}
use Rattle.daq_types.specs.declared.runs.StartOutcome.TheVariants.{Refused}
use Rattle.daq_types.specs.declared.runs.Transition.TheVariants.{Start}
use Rattle.daq_types.specs.declared.runs.Why.{Why}
use Rattle.daq_io.specs.Seen.{Seen}
use Rattle.daq_io.specs.Told.{FilesTold}
use Rattle.buffer_core.specs.Slots.{slot_at}
use Rattle.member_model.specs.RunEngines.{Sheet, ClientTally, EngineEntry}
use Rattle.member_model.specs.TurnCalls.{member_turns}
use Rattle.transitions.specs.declared.entry.EngineEntry.TheVariants.{Begin}
use Rattle.sub_files.specs.Cuts.{last_number}
use Rattle.sub_files.specs.Patterns.{piece_name_by}
use Rattle.mid_logger.specs.declared.channel.Channel.{Channel}
use Rattle.mid_logger.specs.Patterns.{file_name_by}
use Rattle.loggers.specs.LeftNames.{HasUntoldFault}
use Rattle.loggers.specs.LoggerStands.{logger_channel}
use Rattle.composition.specs.SessionRuns.{SessionRun, ToldChannel}
use Rattle.session_runs.specs.MadeTransitions.{TransitionIn}
use Rattle.session_runs.specs.RunsFit.{starts_begun}
use Rattle.session_laws.specs.ClosedSessions.{ClosedSession, engine_calls, logger_caller, logger_client, session_of}
use Rattle.session_laws.specs.MadeRuns.{RunIn}

-- among these calls on the engine is the begin of a start of this run, whatever came of it
pub record BeginsStartOf (own : List EngineEntry) (run : ℕ) : Type 0 where
  pub sheet : Sheet
  pub start : ℕ
  pub before : List EngineEntry
  pub after : List EngineEntry
  pub whole : own ≡ before ++ Begin Start sheet (Ok start) ∷ after
  pub number : sheet.run ≡ run

-- no channel gives the name in a run that the main thread began, to a file of whatever number
abbrev pub IsOtherName : ClosedSession → (name : List ℕ) → Type 0
IsOtherName c name = (run number sub : ℕ) → (channel : Channel) → BeginsStartOf (engine_calls c main_caller) run →
    slot_at c.slots number ≡ Some channel → sub ≤ last_number → piece_name_by channel.spec.pattern run sub ≢ name

-- among these calls the start with this number was refused
pub record RefusesStart (own : List EngineEntry) (start : ℕ) : Type 0 where
  pub sheet : Sheet
  pub client : ℕ
  pub why : Why
  pub tallies : List ClientTally
  pub made : TransitionIn own Start sheet start (Refused client why) tallies

-- Each start that these calls began is over: it was refused, or it was not, and its run was stopped.
abbrev pub AreStartsOver : List EngineEntry → Type 0
AreStartsOver own = (start : ℕ) → Contains (starts_begun own) start →
    RefusesStart own start ⊎ ((run : SessionRun) × RunIn own run × (run.start ≡ start))

-- the logger told this of its channel at the stop of the run
abbrev pub ToldOf : ClosedSession → SessionRun → Channel → ChannelEnd → Type 0
ToldOf c run channel told = ToldChannel (session_of c (λ client. [])) run (logger_channel 0 channel) told

-- A run that came about before the start with this number has a file of this name: of a number below how many files the logger told
-- of the channel.
pub record HasMadeBefore (c : ClosedSession) (start : ℕ) (name : List ℕ) : Type 0 where
  pub run : SessionRun
  pub made : RunIn (engine_calls c main_caller) run
  pub before : run.start < start
  pub place : ℕ
  pub channel : Channel
  pub there : slot_at c.slots place ≡ Some channel
  pub told : ChannelEnd
  pub tells : ToldOf c run channel told
  pub sub : ℕ
  pub has : sub < told.files
  pub is : piece_name_by channel.spec.pattern run.first.run sub ≡ name

-- a channel of a lower place than this gives the name to its first file in the run of this number
pub record GivesNameBefore (c : ClosedSession) (place run : ℕ) (name : List ℕ) : Type 0 where
  pub lower : ℕ
  pub channel : Channel
  pub below : lower < place
  pub there : slot_at c.slots lower ≡ Some channel
  pub is : file_name_by channel.spec.pattern run ≡ name

-- A start of a run that the main thread began was refused, and a channel gives the name to a file of that run, of whatever number.
pub record HasUndoneName (c : ClosedSession) (name : List ℕ) : Type 0 where
  pub run : ℕ
  pub begun : BeginsStartOf (engine_calls c main_caller) run
  pub refused : RefusesStart (engine_calls c main_caller) begun.start
  pub place : ℕ
  pub channel : Channel
  pub there : slot_at c.slots place ≡ Some channel
  pub sub : ℕ
  pub few : sub ≤ last_number
  pub is : piece_name_by channel.spec.pattern run sub ≡ name

-- More faults of the run files were counted than the logger tells: as where a start was undone, or a channel broke off by more than one
-- failed call.
abbrev pub HasLoggerUntold : ClosedSession → (first now : FilesTold) → Type 0
HasLoggerUntold c first now =
    HasUntoldFault c.slots (member_turns (logger_client c) (engine_calls c (logger_caller c))) first now

-- A run that came about before the start with this number has a file of this name; or a start before it, whose run has the name, was
-- refused, and its file may have stayed, where more faults were counted than are told.
abbrev pub IsMadeName : ClosedSession → (first now : FilesTold) → (start : ℕ) → (name : List ℕ) → Type 0
IsMadeName c first now start name =
    HasMadeBefore c start name
    ⊎ (HasLoggerUntold c first now × ((undone : HasUndoneName c name) × (undone.begun.start < start)))

-- The name that the channel at this place gives to its first file in the run of this number, whose start has that start number, is
-- free: no file had it at first, no run that came about before has it, and no channel of a lower place gives it.
pub record IsFreeName (c : ClosedSession) (first : Seen) (run start place : ℕ) (name : List ℕ) : Type 0 where
  pub first_none : first.at name ≡ None
  pub none_made : HasMadeBefore c start name → ⊥
  pub none_gives : GivesNameBefore c place run name → ⊥

-- so it is with each channel at a lower place than this
abbrev pub AreFreeNames : ClosedSession → (first : Seen) → (run start place : ℕ) → Type 0
AreFreeNames c first run start place =
    (lower : ℕ) → (channel : Channel) → lower < place → slot_at c.slots lower ≡ Some channel →
    IsFreeName c first run start lower (file_name_by channel.spec.pattern run)

-- The name that the channel with this number gives to its first file in the run of this number, whose start has that start number, is
-- taken: a file had it at first, a run that was begun before has it, or another channel of that run. It is the first such channel.
pub record IsTakenName (c : ClosedSession) (first now : FilesTold) (run start number : ℕ) : Type 0 where
  pub place : ℕ
  pub channel : Channel
  pub there : slot_at c.slots place ≡ Some channel
  pub number_is : channel.spec.number ≡ number
  pub by : IsSome (first.seen.at (file_name_by channel.spec.pattern run))
      ⊎ (IsMadeName c first now start (file_name_by channel.spec.pattern run)
      ⊎ GivesNameBefore c place run (file_name_by channel.spec.pattern run))
  pub least : AreFreeNames c first.seen run start place

-- In a run that came about before the start with this number a channel is told to be broken, and the name is that of a file of it: of
-- a number up to how many files were told, as the next one could not be made.
pub record HasBrokenBefore (c : ClosedSession) (start : ℕ) (name : List ℕ) : Type 0 where
  pub run : SessionRun
  pub made : RunIn (engine_calls c main_caller) run
  pub before : run.start < start
  pub place : ℕ
  pub channel : Channel
  pub there : slot_at c.slots place ≡ Some channel
  pub told : ChannelEnd
  pub tells : ToldOf c run channel told
  pub broken : told.state ≡ Broken
  pub sub : ℕ
  pub few : sub ≤ told.files
  pub is : piece_name_by channel.spec.pattern run.first.run sub ≡ name

-- A start before the one with this number was refused, and a channel gives the name to a file of its run.
pub record HasRefusedBefore (c : ClosedSession) (start : ℕ) (name : List ℕ) : Type 0 where
  pub run : ℕ
  pub begun : BeginsStartOf (engine_calls c main_caller) run
  pub refused : RefusesStart (engine_calls c main_caller) begun.start
  pub before : begun.start < start
  pub place : ℕ
  pub channel : Channel
  pub there : slot_at c.slots place ≡ Some channel
  pub sub : ℕ
  pub is : piece_name_by channel.spec.pattern run sub ≡ name

-- the channel with this number gives the name to its first file in the run of this number
pub record IsFirstFile (c : ClosedSession) (number run : ℕ) (name : List ℕ) : Type 0 where
  pub place : ℕ
  pub channel : Channel
  pub there : slot_at c.slots place ≡ Some channel
  pub number_is : channel.spec.number ≡ number
  pub is : file_name_by channel.spec.pattern run ≡ name

-- The file of the first fault is the one that the channel with this number was to make in the run of this number, whose start has that
-- start number; or it is one of an earlier start: of a channel that is told to be broken, or of a run whose start was refused.
pub record HasFirstFault (c : ClosedSession) (now : FilesTold) (run start number : ℕ) : Type 0 where
  pub name : List ℕ
  pub named : now.first ≡ Some name
  pub of : IsFirstFile c number run name ⊎ (HasBrokenBefore c start name ⊎ HasRefusedBefore c start name)

-- What stands under the name is as it was at first; or there was no file of it, and a start whose run has the name was refused, and more
-- faults were counted than are told.
abbrev pub IsNameKept : ClosedSession → (first now : FilesTold) → (name : List ℕ) → Type 0
IsNameKept c first now name =
    (now.seen.at name ≡ first.seen.at name)
    ⊎ ((first.seen.at name ≡ None) × (HasLoggerUntold c first now × HasUndoneName c name))

-- The logger told of the channel at the stop of the run, and gave the name to none of so many files.
pub record GivesOthers (c : ClosedSession) (run : SessionRun) (channel : Channel) (name : List ℕ) : Type 0 where
  pub told : ChannelEnd
  pub tells : ToldOf c run channel told
  pub others : (sub : ℕ) → sub < told.files → piece_name_by channel.spec.pattern run.first.run sub ≢ name

-- the start with this number was not refused, its run was stopped, and no file of that run has the name
pub record GivesNoName (c : ClosedSession) (name : List ℕ) (start : ℕ) : Type 0 where
  pub run : SessionRun
  pub made : RunIn (engine_calls c main_caller) run
  pub of : run.start ≡ start
  pub each : (number : ℕ) → (channel : Channel) → slot_at c.slots number ≡ Some channel → GivesOthers c run channel name

-- Each start that the main thread began is over, and left no file of this name: it was refused; or it was not, its run was
-- stopped, and no file of that run has the name.
abbrev pub IsUnmadeName : ClosedSession → (name : List ℕ) → Type 0
IsUnmadeName c name = (start : ℕ) → Contains (starts_begun (engine_calls c main_caller)) start →
    RefusesStart (engine_calls c main_caller) start ⊎ GivesNoName c name start
