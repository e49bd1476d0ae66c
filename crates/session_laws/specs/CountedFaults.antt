-- What the counts of a closed session's run files tell of its starts, its channels and the names of the files.
use Rattle.std.specs.Prelude.{◌≡◌, ℕ, false, true, IsTrue, List, ◌<◌, length, slice_get, Option, Some, None, ◌⊎◌}
use Rattle.daq_types.specs.Callers.{main_caller}
use Rattle.daq_types.specs.declared.runs.ChannelEnd.{ChannelEnd}
use Rattle.daq_types.specs.declared.runs.ChannelState.{ChannelState}
use Rattle.daq_types.specs.declared.runs.ChannelState.TheVariants.{Broken, Ended, NoEnd}
use Rattle.daq_types.specs.declared.runs.Order.{Order}
use Rattle.daq_types.specs.declared.runs.RunState.TheVariants.{Stopped}
use Rattle.daq_types.specs.declared.runs.StartOutcome.TheVariants.{Completed, Refused}
use Rattle.daq_types.specs.declared.runs.Transition.TheVariants.{Start}
use Rattle.daq_types.specs.declared.runs.Why.{Why}
use Rattle.daq_types.specs.declared.runs.Why.TheVariants.{NotReady, Exists, Fault, BufferRefused}
use Rattle.daq_io.specs.Counts.{Rose}
use Rattle.daq_io.specs.Seen.{Stored}
use Rattle.daq_io.specs.Told.{FilesTold}
use Rattle.transitions.specs.EngineCalls.{order_for}
use Rattle.member_model.specs.RunEngines.{Sheet, ClientTally}
use Rattle.member_model.specs.TurnCalls.{member_turns}
use Rattle.member_model.specs.LoggerKept.{LoggerChannel}
use Rattle.loggers.specs.LoggerStands.{logger_channels}
use Rattle.loggers.specs.NewLoggers.{GiveEachOnce}
use Rattle.loggers.specs.OtherFiles.{specs_in}
use Rattle.loggers.specs.Reasons.{GivesReasons, IsChannelNumber}
use Rattle.loggers.specs.LeftNames.{KeepsNames}
use Rattle.composition.specs.SessionRuns.{SessionRun, ToldChannel}
use Rattle.session_laws.specs.ClosedSessions.{ClosedFront, ClosedSession, logger_client, logger_caller, engine_calls, session_of, ClosedAnalyzer, analyzer_client}
use Rattle.session_laws.specs.MembersAtEnd.{MembersAtEnd}
use Rattle.session_runs.specs.MadeTransitions.{TransitionIn}
use Rattle.session_laws.specs.MadeRuns.{RunIn}
use Rattle.session_laws.specs.OtherNames.{AreFreeNames, AreStartsOver, HasFirstFault, IsTakenName, IsUnmadeName, IsNameKept}

-- What the logger of a closed session answered rests on the counts of the run files, which were so as it took its seat, and
-- are so now, and on its calls on the buffers.
abbrev pub LoggerReasons : (c : ClosedSession) → MembersAtEnd c → (first now : FilesTold) → Type 0
LoggerReasons c ends first now =
    GivesReasons c.slots ends.logger.ports first now (member_turns (logger_client c) (engine_calls c (logger_caller c)))

-- Which names of run files it left as they were as it took its seat, where names are told, and its ports gave it no client that it has.
abbrev pub LoggerNames : (c : ClosedSession) → MembersAtEnd c → (first now : FilesTold) → Type 0
LoggerNames c ends first now = GiveEachOnce ends.logger.ports →
    KeepsNames c.slots first now (member_turns (logger_client c) (engine_calls c (logger_caller c)))

-- The client is a front-end that refused a start with this order as NotReady: its equipment takes no part in the run.
pub record IsFrontRefusal (c : ClosedSession) (order : Order) (client : ℕ) (why : Why) : Type 0 where
  pub front : ClosedFront
  pub stands : slice_get c.fronts client ≡ Some front
  pub why_is : why ≡ NotReady
  pub no_part : front.takes order ≡ false

-- Why the logger refuses a start: for the name of the first file of one of its channels, where a clash of names was counted, or for a
-- fault of it, where one was.
abbrev pub IsLoggerReason : ClosedSession → Why → (first now : FilesTold) → Type 0
IsLoggerReason c NotReady first now = ⊥
IsLoggerReason c (Exists channel) first now = IsChannelNumber (specs_in c.slots) channel × Rose first.clashes now.clashes
IsLoggerReason c (Fault channel) first now = IsChannelNumber (specs_in c.slots) channel × Rose first.faults now.faults
IsLoggerReason c BufferRefused first now = ⊥

-- The client is an analyzer that refused a start with this sheet as NotReady: the sheet has fewer blank reports than there are
-- analyzers.
pub record IsAnalyzerRefusal (c : ClosedSession) (sheet : Sheet) (client : ℕ) (why : Why) : Type 0 where
  pub place : ℕ
  pub analyzer : ClosedAnalyzer
  pub stands : slice_get c.analyzers place ≡ Some analyzer
  pub is : client ≡ analyzer_client c place
  pub why_is : why ≡ NotReady
  pub few_blanks : length sheet.blanks < length c.analyzers

-- A start with this sheet and this number was refused by this client for this reason: by a front-end, by the logger, or by an
-- analyzer. No buffer is a reason.
abbrev pub IsRefusedSo : ClosedSession → (first now : FilesTold) → Sheet → (start client : ℕ) → Why → Type 0
IsRefusedSo c first now sheet start client why =
    IsFrontRefusal c (order_for sheet start Stopped) client why
    ⊎ (((client ≡ logger_client c) × IsLoggerReason c why first now) ⊎ IsAnalyzerRefusal c sheet client why)

-- how a channel ends that did not break off, where the stop's sheet has this dump
abbrev pub state_by_dump : (dump : Option (List ℕ)) → ChannelState
state_by_dump None = NoEnd
state_by_dump (Some dump) = Ended

-- What the main thread was told of starts and of channels, where the counts of the run files were so at first, and are so
-- now: why a start was refused; that each front-end takes part in a run that was started; that a channel broke off only
-- where a fault was counted; so that where none was, all that was told of a channel of a run is that it ended, or that the
-- stop's sheet had no dump. And, where names are told, whatever faults were counted: each name is there where it was there, with the same
-- bytes, that no file of a run has that came about, once each start is over, and a start that was refused leaves no file, unless more
-- faults were counted than are told; no file is lost or changed that was there at first; the logger refuses a start for a name only
-- where that is taken, and those of all channels before it were free; and where a run came about, the names of all channels were free.
-- And where no fault was named at first, the logger refuses a start for a fault of the channel whose file the first fault names, unless
-- that is a file of an earlier start.
pub record CountsHold (c : ClosedSession) (first now : FilesTold) : Type 0 where
  pub refused : (sheet : Sheet) → (start client : ℕ) → (why : Why) → (tallies : List ClientTally) →
      TransitionIn (engine_calls c main_caller) Start sheet start (Refused client why) tallies →
      IsRefusedSo c first now sheet start client why
  pub started : (sheet : Sheet) → (start : ℕ) → (tallies : List ClientTally) →
      TransitionIn (engine_calls c main_caller) Start sheet start Completed tallies →
      (client : ℕ) → (f : ClosedFront) → slice_get c.fronts client ≡ Some f →
      f.takes (order_for sheet start Stopped) ≡ true
  pub broken : (moments : (client : ℕ) → List ℕ) → (r : SessionRun) → RunIn (engine_calls c main_caller) r →
      (channel : LoggerChannel) → (told : ChannelEnd) → ToldChannel (session_of c moments) r channel told → told.state ≡ Broken →
      Rose first.faults now.faults
  pub ended : (Rose first.faults now.faults → ⊥) →
      (moments : (client : ℕ) → List ℕ) → (r : SessionRun) → RunIn (engine_calls c main_caller) r →
      (index : ℕ) → (channel : LoggerChannel) → slice_get (logger_channels (λ number. 0) c.slots) index ≡ Some channel →
      (told : ChannelEnd) → ToldChannel (session_of c moments) r channel told → told.state ≡ state_by_dump r.last.dump
  pub names : IsTrue first.seen.names → (name : List ℕ) → IsUnmadeName c name → IsNameKept c first now name
  pub kept : IsTrue first.seen.names → (name : List ℕ) → (file : Stored) →
      first.seen.at name ≡ Some file → now.seen.at name ≡ Some file
  pub taken : IsTrue first.seen.names → AreStartsOver (engine_calls c main_caller) →
      (sheet : Sheet) → (start number : ℕ) → (tallies : List ClientTally) →
      TransitionIn (engine_calls c main_caller) Start sheet start (Refused (logger_client c) (Exists number)) tallies →
      IsTakenName c first now sheet.run start number
  pub free : IsTrue first.seen.names → (r : SessionRun) → RunIn (engine_calls c main_caller) r →
      AreFreeNames c first.seen r.first.run r.start (length c.slots)
  pub faulted : first.first ≡ None → AreStartsOver (engine_calls c main_caller) →
      (sheet : Sheet) → (start number : ℕ) → (tallies : List ClientTally) →
      TransitionIn (engine_calls c main_caller) Start sheet start (Refused (logger_client c) (Fault number)) tallies →
      HasFirstFault c now sheet.run start number

-- So it is with a closed session, by what the logger's answers rest on and by the names that it left.
abbrev pub CountsTell : Type 0
CountsTell = (c : ClosedSession) → (ends : MembersAtEnd c) → (first now : FilesTold) → LoggerReasons c ends first now →
    LoggerNames c ends first now → CountsHold c first now
