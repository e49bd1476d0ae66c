-- A member of a session, of whatever kind it is: what is seen of it, what it keeps, and its turns.
use Rattle.std.specs.Prelude.{ℕ, Bool, List}
use Rattle.daq_types.specs.declared.events.Event.{Event}
use Rattle.daq_types.specs.declared.runs.Order.{Order}
use Rattle.daq_io.specs.Told.{FilesTold}
use Rattle.member_model.specs.RunEngines.{EngineEntry}
use Rattle.transition_lock.specs.declared.shared.SharedEngine.{SharedEngine}
use Rattle.loggers.specs.LoggerFaults.{NotesFaults}
use Rattle.member_crew.specs.declared.turned.Turned.{Turned}
use Rattle.daq_members.specs.FrontTaken.{TakesFront}
use Rattle.daq_members.specs.LoggerTaken.{TakesLogger}
use Rattle.daq_members.specs.AnalyzerTaken.{TakesAnalyzer}
use Rattle.daq_members.specs.FrontSeats.{FrontSeen, IsSeated, IsSameFront, front_taken}
use Rattle.daq_members.specs.LoggerSeats.{LoggerSeen, IsLoggerAtSeat, IsSameLogger, logger_taken}
use Rattle.daq_members.specs.SeatedAnalyzers.{AnalyzerSeen, IsAnalyzerSeated, IsSameAnalyzer, analyzer_taken}

-- A member of a session, by its kind.
pub data MemberSeen (E F : Type 0) : Type 0 where
  FrontEnd : FrontSeen E → MemberSeen E F
  Logger : LoggerSeen F → MemberSeen E F
  Analyzer : AnalyzerSeen → MemberSeen E F

-- its client number
abbrev pub client_of : {E F : Type 0} → MemberSeen E F → ℕ
client_of (FrontEnd front) = front.client
client_of (Logger logger) = logger.client
client_of (Analyzer analyzer) = analyzer.client

-- the engine that it asks
abbrev pub engine_of : {E F : Type 0} → MemberSeen E F → SharedEngine
engine_of (FrontEnd front) = front.engine
engine_of (Logger logger) = logger.engine
engine_of (Analyzer analyzer) = analyzer.engine

-- its calls on the engine
abbrev pub engine_calls_of : {E F : Type 0} → MemberSeen E F → List EngineEntry
engine_calls_of (FrontEnd front) = front.calls
engine_calls_of (Logger logger) = logger.calls
engine_calls_of (Analyzer analyzer) = analyzer.calls

-- What is told of equipments and run files: which runs an equipment takes part in, and which events it makes; and what is
-- told of run files.
pub record MemberTold (E F : Type 0) : Type 0 where
  pub takes : E → Order → Bool
  pub makes : E → Order → ℕ → Event
  pub read : F → FilesTold

-- What is told of members: in which runs an equipment takes part, which events it makes, and what is told of the run files.
abbrev pub member_told : {E F : Type 0} → (takes : E → Order → Bool) → (makes : E → Order → ℕ → Event) →
    (read : F → FilesTold) → MemberTold E F
member_told takes makes read = record { takes = takes; makes = makes; read = read }

module _ {E F : Type 0} (told : MemberTold E F) where
  -- A member keeps the contract of its kind over its own calls.
  abbrev pub KeepsContract : MemberSeen E F → Type 0
  KeepsContract (FrontEnd front) = IsSeated told.takes told.makes front
  KeepsContract (Logger logger) = IsLoggerAtSeat told.read logger
  KeepsContract (Analyzer analyzer) = IsAnalyzerSeated analyzer

  -- A member takes one turn, as those of its kind do, and is the same one behind it.
  pub data TurnsMember : (before after : MemberSeen E F) → Turned → Type 0 where
    FrontTurn : {before after : FrontSeen E} {turned : Turned} →
        TakesFront (front_taken told.takes told.makes before after turned) →
        IsSameFront told.takes told.makes before after → TurnsMember (FrontEnd before) (FrontEnd after) turned
    LoggerTurn : {before after : LoggerSeen F} {turned : Turned} →
        TakesLogger (logger_taken told.read before after turned) → IsSameLogger before after →
        TurnsMember (Logger before) (Logger after) turned
    AnalyzerTurn : {before after : AnalyzerSeen} {turned : Turned} →
        TakesAnalyzer (analyzer_taken before after turned) → IsSameAnalyzer before after →
        TurnsMember (Analyzer before) (Analyzer after) turned

  -- The same logger, which noted each fault of the run files meanwhile.
  pub record StaysLogger (before after : LoggerSeen F) : Type 0 where
    pub same : IsSameLogger before after
    pub faults : NotesFaults before.slots after.slots (told.read before.files).faults (told.read after.files).faults

  -- The same member, of the same kind; and if it is the logger, it noted each fault of the run files meanwhile.
  pub data IsSameMember : (before after : MemberSeen E F) → Type 0 where
    SameFront : {before after : FrontSeen E} → IsSameFront told.takes told.makes before after →
        IsSameMember (FrontEnd before) (FrontEnd after)
    SameLogger : {before after : LoggerSeen F} → StaysLogger before after → IsSameMember (Logger before) (Logger after)
    SameAnalyzer : {before after : AnalyzerSeen} → IsSameAnalyzer before after →
        IsSameMember (Analyzer before) (Analyzer after)
