-- Sessions each of which meets all but one of the things that the laws of sessions ask, and for which one of them is false.
use Rattle.std.specs.Prelude.{◌≢◌, ℕ, zero, suc, true, false, List, [], ◌∷◌, Some, None, Ok}
use Rattle.daq_types.specs.declared.runs.ChannelEnd.{ChannelEnd}
use Rattle.daq_types.specs.declared.runs.ChannelState.TheVariants.{NoEnd}
use Rattle.daq_types.specs.declared.runs.Kind.TheVariants.{All}
use Rattle.daq_types.specs.declared.runs.RunState.TheVariants.{Stopped, Running}
use Rattle.daq_types.specs.declared.runs.StartOutcome.TheVariants.{Completed}
use Rattle.daq_types.specs.declared.runs.Transition.TheVariants.{Start, Stop}
use Rattle.daq_io.specs.Seen.{Seen, stored_closed}
use Rattle.buffer_core.specs.declared.entry.BufferEntry.TheVariants.{SendInRun, Begin as BufferBegin, End as BufferEnd}
use Rattle.buffer_core.specs.Window.{any}
use Rattle.buffer_core.specs.Histories.{History}
use Rattle.buffer_core.specs.Ports.{GotEvent}
use Rattle.buffer_core.specs.Samples.{sample_event, longer_event}
use Rattle.odb_value.specs.declared.items.Item.TheVariants.{UInt64}
use Rattle.odb_tree.specs.declared.entry.DatabaseEntry.TheVariants.{Set}
use Rattle.odb_watch.specs.declared.entry.WatchEntry.TheVariants.{Call, Watch}
use Rattle.odb_runinfo.specs.RunKeys.{sent_path}
use Rattle.transitions.specs.declared.answers.Answer.TheVariants.{Yes}
use Rattle.transitions.specs.declared.answers.Tally.TheVariants.{Plain, Channels}
use Rattle.transitions.specs.declared.replies.Polled.TheVariants.{Turn}
use Rattle.transitions.specs.declared.replies.Progress.TheVariants.{Done}
use Rattle.transitions.specs.declared.entry.EngineEntry.TheVariants.{Register, Begin, Poll, Answer, Check}
use Rattle.transitions.specs.EngineCalls.{order_for}
use Rattle.transitions.specs.EngineSamples.{at_all}
use Rattle.member_model.specs.RunEngines.{ClientTally, EngineHistory}
use Rattle.history_laws.specs.CallerSamples.{got_first}
use Rattle.composition.specs.Sessions.{Session, SessionFront, SessionAnalyzer, BuffersLegal, EngineLegal, NameOwnClients, MembersCall, FrontsKeep, FrontsHaveMoments, FrontsSetNumbers, LoggerKeeps, LoggerGotSent, AnalyzersKeep, AnalyzersGotSent, FrontsRegistered, AnalyzersRegistered, LoggerRegistered, LoggerWantsDump}
use Rattle.composition.specs.SessionRuns.{SessionRun}
use Rattle.composition.specs.SessionSamples.{whole_file, first_sheet, last_sheet, sample_name, sample_front, sample_channel, sample_bytes, made_whole, sample_files, sample_database, sample_session}

-- what the laws ask
pub data SessionPremise : Type 0 where
  LegalBuffers : SessionPremise
  LegalEngine : SessionPremise
  OwnNames : SessionPremise
  MemberCalls : SessionPremise
  KeptFronts : SessionPremise
  FrontMoments : SessionPremise
  FrontNumbers : SessionPremise
  KeptLogger : SessionPremise
  LoggerEvents : SessionPremise
  KeptAnalyzers : SessionPremise
  AnalyzerEvents : SessionPremise
  FrontsThere : SessionPremise
  AnalyzersThere : SessionPremise
  LoggerThere : SessionPremise
  OneDump : SessionPremise

abbrev pub MeetsSession : SessionPremise → Session → Type 0
MeetsSession LegalBuffers s = BuffersLegal s
MeetsSession LegalEngine s = EngineLegal s
MeetsSession OwnNames s = NameOwnClients s
MeetsSession MemberCalls s = MembersCall s
MeetsSession KeptFronts s = FrontsKeep s
MeetsSession FrontMoments s = FrontsHaveMoments s
MeetsSession FrontNumbers s = FrontsSetNumbers s
MeetsSession KeptLogger s = LoggerKeeps s
MeetsSession LoggerEvents s = LoggerGotSent s
MeetsSession KeptAnalyzers s = AnalyzersKeep s
MeetsSession AnalyzerEvents s = AnalyzersGotSent s
MeetsSession FrontsThere s = FrontsRegistered s
MeetsSession AnalyzersThere s = AnalyzersRegistered s
MeetsSession LoggerThere s = LoggerRegistered s
MeetsSession OneDump s = LoggerWantsDump s

-- all but this premise are met, and this law is false
pub record FailsSession (premise : SessionPremise) (s : Session) (law : Session → Type 0) : Type 0 where
  pub others : (other : SessionPremise) → other ≢ premise → MeetsSession other s
  pub wrong : law s → ⊥

-- Of the sample session.

-- an event is sent in a run that was not begun in the buffer
abbrev pub unmarked_history : (buffer : ℕ) → History
unmarked_history zero = (2, SendInRun 1 0 sample_event (Ok 0)) ∷ []
unmarked_history (suc n) = []

abbrev pub unmarked_session : Session
unmarked_session = record sample_session { history = unmarked_history; channels = []; got = λ buffer. [] }

-- who sends is no member
abbrev pub unknown_sender : Session
unknown_sender = record sample_session { fronts = [] }

-- the front-end sends another event than that of its equipment
abbrev pub other_maker : SessionFront
other_maker = record sample_front { makes = λ order number. longer_event }

abbrev pub other_made : Session
other_made = record sample_session { fronts = other_maker ∷ [] }

-- the front-end sets 0 at its stop, as if it had answered that before it sent its event
abbrev pub early_front : SessionFront
early_front = record sample_front { moments = 0 ∷ 0 ∷ [] }

abbrev pub early_session : Session
early_session = record sample_session {
  fronts = early_front ∷ [];
  database =
      (2, Call (Set (sent_path sample_name) 0 (UInt64 0) (Ok 8)))
      ∷ (2, Call (Set (sent_path sample_name) 0 (UInt64 0) (Ok 8))) ∷ [];
}

-- the front-end sets nothing
abbrev pub nothing_set : Session
nothing_set = record sample_session { database = [] }

-- the front-end sets what it must, and watches a row besides
abbrev pub watching_front : Session
watching_front = record sample_session { database = (2, Watch 1 (Ok 0)) ∷ sample_database }

-- there is no file, and none was made
abbrev pub no_files : Seen
no_files = record {
  names = true;
  at = λ name. None;
  writes = λ number. false;
  reads = λ number. false;
  name_of = λ number. [];
  left = λ number. [];
  given = λ number. [];
  done = [];
}

abbrev pub nothing_stored : Session
nothing_stored = record sample_session { files = no_files }

-- the logger was told another event than the one that was sent, and wrote that
abbrev pub other_got : (buffer : ℕ) → List GotEvent
other_got zero = got_first longer_event ∷ []
other_got (suc n) = []

abbrev pub other_files : Seen
other_files = record sample_files {
  at = λ name. Some (stored_closed (sample_bytes longer_event));
  done = made_whole sample_channel (sample_bytes longer_event) ∷ [];
}

abbrev pub other_told : Session
other_told = record sample_session { got = other_got; files = other_files }

-- an analyzer that asks for all events, by this client of the engine
abbrev pub sample_analyzer : (client : ℕ) → SessionAnalyzer
sample_analyzer client = record {
  client = client;
  buffer = 0;
  wanted = record { id = any; mask = any; kind = All };
  got = [];
}

-- what is taken for an analyzer is the front-end, which tells no report
abbrev pub front_for_analyzer : Session
front_for_analyzer = record sample_session { analyzers = sample_analyzer 1 ∷ [] }

-- a client that is not registered has no tally in a Done

abbrev pub unknown_analyzer : Session
unknown_analyzer = record sample_session { analyzers = sample_analyzer 7 ∷ [] }

abbrev pub absent_front : SessionFront
absent_front = record sample_front { client = 7; moments = [] }

abbrev pub unknown_front : Session
unknown_front = record sample_session { fronts = sample_front ∷ absent_front ∷ [] }

-- Of a session with a logger of one channel alone.

abbrev pub logger_session : (history : (buffer : ℕ) → History) → EngineHistory → Session
logger_session history engine = record {
  size = λ buffer. 48;
  history = history;
  engine = engine;
  database = [];
  fronts = [];
  logger = 0;
  channels = sample_channel ∷ [];
  got = λ buffer. [];
  analyzers = [];
  files = no_files;
}

-- an engine without clients ends each transition as it begins
abbrev pub empty_engine : EngineHistory
empty_engine =
    (0, Begin Start first_sheet (Ok 1)) ∷ (0, Check (Done Completed) []) ∷ (0, Begin Stop last_sheet (Ok 1))
    ∷ (0, Check (Done Completed) []) ∷ []

abbrev pub empty_run : SessionRun
empty_run = record { start = 1; first = first_sheet; last = last_sheet; first_tallies = []; last_tallies = [] }

-- the logger is not registered
abbrev pub unknown_logger : Session
unknown_logger = logger_session (λ buffer. []) empty_engine

-- what the logger told, where it told this of its channel
abbrev pub plain_tallies : List ClientTally
plain_tallies = record { client = 0; tally = Plain } ∷ []

-- the Dones tell what no client answered
abbrev pub made_up_engine : EngineHistory
made_up_engine =
    (0, Register [] (at_all 1) true false (Ok 0)) ∷ (0, Begin Start first_sheet (Ok 1))
    ∷ (0, Check (Done Completed) plain_tallies)
    ∷ (0, Begin Stop last_sheet (Ok 1))
    ∷ (0, Check (Done Completed) (record { client = 0; tally = Channels (whole_file ∷ []) } ∷ [])) ∷ []

abbrev pub made_up : Session
made_up = logger_session (λ buffer. []) made_up_engine

abbrev pub ended_run : SessionRun
ended_run = record {
  start = 1;
  first = first_sheet;
  last = last_sheet;
  first_tallies = plain_tallies;
  last_tallies = record { client = 0; tally = Channels (whole_file ∷ []) } ∷ [];
}

-- another caller answers for the logger
abbrev pub spoken_for_engine : EngineHistory
spoken_for_engine =
    (0, Register [] (at_all 1) true false (Ok 0)) ∷ (0, Begin Start first_sheet (Ok 1))
    ∷ (3, Poll 0 (Turn Start (order_for first_sheet 1 Stopped) (Some (7 ∷ [])) None))
    ∷ (3, Answer 0 (Yes Plain) (Ok tt))
    ∷ (0, Check (Done Completed) plain_tallies) ∷ (0, Begin Stop last_sheet (Ok 1))
    ∷ (3, Poll 0 (Turn Stop (order_for last_sheet 1 Running) (Some (8 ∷ [])) None))
    ∷ (3, Answer 0 (Yes (Channels (whole_file ∷ []))) (Ok tt))
    ∷ (0, Check (Done Completed) (record { client = 0; tally = Channels (whole_file ∷ []) } ∷ [])) ∷ []

abbrev pub spoken_for : Session
spoken_for = logger_session (λ buffer. []) spoken_for_engine

-- a channel with one file, which has no end record, since the stop had no dump
abbrev pub no_end_file : ChannelEnd
no_end_file = record { state = NoEnd; files = 1; framed = 0 }

-- the logger did not ask for the dump, and tells that the stop had none
abbrev pub no_dump_engine : EngineHistory
no_dump_engine =
    (0, Register [] (at_all 1) false false (Ok 0)) ∷ (0, Begin Start first_sheet (Ok 1))
    ∷ (1, Poll 0 (Turn Start (order_for first_sheet 1 Stopped) None None)) ∷ (1, Answer 0 (Yes Plain) (Ok tt))
    ∷ (0, Check (Done Completed) plain_tallies) ∷ (0, Begin Stop last_sheet (Ok 1))
    ∷ (1, Poll 0 (Turn Stop (order_for last_sheet 1 Running) None None))
    ∷ (1, Answer 0 (Yes (Channels (no_end_file ∷ []))) (Ok tt))
    ∷ (0, Check (Done Completed) (record { client = 0; tally = Channels (no_end_file ∷ []) } ∷ [])) ∷ []

abbrev pub marked_history : (buffer : ℕ) → History
marked_history zero = (1, BufferBegin 1 (Ok 0)) ∷ (1, BufferEnd 1 (Ok 0)) ∷ []
marked_history (suc n) = []

abbrev pub no_dump : Session
no_dump = logger_session marked_history no_dump_engine

abbrev pub no_end_run : SessionRun
no_end_run = record {
  start = 1;
  first = first_sheet;
  last = last_sheet;
  first_tallies = plain_tallies;
  last_tallies = record { client = 0; tally = Channels (no_end_file ∷ []) } ∷ [];
}
