-- A session that meets all that the laws ask: a front-end that sends one event, a logger of one channel, and a run.
use Rattle.std.specs.Prelude.{ℕ, zero, suc, codes, true, false, List, [], ◌∷◌, Some, None, Ok}
use Rattle.daq_types.specs.declared.events.Event.{Event}
use Rattle.daq_types.specs.declared.runs.ChannelEnd.{ChannelEnd}
use Rattle.daq_types.specs.declared.runs.ChannelState.TheVariants.{Ended}
use Rattle.daq_types.specs.declared.runs.FrontEnded.TheVariants.{Quota}
use Rattle.daq_types.specs.declared.runs.RunState.TheVariants.{Stopped, Running}
use Rattle.daq_types.specs.declared.runs.StartOutcome.TheVariants.{Completed}
use Rattle.daq_types.specs.declared.runs.Transition.TheVariants.{Start, Stop}
use Rattle.event.specs.RunFile.{run_file}
use Rattle.daq_io.specs.Seen.{Seen, FileDone, stored_closed, was_left}
use Rattle.sub_files.specs.Patterns.{plain_parts, piece_name_by}
use Rattle.buffer_core.specs.Window.{any}
use Rattle.buffer_core.specs.Histories.{History}
use Rattle.buffer_core.specs.Ports.{GotEvent}
use Rattle.buffer_core.specs.Samples.{sample_event}
use Rattle.odb_value.specs.declared.items.Item.TheVariants.{UInt64}
use Rattle.odb_tree.specs.declared.entry.DatabaseEntry.TheVariants.{Set}
use Rattle.odb_watch.specs.declared.entry.WatchEntry.{WatchEntry}
use Rattle.odb_watch.specs.declared.entry.WatchEntry.TheVariants.{Call}
use Rattle.odb_runinfo.specs.RunKeys.{sent_path}
use Rattle.transitions.specs.declared.answers.Answer.TheVariants.{Yes}
use Rattle.transitions.specs.declared.answers.Tally.TheVariants.{Plain, Front, Channels}
use Rattle.transitions.specs.declared.replies.Polled.TheVariants.{Turn}
use Rattle.transitions.specs.declared.replies.Progress.TheVariants.{Done}
use Rattle.transitions.specs.declared.entry.EngineEntry.TheVariants.{Register, Begin, Poll, Answer, Check}
use Rattle.transitions.specs.EngineCalls.{order_for}
use Rattle.transitions.specs.EngineSamples.{at_all}
use Rattle.member_model.specs.RunEngines.{Sheet, ClientTally, EngineHistory}
use Rattle.member_model.specs.LoggerKept.{LoggerChannel}
use Rattle.history_laws.specs.CallerSamples.{reading_history, got_first}
use Rattle.composition.specs.Sessions.{Session, SessionFront}
use Rattle.composition.specs.SessionRuns.{SessionRun}

-- a channel that ended with one file, which is whole
abbrev pub whole_file : ChannelEnd
whole_file = record { state = Ended; files = 1; framed = 1 }

-- what the start and the stop are begun with
abbrev pub first_sheet : Sheet
first_sheet = record { run = 1; time = 1000; quota = 1; dump = Some (7 ∷ []); blanks = [] }

abbrev pub last_sheet : Sheet
last_sheet = record { run = 1; time = 2000; quota = 1; dump = Some (8 ∷ []); blanks = [] }

-- what the logger, whose client number is 0, and the front-end, whose is 1, told in the Dones
abbrev pub first_tallies : List ClientTally
first_tallies = record { client = 0; tally = Plain } ∷ record { client = 1; tally = Plain } ∷ []

-- three clients tell nothing of a transition
abbrev pub plain_by_three : List ClientTally
plain_by_three = record { client = 0; tally = Plain } ∷ record { client = 1; tally = Plain } ∷ record { client = 2; tally = Plain } ∷ []

abbrev pub last_tallies : List ClientTally
last_tallies = record { client = 0; tally = Channels (whole_file ∷ []) } ∷ record { client = 1; tally = Front 1 Quota } ∷ []

-- the engine's calls: registrations, the start, and the stop
abbrev pub sample_engine : EngineHistory
sample_engine =
    (0, Register [] (at_all 1) true false (Ok 0)) ∷ (0, Register [] (at_all 2) false false (Ok 1))
    ∷ (0, Begin Start first_sheet (Ok 1))
    ∷ (1, Poll 0 (Turn Start (order_for first_sheet 1 Stopped) (Some (7 ∷ [])) None))
    ∷ (1, Answer 0 (Yes Plain) (Ok tt))
    ∷ (2, Poll 1 (Turn Start (order_for first_sheet 1 Stopped) None None)) ∷ (2, Answer 1 (Yes Plain) (Ok tt))
    ∷ (0, Check (Done Completed) first_tallies) ∷ (0, Begin Stop last_sheet (Ok 1))
    ∷ (1, Poll 0 (Turn Stop (order_for last_sheet 1 Running) (Some (8 ∷ [])) None))
    ∷ (1, Answer 0 (Yes (Channels (whole_file ∷ []))) (Ok tt))
    ∷ (2, Poll 1 (Turn Stop (order_for last_sheet 1 Running) None None)) ∷ (2, Answer 1 (Yes (Front 1 Quota)) (Ok tt))
    ∷ (0, Check (Done Completed) last_tallies) ∷ []

-- the one buffer, number 0, in which the front-end's event is sent and the logger gets it
abbrev pub sample_history : (buffer : ℕ) → History
sample_history zero = reading_history
sample_history (suc n) = []

abbrev pub sample_got : (buffer : ℕ) → List GotEvent
sample_got zero = got_first sample_event ∷ []
sample_got (suc n) = []

-- its name, "F"
abbrev pub sample_name : List ℕ
sample_name = codes "F"

-- it sets 0 at its start, and 1 at its stop
abbrev pub sample_database : List (ℕ × WatchEntry)
sample_database =
    (2, Call (Set (sent_path sample_name) 0 (UInt64 0) (Ok 8)))
    ∷ (2, Call (Set (sent_path sample_name) 0 (UInt64 1) (Ok 8))) ∷ []

abbrev pub sample_front : SessionFront
sample_front = record {
  name = sample_name;
  client = 1;
  buffer = 0;
  takes = λ order. true;
  makes = λ order number. sample_event;
  moments = 1 ∷ 0 ∷ [];
}

abbrev pub sample_channel : LoggerChannel
sample_channel = record { number = 0; pattern = plain_parts [] []; limit = 0; buffer = 0; client = 0; id = any; mask = any }

-- the run file of this event
abbrev pub sample_bytes : Event → List ℕ
sample_bytes event = run_file 1 1000 (7 ∷ []) (event ∷ []) 2000 (8 ∷ [])

-- the first file of the channel in run 1 was made, and closed whole with these bytes
abbrev pub made_whole : LoggerChannel → (bytes : List ℕ) → FileDone
made_whole channel bytes = was_left (piece_name_by channel.pattern 1 0) (stored_closed bytes)

-- the file of every name is that of the run, and the channel's was made so
abbrev pub sample_files : Seen
sample_files = record {
  names = true;
  at = λ name. Some (stored_closed (sample_bytes sample_event));
  writes = λ number. false;
  reads = λ number. false;
  name_of = λ number. [];
  left = λ number. [];
  given = λ number. [];
  done = made_whole sample_channel (sample_bytes sample_event) ∷ [];
}

abbrev pub sample_session : Session
sample_session = record {
  size = λ buffer. 48;
  history = sample_history;
  engine = sample_engine;
  database = sample_database;
  fronts = sample_front ∷ [];
  logger = 0;
  channels = sample_channel ∷ [];
  got = sample_got;
  analyzers = [];
  files = sample_files;
}

abbrev pub sample_run : SessionRun
sample_run = record {
  start = 1;
  first = first_sheet;
  last = last_sheet;
  first_tallies = first_tallies;
  last_tallies = last_tallies;
}
