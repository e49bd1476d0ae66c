-- A longer session that meets all that the laws ask: two front-ends that send into a buffer each, a channel at each buffer, a run
-- that is paused and then stopped, and a second start that the first front-end refuses.
use Rattle.std.specs.Prelude.{ℕ, zero, suc, codes, nat_le, true, false, List, [], ◌∷◌, Some, None, Ok}
use Rattle.daq_types.specs.declared.runs.FrontEnded.TheVariants.{Paused as EndedPaused}
use Rattle.daq_types.specs.declared.runs.Kind.TheVariants.{All}
use Rattle.daq_types.specs.declared.runs.RunState.TheVariants.{Stopped, Paused, Running}
use Rattle.daq_types.specs.declared.runs.StartOutcome.TheVariants.{Completed, Refused}
use Rattle.daq_types.specs.declared.runs.Transition.TheVariants.{Start, Stop, Pause}
use Rattle.daq_types.specs.declared.runs.Why.TheVariants.{NotReady}
use Rattle.daq_io.specs.Seen.{Seen, stored_closed}
use Rattle.transitions.specs.declared.sequences.Sequences.{Sequences}
use Rattle.buffer_core.specs.declared.gate.RunGate.TheVariants.{Shut}
use Rattle.buffer_core.specs.declared.replies.Received.TheVariants.{Got, Empty}
use Rattle.buffer_core.specs.declared.entry.BufferEntry.TheVariants.{Attach, Request, SendInRun, Receive, Begin as BufferBegin, Pause as BufferPause, End as BufferEnd}
use Rattle.sub_files.specs.Patterns.{numbered_parts}
use Rattle.buffer_core.specs.Window.{any}
use Rattle.buffer_core.specs.Histories.{History}
use Rattle.buffer_core.specs.Ports.{GotEvent}
use Rattle.buffer_core.specs.Samples.{sample_event}
use Rattle.odb_value.specs.declared.items.Item.TheVariants.{UInt64}
use Rattle.odb_tree.specs.declared.entry.DatabaseEntry.TheVariants.{Set}
use Rattle.odb_watch.specs.declared.entry.WatchEntry.{WatchEntry}
use Rattle.odb_watch.specs.declared.entry.WatchEntry.TheVariants.{Call}
use Rattle.odb_runinfo.specs.RunKeys.{sent_path}
use Rattle.transitions.specs.declared.answers.Answer.TheVariants.{Yes, No}
use Rattle.transitions.specs.declared.answers.Tally.TheVariants.{Plain, Front, Channels}
use Rattle.transitions.specs.declared.replies.Polled.TheVariants.{Turn}
use Rattle.transitions.specs.declared.replies.Progress.TheVariants.{Done}
use Rattle.transitions.specs.declared.entry.EngineEntry.TheVariants.{Register, Begin, Poll, Answer, Check}
use Rattle.transitions.specs.EngineCalls.{order_for}
use Rattle.member_model.specs.RunEngines.{Sheet, ClientTally, EngineHistory}
use Rattle.member_model.specs.LoggerKept.{LoggerChannel}
use Rattle.history_laws.specs.CallerSamples.{got_first}
use Rattle.composition.specs.Sessions.{Session, SessionFront}
use Rattle.composition.specs.SessionRuns.{SessionRun}
use Rattle.composition.specs.SessionSamples.{whole_file, first_sheet, plain_by_three, sample_bytes, made_whole}

-- called at this place for each transition but start-abort
abbrev pub at_each : ℕ → Sequences
at_each q = record { start = Some q; stop = Some q; pause = Some q; resume = Some q; start_abort = None }

-- what the pause and the stop of the run are begun with, and the start that is refused; the run wants one event
abbrev pub pause_sheet : Sheet
pause_sheet = record { run = 1; time = 1000; quota = 1; dump = None; blanks = [] }

abbrev pub paused_stop_sheet : Sheet
paused_stop_sheet = record { run = 1; time = 2000; quota = 1; dump = Some (8 ∷ []); blanks = [] }

abbrev pub refused_sheet : Sheet
refused_sheet = record { run = 2; time = 3000; quota = 5; dump = Some (9 ∷ []); blanks = [] }

-- the front-ends are clients 0 and 1, the logger is client 2

abbrev pub paused_tallies : List ClientTally
paused_tallies =
    record { client = 0; tally = Front 1 EndedPaused } ∷ record { client = 1; tally = Front 1 EndedPaused }
    ∷ record { client = 2; tally = Channels (whole_file ∷ whole_file ∷ []) } ∷ []

abbrev pub paused_engine : EngineHistory
paused_engine =
    (0, Register [] (at_each 1) false false (Ok 0)) ∷ (0, Register [] (at_each 1) false false (Ok 1))
    ∷ (0, Register [] (at_each 2) true false (Ok 2)) ∷ (0, Begin Start first_sheet (Ok 1))
    ∷ (1, Poll 0 (Turn Start (order_for first_sheet 1 Stopped) None None)) ∷ (1, Answer 0 (Yes Plain) (Ok tt))
    ∷ (2, Poll 1 (Turn Start (order_for first_sheet 1 Stopped) None None)) ∷ (2, Answer 1 (Yes Plain) (Ok tt))
    ∷ (3, Poll 2 (Turn Start (order_for first_sheet 1 Stopped) (Some (7 ∷ [])) None))
    ∷ (3, Answer 2 (Yes Plain) (Ok tt))
    ∷ (0, Check (Done Completed) plain_by_three) ∷ (0, Begin Pause pause_sheet (Ok 1))
    ∷ (1, Poll 0 (Turn Pause (order_for pause_sheet 1 Running) None None)) ∷ (1, Answer 0 (Yes Plain) (Ok tt))
    ∷ (2, Poll 1 (Turn Pause (order_for pause_sheet 1 Running) None None)) ∷ (2, Answer 1 (Yes Plain) (Ok tt))
    ∷ (3, Poll 2 (Turn Pause (order_for pause_sheet 1 Running) None None)) ∷ (3, Answer 2 (Yes Plain) (Ok tt))
    ∷ (0, Check (Done Completed) plain_by_three) ∷ (0, Begin Stop paused_stop_sheet (Ok 1))
    ∷ (1, Poll 0 (Turn Stop (order_for paused_stop_sheet 1 Paused) None None))
    ∷ (1, Answer 0 (Yes (Front 1 EndedPaused)) (Ok tt))
    ∷ (2, Poll 1 (Turn Stop (order_for paused_stop_sheet 1 Paused) None None))
    ∷ (2, Answer 1 (Yes (Front 1 EndedPaused)) (Ok tt))
    ∷ (3, Poll 2 (Turn Stop (order_for paused_stop_sheet 1 Paused) (Some (8 ∷ [])) None))
    ∷ (3, Answer 2 (Yes (Channels (whole_file ∷ whole_file ∷ []))) (Ok tt))
    ∷ (0, Check (Done Completed) paused_tallies) ∷ (0, Begin Start refused_sheet (Ok 2))
    ∷ (1, Poll 0 (Turn Start (order_for refused_sheet 2 Stopped) None None)) ∷ (1, Answer 0 (No NotReady) (Ok tt))
    ∷ (0, Check (Done (Refused 0 NotReady)) []) ∷ []

-- a buffer into which this caller sends its event, and which the logger, caller 3, reads
abbrev pub buffer_of_sender : (sender : ℕ) → History
buffer_of_sender sender =
    (3, Attach [] (Ok 0)) ∷ (3, Request 0 any any All (Ok 0)) ∷ (3, BufferBegin 1 (Ok 0))
    ∷ (sender, SendInRun 1 0 sample_event (Ok 0)) ∷ (3, Receive 0 0 (Got 0 1)) ∷ (3, BufferPause 1 (Ok 1))
    ∷ (3, BufferEnd 1 (Ok 1)) ∷ (3, Receive 0 0 (Empty Shut 1)) ∷ []

abbrev pub paused_history : (buffer : ℕ) → History
paused_history zero = buffer_of_sender 1
paused_history (suc zero) = buffer_of_sender 2
paused_history (suc (suc n)) = []

abbrev pub paused_got : (buffer : ℕ) → List GotEvent
paused_got zero = got_first sample_event ∷ []
paused_got (suc zero) = got_first sample_event ∷ []
paused_got (suc (suc n)) = []

-- the front-ends, of which each takes part in runs of at most two events; the first is called for the refused start too
abbrev pub first_front : SessionFront
first_front = record {
  name = codes "A";
  client = 0;
  buffer = 0;
  takes = λ order. nat_le order.quota 2;
  makes = λ order number. sample_event;
  moments = 1 ∷ 1 ∷ 1 ∷ 0 ∷ [];
}

abbrev pub second_front : SessionFront
second_front = record {
  name = codes "B";
  client = 1;
  buffer = 1;
  takes = λ order. nat_le order.quota 2;
  makes = λ order number. sample_event;
  moments = 1 ∷ 1 ∷ 0 ∷ [];
}

-- a set by the caller of the front-end of this name
abbrev pub set_by : (caller : ℕ) → (name : List ℕ) → (sent : ℕ) → ℕ × WatchEntry
set_by caller name sent = (caller, Call (Set (sent_path name) 0 (UInt64 sent) (Ok 8)))

abbrev pub paused_database : List (ℕ × WatchEntry)
paused_database =
    set_by 1 (codes "A") 0 ∷ set_by 2 (codes "B") 0 ∷ set_by 1 (codes "A") 1 ∷ set_by 2 (codes "B") 1
    ∷ set_by 1 (codes "A") 1 ∷ set_by 2 (codes "B") 1 ∷ set_by 1 (codes "A") 0 ∷ []

-- the channel of this number, at the buffer of this number; the second has a limit, so that each event has a file of its own
abbrev pub paused_channel : (number : ℕ) → LoggerChannel
paused_channel number = record {
  number = number;
  pattern = numbered_parts (number ∷ []) [] [];
  limit = number;
  buffer = number;
  client = 0;
  id = any;
  mask = any;
}

-- each file is that of the run, and those of both channels were made so
abbrev pub paused_files : Seen
paused_files = record {
  names = true;
  at = λ name. Some (stored_closed (sample_bytes sample_event));
  writes = λ number. false;
  reads = λ number. false;
  name_of = λ number. [];
  left = λ number. [];
  given = λ number. [];
  done =
      made_whole (paused_channel 0) (sample_bytes sample_event)
      ∷ made_whole (paused_channel 1) (sample_bytes sample_event) ∷ [];
}

abbrev pub paused_session : Session
paused_session = record {
  size = λ buffer. 48;
  history = paused_history;
  engine = paused_engine;
  database = paused_database;
  fronts = first_front ∷ second_front ∷ [];
  logger = 2;
  channels = paused_channel 0 ∷ paused_channel 1 ∷ [];
  got = paused_got;
  analyzers = [];
  files = paused_files;
}

-- the second front-end sets 0 at the pause, as if it had answered that before it sent its event
abbrev pub early_second : SessionFront
early_second = record second_front { moments = 1 ∷ 0 ∷ 0 ∷ [] }

abbrev pub early_pause : Session
early_pause = record paused_session {
  fronts = first_front ∷ early_second ∷ [];
  database =
      set_by 1 (codes "A") 0 ∷ set_by 2 (codes "B") 0 ∷ set_by 1 (codes "A") 1 ∷ set_by 2 (codes "B") 0
      ∷ set_by 1 (codes "A") 1 ∷ set_by 2 (codes "B") 1 ∷ set_by 1 (codes "A") 0 ∷ [];
}

abbrev pub pausing_run : SessionRun
pausing_run = record {
  start = 1;
  first = first_sheet;
  last = paused_stop_sheet;
  first_tallies = plain_by_three;
  last_tallies = paused_tallies;
}
