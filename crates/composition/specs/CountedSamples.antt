-- A session with an analyzer: it meets all that the laws of sessions ask, where the analyzer got the event that was sent.
use Rattle.std.specs.Prelude.{ℕ, zero, suc, true, false, List, [], ◌∷◌, Some, None, Ok}
use Rattle.daq_types.specs.declared.events.Event.{Event}
use Rattle.daq_types.specs.declared.runs.FrontEnded.TheVariants.{Quota}
use Rattle.daq_types.specs.declared.runs.Kind.TheVariants.{All}
use Rattle.daq_types.specs.declared.runs.RunState.TheVariants.{Stopped, Running}
use Rattle.daq_types.specs.declared.runs.StartOutcome.TheVariants.{Completed}
use Rattle.daq_types.specs.declared.runs.Transition.TheVariants.{Start, Stop}
use Rattle.buffer_core.specs.declared.gate.RunGate.TheVariants.{Shut}
use Rattle.buffer_core.specs.declared.replies.Received.TheVariants.{Got, Empty}
use Rattle.buffer_core.specs.declared.entry.BufferEntry.TheVariants.{Attach, Request, Cancel, SendInRun, Receive, Accepted, Begin as BufferBegin, End as BufferEnd}
use Rattle.buffer_core.specs.Window.{any}
use Rattle.buffer_core.specs.Histories.{History}
use Rattle.buffer_core.specs.Samples.{sample_event}
use Rattle.event_report.specs.Reports.{Totals, report_of}
use Rattle.transitions.specs.declared.answers.Answer.TheVariants.{Yes}
use Rattle.transitions.specs.declared.answers.Tally.TheVariants.{Plain, Front, Channels, Report}
use Rattle.transitions.specs.declared.replies.Polled.TheVariants.{Turn}
use Rattle.transitions.specs.declared.replies.Progress.TheVariants.{Done}
use Rattle.transitions.specs.declared.entry.EngineEntry.TheVariants.{Register, Begin, Poll, Answer, Check}
use Rattle.transitions.specs.EngineCalls.{order_for}
use Rattle.transitions.specs.EngineSamples.{at_all}
use Rattle.member_model.specs.RunEngines.{Sheet, ClientTally, EngineHistory}
use Rattle.history_laws.specs.CallerSamples.{got_first}
use Rattle.composition.specs.Sessions.{Session, SessionAnalyzer}
use Rattle.composition.specs.SessionRuns.{SessionRun}
use Rattle.composition.specs.SessionSamples.{last_sheet, plain_by_three, sample_database, sample_front, sample_files}

-- what the start is begun with: there is a blank report for the analyzer
abbrev pub counted_sheet : Sheet
counted_sheet = record { run = 1; time = 1000; quota = 1; dump = Some (7 ∷ []); blanks = report_of [] ∷ [] }

-- The logger is client 0 and has no channel, the front-end is client 1, and the analyzer is client 2. It got this event.

abbrev pub counted_report : (told : Event) → Totals
counted_report told = report_of (told ∷ [])

abbrev pub counted_tallies : (report : Totals) → List ClientTally
counted_tallies report =
    record { client = 0; tally = Channels [] } ∷ record { client = 1; tally = Front 1 Quota }
    ∷ record { client = 2; tally = Report report } ∷ []

abbrev pub counted_engine : (report : Totals) → EngineHistory
counted_engine report =
    (0, Register [] (at_all 1) true false (Ok 0)) ∷ (0, Register [] (at_all 2) false false (Ok 1))
    ∷ (0, Register [] (at_all 3) false true (Ok 2)) ∷ (0, Begin Start counted_sheet (Ok 1))
    ∷ (1, Poll 0 (Turn Start (order_for counted_sheet 1 Stopped) (Some (7 ∷ [])) None))
    ∷ (1, Answer 0 (Yes Plain) (Ok tt))
    ∷ (2, Poll 1 (Turn Start (order_for counted_sheet 1 Stopped) None None)) ∷ (2, Answer 1 (Yes Plain) (Ok tt))
    ∷ (3, Poll 2 (Turn Start (order_for counted_sheet 1 Stopped) None (Some (report_of []))))
    ∷ (3, Answer 2 (Yes Plain) (Ok tt))
    ∷ (0, Check (Done Completed) plain_by_three) ∷ (0, Begin Stop last_sheet (Ok 1))
    ∷ (1, Poll 0 (Turn Stop (order_for last_sheet 1 Running) (Some (8 ∷ [])) None))
    ∷ (1, Answer 0 (Yes (Channels [])) (Ok tt))
    ∷ (2, Poll 1 (Turn Stop (order_for last_sheet 1 Running) None None)) ∷ (2, Answer 1 (Yes (Front 1 Quota)) (Ok tt))
    ∷ (3, Poll 2 (Turn Stop (order_for last_sheet 1 Running) None None))
    ∷ (3, Answer 2 (Yes (Report report)) (Ok tt))
    ∷ (0, Check (Done Completed) (counted_tallies report)) ∷ []

-- the one buffer, in which the front-end's event is sent, and the analyzer gets what stands at its place
abbrev pub counted_history : (buffer : ℕ) → History
counted_history zero =
    (3, Attach [] (Ok 0)) ∷ (3, Request 0 any any All (Ok 0)) ∷ (1, BufferBegin 1 (Ok 0))
    ∷ (2, SendInRun 1 0 sample_event (Ok 0)) ∷ (3, Receive 0 0 (Got 0 1)) ∷ (1, BufferEnd 1 (Ok 1))
    ∷ (3, Accepted 1) ∷ (3, Receive 0 0 (Empty Shut 1)) ∷ (3, Cancel 0 0 (Ok tt)) ∷ []
counted_history (suc n) = []

abbrev pub counted_analyzer : (told : Event) → SessionAnalyzer
counted_analyzer told = record {
  client = 2;
  buffer = 0;
  wanted = record { id = any; mask = any; kind = All };
  got = got_first told ∷ [];
}

abbrev pub counted_session : (told : Event) → Session
counted_session told = record {
  size = λ buffer. 48;
  history = counted_history;
  engine = counted_engine (counted_report told);
  database = sample_database;
  fronts = sample_front ∷ [];
  logger = 0;
  channels = [];
  got = λ buffer. [];
  analyzers = counted_analyzer told ∷ [];
  files = sample_files;
}

abbrev pub counted_run : (told : Event) → SessionRun
counted_run told = record {
  start = 1;
  first = counted_sheet;
  last = last_sheet;
  first_tallies = plain_by_three;
  last_tallies = counted_tallies (counted_report told);
}

-- The analyzer asks a second time in the run, and reports what it got since: nothing.
abbrev pub asked_history : (buffer : ℕ) → History
asked_history zero =
    (3, Attach [] (Ok 0)) ∷ (3, Request 0 any any All (Ok 0)) ∷ (1, BufferBegin 1 (Ok 0))
    ∷ (2, SendInRun 1 0 sample_event (Ok 0)) ∷ (3, Receive 0 0 (Got 0 1)) ∷ (3, Cancel 0 0 (Ok tt))
    ∷ (3, Request 0 any any All (Ok 0)) ∷ (1, BufferEnd 1 (Ok 1)) ∷ (3, Accepted 1)
    ∷ (3, Receive 0 0 (Empty Shut 1)) ∷ (3, Cancel 0 0 (Ok tt)) ∷ []
asked_history (suc n) = []

abbrev pub asked_twice : Session
asked_twice = record (counted_session sample_event) { history = asked_history; engine = counted_engine (report_of []) }

abbrev pub asked_run : SessionRun
asked_run = record (counted_run sample_event) { last_tallies = counted_tallies (report_of []) }
