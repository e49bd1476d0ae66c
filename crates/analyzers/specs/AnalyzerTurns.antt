-- What an analyzer does at its turns: the calls that it makes, in order, its answer, and the run behind it.
use Rattle.std.specs.Prelude.{◌≡◌, ℕ, ◌==◌, Bool, true, false, codes, List, Option, Some, None, Result, Ok, Err}
use Rattle.daq_types.specs.declared.runs.Order.{Order}
use Rattle.daq_types.specs.declared.runs.Transition.{Transition}
use Rattle.daq_types.specs.declared.runs.Transition.TheVariants.{Start, Stop, Pause, Resume, StartAbort}
use Rattle.daq_types.specs.declared.runs.Why.TheVariants.{NotReady, BufferRefused}
use Rattle.buffer_core.specs.declared.replies.NoSlot.{NoSlot}
use Rattle.buffer_core.specs.declared.replies.RequestRefusal.{RequestRefusal}
use Rattle.buffer_core.specs.declared.entry.BufferEntry.TheVariants.{Attach, Request, Accepted}
use Rattle.buffer_core.specs.Ports.{Access, Calls}
use Rattle.event_report.specs.Reports.{Totals}
use Rattle.member_model.specs.RunEngines.{Answer}
use Rattle.transitions.specs.declared.answers.Answer.TheVariants.{Yes, No}
use Rattle.transitions.specs.declared.answers.Tally.TheVariants.{Plain, Report}
use Rattle.member_model.specs.Turns.{MemberTurn}
use Rattle.analyzers.specs.declared.analyzer_run.EventRequest.{EventRequest}
use Rattle.analyzers.specs.declared.analyzer_run.AnalyzerRun.{AnalyzerRun}
use Rattle.analyzers.specs.declared.analyzer_run.AnalyzerStage.{AnalyzerStage}
use Rattle.analyzers.specs.declared.analyzer_run.AnalyzerStage.TheVariants.{Counting, Draining, Drained}
use Rattle.analyzers.specs.Analyzers.{AnalyzerAt, run_in_stage, CancelsRun}

-- the turn that the analyzer was given; a dump that came with it is passed over
abbrev pub analyzer_turn : (dump : Option (List ℕ)) → Transition → Order → Option Answer → MemberTurn
analyzer_turn dump transition order answer = record { transition = transition; order = order; dump = dump; answer = answer }

-- the name under which an analyzer attaches its client
abbrev pub analyzer_name : List ℕ
analyzer_name = codes "Analyzer"

-- nothing is called, and nothing changes
abbrev pub StaysAt : AnalyzerAt → AnalyzerAt → Type 0
StaysAt a b = (b.client ≡ a.client) × (b.run ≡ a.run) × (b.port ≡ a.port)

-- Starts.

abbrev pub CancelsIn : AnalyzerStage → AnalyzerRun → Access → Access → Type 0
CancelsIn Drained r a b = b ≡ a
CancelsIn Counting r a b = CancelsRun r a b
CancelsIn (Draining accepted) r a b = CancelsRun r a b

-- the run, if there is one, is dropped: its request is cancelled, if that stands
abbrev pub DropsRun : Option AnalyzerRun → Access → Access → Type 0
DropsRun None a b = b ≡ a
DropsRun (Some r) a b = CancelsIn r.stage r a b

-- where there is a client nothing is called; where there is none, one is attached, or that is refused
abbrev pub GetsClient : (client later : Option ℕ) → Access → Access → Type 0
GetsClient (Some client) later a b = (later ≡ Some client) × (b ≡ a)
GetsClient None (Some client) a b = Calls a b (Attach analyzer_name (Ok client))
GetsClient None None a b = (why : NoSlot) × Calls a b (Attach analyzer_name (Err why))

-- a new run of this start number
abbrev pub begun_count : (start client request : ℕ) → Totals → AnalyzerRun
begun_count start client request blank = record { start = start; client = client; request = request; stage = Counting; report = blank }

-- by the reply to its request a run is begun with the blank report, or the start is refused
abbrev pub BeginsBy : Result ℕ RequestRefusal → (start client : ℕ) → Totals → (run : Option AnalyzerRun) → Answer → Type 0
BeginsBy (Ok request) start client blank run answer = (run ≡ Some (begun_count start client request blank)) × (answer ≡ Yes Plain)
BeginsBy (Err why) start client blank run answer = (run ≡ None) × (answer ≡ No BufferRefused)

-- one request of the client is made, for what is wanted; without a client none is made
abbrev pub RequestsRun : EventRequest → (start : ℕ) → Totals → (client : Option ℕ) → (run : Option AnalyzerRun) → Answer → Access → Access → Type 0
RequestsRun wanted start blank None run answer a b = (run ≡ None) × (answer ≡ No BufferRefused) × (b ≡ a)
RequestsRun wanted start blank (Some client) run answer a b =
    (reply : Result ℕ RequestRefusal) × Calls a b (Request client wanted.id wanted.mask wanted.kind reply) × BeginsBy reply start client blank run answer

-- A start: a run that is still there is dropped, a client is attached where there is none, and the request is made. The
-- start is refused where the buffer refuses one of both.
pub record StartsCount (wanted : EventRequest) (start : ℕ) (blank : Totals) (a b : AnalyzerAt) (answer : Answer) : Type 0 where
  pub dropped : Access
  pub attached : Access
  pub drops : DropsRun a.run a.port dropped
  pub client : GetsClient a.client b.client dropped attached
  pub request : RequestsRun wanted start blank b.client b.run answer attached b.port

-- a start without a blank report is refused
abbrev pub StartsAnalyzer : Option Totals → EventRequest → (start : ℕ) → (a b : AnalyzerAt) → Answer → Type 0
StartsAnalyzer None wanted start a b answer = (answer ≡ No NotReady) × StaysAt a b
StartsAnalyzer (Some blank) wanted start a b answer = StartsCount wanted start blank a b answer

-- Stops.

-- it is asked, once, how many events the buffer took so far
abbrev pub StopsRun : AnalyzerStage → (r later : AnalyzerRun) → Access → Access → Type 0
StopsRun Counting r later a b = (accepted : ℕ) × Calls a b (Accepted accepted) × (later ≡ run_in_stage (Draining accepted) r)
StopsRun (Draining accepted) r later a b = (later ≡ r) × (b ≡ a)
StopsRun Drained r later a b = (later ≡ r) × (b ≡ a)

-- the run is stopped, and its answer has to wait
pub record StopsCount (r : AnalyzerRun) (a b : AnalyzerAt) (answer : Option Answer) : Type 0 where
  pub later : AnalyzerRun
  pub answer_is : answer ≡ None
  pub client : b.client ≡ a.client
  pub run : b.run ≡ Some later
  pub stops : StopsRun r.stage r later a.port b.port

abbrev pub StopsOwn : (own : Bool) → AnalyzerRun → (a b : AnalyzerAt) → Option Answer → Type 0
StopsOwn true r a b answer = StopsCount r a b answer
StopsOwn false r a b answer = (answer ≡ Some (Yes Plain)) × StaysAt a b

-- A stop of the run that is counted waits for its answer; any other is answered at once.
abbrev pub StopsAnalyzer : Option AnalyzerRun → (start : ℕ) → (a b : AnalyzerAt) → Option Answer → Type 0
StopsAnalyzer None start a b answer = (answer ≡ Some (Yes Plain)) × StaysAt a b
StopsAnalyzer (Some r) start a b answer = StopsOwn (r.start == start) r a b answer

-- What a turn does. A start-abort drops the run, and a pause or resume does nothing.
abbrev pub TurnsBy : Transition → EventRequest → Order → (blank : Option Totals) → (a b : AnalyzerAt) → Option Answer → Type 0
TurnsBy Start wanted order blank a b answer = (given : Answer) × (answer ≡ Some given) × StartsAnalyzer blank wanted order.start a b given
TurnsBy Stop wanted order blank a b answer = StopsAnalyzer a.run order.start a b answer
TurnsBy Pause wanted order blank a b answer = (answer ≡ Some (Yes Plain)) × StaysAt a b
TurnsBy Resume wanted order blank a b answer = (answer ≡ Some (Yes Plain)) × StaysAt a b
TurnsBy StartAbort wanted order blank a b answer =
    (answer ≡ Some (Yes Plain)) × (b.client ≡ a.client) × (b.run ≡ None) × DropsRun a.run a.port b.port

-- The answer to the stop that waits.

abbrev pub report_in : AnalyzerStage → Totals → Option Answer
report_in Counting report = None
report_in (Draining accepted) report = None
report_in Drained report = Some (Yes (Report report))

-- the report, once the client is drained
abbrev pub report_answer : Option AnalyzerRun → Option Answer
report_answer None = None
report_answer (Some r) = report_in r.stage r.report

-- the run is over once its stop is answered
abbrev pub run_reported : Option AnalyzerRun → Option Answer → Option AnalyzerRun
run_reported run None = run
run_reported run (Some answer) = None
