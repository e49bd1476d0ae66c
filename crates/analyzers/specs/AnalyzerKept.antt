-- What an analyzer keeps of its calls on a buffer and of its turns, whatever the buffer replies.
use Rattle.std.specs.Prelude.{◌≡◌, ◌≤◌, ℕ, ◌+◌, true, false, Contains, List, [], ◌∷◌, ◌++◌, Option, Some, None, ⊤, ◌⊎◌}
use Rattle.daq_types.specs.declared.events.Event.{Event}
use Rattle.daq_types.specs.declared.runs.Order.{Order}
use Rattle.daq_types.specs.declared.runs.Transition.{Transition}
use Rattle.daq_types.specs.declared.runs.Transition.TheVariants.{Start, Stop}
use Rattle.daq_types.specs.declared.runs.Why.{Why}
use Rattle.daq_types.specs.declared.runs.Why.TheVariants.{NotReady, Exists, Fault, BufferRefused}
use Rattle.buffer_core.specs.declared.entry.BufferEntry.{BufferEntry}
use Rattle.buffer_core.specs.declared.entry.BufferEntry.TheVariants.{Attach, Request, Cancel, Receive, Accepted}
use Rattle.buffer_core.specs.Ports.{GotEvent}
use Rattle.event_report.specs.Reports.{Totals, report_of}
use Rattle.member_model.specs.RunEngines.{Answer}
use Rattle.transitions.specs.declared.answers.Answer.TheVariants.{Yes, No}
use Rattle.transitions.specs.declared.answers.Tally.TheVariants.{Plain, Report}
use Rattle.member_model.specs.Turns.{MemberTurn, HasTurn, HasTurnOf, IsAcceptedStart, NoneOpen, current_run, AreEngineTurns}
use Rattle.member_model.specs.SentCalls.{EachCall}
use Rattle.member_model.specs.OwnCalls.{calls_after, gave_number, AreOwnCalls, asks}
use Rattle.member_model.specs.FairCalls.{IsRefusedAsk, attaches_made, AreLoneRequests}
use Rattle.member_model.specs.LoggerKept.{IsStartAnswer}
use Rattle.analyzers.specs.declared.analyzer_run.EventRequest.{EventRequest}
use Rattle.analyzers.specs.declared.analyzer_run.AnalyzerRun.{AnalyzerRun}
use Rattle.analyzers.specs.declared.analyzer_run.AnalyzerStage.{AnalyzerStage}
use Rattle.analyzers.specs.declared.analyzer_run.AnalyzerStage.TheVariants.{Counting, Draining, Drained}
use Rattle.analyzers.specs.AnalyzerTurns.{analyzer_turn}
use Rattle.analyzers.specs.CountedRuns.{CountRequest, IsCounted, IsWhollyCounted, requests_made, accepts_made}

-- a call that sends nothing, makes no mark and detaches no client
abbrev pub IsAnalyzerCall : BufferEntry → Type 0
IsAnalyzerCall (Attach name reply) = ⊤
IsAnalyzerCall (Request client id mask kind reply) = ⊤
IsAnalyzerCall (Cancel client number reply) = ⊤
IsAnalyzerCall (Receive client room reply) = ⊤
IsAnalyzerCall (Accepted reply) = ⊤
IsAnalyzerCall entry = ⊥

-- the calls are such, and name only clients that an attach of the caller's own gave
pub record KeepsAnalyzerCalls (own : List BufferEntry) : Type 0 where
  pub only_reads : EachCall IsAnalyzerCall own
  pub own_calls : AreOwnCalls (calls_after [] own)

-- the client is one that an attach gave; where there is none, no attach gave one
abbrev pub HasOwnClient : Option ℕ → List BufferEntry → Type 0
HasOwnClient None own = (n : ℕ) → gave_number (calls_after [] own) n ≡ false
HasOwnClient (Some client) own = gave_number (calls_after [] own) client ≡ true

-- the client, if there is one, asks for nothing
abbrev pub AsksForNone : Option ℕ → List BufferEntry → Type 0
AsksForNone None own = ⊤
AsksForNone (Some client) own = (n : ℕ) → asks (calls_after [] own) client n ≡ false

-- the request of a client for a run, behind so many earlier ones, and so many questions how many events were taken
abbrev pub count_request : EventRequest → (client number start earlier asked : ℕ) → CountRequest
count_request wanted client number start earlier asked =
    record { wanted = wanted; client = client; number = number; start = start; earlier = earlier; asked = asked }

-- one, where the turn is a start that was accepted
abbrev pub accepted_by : Transition → Option Answer → ℕ
accepted_by Start (Some (Yes tally)) = 1
accepted_by transition answer = 0

-- how many starts among these turns were accepted
abbrev pub starts_accepted : List MemberTurn → ℕ
starts_accepted [] = 0
starts_accepted (t ∷ turns) = accepted_by t.transition t.answer + starts_accepted turns

-- one, where the turn is a stop that waits for its report, or was answered with it
abbrev pub reported_by : Transition → Option Answer → ℕ
reported_by Stop None = 1
reported_by Stop (Some (Yes (Report report))) = 1
reported_by transition answer = 0

-- how many of these turns are such stops
abbrev pub stops_reported : List MemberTurn → ℕ
stops_reported [] = 0
stops_reported (t ∷ turns) = reported_by t.transition t.answer + stops_reported turns

-- the turn stands among these, and of those before it so many are counted
abbrev pub HasTurnBehind : (count : List MemberTurn → ℕ) → List MemberTurn → MemberTurn → (many : ℕ) → Type 0
HasTurnBehind count [] t many = ⊥
HasTurnBehind count (u ∷ turns) t many = ((u ≡ t) × (count turns ≡ many)) ⊎ HasTurnBehind count turns t many

-- A report of a run: its start was accepted, a client counted it wholly by the request of this start, behind as many earlier ones
-- as starts were accepted before this one; the number up to which it counted was asked for behind as many such questions as stops
-- were reported before that of this run, which the report answered; and the report is that of the events with its start number
-- that the client got, in order, from the request on.
pub record IsReportOfRun (wanted : EventRequest) (own : List BufferEntry) (got : List GotEvent) (turns : List MemberTurn) (start : ℕ) (report : Totals) : Type 0 where
  pub begin_turn : MemberTurn
  pub is_start : HasTurnOf turns Start start begin_turn
  pub accepted : begin_turn.answer ≡ Some (Yes Plain)
  pub client : ℕ
  pub number : ℕ
  pub earlier : ℕ
  pub of_start : HasTurnBehind starts_accepted turns begin_turn earlier
  pub asked_before : ℕ
  pub events : List Event
  pub counted : IsWhollyCounted own got (count_request wanted client number start earlier asked_before) events
  pub stop_turn : MemberTurn
  pub is_stop : HasTurnOf turns Stop start stop_turn
  pub answered : stop_turn.answer ≡ Some (Yes (Report report))
  pub of_stop : HasTurnBehind stops_reported turns stop_turn (asked_before + accepts_made counted.reading)
  pub report_is : report ≡ report_of events

-- each turn that was answered with a report is a stop, and the report is that of its run
abbrev pub ReportsHold : EventRequest → List BufferEntry → List GotEvent → List MemberTurn → Type 0
ReportsHold wanted own got turns = (t : MemberTurn) → (report : Totals) → HasTurn turns t → t.answer ≡ Some (Yes (Report report)) →
    (t.transition ≡ Stop) × IsReportOfRun wanted own got turns t.order.start report

-- the latest turn is a stop of this run that is not answered
pub record IsStopOpen (start : ℕ) (turns : List MemberTurn) : Type 0 where
  pub order : Order
  pub dump : Option (List ℕ)
  pub earlier : List MemberTurn
  pub of : order.start ≡ start
  pub latest : turns ≡ analyzer_turn dump Stop order None ∷ earlier

-- These are the events that were counted in this stage. The number up to which it counts was asked for behind as many questions
-- as stops were reported before this one.
abbrev pub StageCounts : AnalyzerStage → List BufferEntry → List GotEvent → List MemberTurn → CountRequest → List Event → Type 0
StageCounts Counting own got turns q events = NoneOpen turns × ((calls : List BufferEntry) × IsCounted own got q calls events)
StageCounts (Draining accepted) own got turns q events =
    (stop : IsStopOpen q.start turns) × ((reading : List BufferEntry) × (draining : List BufferEntry) ×
    IsCounted own got q (reading ++ Accepted accepted ∷ draining) events ×
    (q.asked + accepts_made reading ≡ stops_reported stop.earlier))
StageCounts Drained own got turns q events =
    (stop : IsStopOpen q.start turns) × AsksForNone (Some q.client) own × (counted : IsWhollyCounted own got q events) ×
    (q.asked + accepts_made counted.reading ≡ stops_reported stop.earlier)

-- The run is counted, by the request of its start: that was accepted, and the report is that of the events that were counted.
pub record CountsRun (wanted : EventRequest) (client : Option ℕ) (r : AnalyzerRun) (own : List BufferEntry) (got : List GotEvent) (turns : List MemberTurn) : Type 0 where
  pub client_is : client ≡ Some r.client
  pub begin_turn : MemberTurn
  pub is_start : HasTurnOf turns Start r.start begin_turn
  pub accepted : begin_turn.answer ≡ Some (Yes Plain)
  pub earlier : ℕ
  pub of_start : HasTurnBehind starts_accepted turns begin_turn earlier
  pub asked_before : ℕ
  pub events : List Event
  pub report_is : r.report ≡ report_of events
  pub stage_is : StageCounts r.stage own got turns (count_request wanted r.client r.request r.start earlier asked_before) events

abbrev pub RunCounts : EventRequest → (client : Option ℕ) → Option AnalyzerRun → List BufferEntry → List GotEvent → List MemberTurn → Type 0
RunCounts wanted client None own got turns = NoneOpen turns × AsksForNone client own
RunCounts wanted client (Some r) own got turns = CountsRun wanted client r own got turns

-- An analyzer that wants these events, with its client, in this run or in none, with its own calls, what it got, and its turns: it
-- has made one request for each start that it accepted, and no others; and it has asked once, at each stop of a run that it
-- counted, how many events the buffer took, and never else.
pub record CountsSoFar (wanted : EventRequest) (client : Option ℕ) (run : Option AnalyzerRun) (own : List BufferEntry) (got : List GotEvent) (turns : List MemberTurn) : Type 0 where
  pub calls : KeepsAnalyzerCalls own
  pub own_client : HasOwnClient client own
  pub once : requests_made own ≡ starts_accepted turns
  pub asked : accepts_made own ≡ stops_reported turns
  pub reports : ReportsHold wanted own got turns
  pub counts : RunCounts wanted client run own got turns

-- Refusals.

-- one, where there is a client
abbrev pub one_attached : Option ℕ → ℕ
one_attached None = 0
one_attached (Some client) = 1

-- one of these calls, to attach a client or to make a request, was refused
pub record HasRefusedCall (own : List BufferEntry) : Type 0 where
  pub entry : BufferEntry
  pub among : Contains own entry
  pub refused : IsRefusedAsk entry

-- Why a start may be refused: as not ready; or for the buffer, where that refused a call.
abbrev pub IsAnalyzerReason : List BufferEntry → Why → Type 0
IsAnalyzerReason own NotReady = ⊤
IsAnalyzerReason own BufferRefused = HasRefusedCall own
IsAnalyzerReason own (Exists channel) = ⊥
IsAnalyzerReason own (Fault channel) = ⊥

-- each turn that was refused was refused for such a reason
abbrev pub RefusalsHold : List BufferEntry → List MemberTurn → Type 0
RefusalsHold own turns = (t : MemberTurn) → (why : Why) → HasTurn turns t → t.answer ≡ Some (No why) → IsAnalyzerReason own why

-- What an analyzer with this client, or with none, keeps to that gives its buffer no cause to refuse a call: it attached no client
-- but that, and made each request while the client had none. Its refusals of turns are as above.
pub record AnalyzerAsks (client : Option ℕ) (own : List BufferEntry) (turns : List MemberTurn) : Type 0 where
  pub attaches : attaches_made own ≤ one_attached client
  pub alone : AreLoneRequests (calls_after [] own)
  pub refusals : RefusalsHold own turns

-- An analyzer between its calls.
pub record AnalyzerStands (wanted : EventRequest) (client : Option ℕ) (run : Option AnalyzerRun) (own : List BufferEntry) (got : List GotEvent) (turns : List MemberTurn) : Type 0 where
  pub holds : CountsSoFar wanted client run own got turns
  pub asks : AnalyzerAsks client own turns

-- Turns.

-- each start that was answered was accepted plainly, or refused
abbrev pub StartsPlain : List MemberTurn → Type 0
StartsPlain turns = (start : MemberTurn) → (answer : Answer) → HasTurn turns start → start.transition ≡ Start →
    start.answer ≡ Some answer → IsStartAnswer answer

-- each answered stop of a run whose start was accepted was answered with a report
abbrev pub StopsReported : List MemberTurn → Type 0
StopsReported turns = (start : ℕ) → (begin stop : MemberTurn) → (answer : Answer) → IsAcceptedStart turns start begin →
    HasTurnOf turns Stop start stop → stop.answer ≡ Some answer → (report : Totals) × (answer ≡ Yes (Report report))

-- the analyzer counts the run with this number
abbrev pub CountsStart : Option AnalyzerRun → (start : ℕ) → Type 0
CountsStart None start = ⊥
CountsStart (Some r) start = r.start ≡ start

-- while the run is on whose start it accepted last, it counts that run
abbrev pub CountsCurrent : Option AnalyzerRun → List MemberTurn → Type 0
CountsCurrent run turns = (start : ℕ) → (begin : MemberTurn) → current_run turns ≡ Some start → IsAcceptedStart turns start begin → CountsStart run start

-- What an analyzer in this run or in none has told at its turns.
pub record AnalyzerTells (run : Option AnalyzerRun) (turns : List MemberTurn) : Type 0 where
  pub starts : StartsPlain turns
  pub stops : AreEngineTurns turns → StopsReported turns
  pub current : AreEngineTurns turns → CountsCurrent run turns

-- What holds at every moment: on its port the analyzer sends nothing and makes no mark, and names only clients that an attach of
-- its own gave; it has made one request for each start that it accepted, and no others; it has asked how many events its buffer
-- took as often as it was given a stop of a run that it counted; each report that it told is that of a run whose start it
-- accepted, from the request of that start on; and it told one at each stop of such a run.
pub record KeepsAnalyzer (wanted : EventRequest) (own : List BufferEntry) (got : List GotEvent) (turns : List MemberTurn) : Type 0 where
  pub calls : KeepsAnalyzerCalls own
  pub once : requests_made own ≡ starts_accepted turns
  pub asked : accepts_made own ≡ stops_reported turns
  pub reports : ReportsHold wanted own got turns
  pub starts : StartsPlain turns
  pub stops : AreEngineTurns turns → StopsReported turns
