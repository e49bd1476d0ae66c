-- The reports among more calls and more turns.
use Rattle.std.specs.Prelude.{◌≡◌, ◌≢◌, ℕ, ◌+◌, List, ◌∷◌, ◌++◌, Option, Some, None}
use Rattle.std.proofs.Common.{ap, subst, ◌∙◌, inl, inr, arith}
use Rattle.daq_types.specs.declared.events.Event.{Event}
use Rattle.daq_types.specs.declared.runs.Transition.TheVariants.{Start, Stop}
use Rattle.buffer_core.specs.declared.entry.BufferEntry.{BufferEntry}
use Rattle.buffer_core.specs.Ports.{GotEvent}
use Rattle.event_report.specs.Reports.{Totals}
use Rattle.transitions.specs.declared.answers.Answer.TheVariants.{Yes}
use Rattle.transitions.specs.declared.answers.Tally.TheVariants.{Report}
use Rattle.member_model.specs.Turns.{MemberTurn, HasTurnOf, HasAnswer, NoneOpen}
use Rattle.member_model.proofs.TurnLaws.{HasTurnOf-more}
use Rattle.analyzers.specs.declared.analyzer_run.EventRequest.{EventRequest}
use Rattle.analyzers.specs.declared.analyzer_run.AnalyzerRun.{AnalyzerRun}
use Rattle.analyzers.specs.declared.analyzer_run.AnalyzerStage.{AnalyzerStage}
use Rattle.analyzers.specs.declared.analyzer_run.AnalyzerStage.TheVariants.{Counting, Draining, Drained}
use Rattle.analyzers.specs.CountedRuns.{CountRequest, accepts_made}
use Rattle.analyzers.specs.AnalyzerKept.{accepted_by, reported_by, starts_accepted, stops_reported, HasTurnBehind, IsReportOfRun, ReportsHold, IsStopOpen, StageCounts, RunCounts, CountsSoFar, count_request}
use Rattle.analyzers.proofs.CountSteps.{wholly_push}

-- one report

report_calls : (wanted : EventRequest) (own : List BufferEntry) (got : List GotEvent) (turns : List MemberTurn) (start : ℕ) (report : Totals) (more : List BufferEntry) (gs : List GotEvent) → IsReportOfRun wanted own got turns start report
    → IsReportOfRun wanted (own ++ more) (got ++ gs) turns start report
unfolding wholly_push
report_calls wanted own got turns start report more gs is = record {
  begin_turn = is.begin_turn;
  is_start = is.is_start;
  accepted = is.accepted;
  client = is.client;
  number = is.number;
  earlier = is.earlier;
  of_start = is.of_start;
  asked_before = is.asked_before;
  events = is.events;
  counted = wholly_push own got (count_request wanted is.client is.number start is.earlier is.asked_before) is.events more gs is.counted;
  stop_turn = is.stop_turn;
  is_stop = is.is_stop;
  answered = is.answered;
  of_stop = is.of_stop;
  report_is = is.report_is;
}

pub report_turns : (wanted : EventRequest) (own : List BufferEntry) (got : List GotEvent) (turns later : List MemberTurn) (start : ℕ) (report : Totals) → ((t : MemberTurn) → HasTurnOf turns Start start t → HasTurnOf later Start start t)
    → ((t : MemberTurn) (starts : ℕ) → t.transition ≡ Start → HasTurnBehind starts_accepted turns t starts → HasTurnBehind starts_accepted later t starts)
    → ((t : MemberTurn) → t.answer ≡ Some (Yes (Report report)) → HasTurnOf turns Stop start t → HasTurnOf later Stop start t)
    → ((t : MemberTurn) (stops : ℕ) → t.answer ≡ Some (Yes (Report report)) → HasTurnBehind stops_reported turns t stops → HasTurnBehind stops_reported later t stops)
    → IsReportOfRun wanted own got turns start report → IsReportOfRun wanted own got later start report
report_turns wanted own got turns later start report more behind more_stop behind_stop is = record {
  begin_turn = is.begin_turn;
  is_start = more is.begin_turn is.is_start;
  accepted = is.accepted;
  client = is.client;
  number = is.number;
  earlier = is.earlier;
  of_start = behind is.begin_turn is.earlier is.is_start.is is.of_start;
  asked_before = is.asked_before;
  events = is.events;
  counted = is.counted;
  stop_turn = is.stop_turn;
  is_stop = more_stop is.stop_turn is.answered is.is_stop;
  answered = is.answered;
  of_stop = behind_stop is.stop_turn (is.asked_before + accepts_made is.counted.reading) is.answered is.of_stop;
  report_is = is.report_is;
}

-- all reports

pub reports_calls : (wanted : EventRequest) (own : List BufferEntry) (got : List GotEvent) (turns : List MemberTurn) (more : List BufferEntry) (gs : List GotEvent) → ReportsHold wanted own got turns → ReportsHold wanted (own ++ more) (got ++ gs) turns
reports_calls wanted own got turns more gs hold = λ t report here is.
    let old = hold t report here is in (old.0, report_calls wanted own got turns t.order.start report more gs old.1)

-- a turn more that is not answered with a report
pub reports_more : (wanted : EventRequest) (own : List BufferEntry) (got : List GotEvent) (turns : List MemberTurn) (t : MemberTurn) → ((report : Totals) → t.answer ≢ Some (Yes (Report report))) → ReportsHold wanted own got turns → ReportsHold wanted own got (t ∷ turns)
reports_more wanted own got turns t other hold = λ u report here is. elim here as (λ w. (u.transition ≡ Stop) × IsReportOfRun wanted own got (t ∷ turns) u.order.start report) [
  | inl same ↦ absurd (other report (ap (λ (v : MemberTurn). v.answer) same ∙ is))
  | inr before ↦
      let old = hold u report before is in
      (old.0, report_turns wanted own got turns (t ∷ turns) u.order.start report (λ v has. HasTurnOf-more t has) (λ v starts is_start has. inr has) (λ v told has. HasTurnOf-more t has) (λ v stops told has. inr has) old.1)
]

-- Turns that leave the run.

-- no stop is open where the latest turn was answered
pub none_stops : (start : ℕ) (turns : List MemberTurn) → NoneOpen turns → IsStopOpen start turns → ⊥
none_stops start turns none stop = subst (λ (ts : List MemberTurn). NoneOpen ts) stop.latest none

stage_more : (stage : AnalyzerStage) (own : List BufferEntry) (got : List GotEvent) (turns : List MemberTurn) (t : MemberTurn) (q : CountRequest) (events : List Event) → NoneOpen turns → HasAnswer t.answer → StageCounts stage own got turns q events
    → StageCounts stage own got (t ∷ turns) q events
stage_more Counting own got turns t q events none answer counts = (answer, counts.1)
stage_more (Draining accepted) own got turns t q events none answer counts = absurd (none_stops q.start turns none counts.0)
stage_more Drained own got turns t q events none answer counts = absurd (none_stops q.start turns none counts.0)

run_more : (wanted : EventRequest) (client : Option ℕ) (run : Option AnalyzerRun) (own : List BufferEntry) (got : List GotEvent) (turns : List MemberTurn) (t : MemberTurn) → NoneOpen turns → HasAnswer t.answer → RunCounts wanted client run own got turns
    → RunCounts wanted client run own got (t ∷ turns)
run_more wanted client None own got turns t none answer counts = (answer, counts.1)
run_more wanted client (Some r) own got turns t none answer counts = record {
  client_is = counts.client_is;
  begin_turn = counts.begin_turn;
  is_start = HasTurnOf-more t counts.is_start;
  accepted = counts.accepted;
  earlier = counts.earlier;
  of_start = inr counts.of_start;
  asked_before = counts.asked_before;
  events = counts.events;
  report_is = counts.report_is;
  stage_is = stage_more r.stage own got turns t (count_request wanted r.client r.request r.start counts.earlier counts.asked_before) counts.events none answer counts.stage_is;
}

-- a turn that is answered at once, without a report, and leaves the run; no start that is accepted, and no stop of a run
pub plain_more : (wanted : EventRequest) (client : Option ℕ) (run : Option AnalyzerRun) (own : List BufferEntry) (got : List GotEvent) (turns : List MemberTurn) (t : MemberTurn) → NoneOpen turns → HasAnswer t.answer
    → accepted_by t.transition t.answer ≡ 0 → reported_by t.transition t.answer ≡ 0 → ((report : Totals) → t.answer ≢ Some (Yes (Report report))) → CountsSoFar wanted client run own got turns → CountsSoFar wanted client run own got (t ∷ turns)
plain_more wanted client run own got turns t none answer begins waits other stands = record {
  calls = stands.calls;
  own_client = stands.own_client;
  once = omega (arith, stands.once, begins);
  asked = omega (arith, stands.asked, waits);
  reports = reports_more wanted own got turns t other stands.reports;
  counts = run_more wanted client run own got turns t none answer stands.counts;
}
