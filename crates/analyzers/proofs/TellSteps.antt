-- What an analyzer tells at its turns, as turns are added.
use Rattle.std.specs.Prelude.{◌≡◌, ◌≢◌, ℕ, ◌==◌, Bool, true, false, List, ◌∷◌, Option, Some, None, Result, Ok, Err, refl}
use Rattle.std.proofs.Common.{ap, sym, subst, ◌∙◌, inl, inr}
use Rattle.std.proofs.lemmas.Bool.{eqb-false}
use Rattle.daq_types.specs.declared.events.Event.{Event}
use Rattle.daq_types.specs.declared.runs.Order.{Order}
use Rattle.daq_types.specs.declared.runs.Transition.{Transition}
use Rattle.daq_types.specs.declared.runs.Transition.TheVariants.{Start, Stop, Pause, Resume, StartAbort}
use Rattle.daq_types.specs.declared.runs.Why.{Why}
use Rattle.daq_types.specs.declared.runs.Why.TheVariants.{NotReady, BufferRefused}
use Rattle.buffer_core.specs.declared.replies.Received.{Received}
use Rattle.buffer_core.specs.declared.replies.Received.TheVariants.{Got, Empty, NoClient, SmallBuf}
use Rattle.buffer_core.specs.declared.replies.RequestRefusal.{RequestRefusal}
use Rattle.buffer_core.specs.declared.entry.BufferEntry.{BufferEntry}
use Rattle.buffer_core.specs.Ports.{Access, GotEvent}
use Rattle.event_report.specs.Reports.{Totals}
use Rattle.member_model.specs.RunEngines.{Answer}
use Rattle.transitions.specs.declared.answers.Answer.TheVariants.{Yes, No}
use Rattle.transitions.specs.declared.answers.Tally.TheVariants.{Plain, Report}
use Rattle.member_model.specs.Turns.{MemberTurn, IsAcceptedStart, IsNewStart, IsOfRun, IsNextTurn, AreEngineTurns, current_run, latest_answered}
use Rattle.member_model.proofs.TurnLaws.{HasTurnOf-earlier}
use Rattle.member_model.specs.LoggerKept.{IsStartAnswer}
use Rattle.analyzers.specs.declared.analyzer_pull.AnalyzerPull.{AnalyzerPull}
use Rattle.analyzers.specs.declared.analyzer_run.EventRequest.{EventRequest}
use Rattle.analyzers.specs.declared.analyzer_run.AnalyzerRun.{AnalyzerRun}
use Rattle.analyzers.specs.declared.analyzer_run.AnalyzerStage.{AnalyzerStage}
use Rattle.analyzers.specs.declared.analyzer_run.AnalyzerStage.TheVariants.{Counting, Draining, Drained}
use Rattle.analyzers.specs.Analyzers.{AnalyzerAt, run_in_stage}
use Rattle.analyzers.specs.AnalyzerTurns.{analyzer_turn, BeginsBy, RequestsRun, StartsAnalyzer, StopsOwn, StopsAnalyzer, TurnsBy, begun_count, report_in, report_answer, run_reported}
use Rattle.analyzers.specs.AnalyzerPulls.{CountsOwn, CountsReply, EndsReading, CountsOnce, CountsIn, PullsBy, drains_by}
use Rattle.analyzers.specs.CountedRuns.{CountRequest}
use Rattle.analyzers.specs.AnalyzerKept.{IsStopOpen, StageCounts, CountsRun, CountsSoFar, count_request, StopsReported, CountsStart, CountsCurrent, AnalyzerTells}

-- One turn more.

-- where the new turn is an answered stop of a run whose start was accepted, it has a report
abbrev TellsReport : List MemberTurn → MemberTurn → Type 0
TellsReport turns t =
    AreEngineTurns (t ∷ turns) → t.transition ≡ Stop → (begin : MemberTurn) (answer : Answer) → IsAcceptedStart turns t.order.start begin → t.answer ≡ Some answer → (report : Totals) × (answer ≡ Yes (Report report))

-- where it is an answered start, it was accepted plainly, or refused
abbrev AnswersPlain : MemberTurn → Type 0
AnswersPlain t = (answer : Answer) → t.transition ≡ Start → t.answer ≡ Some answer → IsStartAnswer answer

new_start : (t : MemberTurn) (turns : List MemberTurn) → AreEngineTurns (t ∷ turns) → t.transition ≡ Start → IsNewStart t.order.start turns
new_start t turns are starts = subst (λ (k : Transition). IsNextTurn k t.order.start turns) starts are.0

-- an accepted start is an earlier turn than one that is no start
accepted_earlier : (t : MemberTurn) (turns : List MemberTurn) (start : ℕ) (begin : MemberTurn) → t.transition ≢ Start → IsAcceptedStart (t ∷ turns) start begin → IsAcceptedStart turns start begin
accepted_earlier t turns start begin other is = record { is_start = HasTurnOf-earlier is.is_start other; accepted = is.accepted }

stops_more : (turns : List MemberTurn) (t : MemberTurn) → AreEngineTurns (t ∷ turns) → StopsReported turns → TellsReport turns t → StopsReported (t ∷ turns)
stops_more turns t are told tells start begin stop answer accepted stops is = elim stops.stands as (λ w. (report : Totals) × (answer ≡ Yes (Report report))) [
  | inl same ↦
      let stop_is : t.transition ≡ Stop = ap (λ (v : MemberTurn). v.transition) same ∙ stops.is in
      let number : start ≡ t.order.start = sym (ap (λ (v : MemberTurn). v.order.start) same ∙ stops.of) in
      let other : t.transition ≢ Start = λ starts. absurd (let never : Stop ≡ Start = sym stop_is ∙ starts in cc (never)) in
      tells are stop_is begin answer (subst (λ (n : ℕ). IsAcceptedStart turns n begin) number (accepted_earlier t turns start begin other accepted)) (ap (λ (v : MemberTurn). v.answer) same ∙ is)
  | inr before ↦ elim accepted.is_start.stands as (λ w. (report : Totals) × (answer ≡ Yes (Report report))) [
    | inl new ↦
        let starts : t.transition ≡ Start = ap (λ (v : MemberTurn). v.transition) new ∙ accepted.is_start.is in
        let number : t.order.start ≡ start = ap (λ (v : MemberTurn). v.order.start) new ∙ accepted.is_start.of in
        absurd ((new_start t turns are starts).1 stop before (stops.of ∙ sym number))
    | inr old ↦
        told start begin stop answer (record { is_start = record { stands = old; is = accepted.is_start.is; of = accepted.is_start.of }; accepted = accepted.accepted }) (record { stands = before; is = stops.is; of = stops.of }) is
  ]
]

tells_more : (run later : Option AnalyzerRun) (turns : List MemberTurn) (t : MemberTurn) → AnalyzerTells run turns → AnswersPlain t → TellsReport turns t → (AreEngineTurns (t ∷ turns) → CountsCurrent later (t ∷ turns)) → AnalyzerTells later (t ∷ turns)
tells_more run later turns t tells plain report current = record {
  starts = λ u answer stands is told. elim stands as (λ w. IsStartAnswer answer) [
    | inl same ↦ plain answer (ap (λ (v : MemberTurn). v.transition) same ∙ is) (ap (λ (v : MemberTurn). v.answer) same ∙ told)
    | inr before ↦ tells.starts u answer before is told
  ];
  stops = λ are. stops_more turns t are (tells.stops are.1) report;
  current = current;
}

current_more : (run : Option AnalyzerRun) (t : MemberTurn) (turns : List MemberTurn) → t.transition ≢ Start → current_run (t ∷ turns) ≡ current_run turns → CountsCurrent run turns → CountsCurrent run (t ∷ turns)
current_more run t turns other same current start begin on accepted = current start begin (sym same ∙ on) (accepted_earlier t turns start begin other accepted)

current_none : (run : Option AnalyzerRun) (turns : List MemberTurn) → current_run turns ≡ None → CountsCurrent run turns
current_none run turns none start begin on accepted = absurd (let e : None ≡ Some start = sym none ∙ on in cc (e))

-- a stop whose start was accepted is of the run that is counted
stop_counts : (run : Option AnalyzerRun) (turns : List MemberTurn) (start : ℕ) (begin : MemberTurn) → CountsCurrent run turns → IsOfRun start turns → IsAcceptedStart turns start begin → CountsStart run start
stop_counts run turns start begin current of_run accepted = elim of_run as (λ w. CountsStart run start) [
  | inl on ↦ current start begin on accepted
  | inr none ↦ absurd (none begin accepted.is_start.stands accepted.is_start.is accepted.is_start.of)
]

-- Starts.

refused_start : (dump : Option (List ℕ)) (run later : Option AnalyzerRun) (order : Order) (why : Why) (turns : List MemberTurn) → AnalyzerTells run turns → AnalyzerTells later (analyzer_turn dump Start order (Some (No why)) ∷ turns)
refused_start dump run later order why turns tells =
    let t : MemberTurn = analyzer_turn dump Start order (Some (No why)) in
    tells_more run later turns t tells
    (λ answer starts told. let e : No why ≡ answer = cc (told) in subst IsStartAnswer e tt)
    (λ are stop. absurd (cc (stop)))
    (λ are start begin on accepted.
    let number : order.start ≡ start = cc (on) in
    elim accepted.is_start.stands as (λ w. CountsStart later start) [
      | inl same ↦ absurd (let e : Some (No why) ≡ Some (Yes Plain) = ap (λ (v : MemberTurn). v.answer) same ∙ accepted.accepted in cc (e))
      | inr before ↦ absurd (are.0.1 begin before (accepted.is_start.of ∙ sym number))
    ])

begun_start : (dump : Option (List ℕ)) (run : Option AnalyzerRun) (r : AnalyzerRun) (order : Order) (turns : List MemberTurn) → r.start ≡ order.start → AnalyzerTells run turns → AnalyzerTells (Some r) (analyzer_turn dump Start order (Some (Yes Plain)) ∷ turns)
begun_start dump run r order turns is tells =
    let t : MemberTurn = analyzer_turn dump Start order (Some (Yes Plain)) in
    tells_more run (Some r) turns t tells
    (λ answer starts told. let e : Yes Plain ≡ answer = cc (told) in subst IsStartAnswer e refl)
    (λ are stop. absurd (cc (stop)))
    (λ are start begin on accepted. let number : order.start ≡ start = cc (on) in is ∙ number)

begin_tells : (dump : Option (List ℕ)) (reply : Result ℕ RequestRefusal) (run later : Option AnalyzerRun) (client : ℕ) (blank : Totals) (order : Order) (answer : Answer) (turns : List MemberTurn) → BeginsBy reply order.start client blank later answer → AnalyzerTells run turns
    → AnalyzerTells later (analyzer_turn dump Start order (Some answer) ∷ turns)
begin_tells dump (Ok number) run later client blank order answer turns begins tells = rw (begins.0, begins.1) (begun_start dump run (begun_count order.start client number blank) order turns refl tells)
begin_tells dump (Err why) run later client blank order answer turns begins tells = rw (begins.0, begins.1) (refused_start dump run None order BufferRefused turns tells)

request_tells : (dump : Option (List ℕ)) (wanted : EventRequest) (client : Option ℕ) (run later : Option AnalyzerRun) (blank : Totals) (order : Order) (answer : Answer) (a b : Access) (turns : List MemberTurn) → RequestsRun wanted order.start blank client later answer a b → AnalyzerTells run turns
    → AnalyzerTells later (analyzer_turn dump Start order (Some answer) ∷ turns)
request_tells dump wanted None run later blank order answer a b turns requests tells = rw (requests.0, requests.1) (refused_start dump run None order BufferRefused turns tells)
request_tells dump wanted (Some client) run later blank order answer a b turns requests tells = begin_tells dump requests.0 run later client blank order answer turns requests.2 tells

start_tells : (dump : Option (List ℕ)) (blank : Option Totals) (wanted : EventRequest) (order : Order) (a b : AnalyzerAt) (answer : Answer) (turns : List MemberTurn) → StartsAnalyzer blank wanted order.start a b answer → AnalyzerTells a.run turns
    → AnalyzerTells b.run (analyzer_turn dump Start order (Some answer) ∷ turns)
start_tells dump None wanted order a b answer turns starts tells = rw starts.0 (refused_start dump a.run b.run order NotReady turns tells)
start_tells dump (Some blank) wanted order a b answer turns starts tells = request_tells dump wanted b.client a.run b.run blank order answer starts.attached b.port turns starts.request tells

-- Stops.

-- a stop that is answered plainly is of no run whose start was accepted
plain_stop : (dump : Option (List ℕ)) (run : Option AnalyzerRun) (order : Order) (turns : List MemberTurn) → (CountsStart run order.start → ⊥) → AnalyzerTells run turns → AnalyzerTells run (analyzer_turn dump Stop order (Some (Yes Plain)) ∷ turns)
plain_stop dump run order turns other tells =
    let t : MemberTurn = analyzer_turn dump Stop order (Some (Yes Plain)) in
    tells_more run run turns t tells
    (λ answer starts. absurd (cc (starts)))
    (λ are stop begin answer accepted told. absurd (other (stop_counts run turns order.start begin (tells.current are.1) are.0 accepted)))
    (λ are. current_none run (t ∷ turns) refl)

open_stop : (dump : Option (List ℕ)) (run later : Option AnalyzerRun) (order : Order) (turns : List MemberTurn) → AnalyzerTells run turns → AnalyzerTells later (analyzer_turn dump Stop order None ∷ turns)
open_stop dump run later order turns tells =
    let t : MemberTurn = analyzer_turn dump Stop order None in
    tells_more run later turns t tells
    (λ answer starts. absurd (cc (starts)))
    (λ are stop begin answer accepted told. absurd (cc (told)))
    (λ are. current_none later (t ∷ turns) refl)

own_stop : (dump : Option (List ℕ)) (is_own : Bool) (r : AnalyzerRun) (order : Order) (a b : AnalyzerAt) (answer : Option Answer) (turns : List MemberTurn) → (is_own ≡ false → r.start ≢ order.start) → a.run ≡ Some r → StopsOwn is_own r a b answer → AnalyzerTells (Some r) turns
    → AnalyzerTells b.run (analyzer_turn dump Stop order answer ∷ turns)
own_stop dump true r order a b answer turns other is stops tells = rw stops.answer_is (open_stop dump (Some r) b.run order turns tells)
own_stop dump false r order a b answer turns other is stops tells = rw (stops.0, stops.1.1, is) (plain_stop dump (Some r) order turns (other refl) tells)

stop_tells : (dump : Option (List ℕ)) (client : Option ℕ) (run : Option AnalyzerRun) (order : Order) (port : Access) (b : AnalyzerAt) (answer : Option Answer) (turns : List MemberTurn) → StopsAnalyzer run order.start (record { client = client; run = run; port = port }) b answer → AnalyzerTells run turns
    → AnalyzerTells b.run (analyzer_turn dump Stop order answer ∷ turns)
stop_tells dump client None order port b answer turns stops tells = rw (stops.0, stops.1.1) (plain_stop dump None order turns (λ never. never) tells)
stop_tells dump client (Some r) order port b answer turns stops tells =
    own_stop dump (r.start == order.start) r order (record { client = client; run = Some r; port = port }) b answer turns (λ e. eqb-false r.start order.start e) refl stops tells

-- Other turns.

quiet_turn : (run : Option AnalyzerRun) (t : MemberTurn) (turns : List MemberTurn) → t.transition ≢ Start → t.transition ≢ Stop → current_run (t ∷ turns) ≡ current_run turns → AnalyzerTells run turns → AnalyzerTells run (t ∷ turns)
quiet_turn run t turns no_start no_stop same tells =
    tells_more run run turns t tells
    (λ answer starts. absurd (no_start starts))
    (λ are stop. absurd (no_stop stop))
    (λ are. current_more run t turns no_start same (tells.current are.1))

-- what was told before a turn is told behind it, with its answer
pub turn_tells : (dump : Option (List ℕ)) (transition : Transition) (wanted : EventRequest) (order : Order) (blank : Option Totals) (client : Option ℕ) (run : Option AnalyzerRun) (port : Access) (b : AnalyzerAt) (answer : Option Answer) (turns : List MemberTurn)
    → TurnsBy transition wanted order blank (record { client = client; run = run; port = port }) b answer → AnalyzerTells run turns → AnalyzerTells b.run (analyzer_turn dump transition order answer ∷ turns)
turn_tells dump Start wanted order blank client run port b answer turns by tells = rw by.1 (start_tells dump blank wanted order (record { client = client; run = run; port = port }) b by.0 turns by.2 tells)
turn_tells dump Stop wanted order blank client run port b answer turns by tells = stop_tells dump client run order port b answer turns by tells
turn_tells dump Pause wanted order blank client run port b answer turns by tells = rw (by.0, by.1.1) (quiet_turn run (analyzer_turn dump Pause order (Some (Yes Plain))) turns (λ e. cc (e)) (λ e. cc (e)) refl tells)
turn_tells dump Resume wanted order blank client run port b answer turns by tells = rw (by.0, by.1.1) (quiet_turn run (analyzer_turn dump Resume order (Some (Yes Plain))) turns (λ e. cc (e)) (λ e. cc (e)) refl tells)
turn_tells dump StartAbort wanted order blank client run port b answer turns by tells =
    let t : MemberTurn = analyzer_turn dump StartAbort order (Some (Yes Plain)) in
    rw by.0
    (tells_more run b.run turns t tells
    (λ given starts. absurd (cc (starts)))
    (λ are stop. absurd (cc (stop)))
    (λ are. current_none b.run (t ∷ turns) refl))

-- Pulls, which leave the number of the run.

same_number : (r s : AnalyzerRun) (turns : List MemberTurn) → s.start ≡ r.start → AnalyzerTells (Some r) turns → AnalyzerTells (Some s) turns
same_number r s turns is tells = record {
  starts = tells.starts;
  stops = tells.stops;
  current = λ are start begin on accepted. is ∙ tells.current are start begin on accepted;
}

own_number : (is_own : Bool) (r s : AnalyzerRun) (e : Event) → CountsOwn is_own r s e → s.start ≡ r.start
own_number true r s e counts = counts.start
own_number false r s e counts = ap (λ (x : AnalyzerRun). x.start) counts

number_of_reply : (reply : Received) (r s : AnalyzerRun) (e : Event) → CountsReply reply r s e → s.start ≡ r.start
number_of_reply (Got place start) r s e counts = own_number (r.start == start) r s e counts
number_of_reply (Empty gate last) r s e counts = ap (λ (x : AnalyzerRun). x.start) counts
number_of_reply NoClient r s e counts = ap (λ (x : AnalyzerRun). x.start) counts
number_of_reply (SmallBuf need) r s e counts = ap (λ (x : AnalyzerRun). x.start) counts

ends_tells : (drained : Bool) (r counted : AnalyzerRun) (later : Option AnalyzerRun) (a b : Access) (turns : List MemberTurn) → counted.start ≡ r.start → EndsReading drained counted later a b → AnalyzerTells (Some r) turns → AnalyzerTells later turns
ends_tells true r counted later a b turns is ends tells = rw ends.0 (same_number r (run_in_stage Drained counted) turns is tells)
ends_tells false r counted later a b turns is ends tells = rw ends.0 (same_number r counted turns is tells)

once_tells : (r : AnalyzerRun) (room : ℕ) (a b : AnalyzerAt) (answer : AnalyzerPull) (turns : List MemberTurn) → CountsOnce r room a b answer → AnalyzerTells (Some r) turns → AnalyzerTells b.run turns
once_tells r room a b answer turns once tells =
    ends_tells (drains_by r.stage once.reply) r once.counted b.run once.middle b.port turns (number_of_reply once.reply r once.counted once.receives.event once.receives.counts) once.ends tells

stage_tells : (stage : AnalyzerStage) (client : Option ℕ) (r : AnalyzerRun) (room : ℕ) (port : Access) (b : AnalyzerAt) (answer : AnalyzerPull) (turns : List MemberTurn) → CountsIn stage r room (record { client = client; run = Some r; port = port }) b answer → AnalyzerTells (Some r) turns
    → AnalyzerTells b.run turns
stage_tells Counting client r room port b answer turns pulls tells = once_tells r room (record { client = client; run = Some r; port = port }) b answer turns pulls tells
stage_tells (Draining accepted) client r room port b answer turns pulls tells = once_tells r room (record { client = client; run = Some r; port = port }) b answer turns pulls tells
stage_tells Drained client r room port b answer turns pulls tells = rw pulls.1.1 tells

pub pull_tells : (client : Option ℕ) (run : Option AnalyzerRun) (room : ℕ) (port : Access) (b : AnalyzerAt) (answer : AnalyzerPull) (turns : List MemberTurn) → PullsBy run room (record { client = client; run = run; port = port }) b answer → AnalyzerTells run turns → AnalyzerTells b.run turns
pull_tells client None room port b answer turns pulls tells = rw pulls.1.1 tells
pull_tells client (Some r) room port b answer turns pulls tells = stage_tells r.stage client r room port b answer turns pulls tells

-- The answer to the stop that waited.

reported_tells : (dump : Option (List ℕ)) (run : Option AnalyzerRun) (order : Order) (earlier : List MemberTurn) (report : Totals) → AnalyzerTells run (analyzer_turn dump Stop order None ∷ earlier) → AnalyzerTells None (analyzer_turn dump Stop order (Some (Yes (Report report))) ∷ earlier)
reported_tells dump run order earlier report tells =
    let before : MemberTurn = analyzer_turn dump Stop order None in
    let t : MemberTurn = analyzer_turn dump Stop order (Some (Yes (Report report))) in
    let other : t.transition ≢ Start = λ (e : Stop ≡ Start). cc (e) in
    record {
      starts = λ u answer stands is told. elim stands as (λ w. IsStartAnswer answer) [
        | inl same ↦ absurd (let e : Stop ≡ Start = ap (λ (v : MemberTurn). v.transition) same ∙ is in cc (e))
        | inr old ↦ tells.starts u answer (inr old) is told
      ];
      stops = λ are start begin stop answer accepted stops is. elim stops.stands as (λ w. (given : Totals) × (answer ≡ Yes (Report given))) [
        | inl same ↦
            let told : Some (Yes (Report report)) ≡ Some answer = ap (λ (v : MemberTurn). v.answer) same ∙ is in
            let same_answer : Yes (Report report) ≡ answer = cc (told) in
            (report, sym same_answer)
        | inr old ↦
            let old_begin : IsAcceptedStart earlier start begin = accepted_earlier t earlier start begin other accepted in
            tells.stops are start begin stop answer
            (record { is_start = record { stands = inr old_begin.is_start.stands; is = old_begin.is_start.is; of = old_begin.is_start.of }; accepted = old_begin.accepted })
            (record { stands = inr old; is = stops.is; of = stops.of }) is
      ];
      current = λ are. current_none None (t ∷ earlier) refl;
    }

finish_stage : (stage : AnalyzerStage) (r : AnalyzerRun) (own : List BufferEntry) (got : List GotEvent) (turns : List MemberTurn) (q : CountRequest) (events : List Event) → StageCounts stage own got turns q events → AnalyzerTells (Some r) turns
    → AnalyzerTells (run_reported (Some r) (report_in stage r.report)) (latest_answered turns (report_in stage r.report))
finish_stage Counting r own got turns q events counts tells = tells
finish_stage (Draining accepted) r own got turns q events counts tells = tells
finish_stage Drained r own got turns q events counts tells =
    let stop : IsStopOpen q.start turns = counts.0 in
    subst (λ (ts : List MemberTurn). AnalyzerTells None (latest_answered ts (Some (Yes (Report r.report))))) (sym stop.latest)
    (reported_tells stop.dump (Some r) stop.order stop.earlier r.report (subst (AnalyzerTells (Some r)) stop.latest tells))

-- what was told before a finish is told behind it, with the answer of the stop that waited
pub finish_tells : (wanted : EventRequest) (client : Option ℕ) (run : Option AnalyzerRun) (own : List BufferEntry) (got : List GotEvent) (turns : List MemberTurn) → CountsSoFar wanted client run own got turns → AnalyzerTells run turns
    → AnalyzerTells (run_reported run (report_answer run)) (latest_answered turns (report_answer run))
finish_tells wanted client None own got turns stands tells = tells
finish_tells wanted client (Some r) own got turns stands tells =
    let on : CountsRun wanted client r own got turns = stands.counts in
    finish_stage r.stage r own got turns (count_request wanted r.client r.request r.start on.earlier on.asked_before) on.events on.stage_is tells
