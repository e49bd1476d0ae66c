-- What an analyzer keeps when it pulls and when it finishes.
use Rattle.std.specs.Prelude.{◌≡◌, ◌≢◌, ℕ, ◌+◌, Bool, true, false, List, [], ◌∷◌, ◌++◌, Option, Some, None, refl}
use Rattle.std.proofs.Common.{ap, sym, subst, ◌∙◌, inl, inr, arith, append_assoc}
use Rattle.std.proofs.lemmas.Bool.{leb-true}
use Rattle.daq_types.specs.declared.events.Event.{Event}
use Rattle.daq_types.specs.declared.runs.Order.{Order}
use Rattle.daq_types.specs.declared.runs.Transition.TheVariants.{Start, Stop}
use Rattle.buffer_core.specs.declared.replies.Received.{Received}
use Rattle.buffer_core.specs.declared.replies.Received.TheVariants.{Got, Empty, NoClient, SmallBuf}
use Rattle.buffer_core.specs.declared.entry.BufferEntry.{BufferEntry}
use Rattle.buffer_core.specs.declared.entry.BufferEntry.TheVariants.{Cancel, Receive, Accepted}
use Rattle.buffer_core.specs.Ports.{Access, GotEvent}
use Rattle.event_report.specs.Reports.{Totals, report_of}
use Rattle.transitions.specs.declared.answers.Answer.TheVariants.{Yes}
use Rattle.transitions.specs.declared.answers.Tally.TheVariants.{Plain, Report}
use Rattle.member_model.specs.RunEngines.{Answer}
use Rattle.member_model.specs.Turns.{MemberTurn, HasTurn, HasTurnOf, latest_answered}
use Rattle.member_model.proofs.TurnLaws.{HasTurnOf-earlier}
use Rattle.member_model.specs.OwnCalls.{LeavesAsking, HasDrained}
use Rattle.analyzers.specs.declared.analyzer_pull.AnalyzerPull.{AnalyzerPull}
use Rattle.analyzers.specs.declared.analyzer_run.EventRequest.{EventRequest}
use Rattle.analyzers.specs.declared.analyzer_run.AnalyzerRun.{AnalyzerRun}
use Rattle.analyzers.specs.declared.analyzer_run.AnalyzerStage.{AnalyzerStage}
use Rattle.analyzers.specs.declared.analyzer_run.AnalyzerStage.TheVariants.{Counting, Draining, Drained}
use Rattle.analyzers.specs.Analyzers.{AnalyzerAt, run_in_stage, CancelsRun}
use Rattle.analyzers.specs.AnalyzerTurns.{analyzer_turn, report_in, report_answer, run_reported}
use Rattle.analyzers.specs.AnalyzerPulls.{ReceivesFor, EndsReading, CountsOnce, CountsIn, PullsBy, drains_by, ends_reading}
use Rattle.member_model.specs.GotRuns.{events_of_start}
use Rattle.analyzers.specs.CountedRuns.{CountRequest, IsCounted, IsWhollyCounted, requests_made, accepts_made}
use Rattle.analyzers.specs.AnalyzerKept.{KeepsAnalyzerCalls, HasOwnClient, AsksForNone, starts_accepted, stops_reported, HasTurnBehind, IsReportOfRun, ReportsHold, IsStopOpen, StageCounts, CountsRun, CountsSoFar, count_request}
use Rattle.analyzers.proofs.OwnCallSteps.{analyzer_push, requests_stay, accepts_stay, client_stays, given_by_reply, got_after_is, given_named}
use Rattle.analyzers.proofs.CountSteps.{CountsGiven, given_counted, count_push, cancelled_asks_none, wholly_counted}
use Rattle.analyzers.proofs.ReportSteps.{reports_calls, report_turns}
use Rattle.analyzers.proofs.TurnSteps.{StandsBy, run_client, reports_quiet}

leaves_receive : (client room : ℕ) (reply : Received) → LeavesAsking client (Receive client room reply)
leaves_receive client room (Got place start) = tt
leaves_receive client room (Empty gate last) = tt
leaves_receive client room NoClient = tt
leaves_receive client room (SmallBuf need) = tt

-- what stands behind a receive for a run, whatever becomes of it
record ReceivedFor (wanted : EventRequest) (client : Option ℕ) (r counted : AnalyzerRun) (own : List BufferEntry) (got : List GotEvent) (turns : List MemberTurn) (calls : List BufferEntry) (asked_before : ℕ) : Type 0 where
  pub events : List Event
  pub own_calls : KeepsAnalyzerCalls own
  pub gave : HasOwnClient (Some r.client) own
  pub once : requests_made own ≡ starts_accepted turns
  pub asked : accepts_made own ≡ stops_reported turns
  pub reports : ReportsHold wanted own got turns
  pub client_is : client ≡ Some r.client
  pub begin_turn : MemberTurn
  pub is_start : HasTurnOf turns Start r.start begin_turn
  pub accepted : begin_turn.answer ≡ Some (Yes Plain)
  pub earlier : ℕ
  pub of_start : HasTurnBehind starts_accepted turns begin_turn earlier
  pub run_is : CountsGiven r counted events
  pub counts : IsCounted own got (count_request wanted r.client r.request r.start earlier asked_before) calls events

receive_lists : (wanted : EventRequest) (client : Option ℕ) (r counted : AnalyzerRun) (room : ℕ) (a b : Access) (turns : List MemberTurn) (reply : Received) (calls : List BufferEntry) → (stands : StandsBy wanted client (Some r) a turns) → (on : CountsRun wanted client r a.own a.got turns)
    → IsCounted a.own a.got (count_request wanted r.client r.request r.start on.earlier on.asked_before) calls on.events → ReceivesFor r counted room a b reply
    → ReceivedFor wanted client r counted b.own b.got turns (calls ++ Receive r.client room reply ∷ []) on.asked_before
receive_lists wanted client r counted room a b turns reply calls stands on counts receives =
    let call : BufferEntry = Receive r.client room reply in
    let given : List GotEvent = given_by_reply r.client reply receives.event in
    let q : CountRequest = count_request wanted r.client r.request r.start on.earlier on.asked_before in
    let gave : HasOwnClient (Some r.client) a.own = run_client wanted client r a.own a.got turns stands in
    let got_is : b.got ≡ a.got ++ given = receives.received.got_is ∙ got_after_is a.got r.client reply receives.event in
    let now : ReceivedFor wanted client r counted (a.own ++ call ∷ []) (a.got ++ given) turns (calls ++ call ∷ []) on.asked_before = record {
      events = on.events ++ events_of_start r.client r.start given;
      own_calls = analyzer_push a.own call stands.calls tt gave;
      gave = client_stays a.own call r.client gave;
      once = requests_stay a.own call (starts_accepted turns) refl stands.once;
      asked = accepts_stay a.own call (stops_reported turns) refl stands.asked;
      reports = reports_calls wanted a.own a.got turns (call ∷ []) given stands.reports;
      client_is = on.client_is;
      begin_turn = on.begin_turn;
      is_start = on.is_start;
      accepted = on.accepted;
      earlier = on.earlier;
      of_start = on.of_start;
      run_is = given_counted r counted reply receives.event on.events receives.counts on.report_is;
      counts = count_push a.own a.got q calls on.events call given counts (leaves_receive r.client room reply) (given_named r.client room reply receives.event);
    } in
    rw (receives.received.own, got_is) now

-- the client reads on
reads_on : (stage : AnalyzerStage) (wanted : EventRequest) (client : Option ℕ) (r counted : AnalyzerRun) (own : List BufferEntry) (got : List GotEvent) (turns : List MemberTurn) (calls : List BufferEntry) (asked_before : ℕ) → r.stage ≡ stage
    → (at : ReceivedFor wanted client r counted own got turns calls asked_before) → StageCounts stage own got turns (count_request wanted r.client r.request r.start at.earlier asked_before) at.events → CountsSoFar wanted client (Some counted) own got turns
reads_on stage wanted client r counted own got turns calls asked_before is at counts = record {
  calls = at.own_calls;
  own_client = subst (λ (c : Option ℕ). HasOwnClient c own) (sym at.client_is) at.gave;
  once = at.once;
  asked = at.asked;
  reports = at.reports;
  counts = record {
    client_is = rw at.run_is.client at.client_is;
    begin_turn = at.begin_turn;
    is_start = rw at.run_is.start at.is_start;
    accepted = at.accepted;
    earlier = at.earlier;
    of_start = at.of_start;
    asked_before = asked_before;
    events = at.events;
    report_is = at.run_is.report_is;
    stage_is = rw (at.run_is.start, at.run_is.client, at.run_is.request, at.run_is.stage, is) counts;
  };
}

-- the client was drained, and its request cancelled
reads_no_more : (wanted : EventRequest) (client : Option ℕ) (r counted : AnalyzerRun) (a b : Access) (turns : List MemberTurn) (room accepted : ℕ) (reply : Received) (reading draining : List BufferEntry) (asked_before : ℕ) → (stop : IsStopOpen r.start turns)
    → asked_before + accepts_made reading ≡ stops_reported stop.earlier → HasDrained accepted reply
    → ReceivedFor wanted client r counted a.own a.got turns (reading ++ Accepted accepted ∷ (draining ++ Receive r.client room reply ∷ [])) asked_before → CancelsRun counted a b
    → StandsBy wanted client (Some (run_in_stage Drained counted)) b turns
unfolding wholly_counted
reads_no_more wanted client r counted a b turns room accepted reply reading draining asked_before stop behind drains at cancels =
    let q : CountRequest = count_request wanted r.client r.request r.start at.earlier asked_before in
    let cancel : BufferEntry = Cancel r.client r.request cancels.0 in
    let cancel_is : Cancel counted.client counted.request cancels.0 ≡ cancel = rw (at.run_is.client, at.run_is.request) refl in
    let own_is : b.own ≡ a.own ++ cancel ∷ [] = cancels.1.own ∙ ap (λ (e : BufferEntry). a.own ++ e ∷ []) cancel_is in
    let whole : IsWhollyCounted (a.own ++ cancel ∷ []) a.got q at.events = wholly_counted a.own a.got q at.events accepted reading draining room reply cancels.0 drains at.counts in
    let none : AsksForNone (Some r.client) (a.own ++ cancel ∷ []) =
    cancelled_asks_none a.own a.got q (reading ++ Accepted accepted ∷ (draining ++ Receive r.client room reply ∷ [])) at.events cancels.0 at.counts in
    let now : CountsSoFar wanted client (Some (run_in_stage Drained counted)) (a.own ++ cancel ∷ []) a.got turns = record {
      calls = analyzer_push a.own cancel at.own_calls tt at.gave;
      own_client = subst (λ (c : Option ℕ). HasOwnClient c (a.own ++ cancel ∷ [])) (sym at.client_is) (client_stays a.own cancel r.client at.gave);
      once = requests_stay a.own cancel (starts_accepted turns) refl at.once;
      asked = accepts_stay a.own cancel (stops_reported turns) refl at.asked;
      reports = reports_quiet wanted a.own a.got turns cancel at.reports;
      counts = record {
        client_is = rw at.run_is.client at.client_is;
        begin_turn = at.begin_turn;
        is_start = rw at.run_is.start at.is_start;
        accepted = at.accepted;
        earlier = at.earlier;
        of_start = at.of_start;
        asked_before = asked_before;
        events = at.events;
        report_is = at.run_is.report_is;
        stage_is = rw (at.run_is.start, at.run_is.client, at.run_is.request) (stop, none, whole, behind);
      };
    } in
    rw (own_is, cancels.1.got_is) now

has_drained : (accepted : ℕ) (reply : Received) → ends_reading accepted reply ≡ true → HasDrained accepted reply
has_drained accepted (Got place start) e = leb-true accepted place e
has_drained accepted (Empty gate last) e = tt
has_drained accepted NoClient e = absurd (cc (e))
has_drained accepted (SmallBuf need) e = absurd (cc (e))

-- One pull of a run that is read.

counting_kept : (wanted : EventRequest) (client : Option ℕ) (r : AnalyzerRun) (room : ℕ) (port : Access) (b : AnalyzerAt) (answer : AnalyzerPull) (turns : List MemberTurn) → r.stage ≡ Counting → (on : CountsRun wanted client r port.own port.got turns)
    → StageCounts Counting port.own port.got turns (count_request wanted r.client r.request r.start on.earlier on.asked_before) on.events → CountsOnce r room (record { client = client; run = Some r; port = port }) b answer → StandsBy wanted client (Some r) port turns
    → StandsBy wanted b.client b.run b.port turns
counting_kept wanted client r room port b answer turns is on counts once stands =
    let calls : List BufferEntry = counts.1.0 in
    let at = receive_lists wanted client r once.counted room port once.middle turns once.reply calls stands on counts.1.1 once.receives in
    let ends : EndsReading false once.counted b.run once.middle b.port =
    subst (λ (s : AnalyzerStage). EndsReading (drains_by s once.reply) once.counted b.run once.middle b.port) is once.ends in
    rw (once.client, ends.0, ends.1)
    (reads_on Counting wanted client r once.counted once.middle.own once.middle.got turns (calls ++ Receive r.client room once.reply ∷ []) on.asked_before is at (counts.0, (calls ++ Receive r.client room once.reply ∷ [], at.counts)))

-- by whether the reply drains the client
draining_by : (drained : Bool) (wanted : EventRequest) (client : Option ℕ) (r counted : AnalyzerRun) (room accepted : ℕ) (reply : Received) (reading draining : List BufferEntry) (asked_before : ℕ) (middle : Access) (b : AnalyzerAt) (turns : List MemberTurn)
    → ends_reading accepted reply ≡ drained → r.stage ≡ Draining accepted → (stop : IsStopOpen r.start turns) → asked_before + accepts_made reading ≡ stops_reported stop.earlier → b.client ≡ client
    → ReceivedFor wanted client r counted middle.own middle.got turns (reading ++ Accepted accepted ∷ (draining ++ Receive r.client room reply ∷ [])) asked_before → EndsReading drained counted b.run middle b.port → StandsBy wanted b.client b.run b.port turns
draining_by true wanted client r counted room accepted reply reading draining asked_before middle b turns ends_is is stop behind client_is at ends =
    rw (client_is, ends.0) (reads_no_more wanted client r counted middle b.port turns room accepted reply reading draining asked_before stop behind (has_drained accepted reply ends_is) at ends.1)
draining_by false wanted client r counted room accepted reply reading draining asked_before middle b turns ends_is is stop behind client_is at ends =
    rw (client_is, ends.0, ends.1)
    (reads_on (Draining accepted) wanted client r counted middle.own middle.got turns (reading ++ Accepted accepted ∷ (draining ++ Receive r.client room reply ∷ [])) asked_before is at
    (stop, (reading, draining ++ Receive r.client room reply ∷ [], at.counts, behind)))

received_calls : (wanted : EventRequest) (client : Option ℕ) (r counted : AnalyzerRun) (own : List BufferEntry) (got : List GotEvent) (turns : List MemberTurn) (calls same : List BufferEntry) (asked_before : ℕ) → calls ≡ same → ReceivedFor wanted client r counted own got turns calls asked_before
    → ReceivedFor wanted client r counted own got turns same asked_before
received_calls wanted client r counted own got turns calls same asked_before is at = subst (λ (es : List BufferEntry). ReceivedFor wanted client r counted own got turns es asked_before) is at

draining_kept : (wanted : EventRequest) (client : Option ℕ) (r : AnalyzerRun) (room accepted : ℕ) (port : Access) (b : AnalyzerAt) (answer : AnalyzerPull) (turns : List MemberTurn) → r.stage ≡ Draining accepted → (on : CountsRun wanted client r port.own port.got turns)
    → StageCounts (Draining accepted) port.own port.got turns (count_request wanted r.client r.request r.start on.earlier on.asked_before) on.events → CountsOnce r room (record { client = client; run = Some r; port = port }) b answer → StandsBy wanted client (Some r) port turns
    → StandsBy wanted b.client b.run b.port turns
draining_kept wanted client r room accepted port b answer turns is on counts once stands =
    let reading : List BufferEntry = counts.1.0 in
    let draining : List BufferEntry = counts.1.1 in
    let at = receive_lists wanted client r once.counted room port once.middle turns once.reply (reading ++ Accepted accepted ∷ draining) stands on counts.1.2 once.receives in
    let ends : EndsReading (ends_reading accepted once.reply) once.counted b.run once.middle b.port =
    subst (λ (s : AnalyzerStage). EndsReading (drains_by s once.reply) once.counted b.run once.middle b.port) is once.ends in
    draining_by (ends_reading accepted once.reply) wanted client r once.counted room accepted once.reply reading draining on.asked_before once.middle b turns refl is counts.0 counts.1.3 once.client
    (received_calls wanted client r once.counted once.middle.own once.middle.got turns ((reading ++ Accepted accepted ∷ draining) ++ Receive r.client room once.reply ∷ []) (reading ++ Accepted accepted ∷ (draining ++ Receive r.client room once.reply ∷ []))
    on.asked_before (append_assoc reading (Accepted accepted ∷ draining) (Receive r.client room once.reply ∷ [])) at)
    ends

pull_stage : (stage : AnalyzerStage) (wanted : EventRequest) (client : Option ℕ) (r : AnalyzerRun) (room : ℕ) (port : Access) (b : AnalyzerAt) (answer : AnalyzerPull) (turns : List MemberTurn) → r.stage ≡ stage → (on : CountsRun wanted client r port.own port.got turns)
    → StageCounts stage port.own port.got turns (count_request wanted r.client r.request r.start on.earlier on.asked_before) on.events → CountsIn stage r room (record { client = client; run = Some r; port = port }) b answer → StandsBy wanted client (Some r) port turns
    → StandsBy wanted b.client b.run b.port turns
pull_stage Counting wanted client r room port b answer turns is on counts pulls stands = counting_kept wanted client r room port b answer turns is on counts pulls stands
pull_stage (Draining accepted) wanted client r room port b answer turns is on counts pulls stands = draining_kept wanted client r room accepted port b answer turns is on counts pulls stands
pull_stage Drained wanted client r room port b answer turns is on counts pulls stands = rw (pulls.1.0, pulls.1.1, pulls.1.2) stands

-- what holds before a pull holds behind it
pub pull_kept : (wanted : EventRequest) (client : Option ℕ) (run : Option AnalyzerRun) (room : ℕ) (port : Access) (b : AnalyzerAt) (answer : AnalyzerPull) (turns : List MemberTurn) → PullsBy run room (record { client = client; run = run; port = port }) b answer
    → StandsBy wanted client run port turns → StandsBy wanted b.client b.run b.port turns
pull_kept wanted client None room port b answer turns pulls stands = rw (pulls.1.0, pulls.1.1, pulls.1.2) stands
pull_kept wanted client (Some r) room port b answer turns pulls stands =
    let on : CountsRun wanted client r port.own port.got turns = stands.counts in
    pull_stage r.stage wanted client r room port b answer turns refl on on.stage_is pulls stands

-- The answer to the stop that waited.

across : (before t : MemberTurn) (earlier : List MemberTurn) (start : ℕ) (u : MemberTurn) → before.transition ≢ Start → HasTurnOf (before ∷ earlier) Start start u → HasTurnOf (t ∷ earlier) Start start u
across before t earlier start u other of =
    let old : HasTurnOf earlier Start start u = HasTurnOf-earlier of other in
    record { stands = inr old.stands; is = old.is; of = old.of }

across_behind : (before t : MemberTurn) (earlier : List MemberTurn) (u : MemberTurn) (starts : ℕ) → before.transition ≢ Start → u.transition ≡ Start → HasTurnBehind starts_accepted (before ∷ earlier) u starts → HasTurnBehind starts_accepted (t ∷ earlier) u starts
across_behind before t earlier u starts other is has = elim has as (λ w. HasTurnBehind starts_accepted (t ∷ earlier) u starts) [
  | inl here ↦ absurd (other (ap (λ (v : MemberTurn). v.transition) here.0 ∙ is))
  | inr old ↦ inr old
]

-- a stop that is answered is not the one that waits
across_stop : (before t : MemberTurn) (earlier : List MemberTurn) (start : ℕ) (u : MemberTurn) (told : Answer) → before.answer ≡ None → u.answer ≡ Some told → HasTurnOf (before ∷ earlier) Stop start u → HasTurnOf (t ∷ earlier) Stop start u
across_stop before t earlier start u told waits is of = record {
  stands = elim of.stands as (λ w. HasTurn (t ∷ earlier) u) [
    | inl here ↦ absurd (let never : None ≡ Some told = sym waits ∙ (ap (λ (v : MemberTurn). v.answer) here ∙ is) in cc (never))
    | inr old ↦ inr old
  ];
  is = of.is;
  of = of.of;
}

across_stop_behind : (before t : MemberTurn) (earlier : List MemberTurn) (u : MemberTurn) (stops : ℕ) (told : Answer) → before.answer ≡ None → u.answer ≡ Some told → HasTurnBehind stops_reported (before ∷ earlier) u stops → HasTurnBehind stops_reported (t ∷ earlier) u stops
across_stop_behind before t earlier u stops told waits is has = elim has as (λ w. HasTurnBehind stops_reported (t ∷ earlier) u stops) [
  | inl here ↦ absurd (let never : None ≡ Some told = sym waits ∙ (ap (λ (v : MemberTurn). v.answer) here.0 ∙ is) in cc (never))
  | inr old ↦ inr old
]

-- the start of the run, with how many were accepted before it
record BeganBehind (turns : List MemberTurn) (start starts : ℕ) : Type 0 where
  begin_turn : MemberTurn
  is_start : HasTurnOf turns Start start begin_turn
  accepted : begin_turn.answer ≡ Some (Yes Plain)
  of_start : HasTurnBehind starts_accepted turns begin_turn starts

reported : (dump : Option (List ℕ)) (wanted : EventRequest) (client : Option ℕ) (r : AnalyzerRun) (own : List BufferEntry) (got : List GotEvent) (order : Order) (earlier : List MemberTurn) (requests asked_before : ℕ) (events : List Event) → BeganBehind (analyzer_turn dump Stop order None ∷ earlier) r.start requests → order.start ≡ r.start
    → AsksForNone (Some r.client) own → (whole : IsWhollyCounted own got (count_request wanted r.client r.request r.start requests asked_before) events) → asked_before + accepts_made whole.reading ≡ stops_reported earlier → r.report ≡ report_of events → CountsSoFar wanted client (Some r) own got (analyzer_turn dump Stop order None ∷ earlier)
    → CountsSoFar wanted client None own got (analyzer_turn dump Stop order (Some (Yes (Report r.report))) ∷ earlier)
reported dump wanted client r own got order earlier requests asked_before events began same none whole behind report stands =
    let before : MemberTurn = analyzer_turn dump Stop order None in
    let t : MemberTurn = analyzer_turn dump Stop order (Some (Yes (Report r.report))) in
    let on : CountsRun wanted client r own got (before ∷ earlier) = stands.counts in
    let other : before.transition ≢ Start = λ (e : Stop ≡ Start). cc (e) in
    let mine : IsReportOfRun wanted own got (t ∷ earlier) r.start r.report = record {
      begin_turn = began.begin_turn;
      is_start = across before t earlier r.start began.begin_turn other began.is_start;
      accepted = began.accepted;
      client = r.client;
      number = r.request;
      earlier = requests;
      of_start = across_behind before t earlier began.begin_turn requests other began.is_start.is began.of_start;
      asked_before = asked_before;
      events = events;
      counted = whole;
      stop_turn = t;
      is_stop = record { stands = inl refl; is = refl; of = same };
      answered = refl;
      of_stop = inl (refl, sym behind);
      report_is = report;
    } in
    record {
      calls = stands.calls;
      own_client = stands.own_client;
      once = omega (arith, stands.once);
      asked = omega (arith, stands.asked);
      reports = λ u told here is. elim here as (λ w. (u.transition ≡ Stop) × IsReportOfRun wanted own got (t ∷ earlier) u.order.start told) [
        | inl same_turn ↦
            let tells : Some (Yes (Report r.report)) ≡ Some (Yes (Report told)) = ap (λ (v : MemberTurn). v.answer) same_turn ∙ is in
            let number : r.report ≡ told = cc (tells) in
            let start_is : r.start ≡ u.order.start = sym same ∙ ap (λ (v : MemberTurn). v.order.start) same_turn in (
              sym (ap (λ (v : MemberTurn). v.transition) same_turn),
              subst (λ (s : ℕ). IsReportOfRun wanted own got (t ∷ earlier) s told) start_is (subst (λ (x : Totals). IsReportOfRun wanted own got (t ∷ earlier) r.start x) number mine),
            )
        | inr old ↦
            let held = stands.reports u told (inr old) is in (
              held.0,
              report_turns wanted own got (before ∷ earlier) (t ∷ earlier) u.order.start told (λ v has. across before t earlier u.order.start v other has) (λ v starts is_start has. across_behind before t earlier v starts other is_start has)
                  (λ v is_told has. across_stop before t earlier u.order.start v (Yes (Report told)) refl is_told has) (λ v stops is_told has. across_stop_behind before t earlier v stops (Yes (Report told)) refl is_told has) held.1,
            )
      ];
      counts = (tt, subst (λ (c : Option ℕ). AsksForNone c own) (sym on.client_is) none);
    }

finish_stage : (stage : AnalyzerStage) (wanted : EventRequest) (client : Option ℕ) (r : AnalyzerRun) (own : List BufferEntry) (got : List GotEvent) (turns : List MemberTurn) (requests asked_before : ℕ) (events : List Event) → BeganBehind turns r.start requests → StageCounts stage own got turns (count_request wanted r.client r.request r.start requests asked_before) events
    → r.report ≡ report_of events → CountsSoFar wanted client (Some r) own got turns → CountsSoFar wanted client (run_reported (Some r) (report_in stage r.report)) own got (latest_answered turns (report_in stage r.report))
finish_stage Counting wanted client r own got turns requests asked_before events began counts report stands = stands
finish_stage (Draining accepted) wanted client r own got turns requests asked_before events began counts report stands = stands
finish_stage Drained wanted client r own got turns requests asked_before events began counts report stands =
    let stop : IsStopOpen r.start turns = counts.0 in
    subst (λ (ts : List MemberTurn). CountsSoFar wanted client None own got (latest_answered ts (Some (Yes (Report r.report))))) (sym stop.latest)
    (reported stop.dump wanted client r own got stop.order stop.earlier requests asked_before events (subst (λ (ts : List MemberTurn). BeganBehind ts r.start requests) stop.latest began) stop.of counts.1 counts.2 counts.3 report (subst (λ (ts : List MemberTurn). CountsSoFar wanted client (Some r) own got ts) stop.latest stands))

-- what holds before a finish holds behind it, with the answer of the stop that waited
pub finish_kept : (wanted : EventRequest) (client : Option ℕ) (run : Option AnalyzerRun) (own : List BufferEntry) (got : List GotEvent) (turns : List MemberTurn) → CountsSoFar wanted client run own got turns
    → CountsSoFar wanted client (run_reported run (report_answer run)) own got (latest_answered turns (report_answer run))
finish_kept wanted client None own got turns stands = stands
finish_kept wanted client (Some r) own got turns stands =
    let on : CountsRun wanted client r own got turns = stands.counts in
    finish_stage r.stage wanted client r own got turns on.earlier on.asked_before on.events
    (record { begin_turn = on.begin_turn; is_start = on.is_start; accepted = on.accepted; of_start = on.of_start }) on.stage_is on.report_is stands
