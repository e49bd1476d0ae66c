-- What an analyzer keeps at a turn and when it finishes.
use Rattle.std.specs.Prelude.{◌≡◌, ◌≢◌, ℕ, ◌+◌, ◌==◌, Bool, true, false, List, [], ◌∷◌, ◌++◌, Option, Some, None, IfSome, Result, Ok, Err, refl, ⊤}
use Rattle.std.proofs.Common.{sym, subst, ◌∙◌, arith, inl, inr}
use Rattle.std.proofs.lemmas.Bool.{eqb-true}
use Rattle.std.proofs.lemmas.List.{append-nil}
use Rattle.daq_types.specs.declared.events.Event.{Event}
use Rattle.daq_types.specs.declared.runs.Order.{Order}
use Rattle.daq_types.specs.declared.runs.Transition.{Transition}
use Rattle.daq_types.specs.declared.runs.Transition.TheVariants.{Start, Stop, Pause, Resume, StartAbort}
use Rattle.daq_types.specs.declared.runs.Why.TheVariants.{NotReady, BufferRefused}
use Rattle.buffer_core.specs.declared.replies.RequestRefusal.{RequestRefusal}
use Rattle.buffer_core.specs.declared.entry.BufferEntry.{BufferEntry}
use Rattle.buffer_core.specs.declared.entry.BufferEntry.TheVariants.{Attach, Request, Cancel, Accepted}
use Rattle.buffer_core.specs.Ports.{Access, GotEvent, name_given}
use Rattle.event_report.specs.Reports.{Totals, report_of}
use Rattle.member_model.specs.RunEngines.{Answer}
use Rattle.transitions.specs.declared.answers.Answer.TheVariants.{Yes, No}
use Rattle.transitions.specs.declared.answers.Tally.TheVariants.{Plain, Report}
use Rattle.member_model.specs.Turns.{MemberTurn, NoneOpen}
use Rattle.member_model.proofs.TurnLaws.{HasTurnOf-more}
use Rattle.member_model.specs.OwnCalls.{asks, LeavesAsking}
use Rattle.member_model.proofs.ReadLaws.{calls_after-push}
use Rattle.analyzers.specs.declared.analyzer_run.EventRequest.{EventRequest}
use Rattle.analyzers.specs.declared.analyzer_run.AnalyzerRun.{AnalyzerRun}
use Rattle.analyzers.specs.declared.analyzer_run.AnalyzerStage.{AnalyzerStage}
use Rattle.analyzers.specs.declared.analyzer_run.AnalyzerStage.TheVariants.{Counting, Draining, Drained}
use Rattle.analyzers.specs.Analyzers.{AnalyzerAt, run_in_stage}
use Rattle.analyzers.specs.AnalyzerTurns.{analyzer_turn, analyzer_name, StaysAt, CancelsIn, DropsRun, GetsClient, BeginsBy, RequestsRun, StartsAnalyzer, StopsRun, StopsOwn, StopsAnalyzer, TurnsBy, begun_count}
use Rattle.analyzers.specs.CountedRuns.{CountRequest, IsCounted, requests_made, accepts_made}
use Rattle.analyzers.specs.AnalyzerKept.{HasOwnClient, AsksForNone, accepted_by, starts_accepted, reported_by, stops_reported, ReportsHold, StageCounts, CountsRun, CountsSoFar, count_request}
use Rattle.analyzers.proofs.OwnCallSteps.{analyzer_push, requests-push, requests_stay, accepts-push, accepts_stay, client_stays, none_stays, client_given, new_asks_none}
use Rattle.analyzers.proofs.CountSteps.{accepts_asked, count_made, count_push, cancelled_asks_none}
use Rattle.analyzers.proofs.ReportSteps.{reports_calls, reports_more, none_stops, plain_more}

abbrev pub StandsBy : EventRequest → Option ℕ → Option AnalyzerRun → Access → List MemberTurn → Type 0
StandsBy wanted client run a turns = CountsSoFar wanted client run a.own a.got turns

-- the number of a run's client is the caller's own
pub run_client : (wanted : EventRequest) (client : Option ℕ) (r : AnalyzerRun) (own : List BufferEntry) (got : List GotEvent) (turns : List MemberTurn) → CountsSoFar wanted client (Some r) own got turns → HasOwnClient (Some r.client) own
run_client wanted client r own got turns stands =
    let on : CountsRun wanted client r own got turns = stands.counts in
    subst (λ (c : Option ℕ). HasOwnClient c own) on.client_is stands.own_client

-- a call that gives no event leaves the reports
pub reports_quiet : (wanted : EventRequest) (own : List BufferEntry) (got : List GotEvent) (turns : List MemberTurn) (e : BufferEntry) → ReportsHold wanted own got turns → ReportsHold wanted (own ++ e ∷ []) got turns
reports_quiet wanted own got turns e hold =
    subst (λ (l : List GotEvent). ReportsHold wanted (own ++ e ∷ []) l turns) (append-nil got) (reports_calls wanted own got turns (e ∷ []) [] hold)

-- a call that gives no event goes on with the counting
pub count_quiet : (own : List BufferEntry) (got : List GotEvent) (q : CountRequest) (calls : List BufferEntry) (events : List Event) (e : BufferEntry) → IsCounted own got q calls events → LeavesAsking q.client e → name_given e ≡ []
    → IsCounted (own ++ e ∷ []) got q (calls ++ e ∷ []) events
count_quiet own got q calls events e counted leaves none =
    let now : IsCounted (own ++ e ∷ []) (got ++ []) q (calls ++ e ∷ []) (events ++ []) = count_push own got q calls events e [] counted leaves none in
    subst (λ (es : List Event). IsCounted (own ++ e ∷ []) got q (calls ++ e ∷ []) es) (append-nil events)
    (subst (λ (l : List GotEvent). IsCounted (own ++ e ∷ []) l q (calls ++ e ∷ []) (events ++ [])) (append-nil got) now)

-- The run is dropped.

drop_counting : (wanted : EventRequest) (client : Option ℕ) (r : AnalyzerRun) (own : List BufferEntry) (got : List GotEvent) (turns : List MemberTurn) (reply : Result ⊤ RequestRefusal) (earlier asked : ℕ) (calls : List BufferEntry) (events : List Event) → NoneOpen turns
    → IsCounted own got (count_request wanted r.client r.request r.start earlier asked) calls events → CountsSoFar wanted client (Some r) own got turns → CountsSoFar wanted client None (own ++ Cancel r.client r.request reply ∷ []) got turns
drop_counting wanted client r own got turns reply earlier asked calls events none counted stands =
    let cancel : BufferEntry = Cancel r.client r.request reply in
    let on : CountsRun wanted client r own got turns = stands.counts in
    let gave : HasOwnClient (Some r.client) own = run_client wanted client r own got turns stands in
    record {
      calls = analyzer_push own cancel stands.calls tt gave;
      own_client = subst (λ (c : Option ℕ). HasOwnClient c (own ++ cancel ∷ [])) (sym on.client_is) (client_stays own cancel r.client gave);
      once = requests_stay own cancel (starts_accepted turns) refl stands.once;
      asked = accepts_stay own cancel (stops_reported turns) refl stands.asked;
      reports = reports_quiet wanted own got turns cancel stands.reports;
      counts = (none, subst (λ (c : Option ℕ). AsksForNone c (own ++ cancel ∷ [])) (sym on.client_is) (cancelled_asks_none own got (count_request wanted r.client r.request r.start earlier asked) calls events reply counted));
    }

drop_stage : (stage : AnalyzerStage) (wanted : EventRequest) (client : Option ℕ) (r : AnalyzerRun) (a b : Access) (turns : List MemberTurn) (earlier asked : ℕ) (events : List Event) → NoneOpen turns → StageCounts stage a.own a.got turns (count_request wanted r.client r.request r.start earlier asked) events → CancelsIn stage r a b
    → StandsBy wanted client (Some r) a turns → StandsBy wanted client None b turns
drop_stage Counting wanted client r a b turns earlier asked events none counts cancels stands =
    rw (cancels.1.own, cancels.1.got_is) (drop_counting wanted client r a.own a.got turns cancels.0 earlier asked counts.1.0 events none counts.1.1 stands)
drop_stage (Draining accepted) wanted client r a b turns earlier asked events none counts cancels stands = absurd (none_stops r.start turns none counts.0)
drop_stage Drained wanted client r a b turns earlier asked events none counts cancels stands = absurd (none_stops r.start turns none counts.0)

pub drop_kept : (wanted : EventRequest) (client : Option ℕ) (run : Option AnalyzerRun) (a b : Access) (turns : List MemberTurn) → NoneOpen turns → DropsRun run a b → StandsBy wanted client run a turns → StandsBy wanted client None b turns
drop_kept wanted client None a b turns none drops stands = rw drops stands
drop_kept wanted client (Some r) a b turns none drops stands =
    let on : CountsRun wanted client r a.own a.got turns = stands.counts in
    drop_stage r.stage wanted client r a b turns on.earlier on.asked_before on.events none on.stage_is drops stands

-- A client is attached.

pub client_kept : (wanted : EventRequest) (client later : Option ℕ) (a b : Access) (turns : List MemberTurn) → GetsClient client later a b → StandsBy wanted client None a turns → StandsBy wanted later None b turns
client_kept wanted (Some c) later a b turns gets stands = rw (gets.0, gets.1) stands
client_kept wanted None (Some n) a b turns gets stands =
    let attach : BufferEntry = Attach analyzer_name (Ok n) in
    let now : CountsSoFar wanted (Some n) None (a.own ++ attach ∷ []) a.got turns = record {
      calls = analyzer_push a.own attach stands.calls tt tt;
      own_client = client_given a.own analyzer_name n;
      once = requests_stay a.own attach (starts_accepted turns) refl stands.once;
      asked = accepts_stay a.own attach (stops_reported turns) refl stands.asked;
      reports = reports_quiet wanted a.own a.got turns attach stands.reports;
      counts = (stands.counts.0, λ k. new_asks_none a.own analyzer_name n k stands.calls (stands.own_client n));
    } in
    rw (gets.own, gets.got_is) now
client_kept wanted None None a b turns gets stands =
    let attach : BufferEntry = Attach analyzer_name (Err gets.0) in
    let now : CountsSoFar wanted None None (a.own ++ attach ∷ []) a.got turns = record {
      calls = analyzer_push a.own attach stands.calls tt tt;
      own_client = none_stays a.own attach (λ past n. refl) stands.own_client;
      once = requests_stay a.own attach (starts_accepted turns) refl stands.once;
      asked = accepts_stay a.own attach (stops_reported turns) refl stands.asked;
      reports = reports_quiet wanted a.own a.got turns attach stands.reports;
      counts = (stands.counts.0, tt);
    } in
    rw (gets.1.own, gets.1.got_is) now

-- The request is made.

request_kept : (dump : Option (List ℕ)) (reply : Result ℕ RequestRefusal) (wanted : EventRequest) (order : Order) (blank : Totals) (client : ℕ) (run : Option AnalyzerRun) (answer : Answer) (own : List BufferEntry) (got : List GotEvent) (turns : List MemberTurn)
    → NoneOpen turns → blank ≡ report_of [] → BeginsBy reply order.start client blank run answer → CountsSoFar wanted (Some client) None own got turns
    → CountsSoFar wanted (Some client) run (own ++ Request client wanted.id wanted.mask wanted.kind reply ∷ []) got (analyzer_turn dump Start order (Some answer) ∷ turns)
request_kept dump (Ok number) wanted order blank client run answer own got turns none is_blank begins stands =
    let request : BufferEntry = Request client wanted.id wanted.mask wanted.kind (Ok number) in
    let t : MemberTurn = analyzer_turn dump Start order (Some (Yes Plain)) in
    let now : CountsSoFar wanted (Some client) (Some (begun_count order.start client number blank)) (own ++ request ∷ []) got (t ∷ turns) = record {
      calls = analyzer_push own request stands.calls tt stands.own_client;
      own_client = client_stays own request client stands.own_client;
      once = omega (arith, requests-push own request, stands.once);
      asked = omega (arith, accepts-push own request, stands.asked);
      reports = reports_more wanted (own ++ request ∷ []) got turns t (λ report tells. cc (tells)) (reports_quiet wanted own got turns request stands.reports);
      counts = record {
        client_is = refl;
        begin_turn = t;
        is_start = record { stands = inl refl; is = refl; of = refl };
        accepted = refl;
        earlier = requests_made own;
        of_start = inl (refl, sym stands.once);
        asked_before = accepts_made own;
        events = [];
        report_is = is_blank;
        stage_is = (tt, ([], count_made own got wanted client number order.start stands.counts.1));
      };
    } in
    rw (begins.0, begins.1) now
request_kept dump (Err why) wanted order blank client run answer own got turns none is_blank begins stands =
    let request : BufferEntry = Request client wanted.id wanted.mask wanted.kind (Err why) in
    let t : MemberTurn = analyzer_turn dump Start order (Some (No BufferRefused)) in
    let now : CountsSoFar wanted (Some client) None (own ++ request ∷ []) got (t ∷ turns) = record {
      calls = analyzer_push own request stands.calls tt stands.own_client;
      own_client = client_stays own request client stands.own_client;
      once = omega (arith, requests-push own request, stands.once);
      asked = omega (arith, accepts-push own request, stands.asked);
      reports = reports_more wanted (own ++ request ∷ []) got turns t (λ report tells. cc (tells)) (reports_quiet wanted own got turns request stands.reports);
      counts = (tt, λ n. subst (λ (es : List BufferEntry). asks es client n ≡ false) (sym (calls_after-push [] own request)) (stands.counts.1 n));
    } in
    rw (begins.0, begins.1) now

begin_kept : (dump : Option (List ℕ)) (wanted : EventRequest) (order : Order) (blank : Totals) (client : Option ℕ) (run : Option AnalyzerRun) (answer : Answer) (a b : Access) (turns : List MemberTurn) → NoneOpen turns → blank ≡ report_of [] → RequestsRun wanted order.start blank client run answer a b
    → StandsBy wanted client None a turns → StandsBy wanted client run b (analyzer_turn dump Start order (Some answer) ∷ turns)
begin_kept dump wanted order blank None run answer a b turns none is_blank requests stands =
    rw (requests.0, requests.1, requests.2)
    (plain_more wanted None None a.own a.got turns (analyzer_turn dump Start order (Some (No BufferRefused))) none tt refl refl (λ report tells. cc (tells)) stands)
begin_kept dump wanted order blank (Some client) run answer a b turns none is_blank requests stands =
    rw (requests.1.own, requests.1.got_is) (request_kept dump requests.0 wanted order blank client run answer a.own a.got turns none is_blank requests.2 stands)

-- Turns that change nothing.

stays_kept : (wanted : EventRequest) (a b : AnalyzerAt) (turns : List MemberTurn) (t : MemberTurn) → StaysAt a b → NoneOpen turns → accepted_by t.transition t.answer ≡ 0 → reported_by t.transition t.answer ≡ 0 → ((report : Totals) → t.answer ≢ Some (Yes (Report report))) → (given : Answer) → t.answer ≡ Some given
    → StandsBy wanted a.client a.run a.port turns → StandsBy wanted b.client b.run b.port (t ∷ turns)
stays_kept wanted a b turns t stays none begins waits other given is stands =
    rw (stays.0, stays.1, stays.2)
    (plain_more wanted a.client a.run a.port.own a.port.got turns t none (answers t.answer is) begins waits other stands)
  where
    answers : (answer : Option Answer) → answer ≡ Some given → NoneOpen (record t { answer = answer } ∷ turns)
    answers (Some x) e = tt
    answers None e = absurd (cc (e))

start_kept : (dump : Option (List ℕ)) (wanted : EventRequest) (order : Order) (blank : Option Totals) (a b : AnalyzerAt) (answer : Answer) (turns : List MemberTurn) → IfSome blank (λ (report : Totals). report ≡ report_of []) → NoneOpen turns → StartsAnalyzer blank wanted order.start a b answer
    → StandsBy wanted a.client a.run a.port turns → StandsBy wanted b.client b.run b.port (analyzer_turn dump Start order (Some answer) ∷ turns)
start_kept dump wanted order None a b answer turns is_blank none starts stands =
    rw starts.0 (stays_kept wanted a b turns (analyzer_turn dump Start order (Some (No NotReady))) starts.1 none refl refl (λ report tells. cc (tells)) (No NotReady) refl stands)
start_kept dump wanted order (Some blank) a b answer turns is_blank none starts stands =
    begin_kept dump wanted order blank b.client b.run answer starts.attached b.port turns none is_blank starts.request
    (client_kept wanted a.client b.client starts.dropped starts.attached turns starts.client
    (drop_kept wanted a.client a.run a.port starts.dropped turns none starts.drops stands))

-- A stop.

stop_stage : (dump : Option (List ℕ)) (stage : AnalyzerStage) (wanted : EventRequest) (client : Option ℕ) (r later : AnalyzerRun) (order : Order) (a b : Access) (turns : List MemberTurn) → (on : CountsRun wanted client r a.own a.got turns) → r.start ≡ order.start → NoneOpen turns
    → StageCounts stage a.own a.got turns (count_request wanted r.client r.request r.start on.earlier on.asked_before) on.events → r.report ≡ report_of on.events → StopsRun stage r later a b → StandsBy wanted client (Some r) a turns → StandsBy wanted client (Some later) b (analyzer_turn dump Stop order None ∷ turns)
stop_stage dump Counting wanted client r later order a b turns on same none counts report stops stands =
    let call : BufferEntry = Accepted stops.0 in
    let t : MemberTurn = analyzer_turn dump Stop order None in
    let q : CountRequest = count_request wanted r.client r.request r.start on.earlier on.asked_before in
    let gave : HasOwnClient (Some r.client) a.own = run_client wanted client r a.own a.got turns stands in
    let behind : on.asked_before + accepts_made counts.1.0 ≡ stops_reported turns = sym (accepts_asked a.own a.got q counts.1.0 on.events counts.1.1) ∙ stands.asked in
    let now : CountsSoFar wanted client (Some (run_in_stage (Draining stops.0) r)) (a.own ++ call ∷ []) a.got (t ∷ turns) = record {
      calls = analyzer_push a.own call stands.calls tt tt;
      own_client = subst (λ (c : Option ℕ). HasOwnClient c (a.own ++ call ∷ [])) (sym on.client_is) (client_stays a.own call r.client gave);
      once = omega (arith, requests_stay a.own call (starts_accepted turns) refl stands.once);
      asked = omega (arith, accepts-push a.own call, stands.asked);
      reports = reports_more wanted (a.own ++ call ∷ []) a.got turns t (λ report tells. cc (tells)) (reports_quiet wanted a.own a.got turns call stands.reports);
      counts = record {
        client_is = on.client_is;
        begin_turn = on.begin_turn;
        is_start = HasTurnOf-more t on.is_start;
        accepted = on.accepted;
        earlier = on.earlier;
        of_start = inr on.of_start;
        asked_before = on.asked_before;
        events = on.events;
        report_is = report;
        stage_is = (record { order = order; dump = dump; earlier = turns; of = sym same; latest = refl }, (counts.1.0, [], count_quiet a.own a.got q counts.1.0 on.events call counts.1.1 tt refl, behind));
      };
    } in
    rw (stops.2, stops.1.own, stops.1.got_is) now
stop_stage dump (Draining accepted) wanted client r later order a b turns on same none counts report stops stands = absurd (none_stops r.start turns none counts.0)
stop_stage dump Drained wanted client r later order a b turns on same none counts report stops stands = absurd (none_stops r.start turns none counts.0)

stop_own : (dump : Option (List ℕ)) (is_own : Bool) (wanted : EventRequest) (client : Option ℕ) (r : AnalyzerRun) (order : Order) (port : Access) (b : AnalyzerAt) (answer : Option Answer) (turns : List MemberTurn) → (is_own ≡ true → r.start ≡ order.start) → NoneOpen turns
    → StopsOwn is_own r (record { client = client; run = Some r; port = port }) b answer → StandsBy wanted client (Some r) port turns → StandsBy wanted b.client b.run b.port (analyzer_turn dump Stop order answer ∷ turns)
stop_own dump true wanted client r order port b answer turns same none stops stands =
    let on : CountsRun wanted client r port.own port.got turns = stands.counts in
    rw (stops.answer_is, stops.client, stops.run)
    (stop_stage dump r.stage wanted client r stops.later order port b.port turns on (same refl) none on.stage_is on.report_is stops.stops stands)
stop_own dump false wanted client r order port b answer turns same none stops stands =
    rw stops.0
    (stays_kept wanted (record { client = client; run = Some r; port = port }) b turns (analyzer_turn dump Stop order (Some (Yes Plain))) stops.1 none refl refl (λ report tells. cc (tells)) (Yes Plain) refl stands)

stop_kept : (dump : Option (List ℕ)) (wanted : EventRequest) (client : Option ℕ) (run : Option AnalyzerRun) (order : Order) (port : Access) (b : AnalyzerAt) (answer : Option Answer) (turns : List MemberTurn) → NoneOpen turns
    → StopsAnalyzer run order.start (record { client = client; run = run; port = port }) b answer → StandsBy wanted client run port turns → StandsBy wanted b.client b.run b.port (analyzer_turn dump Stop order answer ∷ turns)
stop_kept dump wanted client None order port b answer turns none stops stands =
    rw stops.0
    (stays_kept wanted (record { client = client; run = None; port = port }) b turns (analyzer_turn dump Stop order (Some (Yes Plain))) stops.1 none refl refl (λ report tells. cc (tells)) (Yes Plain) refl stands)
stop_kept dump wanted client (Some r) order port b answer turns none stops stands =
    stop_own dump (r.start == order.start) wanted client r order port b answer turns (λ e. eqb-true r.start order.start e) none stops stands

-- what holds before a turn holds behind it, with its answer
pub turn_kept : (dump : Option (List ℕ)) (transition : Transition) (wanted : EventRequest) (order : Order) (blank : Option Totals) (client : Option ℕ) (run : Option AnalyzerRun) (port : Access) (b : AnalyzerAt) (answer : Option Answer) (turns : List MemberTurn)
    → IfSome blank (λ (report : Totals). report ≡ report_of []) → NoneOpen turns → TurnsBy transition wanted order blank (record { client = client; run = run; port = port }) b answer
    → StandsBy wanted client run port turns → StandsBy wanted b.client b.run b.port (analyzer_turn dump transition order answer ∷ turns)
turn_kept dump Start wanted order blank client run port b answer turns is_blank none by stands =
    rw by.1 (start_kept dump wanted order blank (record { client = client; run = run; port = port }) b by.0 turns is_blank none by.2 stands)
turn_kept dump Stop wanted order blank client run port b answer turns is_blank none by stands = stop_kept dump wanted client run order port b answer turns none by stands
turn_kept dump Pause wanted order blank client run port b answer turns is_blank none by stands =
    rw by.0
    (stays_kept wanted (record { client = client; run = run; port = port }) b turns (analyzer_turn dump Pause order (Some (Yes Plain))) by.1 none refl refl (λ report tells. cc (tells)) (Yes Plain) refl stands)
turn_kept dump Resume wanted order blank client run port b answer turns is_blank none by stands =
    rw by.0
    (stays_kept wanted (record { client = client; run = run; port = port }) b turns (analyzer_turn dump Resume order (Some (Yes Plain))) by.1 none refl refl (λ report tells. cc (tells)) (Yes Plain) refl stands)
turn_kept dump StartAbort wanted order blank client run port b answer turns is_blank none by stands =
    let dropped : StandsBy wanted client None b.port turns = drop_kept wanted client run port b.port turns none by.3 stands in
    rw (by.0, by.1, by.2)
    (plain_more wanted client None b.port.own b.port.got turns (analyzer_turn dump StartAbort order (Some (Yes Plain))) none tt refl refl (λ report tells. cc (tells)) dropped)
