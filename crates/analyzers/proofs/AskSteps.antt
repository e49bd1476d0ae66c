-- Each call of an analyzer keeps that it gives its buffer no cause to refuse a call, and why it refuses turns.
use Rattle.std.specs.Prelude.{◌≡◌, ◌≤◌, ℕ, ◌+◌, ◌==◌, Bool, true, false, Contains, List, [], ◌∷◌, ◌++◌, Option, Some, None, IfSome, Result, Ok, Err, refl}
use Rattle.std.proofs.Common.{ap, sym, subst, ◌∙◌, arith, inl, inr}
use Rattle.std.proofs.lemmas.List.Elements.{Contains-append_left, Contains-append_right}
use Rattle.daq_types.specs.declared.runs.Order.{Order}
use Rattle.daq_types.specs.declared.runs.Transition.{Transition}
use Rattle.daq_types.specs.declared.runs.Transition.TheVariants.{Start, Stop, Pause, Resume, StartAbort}
use Rattle.daq_types.specs.declared.runs.Why.{Why}
use Rattle.daq_types.specs.declared.runs.Why.TheVariants.{NotReady, Exists, Fault, BufferRefused}
use Rattle.buffer_core.specs.declared.replies.RequestRefusal.{RequestRefusal}
use Rattle.buffer_core.specs.declared.entry.BufferEntry.{BufferEntry}
use Rattle.buffer_core.specs.declared.entry.BufferEntry.TheVariants.{Request}
use Rattle.buffer_core.specs.Ports.{Access, GotEvent, PortCalled}
use Rattle.event_report.specs.Reports.{Totals, report_of}
use Rattle.transitions.specs.declared.answers.Answer.TheVariants.{Yes, No}
use Rattle.member_model.specs.RunEngines.{Answer, Tally}
use Rattle.transitions.specs.declared.answers.Tally.TheVariants.{Plain, Report}
use Rattle.member_model.specs.Turns.{MemberTurn, NoneOpen, latest_answered}
use Rattle.member_model.specs.OwnCalls.{calls_after}
use Rattle.member_model.specs.FairCalls.{IsRefusedAsk, attaches_by, IsLoneRequest}
use Rattle.member_model.proofs.FairLaws.{attaches-append, lone-push}
use Rattle.analyzers.specs.declared.analyzer_pull.AnalyzerPull.{AnalyzerPull}
use Rattle.analyzers.specs.declared.analyzer_run.EventRequest.{EventRequest}
use Rattle.analyzers.specs.declared.analyzer_run.AnalyzerRun.{AnalyzerRun}
use Rattle.analyzers.specs.declared.analyzer_run.AnalyzerStage.{AnalyzerStage}
use Rattle.analyzers.specs.declared.analyzer_run.AnalyzerStage.TheVariants.{Counting, Draining, Drained}
use Rattle.analyzers.specs.Analyzers.{AnalyzerAt}
use Rattle.analyzers.specs.AnalyzerTurns.{analyzer_turn, StaysAt, CancelsIn, DropsRun, GetsClient, BeginsBy, RequestsRun, StartsAnalyzer, StopsRun, StopsOwn, StopsAnalyzer, TurnsBy, report_in, report_answer, run_reported}
use Rattle.analyzers.specs.AnalyzerPulls.{EndsReading, CountsOnce, CountsIn, PullsBy, drains_by}
use Rattle.analyzers.specs.AnalyzerKept.{AsksForNone, CountsSoFar, one_attached, HasRefusedCall, IsAnalyzerReason, AnalyzerAsks, AnalyzerStands}
use Rattle.analyzers.proofs.TurnSteps.{drop_kept, client_kept, turn_kept}
use Rattle.analyzers.proofs.PullSteps.{pull_kept, finish_kept}

-- One call more.

reason_still : (own more : List BufferEntry) (why : Why) → IsAnalyzerReason own why → IsAnalyzerReason (own ++ more) why
reason_still own more NotReady reason = tt
reason_still own more BufferRefused reason = record { entry = reason.entry; among = Contains-append_left own more reason.entry reason.among; refused = reason.refused }
reason_still own more (Exists channel) reason = absurd reason
reason_still own more (Fault channel) reason = absurd reason

asks_push : (client later : Option ℕ) (own : List BufferEntry) (e : BufferEntry) (turns : List MemberTurn) → attaches_by e + one_attached client ≤ one_attached later → IsLoneRequest e (calls_after [] own) → AnalyzerAsks client own turns → AnalyzerAsks later (own ++ e ∷ []) turns
asks_push client later own e turns few alone asks = record {
  attaches = omega (arith, attaches-append own (e ∷ []), few, asks.attaches);
  alone = lone-push own e alone asks.alone;
  refusals = λ t why has is. reason_still own (e ∷ []) why (asks.refusals t why has is);
}

call_asks : (client later : Option ℕ) (a b : Access) (e : BufferEntry) (got : List GotEvent) (turns : List MemberTurn) → PortCalled a b e got → attaches_by e + one_attached client ≤ one_attached later → IsLoneRequest e (calls_after [] a.own) → AnalyzerAsks client a.own turns
    → AnalyzerAsks later b.own turns
call_asks client later a b e got turns called few alone asks = subst (λ (l : List BufferEntry). AnalyzerAsks later l turns) (sym called.own) (asks_push client later a.own e turns few alone asks)

same_asks : (client : Option ℕ) (a b : Access) (turns : List MemberTurn) → b ≡ a → AnalyzerAsks client a.own turns → AnalyzerAsks client b.own turns
same_asks client a b turns same asks = subst (λ (x : Access). AnalyzerAsks client x.own turns) (sym same) asks

-- the call itself, where it was refused
refused_call : (a b : Access) (e : BufferEntry) (got : List GotEvent) → PortCalled a b e got → IsRefusedAsk e → HasRefusedCall b.own
refused_call a b e got called refused = record {
  entry = e;
  among = subst (λ (l : List BufferEntry). Contains l e) (sym called.own) (Contains-append_right a.own (e ∷ []) e (0, omega arith, refl));
  refused = refused;
}

-- one turn more, which is refused for a reason, if it is
asks_more : (client : Option ℕ) (own : List BufferEntry) (t : MemberTurn) (turns : List MemberTurn) → ((why : Why) → t.answer ≡ Some (No why) → IsAnalyzerReason own why) → AnalyzerAsks client own turns → AnalyzerAsks client own (t ∷ turns)
asks_more client own t turns reason asks = record {
  attaches = asks.attaches;
  alone = asks.alone;
  refusals = λ u why has is. elim has as (λ w. IsAnalyzerReason own why) [
    | inl same ↦ reason why (ap (λ (x : MemberTurn). x.answer) same ∙ is)
    | inr earlier ↦ asks.refusals u why earlier is
  ];
}

-- A turn.

cancels_asks : (stage : AnalyzerStage) (client : Option ℕ) (r : AnalyzerRun) (a b : Access) (turns : List MemberTurn) → CancelsIn stage r a b → AnalyzerAsks client a.own turns → AnalyzerAsks client b.own turns
cancels_asks Counting client r a b turns cancels asks = call_asks client client a b _ _ turns cancels.1 (omega arith) tt asks
cancels_asks (Draining accepted) client r a b turns cancels asks = call_asks client client a b _ _ turns cancels.1 (omega arith) tt asks
cancels_asks Drained client r a b turns same asks = same_asks client a b turns same asks

drops_asks : (run : Option AnalyzerRun) (client : Option ℕ) (a b : Access) (turns : List MemberTurn) → DropsRun run a b → AnalyzerAsks client a.own turns → AnalyzerAsks client b.own turns
drops_asks None client a b turns same asks = same_asks client a b turns same asks
drops_asks (Some r) client a b turns drops asks = cancels_asks r.stage client r a b turns drops asks

gets_asks : (client later : Option ℕ) (a b : Access) (turns : List MemberTurn) → GetsClient client later a b → AnalyzerAsks client a.own turns → AnalyzerAsks later b.own turns
gets_asks (Some n) later a b turns gets asks = subst (λ (c : Option ℕ). AnalyzerAsks c b.own turns) (sym gets.0) (same_asks (Some n) a b turns gets.1 asks)
gets_asks None (Some n) a b turns gets asks = call_asks None (Some n) a b _ _ turns gets (omega arith) tt asks
gets_asks None None a b turns gets asks = call_asks None None a b _ _ turns gets.1 (omega arith) tt asks

-- a client is missing only where its attach was refused
missing_client : (client later : Option ℕ) (a b : Access) → GetsClient client later a b → later ≡ None → HasRefusedCall b.own
missing_client (Some n) later a b gets none = absurd (let never : Some n ≡ None = sym gets.0 ∙ none in cc (never))
missing_client None (Some n) a b gets none = absurd (cc (none))
missing_client None None a b gets none = refused_call a b _ _ gets.1 tt

no_refusal : (answer : Option Answer) (tally : Tally) (why : Why) → answer ≡ Some (Yes tally) → answer ≡ Some (No why) → ⊥
no_refusal answer tally why told refused = let both : Some (Yes tally) ≡ Some (No why) = sym told ∙ refused in cc (both)

reason_is : (own : List BufferEntry) (answer : Option Answer) (reason why : Why) → answer ≡ Some (No reason) → answer ≡ Some (No why) → IsAnalyzerReason own reason → IsAnalyzerReason own why
reason_is own answer reason why first second so =
    let both : Some (No reason) ≡ Some (No why) = sym first ∙ second in
    let same : reason ≡ why = cc (both) in
    subst (IsAnalyzerReason own) same so

request_asks : (dump : Option (List ℕ)) (wanted : EventRequest) (order : Order) (blank : Totals) (client : Option ℕ) (run : Option AnalyzerRun) (answer : Answer) (a b : Access) (turns : List MemberTurn) → (client ≡ None → HasRefusedCall a.own) → AsksForNone client a.own
    → RequestsRun wanted order.start blank client run answer a b → AnalyzerAsks client a.own turns → AnalyzerAsks client b.own (analyzer_turn dump Start order (Some answer) ∷ turns)
request_asks dump wanted order blank None run answer a b turns missing none requests asks =
    let at : AnalyzerAsks None b.own turns = same_asks None a b turns requests.2 asks in
    let refused : HasRefusedCall b.own = subst (λ (x : Access). HasRefusedCall x.own) (sym requests.2) (missing refl) in
    asks_more None b.own (analyzer_turn dump Start order (Some answer)) turns (λ why is. reason_is b.own (Some answer) BufferRefused why (ap (λ (x : Answer). Some x) requests.1) is refused) at
request_asks dump wanted order blank (Some n) run answer a b turns missing none requests asks = replied requests.0 requests.1 requests.2
  where
    replied : (reply : Result ℕ RequestRefusal) → PortCalled a b (Request n wanted.id wanted.mask wanted.kind reply) a.got → BeginsBy reply order.start n blank run answer → AnalyzerAsks (Some n) b.own (analyzer_turn dump Start order (Some answer) ∷ turns)
    replied (Ok number) called begins =
        asks_more (Some n) b.own (analyzer_turn dump Start order (Some answer)) turns (λ why is. absurd (no_refusal (Some answer) Plain why (ap (λ (x : Answer). Some x) begins.1) is))
        (call_asks (Some n) (Some n) a b (Request n wanted.id wanted.mask wanted.kind (Ok number)) a.got turns called (omega arith) none asks)
    replied (Err refusal) called begins =
        asks_more (Some n) b.own (analyzer_turn dump Start order (Some answer)) turns
        (λ why is. reason_is b.own (Some answer) BufferRefused why (ap (λ (x : Answer). Some x) begins.1) is (refused_call a b (Request n wanted.id wanted.mask wanted.kind (Err refusal)) a.got called tt))
        (call_asks (Some n) (Some n) a b (Request n wanted.id wanted.mask wanted.kind (Err refusal)) a.got turns called (omega arith) none asks)

-- a turn that changes nothing
stays_asks : (a b : AnalyzerAt) (t : MemberTurn) (turns : List MemberTurn) → StaysAt a b → ((why : Why) → t.answer ≡ Some (No why) → IsAnalyzerReason a.port.own why) → AnalyzerAsks a.client a.port.own turns → AnalyzerAsks b.client b.port.own (t ∷ turns)
stays_asks a b t turns stays reason asks =
    let now : AnalyzerAsks a.client a.port.own (t ∷ turns) = asks_more a.client a.port.own t turns reason asks in
    subst (λ (c : Option ℕ). AnalyzerAsks c b.port.own (t ∷ turns)) (sym stays.0) (same_asks a.client a.port b.port (t ∷ turns) stays.2 now)

start_asks : (dump : Option (List ℕ)) (wanted : EventRequest) (order : Order) (blank : Option Totals) (a b : AnalyzerAt) (answer : Answer) (turns : List MemberTurn) → NoneOpen turns → StartsAnalyzer blank wanted order.start a b answer
    → CountsSoFar wanted a.client a.run a.port.own a.port.got turns → AnalyzerAsks a.client a.port.own turns → AnalyzerAsks b.client b.port.own (analyzer_turn dump Start order (Some answer) ∷ turns)
start_asks dump wanted order None a b answer turns none starts holds asks =
    stays_asks a b (analyzer_turn dump Start order (Some answer)) turns starts.1 (λ why is. reason_is a.port.own (Some answer) NotReady why (ap (λ (x : Answer). Some x) starts.0) is tt) asks
start_asks dump wanted order (Some blank) a b answer turns none starts holds asks =
    let dropped : CountsSoFar wanted a.client None starts.dropped.own starts.dropped.got turns = drop_kept wanted a.client a.run a.port starts.dropped turns none starts.drops holds in
    let joined : CountsSoFar wanted b.client None starts.attached.own starts.attached.got turns = client_kept wanted a.client b.client starts.dropped starts.attached turns starts.client dropped in
    request_asks dump wanted order blank b.client b.run answer starts.attached b.port turns (missing_client a.client b.client starts.dropped starts.attached starts.client) joined.counts.1 starts.request
    (gets_asks a.client b.client starts.dropped starts.attached turns starts.client (drops_asks a.run a.client a.port starts.dropped turns starts.drops asks))

stops_asks : (stage : AnalyzerStage) (client : Option ℕ) (r later : AnalyzerRun) (a b : Access) (turns : List MemberTurn) → StopsRun stage r later a b → AnalyzerAsks client a.own turns → AnalyzerAsks client b.own turns
stops_asks Counting client r later a b turns stops asks = call_asks client client a b _ _ turns stops.1 (omega arith) tt asks
stops_asks (Draining accepted) client r later a b turns stops asks = same_asks client a b turns stops.1 asks
stops_asks Drained client r later a b turns stops asks = same_asks client a b turns stops.1 asks

own_stop_asks : (dump : Option (List ℕ)) (is_own : Bool) (client : Option ℕ) (r : AnalyzerRun) (order : Order) (port : Access) (b : AnalyzerAt) (answer : Option Answer) (turns : List MemberTurn) → StopsOwn is_own r (record { client = client; run = Some r; port = port }) b answer
    → AnalyzerAsks client port.own turns → AnalyzerAsks b.client b.port.own (analyzer_turn dump Stop order answer ∷ turns)
own_stop_asks dump true client r order port b answer turns stops asks =
    subst (λ (c : Option ℕ). AnalyzerAsks c b.port.own (analyzer_turn dump Stop order answer ∷ turns)) (sym stops.client)
    (asks_more client b.port.own (analyzer_turn dump Stop order answer) turns (λ why is. absurd (let never : None ≡ Some (No why) = sym stops.answer_is ∙ is in cc (never))) (stops_asks r.stage client r stops.later port b.port turns stops.stops asks))
own_stop_asks dump false client r order port b answer turns stops asks =
    stays_asks (record { client = client; run = Some r; port = port }) b (analyzer_turn dump Stop order answer) turns stops.1 (λ why is. absurd (no_refusal answer Plain why stops.0 is)) asks

stop_asks : (dump : Option (List ℕ)) (client : Option ℕ) (run : Option AnalyzerRun) (order : Order) (port : Access) (b : AnalyzerAt) (answer : Option Answer) (turns : List MemberTurn) → StopsAnalyzer run order.start (record { client = client; run = run; port = port }) b answer
    → AnalyzerAsks client port.own turns → AnalyzerAsks b.client b.port.own (analyzer_turn dump Stop order answer ∷ turns)
stop_asks dump client None order port b answer turns stops asks =
    stays_asks (record { client = client; run = None; port = port }) b (analyzer_turn dump Stop order answer) turns stops.1 (λ why is. absurd (no_refusal answer Plain why stops.0 is)) asks
stop_asks dump client (Some r) order port b answer turns stops asks = own_stop_asks dump (r.start == order.start) client r order port b answer turns stops asks

turn_asks : (dump : Option (List ℕ)) (transition : Transition) (wanted : EventRequest) (order : Order) (blank : Option Totals) (client : Option ℕ) (run : Option AnalyzerRun) (port : Access) (b : AnalyzerAt) (answer : Option Answer) (turns : List MemberTurn) → NoneOpen turns
    → TurnsBy transition wanted order blank (record { client = client; run = run; port = port }) b answer → CountsSoFar wanted client run port.own port.got turns → AnalyzerAsks client port.own turns
    → AnalyzerAsks b.client b.port.own (analyzer_turn dump transition order answer ∷ turns)
turn_asks dump Start wanted order blank client run port b answer turns none by holds asks =
    subst (λ (x : Option Answer). AnalyzerAsks b.client b.port.own (analyzer_turn dump Start order x ∷ turns)) (sym by.1)
    (start_asks dump wanted order blank (record { client = client; run = run; port = port }) b by.0 turns none by.2 holds asks)
turn_asks dump Stop wanted order blank client run port b answer turns none by holds asks = stop_asks dump client run order port b answer turns by asks
turn_asks dump Pause wanted order blank client run port b answer turns none by holds asks =
    stays_asks (record { client = client; run = run; port = port }) b (analyzer_turn dump Pause order answer) turns by.1 (λ why is. absurd (no_refusal answer Plain why by.0 is)) asks
turn_asks dump Resume wanted order blank client run port b answer turns none by holds asks =
    stays_asks (record { client = client; run = run; port = port }) b (analyzer_turn dump Resume order answer) turns by.1 (λ why is. absurd (no_refusal answer Plain why by.0 is)) asks
turn_asks dump StartAbort wanted order blank client run port b answer turns none by holds asks =
    subst (λ (c : Option ℕ). AnalyzerAsks c b.port.own (analyzer_turn dump StartAbort order answer ∷ turns)) (sym by.1)
    (asks_more client b.port.own (analyzer_turn dump StartAbort order answer) turns (λ why is. absurd (no_refusal answer Plain why by.0 is)) (drops_asks run client port b.port turns by.3 asks))

-- what stands before a turn stands behind it, with its answer
pub turn_stands : (dump : Option (List ℕ)) (transition : Transition) (wanted : EventRequest) (order : Order) (blank : Option Totals) (client : Option ℕ) (run : Option AnalyzerRun) (port : Access) (b : AnalyzerAt) (answer : Option Answer) (turns : List MemberTurn)
    → IfSome blank (λ (report : Totals). report ≡ report_of []) → NoneOpen turns → TurnsBy transition wanted order blank (record { client = client; run = run; port = port }) b answer → AnalyzerStands wanted client run port.own port.got turns
    → AnalyzerStands wanted b.client b.run b.port.own b.port.got (analyzer_turn dump transition order answer ∷ turns)
turn_stands dump transition wanted order blank client run port b answer turns is_blank none by stands = record {
  holds = turn_kept dump transition wanted order blank client run port b answer turns is_blank none by stands.holds;
  asks = turn_asks dump transition wanted order blank client run port b answer turns none by stands.holds stands.asks;
}

-- A pull.

ends_asks : (drained : Bool) (client : Option ℕ) (r : AnalyzerRun) (later : Option AnalyzerRun) (a b : Access) (turns : List MemberTurn) → EndsReading drained r later a b → AnalyzerAsks client a.own turns → AnalyzerAsks client b.own turns
ends_asks true client r later a b turns ends asks = call_asks client client a b _ _ turns ends.1.1 (omega arith) tt asks
ends_asks false client r later a b turns ends asks = same_asks client a b turns ends.1 asks

once_asks : (r : AnalyzerRun) (room : ℕ) (a b : AnalyzerAt) (answer : AnalyzerPull) (turns : List MemberTurn) → CountsOnce r room a b answer → AnalyzerAsks a.client a.port.own turns → AnalyzerAsks b.client b.port.own turns
once_asks r room a b answer turns once asks =
    subst (λ (c : Option ℕ). AnalyzerAsks c b.port.own turns) (sym once.client)
    (ends_asks (drains_by r.stage once.reply) a.client once.counted b.run once.middle b.port turns once.ends
    (call_asks a.client a.client a.port once.middle _ _ turns once.receives.received (omega arith) tt asks))

left_asks : (a b : AnalyzerAt) (turns : List MemberTurn) → StaysAt a b → AnalyzerAsks a.client a.port.own turns → AnalyzerAsks b.client b.port.own turns
left_asks a b turns stays asks = subst (λ (c : Option ℕ). AnalyzerAsks c b.port.own turns) (sym stays.0) (same_asks a.client a.port b.port turns stays.2 asks)

counts_asks : (stage : AnalyzerStage) (r : AnalyzerRun) (room : ℕ) (a b : AnalyzerAt) (answer : AnalyzerPull) (turns : List MemberTurn) → CountsIn stage r room a b answer → AnalyzerAsks a.client a.port.own turns → AnalyzerAsks b.client b.port.own turns
counts_asks Drained r room a b answer turns stays asks = left_asks a b turns stays.1 asks
counts_asks Counting r room a b answer turns once asks = once_asks r room a b answer turns once asks
counts_asks (Draining accepted) r room a b answer turns once asks = once_asks r room a b answer turns once asks

pull_asks : (run : Option AnalyzerRun) (room : ℕ) (a b : AnalyzerAt) (answer : AnalyzerPull) (turns : List MemberTurn) → PullsBy run room a b answer → AnalyzerAsks a.client a.port.own turns → AnalyzerAsks b.client b.port.own turns
pull_asks None room a b answer turns stays asks = left_asks a b turns stays.1 asks
pull_asks (Some r) room a b answer turns counts asks = counts_asks r.stage r room a b answer turns counts asks

pub pull_stands : (wanted : EventRequest) (client : Option ℕ) (run : Option AnalyzerRun) (room : ℕ) (port : Access) (b : AnalyzerAt) (answer : AnalyzerPull) (turns : List MemberTurn) → PullsBy run room (record { client = client; run = run; port = port }) b answer
    → AnalyzerStands wanted client run port.own port.got turns → AnalyzerStands wanted b.client b.run b.port.own b.port.got turns
pull_stands wanted client run room port b answer turns pulls stands = record {
  holds = pull_kept wanted client run room port b answer turns pulls stands.holds;
  asks = pull_asks run room (record { client = client; run = run; port = port }) b answer turns pulls stands.asks;
}

-- A call to finish.

told_asks : (client : Option ℕ) (own : List BufferEntry) (turns : List MemberTurn) (tally : Tally) → AnalyzerAsks client own turns → AnalyzerAsks client own (latest_answered turns (Some (Yes tally)))
told_asks client own [] tally asks = asks
told_asks client own (t ∷ turns) tally asks =
    asks_more client own (record t { answer = Some (Yes tally) }) turns (λ why is. absurd (cc (is)))
    (record { attaches = asks.attaches; alone = asks.alone; refusals = λ u why has is. asks.refusals u why (inr has) is })

finish_stage_asks : (stage : AnalyzerStage) (client : Option ℕ) (report : Totals) (own : List BufferEntry) (turns : List MemberTurn) → AnalyzerAsks client own turns → AnalyzerAsks client own (latest_answered turns (report_in stage report))
finish_stage_asks Counting client report own turns asks = asks
finish_stage_asks (Draining accepted) client report own turns asks = asks
finish_stage_asks Drained client report own turns asks = told_asks client own turns (Report report) asks

finish_asks : (client : Option ℕ) (run : Option AnalyzerRun) (own : List BufferEntry) (turns : List MemberTurn) → AnalyzerAsks client own turns → AnalyzerAsks client own (latest_answered turns (report_answer run))
finish_asks client None own turns asks = asks
finish_asks client (Some r) own turns asks = finish_stage_asks r.stage client r.report own turns asks

pub finish_stands : (wanted : EventRequest) (client : Option ℕ) (run : Option AnalyzerRun) (own : List BufferEntry) (got : List GotEvent) (turns : List MemberTurn) → AnalyzerStands wanted client run own got turns
    → AnalyzerStands wanted client (run_reported run (report_answer run)) own got (latest_answered turns (report_answer run))
finish_stands wanted client run own got turns stands = record {
  holds = finish_kept wanted client run own got turns stands.holds;
  asks = finish_asks client run own turns stands.asks;
}
