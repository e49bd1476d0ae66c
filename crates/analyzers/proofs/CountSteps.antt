-- How the counting of a run goes on with one call more.
use Rattle.std.specs.Prelude.{◌≡◌, ℕ, ◌+◌, ◌==◌, Some, Bool, true, false, if◌then◌else◌, List, [], ◌∷◌, ◌++◌, map, Result, Ok, refl, ⊤}
use Rattle.std.proofs.Common.{ap, sym, subst, ◌∙◌, inl, inr, arith, append_assoc, ne_eqb, eq-eqb}
use Rattle.std.proofs.lemmas.Bool.Decides.{eqb_tells}
use Rattle.std.proofs.lemmas.List.{append-nil}
use Rattle.daq_types.specs.declared.events.Event.{Event}
use Rattle.buffer_core.specs.declared.replies.Received.{Received}
use Rattle.buffer_core.specs.declared.replies.Received.TheVariants.{Got, Empty, NoClient, SmallBuf}
use Rattle.buffer_core.specs.declared.replies.RequestRefusal.{RequestRefusal}
use Rattle.buffer_core.specs.declared.entry.BufferEntry.{BufferEntry}
use Rattle.buffer_core.specs.declared.entry.BufferEntry.TheVariants.{Request, Cancel, Receive, Accepted}
use Rattle.buffer_core.specs.Ports.{GotEvent, name_of, name_given}
use Rattle.event_report.specs.Reports.{report_of}
use Rattle.member_model.specs.OwnCalls.{calls_after, asks, LeavesAsking, HasDrained}
use Rattle.member_model.proofs.ReadLaws.{AreGivenBy-push, KeepsAsking-push, calls_after-push}
use Rattle.analyzers.specs.declared.analyzer_run.EventRequest.{EventRequest}
use Rattle.analyzers.specs.declared.analyzer_run.AnalyzerRun.{AnalyzerRun}
use Rattle.analyzers.specs.AnalyzerPulls.{CountsOwn, CountsReply}
use Rattle.member_model.specs.GotRuns.{events_of_start}
use Rattle.member_model.proofs.GotRunLaws.{events_of_start-append}
use Rattle.analyzers.specs.CountedRuns.{CountRequest, IsCounted, IsWhollyCounted, requests_made, accepts_made}
use Rattle.analyzers.specs.AnalyzerKept.{AsksForNone, count_request}
use Rattle.analyzers.proofs.OwnCallSteps.{none_left, calls_after-append, given_by_reply}

-- One event

eqb_swaps : (a b : ℕ) → (a == b) ≡ (b == a)
eqb_swaps a b = elim (eqb_tells a b) as (λ w. (a == b) ≡ (b == a)) [
  | inl is ↦ is.0 ∙ sym (eq-eqb b a (sym is.1))
  | inr differs ↦ differs.0 ∙ sym (ne_eqb b a (λ e. differs.1 (sym e)))
]

one_event : (client start place s : ℕ) (e : Event) (b : Bool) → (s == start) ≡ b → events_of_start client start (given_by_reply client (Got place s) e) ≡ (if b then e ∷ [] else [])
one_event client start place s e b is = elim (eqb_tells client client) as (λ w. events_of_start client start (given_by_reply client (Got place s) e) ≡ (if b then e ∷ [] else [])) [
  | inl same ↦ rw (same.0, is) (append-nil (if b then e ∷ [] else []))
  | inr other ↦ absurd (other.1 refl)
]

-- The request.

-- a request that is made when the client has none
pub count_made : (own : List BufferEntry) (got : List GotEvent) (wanted : EventRequest) (client number start : ℕ) → AsksForNone (Some client) own
    → IsCounted (own ++ Request client wanted.id wanted.mask wanted.kind (Ok number) ∷ []) got (count_request wanted client number start (requests_made own) (accepts_made own)) [] []
count_made own got wanted client number start alone = record {
  asked = record { before = own; whole = refl; alone = alone; requests = refl; accepts = refl };
  asks_on = tt;
  earlier = got;
  given = [];
  got_is = sym (append-nil got);
  gives = record { named_so = refl };
  events_are = refl;
}

-- a call more, which gives these events
pub count_push : (own : List BufferEntry) (got : List GotEvent) (q : CountRequest) (calls : List BufferEntry) (events : List Event) (e : BufferEntry) (gs : List GotEvent) → IsCounted own got q calls events
    → LeavesAsking q.client e → name_given e ≡ map name_of gs → IsCounted (own ++ e ∷ []) (got ++ gs) q (calls ++ e ∷ []) (events ++ events_of_start q.client q.start gs)
count_push own got q calls events e gs counted leaves named = record {
  asked = record {
    before = counted.asked.before;
    whole = ap (λ (es : List BufferEntry). es ++ e ∷ []) counted.asked.whole
        ∙ append_assoc counted.asked.before (Request q.client q.wanted.id q.wanted.mask q.wanted.kind (Ok q.number) ∷ calls) (e ∷ []);
    alone = counted.asked.alone;
    requests = counted.asked.requests;
    accepts = counted.asked.accepts;
  };
  asks_on = KeepsAsking-push q.client calls e counted.asks_on leaves;
  earlier = counted.earlier;
  given = counted.given ++ gs;
  got_is = ap (λ (l : List GotEvent). l ++ gs) counted.got_is ∙ append_assoc counted.earlier counted.given gs;
  gives = AreGivenBy-push calls counted.given e gs counted.gives named;
  events_are = ap (λ (l : List Event). l ++ events_of_start q.client q.start gs) counted.events_are ∙ sym (events_of_start-append q.client q.start counted.given gs);
}

-- how often it was asked how many events were taken, up to a call since the request
accepts_append : (xs ys : List BufferEntry) → accepts_made (xs ++ ys) ≡ accepts_made xs + accepts_made ys
accepts_append [] ys = omega arith
accepts_append (x ∷ xs) ys = omega (arith, accepts_append xs ys)

pub accepts_asked : (own : List BufferEntry) (got : List GotEvent) (q : CountRequest) (calls : List BufferEntry) (events : List Event) → IsCounted own got q calls events → accepts_made own ≡ q.asked + accepts_made calls
accepts_asked own got q calls events counted =
    let request : BufferEntry = Request q.client q.wanted.id q.wanted.mask q.wanted.kind (Ok q.number) in
    let whole : accepts_made own ≡ accepts_made (counted.asked.before ++ request ∷ calls) = ap (λ (es : List BufferEntry). accepts_made es) counted.asked.whole in
    omega (arith, whole, accepts_append counted.asked.before (request ∷ calls), counted.asked.accepts)

pub count_calls : (own : List BufferEntry) (got : List GotEvent) (q : CountRequest) (calls same : List BufferEntry) (events : List Event) → calls ≡ same → IsCounted own got q calls events → IsCounted own got q same events
count_calls own got q calls same events is counted = subst (λ (es : List BufferEntry). IsCounted own got q es events) is counted

-- the client's request is cancelled
pub cancelled_asks_none : (own : List BufferEntry) (got : List GotEvent) (q : CountRequest) (calls : List BufferEntry) (events : List Event) (reply : Result ⊤ RequestRefusal) → IsCounted own got q calls events
    → AsksForNone (Some q.client) (own ++ Cancel q.client q.number reply ∷ [])
cancelled_asks_none own got q calls events reply counted = λ n.
    let before : List BufferEntry = calls_after [] counted.asked.before in
    let cancel : BufferEntry = Cancel q.client q.number reply in
    let request : BufferEntry = Request q.client q.wanted.id q.wanted.mask q.wanted.kind (Ok q.number) in
    let whole : calls_after [] own ≡ calls_after (request ∷ before) calls =
    ap (λ (es : List BufferEntry). calls_after [] es) counted.asked.whole ∙ calls_after-append [] counted.asked.before (request ∷ calls) in
    subst (λ (es : List BufferEntry). asks es q.client n ≡ false) (sym (calls_after-push [] own cancel ∙ ap (λ (es : List BufferEntry). cancel ∷ es) whole))
    (none_left before calls q.client q.wanted.id q.wanted.mask q.wanted.kind q.number n reply (counted.asked.alone n) counted.asks_on)

-- the receive that drains the client, and the cancelling of its request
unfoldable pub wholly_counted : (own : List BufferEntry) (got : List GotEvent) (q : CountRequest) (events : List Event) (accepted : ℕ) (reading draining : List BufferEntry) (room : ℕ) (reply : Received) (cancelled : Result ⊤ RequestRefusal) → HasDrained accepted reply
    → IsCounted own got q (reading ++ Accepted accepted ∷ (draining ++ Receive q.client room reply ∷ [])) events → IsWhollyCounted (own ++ Cancel q.client q.number cancelled ∷ []) got q events
wholly_counted own got q events accepted reading draining room reply cancelled drains counted = record {
  accepted = accepted;
  reading = reading;
  draining = draining;
  room = room;
  reply = reply;
  cancelled = cancelled;
  own_by = own;
  later = [];
  own_is = refl;
  got_by = got;
  got_later = [];
  got_is = sym (append-nil got);
  counted = counted;
  drains = drains;
}

-- any calls that follow
unfoldable pub wholly_push : (own : List BufferEntry) (got : List GotEvent) (q : CountRequest) (events : List Event) (more : List BufferEntry) (gs : List GotEvent) → IsWhollyCounted own got q events → IsWhollyCounted (own ++ more) (got ++ gs) q events
wholly_push own got q events more gs has = record {
  accepted = has.accepted;
  reading = has.reading;
  draining = has.draining;
  room = has.room;
  reply = has.reply;
  cancelled = has.cancelled;
  own_by = has.own_by;
  later = has.later ++ more;
  own_is = ap (λ (l : List BufferEntry). l ++ more) has.own_is ∙ append_assoc has.own_by (Cancel q.client q.number has.cancelled ∷ has.later) more;
  got_by = has.got_by;
  got_later = has.got_later ++ gs;
  got_is = ap (λ (l : List GotEvent). l ++ gs) has.got_is ∙ append_assoc has.got_by has.got_later gs;
  counted = has.counted;
  drains = has.drains;
}

-- The report.

-- the run with what a receive gave counted
pub record CountsGiven (r counted : AnalyzerRun) (events : List Event) : Type 0 where
  pub start : counted.start ≡ r.start
  pub client : counted.client ≡ r.client
  pub request : counted.request ≡ r.request
  pub stage : counted.stage ≡ r.stage
  pub report_is : counted.report ≡ report_of events

same_given : (r counted : AnalyzerRun) (events more : List Event) → counted ≡ r → more ≡ [] → r.report ≡ report_of events → CountsGiven r counted (events ++ more)
same_given r counted events more same none is = record {
  start = ap (λ (x : AnalyzerRun). x.start) same;
  client = ap (λ (x : AnalyzerRun). x.client) same;
  request = ap (λ (x : AnalyzerRun). x.request) same;
  stage = ap (λ (x : AnalyzerRun). x.stage) same;
  report_is = ap (λ (x : AnalyzerRun). x.report) same ∙ (is ∙ ap (λ (es : List Event). report_of es) (sym (append-nil events) ∙ ap (λ (es : List Event). events ++ es) (sym none)));
}

own_given : (r counted : AnalyzerRun) (e : Event) (events more : List Event) (b : Bool) → CountsOwn b r counted e → more ≡ (if b then e ∷ [] else []) → r.report ≡ report_of events → CountsGiven r counted (events ++ more)
own_given r counted e events more true counts is report = record {
  start = counts.start;
  client = counts.client;
  request = counts.request;
  stage = counts.stage;
  report_is = counts.report events report ∙ ap (λ (es : List Event). report_of (events ++ es)) (sym is);
}
own_given r counted e events more false counts is report = same_given r counted events more counts is report

pub given_counted : (r counted : AnalyzerRun) (reply : Received) (e : Event) (events : List Event) → CountsReply reply r counted e → r.report ≡ report_of events
    → CountsGiven r counted (events ++ events_of_start r.client r.start (given_by_reply r.client reply e))
given_counted r counted (Got place s) e events counts report =
    own_given r counted e events (events_of_start r.client r.start (given_by_reply r.client (Got place s) e)) (r.start == s) counts (one_event r.client r.start place s e (r.start == s) (eqb_swaps s r.start)) report
given_counted r counted (Empty gate last) e events counts report = same_given r counted events [] counts refl report
given_counted r counted NoClient e events counts report = same_given r counted events [] counts refl report
given_counted r counted (SmallBuf need) e events counts report = same_given r counted events [] counts refl report
