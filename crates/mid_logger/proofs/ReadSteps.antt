-- What a channel's client reads, with a receive more, and what the file holds then.
use Rattle.std.specs.Prelude.{◌≡◌, ℕ, nat_lt, Bool, true, false, if◌then◌else◌, List, [], ◌∷◌, ◌++◌, Option, Some, None, Result, Ok, refl, ⊤}
use Rattle.std.proofs.Common.{ap, sym, subst, ◌∙◌, inl, inr, arith}
use Rattle.std.proofs.lemmas.Bool.Decides.{eqb_tells}
use Rattle.std.proofs.lemmas.Grind.{common_steps}
use Rattle.std.proofs.lemmas.List.{append-nil}
use Rattle.daq_types.specs.declared.events.Event.{Event}
use Rattle.daq_types.specs.declared.runs.Kind.TheVariants.{All}
use Rattle.event.specs.Events.{is_reserved}
use Rattle.event.specs.RunFile.{IsFileEvent}
use Rattle.buffer_core.specs.declared.replies.Received.{Received}
use Rattle.buffer_core.specs.declared.replies.Received.TheVariants.{Got, Empty, NoClient, SmallBuf}
use Rattle.buffer_core.specs.declared.replies.RequestRefusal.{RequestRefusal}
use Rattle.buffer_core.specs.declared.entry.BufferEntry.{BufferEntry}
use Rattle.buffer_core.specs.declared.entry.BufferEntry.TheVariants.{Request, Cancel, Receive, Begin, End}
use Rattle.buffer_core.specs.Ports.{GotEvent, IsGiven}
use Rattle.member_model.specs.OwnCalls.{calls_after, asks, LeavesAsking, KeepsAsking, HasDrained, events_at}
use Rattle.member_model.specs.ReadRuns.{IsAsking, HasReadRun}
use Rattle.member_model.proofs.ReadLaws.{reading_push, draining_push, run_read, run_push, calls_after-push}
use Rattle.mid_logger.specs.Channels.{AsksNothing, ReadsUntil, HasReadUntil, HasReadPart, is_in_run, is_behind_end}
use Rattle.mid_logger.proofs.OwnSteps.{none_left, calls_after-append, given_by_reply, given_named}

pub leaves_receive : (client room : ℕ) (reply : Received) (receiver : ℕ) → LeavesAsking client (Receive receiver room reply)
leaves_receive client room (Got place start) receiver = tt
leaves_receive client room (Empty gate last) receiver = tt
leaves_receive client room NoClient receiver = tt
leaves_receive client room (SmallBuf need) receiver = tt

-- a receive of the client
pub received : (ended : Option ℕ) (own : List BufferEntry) (got : List GotEvent) (client id mask request start begun : ℕ) (events : List Event) (room : ℕ) (reply : Received) (e : Event) → ReadsUntil ended own got client id mask request start begun events
    → ReadsUntil ended (own ++ Receive client room reply ∷ []) (got ++ given_by_reply client reply e) client id mask request start begun (events ++ events_at client (is_in_run begun ended) (given_by_reply client reply e))
received None own got client id mask request start begun events room reply e reads =
    reading_push own got client id mask request start begun events (Receive client room reply) (given_by_reply client reply e) reads (leaves_receive client room reply client) tt (given_named client room reply e)
received (Some end) own got client id mask request start begun events room reply e reads =
    draining_push own got client id mask request start begun end events (Receive client room reply) (given_by_reply client reply e) reads (leaves_receive client room reply client) (given_named client room reply e)

-- Which places are of the run.

pub in_run : (ended : Option ℕ) (begun place : ℕ) → is_behind_end ended place ≡ false → nat_lt place begun ≡ false → is_in_run begun ended place ≡ true
in_run None begun place behind early = grind (arith, common_steps)
in_run (Some end) begun place behind early = grind (arith, common_steps)

pub before_run : (ended : Option ℕ) (begun place : ℕ) → nat_lt place begun ≡ true → is_in_run begun ended place ≡ false
before_run None begun place early = grind (arith, common_steps)
before_run (Some end) begun place early = grind (arith, common_steps)

pub behind_run : (ended : Option ℕ) (begun place : ℕ) → is_behind_end ended place ≡ true → is_in_run begun ended place ≡ false
behind_run None begun place behind = absurd (cc (behind))
behind_run (Some end) begun place behind = grind (arith, common_steps)

one_event : (client place start : ℕ) (test : ℕ → Bool) (e : Event) (b : Bool) → test place ≡ b → events_at client test (given_by_reply client (Got place start) e) ≡ (if b then e ∷ [] else [])
one_event client place start test e b is = elim (eqb_tells client client) as (λ w. events_at client test (given_by_reply client (Got place start) e) ≡ (if b then e ∷ [] else [])) [
  | inl same ↦ rw (same.0, is) (append-nil (if b then e ∷ [] else []))
  | inr other ↦ absurd (other.1 refl)
]

pub event_taken : (client place start : ℕ) (test : ℕ → Bool) (events : List Event) (e : Event) → test place ≡ true → events ++ events_at client test (given_by_reply client (Got place start) e) ≡ events ++ e ∷ []
event_taken client place start test events e is = ap (λ (l : List Event). events ++ l) (one_event client place start test e true is)

pub event_left : (client place start : ℕ) (test : ℕ → Bool) (events : List Event) (e : Event) → test place ≡ false → events ++ events_at client test (given_by_reply client (Got place start) e) ≡ events
event_left client place start test events e is = ap (λ (l : List Event). events ++ l) (one_event client place start test e false is) ∙ append-nil events

-- The request.

KeepsAsking-append : (client : ℕ) (es fs : List BufferEntry) → KeepsAsking client es → KeepsAsking client fs → KeepsAsking client (es ++ fs)
KeepsAsking-append client [] fs front back = back
KeepsAsking-append client (x ∷ xs) fs front back = (front.0, KeepsAsking-append client xs fs front.1 back)

-- the client asks still
pub asks_still : (ended : Option ℕ) (own : List BufferEntry) (got : List GotEvent) (client id mask request start begun : ℕ) (events : List Event) → ReadsUntil ended own got client id mask request start begun events → IsAsking own client id mask request
asks_still None own got client id mask request start begun events reads = record {
  calls = reads.asking ++ Begin start (Ok begun) ∷ reads.running;
  asked = reads.asked;
  asks_on = KeepsAsking-append client reads.asking (Begin start (Ok begun) ∷ reads.running) reads.asks_on (tt, reads.reads_on);
}
asks_still (Some end) own got client id mask request start begun events reads = record {
  calls = reads.asking ++ Begin start (Ok begun) ∷ (reads.running ++ End start (Ok end) ∷ reads.draining);
  asked = reads.asked;
  asks_on = KeepsAsking-append client reads.asking (Begin start (Ok begun) ∷ (reads.running ++ End start (Ok end) ∷ reads.draining)) reads.asks_on
      (tt, KeepsAsking-append client reads.running (End start (Ok end) ∷ reads.draining) reads.reads_on (tt, reads.drains_on));
}

pub asks_no_more : (own : List BufferEntry) (client id mask request : ℕ) (reply : Result ⊤ RequestRefusal) → IsAsking own client id mask request → AsksNothing (Some client) (own ++ Cancel client request reply ∷ [])
asks_no_more own client id mask request reply asking = λ n.
    let before : List BufferEntry = calls_after [] asking.asked.before in
    let cancel : BufferEntry = Cancel client request reply in
    let whole : calls_after [] own ≡ calls_after (Request client id mask All (Ok request) ∷ before) asking.calls =
    ap (λ (es : List BufferEntry). calls_after [] es) asking.asked.whole ∙ calls_after-append [] asking.asked.before (Request client id mask All (Ok request) ∷ asking.calls) in
    subst (λ (es : List BufferEntry). asks es client n ≡ false) (sym (calls_after-push [] own cancel ∙ ap (λ (es : List BufferEntry). cancel ∷ es) whole))
    (none_left before asking.calls client id mask request n reply (asking.asked.alone n) asking.asks_on)

-- The end.

pub drained : (ended : Option ℕ) (own : List BufferEntry) (got : List GotEvent) (client id mask request start begun : ℕ) (events : List Event) (room : ℕ) (reply : Received) (e : BufferEntry) → ((end : ℕ) → ended ≡ Some end → HasDrained end reply)
    → ReadsUntil ended (own ++ Receive client room reply ∷ []) got client id mask request start begun events → HasReadUntil ended ((own ++ Receive client room reply ∷ []) ++ e ∷ []) got client id mask request start begun events
drained None own got client id mask request start begun events room reply e over reads = record {
  calls = own ++ Receive client room reply ∷ [];
  later = e ∷ [];
  got_by = got;
  got_later = [];
  own_is = refl;
  got_is = sym (append-nil got);
  reads = reads;
}
drained (Some end) own got client id mask request start begun events room reply e over reads =
    subst (λ (l : List GotEvent). HasReadRun ((own ++ Receive client room reply ∷ []) ++ e ∷ []) l client id mask request start begun end events) (append-nil got)
    (run_push (own ++ Receive client room reply ∷ []) got client id mask request start begun end events (e ∷ []) [] (run_read own got client id mask request start begun end events room reply reads (over end refl)))

-- the reading is broken off
pub part_read : (ended : Option ℕ) (own : List BufferEntry) (got : List GotEvent) (client id mask request start begun : ℕ) (events : List Event) (e : BufferEntry)
    → ReadsUntil ended own got client id mask request start begun events → HasReadPart ended (own ++ e ∷ []) got client id mask request start begun events
part_read None own got client id mask request start begun events e reads = record { calls = own; later = e ∷ []; got_by = got; got_later = []; own_is = refl; got_is = sym (append-nil got); reads = reads }
part_read (Some end) own got client id mask request start begun events e reads =
    record { calls = own; later = e ∷ []; got_by = got; got_later = []; own_is = refl; got_is = sym (append-nil got); stage = inr reads }

-- The file.

-- an event that a buffer gives may stand in a run file
pub file_event : (e : Event) → IsGiven e → IsFileEvent e
file_event e given = record {
  begins_none = λ is. let never : true ≡ false = subst (λ (id : ℕ). is_reserved id ≡ false) is given.free in cc (never);
  ends_none = λ is. let never : true ≡ false = subst (λ (id : ℕ). is_reserved id ≡ false) is given.free in cc (never);
  small = given.small;
}
