-- How a client's reading of a run goes on with one call more.
use Rattle.std.specs.Prelude.{◌≡◌, ℕ, nat_le, Bool, false, List, [], ◌∷◌, ◌++◌, map, Ok, refl}
use Rattle.std.proofs.Common.{ap, sym, subst, ◌∙◌, append_assoc}
use Rattle.std.proofs.lemmas.List.{append-nil, map-append}
use Rattle.daq_types.specs.declared.events.Event.{Event}
use Rattle.daq_types.specs.declared.runs.Kind.TheVariants.{All}
use Rattle.buffer_core.specs.declared.replies.Received.{Received}
use Rattle.buffer_core.specs.declared.entry.BufferEntry.{BufferEntry}
use Rattle.buffer_core.specs.declared.entry.BufferEntry.TheVariants.{Request, Receive, Begin, End}
use Rattle.buffer_core.specs.Ports.{GotEvent, name_of, name_given, names_given}
use Rattle.member_model.specs.OwnCalls.{calls_after, asks, LeavesAsking, KeepsAsking, HasDrained, AreGivenBy, is_place_within, event_at, events_at}
use Rattle.member_model.proofs.SentLaws.{EachCall-push}
use Rattle.member_model.specs.ReadRuns.{EndsNot, BeginsNot, AskedOnce, IsAsking, IsAskingFor, IsReading, IsDraining, HasReadRun}

-- Lists

names_given-push : (es : List BufferEntry) (e : BufferEntry) → names_given (es ++ e ∷ []) ≡ names_given es ++ name_given e
names_given-push [] e = append-nil (name_given e)
names_given-push (x ∷ xs) e = ap (λ (ns : List (ℕ × ℕ × ℕ)). name_given x ++ ns) (names_given-push xs e) ∙ sym (append_assoc (name_given x) (names_given xs) (name_given e))

pub AreGivenBy-push : (calls : List BufferEntry) (given : List GotEvent) (e : BufferEntry) (gs : List GotEvent) → AreGivenBy calls given → name_given e ≡ map name_of gs → AreGivenBy (calls ++ e ∷ []) (given ++ gs)
AreGivenBy-push calls given e gs by here = record {
  named_so = names_given-push calls e
      ∙ (ap (λ (ns : List (ℕ × ℕ × ℕ)). ns ++ name_given e) by.named_so
      ∙ (ap (λ (ns : List (ℕ × ℕ × ℕ)). map name_of given ++ ns) here
      ∙ sym (map-append name_of given gs)));
}

pub events_at-append : (client : ℕ) (test : ℕ → Bool) (xs ys : List GotEvent) → events_at client test (xs ++ ys) ≡ events_at client test xs ++ events_at client test ys
events_at-append client test [] ys = refl
events_at-append client test (x ∷ xs) ys =
    ap (λ (es : List Event). event_at client test x ++ es) (events_at-append client test xs ys) ∙ sym (append_assoc (event_at client test x) (events_at client test xs) (events_at client test ys))

pub KeepsAsking-push : (client : ℕ) (es : List BufferEntry) (e : BufferEntry) → KeepsAsking client es → LeavesAsking client e → KeepsAsking client (es ++ e ∷ [])
KeepsAsking-push client [] e keeps leaves = (leaves, tt)
KeepsAsking-push client (x ∷ xs) e keeps leaves = (keeps.0, KeepsAsking-push client xs e keeps.1 leaves)

pub calls_after-push : (past es : List BufferEntry) (e : BufferEntry) → calls_after past (es ++ e ∷ []) ≡ e ∷ calls_after past es
calls_after-push past [] e = refl
calls_after-push past (x ∷ xs) e = calls_after-push (x ∷ past) xs e

-- One call more

AskedOnce-push : (own : List BufferEntry) (client id mask number : ℕ) (calls : List BufferEntry) (e : BufferEntry) → AskedOnce own client id mask number calls → AskedOnce (own ++ e ∷ []) client id mask number (calls ++ e ∷ [])
AskedOnce-push own client id mask number calls e asked = record {
  before = asked.before;
  whole = ap (λ (es : List BufferEntry). es ++ e ∷ []) asked.whole ∙ append_assoc asked.before (Request client id mask All (Ok number) ∷ calls) (e ∷ []);
  alone = asked.alone;
}

AskedOnce-calls : (own : List BufferEntry) (client id mask number : ℕ) (calls same : List BufferEntry) → calls ≡ same → AskedOnce own client id mask number calls → AskedOnce own client id mask number same
AskedOnce-calls own client id mask number calls same e asked = subst (λ (es : List BufferEntry). AskedOnce own client id mask number es) e asked

-- a request that is made when the client has none
pub asking_made : (own : List BufferEntry) (client id mask number start : ℕ) → ((n : ℕ) → asks (calls_after [] own) client n ≡ false) → IsAskingFor (own ++ Request client id mask All (Ok number) ∷ []) client id mask number start
asking_made own client id mask number start alone = record {
  calls = [];
  asked = record { before = own; whole = refl; alone = alone };
  asks_on = tt;
  no_begin = tt;
}

pub asking_push : (own : List BufferEntry) (client id mask number start : ℕ) (e : BufferEntry) → IsAskingFor own client id mask number start → LeavesAsking client e → BeginsNot start e → IsAskingFor (own ++ e ∷ []) client id mask number start
asking_push own client id mask number start e asking leaves begins = record {
  calls = asking.calls ++ e ∷ [];
  asked = AskedOnce-push own client id mask number asking.calls e asking.asked;
  asks_on = KeepsAsking-push client asking.calls e asking.asks_on leaves;
  no_begin = EachCall-push (BeginsNot start) asking.calls e asking.no_begin begins;
}

pub asking_for : (own : List BufferEntry) (client id mask number start : ℕ) → IsAskingFor own client id mask number start → IsAsking own client id mask number
asking_for own client id mask number start asking = record { calls = asking.calls; asked = asking.asked; asks_on = asking.asks_on }

-- the run is begun
pub reading_begun : (own : List BufferEntry) (got : List GotEvent) (client id mask number start begun : ℕ) → IsAskingFor own client id mask number start → IsReading (own ++ Begin start (Ok begun) ∷ []) got client id mask number start begun []
reading_begun own got client id mask number start begun asking = record {
  asking = asking.calls;
  running = [];
  asked = AskedOnce-push own client id mask number asking.calls (Begin start (Ok begun)) asking.asked;
  asks_on = asking.asks_on;
  no_begin = asking.no_begin;
  reads_on = tt;
  no_end = tt;
  earlier = got;
  given = [];
  got_is = sym (append-nil got);
  gives = record { named_so = refl };
  events_are = refl;
}

-- a call while the run is on, which gives these events
pub reading_push : (own : List BufferEntry) (got : List GotEvent) (client id mask number start begun : ℕ) (events : List Event) (e : BufferEntry) (gs : List GotEvent) → IsReading own got client id mask number start begun events
    → LeavesAsking client e → EndsNot start e → name_given e ≡ map name_of gs → IsReading (own ++ e ∷ []) (got ++ gs) client id mask number start begun (events ++ events_at client (nat_le begun) gs)
reading_push own got client id mask number start begun events e gs reads leaves ends named = record {
  asking = reads.asking;
  running = reads.running ++ e ∷ [];
  asked = AskedOnce-calls (own ++ e ∷ []) client id mask number ((reads.asking ++ Begin start (Ok begun) ∷ reads.running) ++ e ∷ []) (reads.asking ++ Begin start (Ok begun) ∷ (reads.running ++ e ∷ []))
      (append_assoc reads.asking (Begin start (Ok begun) ∷ reads.running) (e ∷ []))
      (AskedOnce-push own client id mask number (reads.asking ++ Begin start (Ok begun) ∷ reads.running) e reads.asked);
  asks_on = reads.asks_on;
  no_begin = reads.no_begin;
  reads_on = KeepsAsking-push client reads.running e reads.reads_on leaves;
  no_end = EachCall-push (EndsNot start) reads.running e reads.no_end ends;
  earlier = reads.earlier;
  given = reads.given ++ gs;
  got_is = ap (λ (l : List GotEvent). l ++ gs) reads.got_is ∙ append_assoc reads.earlier reads.given gs;
  gives = AreGivenBy-push reads.running reads.given e gs reads.gives named;
  events_are = ap (λ (l : List Event). l ++ events_at client (nat_le begun) gs) reads.events_are ∙ sym (events_at-append client (nat_le begun) reads.given gs);
}

-- the run is ended
pub draining_begun : (own : List BufferEntry) (got : List GotEvent) (client id mask number start begun ended : ℕ) (events : List Event) → IsReading own got client id mask number start begun events
    → IsDraining (own ++ End start (Ok ended) ∷ []) got client id mask number start begun ended events
draining_begun own got client id mask number start begun ended events reads = record {
  asking = reads.asking;
  running = reads.running;
  draining = [];
  asked = AskedOnce-calls (own ++ End start (Ok ended) ∷ []) client id mask number ((reads.asking ++ Begin start (Ok begun) ∷ reads.running) ++ End start (Ok ended) ∷ [])
      (reads.asking ++ Begin start (Ok begun) ∷ (reads.running ++ End start (Ok ended) ∷ []))
      (append_assoc reads.asking (Begin start (Ok begun) ∷ reads.running) (End start (Ok ended) ∷ []))
      (AskedOnce-push own client id mask number (reads.asking ++ Begin start (Ok begun) ∷ reads.running) (End start (Ok ended)) reads.asked);
  asks_on = reads.asks_on;
  no_begin = reads.no_begin;
  reads_on = reads.reads_on;
  no_end = reads.no_end;
  drains_on = tt;
  earlier = reads.earlier;
  given_running = reads.given;
  given_draining = [];
  got_is = reads.got_is ∙ ap (λ (l : List GotEvent). reads.earlier ++ l) (sym (append-nil reads.given));
  gives_running = reads.gives;
  gives_draining = record { named_so = refl };
  events_are = reads.events_are ∙ sym (append-nil (events_at client (nat_le begun) reads.given));
}

-- a call behind the end of the run, which gives these events
pub draining_push : (own : List BufferEntry) (got : List GotEvent) (client id mask number start begun ended : ℕ) (events : List Event) (e : BufferEntry) (gs : List GotEvent) → IsDraining own got client id mask number start begun ended events
    → LeavesAsking client e → name_given e ≡ map name_of gs → IsDraining (own ++ e ∷ []) (got ++ gs) client id mask number start begun ended (events ++ events_at client (is_place_within begun ended) gs)
draining_push own got client id mask number start begun ended events e gs drains leaves named =
    let front : List BufferEntry = drains.asking in
    let behind : List BufferEntry = drains.running ++ End start (Ok ended) ∷ drains.draining in
    record {
      asking = front;
      running = drains.running;
      draining = drains.draining ++ e ∷ [];
      asked = AskedOnce-calls (own ++ e ∷ []) client id mask number ((front ++ Begin start (Ok begun) ∷ behind) ++ e ∷ []) (front ++ Begin start (Ok begun) ∷ (drains.running ++ End start (Ok ended) ∷ (drains.draining ++ e ∷ [])))
          (append_assoc front (Begin start (Ok begun) ∷ behind) (e ∷ [])
          ∙ ap (λ (l : List BufferEntry). front ++ Begin start (Ok begun) ∷ l) (append_assoc drains.running (End start (Ok ended) ∷ drains.draining) (e ∷ [])))
          (AskedOnce-push own client id mask number (front ++ Begin start (Ok begun) ∷ behind) e drains.asked);
      asks_on = drains.asks_on;
      no_begin = drains.no_begin;
      reads_on = drains.reads_on;
      no_end = drains.no_end;
      drains_on = KeepsAsking-push client drains.draining e drains.drains_on leaves;
      earlier = drains.earlier;
      given_running = drains.given_running;
      given_draining = drains.given_draining ++ gs;
      got_is = ap (λ (l : List GotEvent). l ++ gs) drains.got_is
          ∙ (append_assoc drains.earlier (drains.given_running ++ drains.given_draining) gs
          ∙ ap (λ (l : List GotEvent). drains.earlier ++ l) (append_assoc drains.given_running drains.given_draining gs));
      gives_running = drains.gives_running;
      gives_draining = AreGivenBy-push drains.draining drains.given_draining e gs drains.gives_draining named;
      events_are = ap (λ (l : List Event). l ++ events_at client (is_place_within begun ended) gs) drains.events_are
          ∙ (append_assoc (events_at client (nat_le begun) drains.given_running) (events_at client (is_place_within begun ended) drains.given_draining) (events_at client (is_place_within begun ended) gs)
          ∙ ap (λ (l : List Event). events_at client (nat_le begun) drains.given_running ++ l) (sym (events_at-append client (is_place_within begun ended) drains.given_draining gs)));
    }

-- the receive that drains the client
pub run_read : (own : List BufferEntry) (got : List GotEvent) (client id mask number start begun ended : ℕ) (events : List Event) (room : ℕ) (reply : Received) → IsDraining (own ++ Receive client room reply ∷ []) got client id mask number start begun ended events
    → HasDrained ended reply → HasReadRun (own ++ Receive client room reply ∷ []) got client id mask number start begun ended events
run_read own got client id mask number start begun ended events room reply drains over = record {
  drained = own;
  room = room;
  reply = reply;
  later = [];
  own_is = sym (append-nil (own ++ Receive client room reply ∷ []));
  got_by = got;
  got_later = [];
  got_is = sym (append-nil got);
  reads = drains;
  drains = over;
}

-- any calls that follow
pub run_push : (own : List BufferEntry) (got : List GotEvent) (client id mask number start begun ended : ℕ) (events : List Event) (more : List BufferEntry) (gs : List GotEvent) → HasReadRun own got client id mask number start begun ended events
    → HasReadRun (own ++ more) (got ++ gs) client id mask number start begun ended events
run_push own got client id mask number start begun ended events more gs has = record {
  drained = has.drained;
  room = has.room;
  reply = has.reply;
  later = has.later ++ more;
  own_is = ap (λ (l : List BufferEntry). l ++ more) has.own_is ∙ append_assoc (has.drained ++ Receive client has.room has.reply ∷ []) has.later more;
  got_by = has.got_by;
  got_later = has.got_later ++ gs;
  got_is = ap (λ (l : List GotEvent). l ++ gs) has.got_is ∙ append_assoc has.got_by has.got_later gs;
  reads = has.reads;
  drains = has.drains;
}
