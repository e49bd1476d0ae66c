-- A client that reads by one request for all events gets just those that it wants.
use Rattle.std.specs.Prelude.{◌≡◌, ◌≢◌, ℕ, ◌+◌, ◌<◌, ◌≤◌, ◌==◌, Bool, if◌then◌else◌, List, [], ◌∷◌, ◌++◌, length, take, drop, slice_get, Option, Some, None, Ok, Err, reverse, refl, ⊤, ◌⊎◌}
use Rattle.std.specs.Option.{option_map}
use Rattle.std.specs.List.{list_any}
use Rattle.std.proofs.Common.{ap, sym, ◌∙◌, subst, arith, inl, inr, eq-eqb}
use Rattle.std.proofs.Math.Logic.{⊎_elim}
use Rattle.std.proofs.lemmas.Bool.{eqb-true, ne_eqb}
use Rattle.daq_types.specs.declared.runs.Kind.TheVariants.{All}
use Rattle.event.specs.Events.{matches, Matches}
use Rattle.buffer_core.specs.declared.gate.RunGate.{RunGate}
use Rattle.buffer_core.specs.declared.client.Request.{Request as EventRequest}
use Rattle.buffer_core.specs.declared.client.Client.{Client}
use Rattle.buffer_core.specs.declared.replies.Received.TheVariants.{Got, Empty, NoClient as NoReader, SmallBuf}
use Rattle.buffer_core.specs.declared.entry.BufferEntry.{BufferEntry}
use Rattle.buffer_core.specs.declared.entry.BufferEntry.TheVariants.{Attach, Detach, Request, Cancel, Send, SendInRun, Receive, Begin, Pause, Resume, End, Level, Accepted}
use Rattle.buffer_core.specs.Slots.{slot_at}
use Rattle.buffer_core.specs.Window.{Sent, Window, opening}
use Rattle.buffer_core.specs.Calls.{IsReply, receive_reply_to}
use Rattle.buffer_core.specs.Histories.{IsLegal}
use Rattle.buffer_core.proofs.SlotLaws.{split}
use Rattle.buffer_core.specs.Points.{News, Nothing, Attached, Detached, Requested, Cancelled, Taken, Gave, Drained, Life, news_of, reached, life_got, life_drained, life_after, life_at, request_after, request_at, sent, sent_after, count_at, IsWanted, past_after, past_of}
use Rattle.buffer_core.specs.Delivered.{IsIn, IsRightGot}
use Rattle.buffer_core.specs.Runs.{begun_at, ended_at, segment, events_between}
use Rattle.buffer_core.specs.Readers.{places_in, places_got, places_of, among, wanted, LeavesLife, LeavesRequests, KeepsLife, KeepsRequests, HasReadBelow, ReadsAll}
use Rattle.buffer_core.proofs.Places.{get_push, get_old}
use Rattle.buffer_core.proofs.Replied.{request_given}
use Rattle.buffer_core.proofs.Following.{Follows, wants_next}
use Rattle.buffer_core.proofs.Linked.{window_at, WasLegal, legal_after, IsLinked, linked}
use Rattle.buffer_core.proofs.Delivering.{followed, living, got_client, right_got}
use Rattle.buffer_core.proofs.Segments.{of_segment}
use Rattle.buffer_core.proofs.Rising.{in_reverse, of_reverse, rises_reverse, of_filter, in_filter, rises_filter, same_members, Stands, of_wanted, in_wanted, wanted_rise, any_stands, stands_any}
use Rattle.buffer_core.proofs.Continuing.{past_join, was_front, was_at}

-- How a life goes on.

-- a life at a point of a legal history, with the client of the window
life_follows : (size : ℕ) (past : List (ℕ × BufferEntry)) → WasLegal size past → (client : ℕ) (l : Life) → life_at past client ≡ Some l → (c : Client) × (slot_at (window_at size past).clients client ≡ Some c) × Follows (window_at size past).first (sent past) (request_at past client) c l
life_follows size past was client l lives =
    let w : Window = window_at size past in
    let k : IsLinked size past = linked size past was in
    followed w.first (sent past) (request_at past client) (slot_at w.clients client) (life_at past client) l (k.clients client) lives

-- it has read no further than events were sent
read_sent : (size : ℕ) (past : List (ℕ × BufferEntry)) → WasLegal size past → (client : ℕ) (l : Life) → life_at past client ≡ Some l → reached l ≤ count_at past
read_sent size past was client l lives = let f = life_follows size past was client l lives in omega (arith, f.2.next, f.2.within)

-- the client gets this place, which it had not read, since one of its requests wants it
record IsGiven (past : List (ℕ × BufferEntry)) (client place : ℕ) : Type 0 where
  pub life : Life
  pub number : ℕ
  pub request : EventRequest
  pub event : Sent
  pub lives : life_at past client ≡ Some life
  pub ahead : reached life ≤ place
  pub wants : IsWanted past client place number request event

abbrev pub OnGave : News → (ℕ → ℕ → Type 0) → Type 0
OnGave (Gave client place) P = P client place
OnGave news P = ⊤

given : (size : ℕ) (past : List (ℕ × BufferEntry)) → WasLegal size past → (client room place start : ℕ) → IsReply (window_at size past) (Receive client room (Got place start)) → IsGiven past client place
given size past was client room place start reply =
    let w : Window = window_at size past in
    let k : IsLinked size past = linked size past was in
    let r : IsRightGot past client place start = (right_got size past was client room place start reply).0 in
    let got = got_client w room place start (slot_at w.clients client) reply in
    let alive = living w.first (sent past) (request_at past client) (slot_at w.clients client) (life_at past client) got.0 (k.clients client) got.2 in
    let same : alive.0 ≡ r.life = cc (alive.1, r.lives) in
    let ahead : reached alive.0 ≤ place = omega (arith, alive.2.next, wants_next place got.1.event got.0 got.3.wanted) in
    record {
      life = r.life;
      number = r.number;
      request = r.request;
      event = r.event;
      lives = r.lives;
      ahead = subst (λ (l : Life). reached l ≤ place) same ahead;
      wants = r.wanted;
    }

given_by : (size : ℕ) (past : List (ℕ × BufferEntry)) → WasLegal size past → (e : BufferEntry) → IsReply (window_at size past) e → OnGave (news_of e) (IsGiven past)
given_by size past was (Attach name (Ok n)) reply = tt
given_by size past was (Attach name (Err r)) reply = tt
given_by size past was (Detach client (Ok u)) reply = tt
given_by size past was (Detach client (Err r)) reply = tt
given_by size past was (Request client id mask kind (Ok n)) reply = tt
given_by size past was (Request client id mask kind (Err r)) reply = tt
given_by size past was (Cancel client request (Ok u)) reply = tt
given_by size past was (Cancel client request (Err r)) reply = tt
given_by size past was (Send stated e (Ok n)) reply = tt
given_by size past was (Send stated e (Err r)) reply = tt
given_by size past was (SendInRun start stated e (Ok n)) reply = tt
given_by size past was (SendInRun start stated e (Err r)) reply = tt
given_by size past was (Receive client room (Got place start)) reply = given size past was client room place start reply
given_by size past was (Receive client room (Empty gate last)) reply = tt
given_by size past was (Receive client room NoReader) reply = tt
given_by size past was (Receive client room (SmallBuf need)) reply = tt
given_by size past was (Begin start reply') reply = tt
given_by size past was (Pause start reply') reply = tt
given_by size past was (Resume start reply') reply = tt
given_by size past was (End start reply') reply = tt
given_by size past was (Level reply') reply = tt
given_by size past was (Accepted reply') reply = tt

-- the life after one entry more: it got no place, or one that it had not read
record GoesOn (past : List (ℕ × BufferEntry)) (client : ℕ) (before : Life) (after : Option Life) : Type 0 where
  pub life : Life
  pub lives : after ≡ Some life
  pub farther : reached before ≤ reached life
  pub got : (life.places ≡ before.places) ⊎ ((p : ℕ) × (life.places ≡ p ∷ before.places) × IsGiven past client p)

same_life : (past : List (ℕ × BufferEntry)) (client : ℕ) (l : Life) (after : Option Life) → after ≡ Some l → GoesOn past client l after
same_life past client l after e = record { life = l; lives = e; farther = omega arith; got = inl refl }

missed : {A : Type 0} (n client : ℕ) (o o' : Option A) → n ≢ client → (if n == client then o' else o) ≡ o
missed n client o o' other = ap (λ (b : Bool). if b then o' else o) (ne_eqb n client other)

goes_on : (past : List (ℕ × BufferEntry)) (client : ℕ) (l : Life) (o : Option Life) (count : ℕ) (news : News) → life_at past client ≡ o → o ≡ Some l → reached l ≤ count → LeavesLife client news → OnGave news (IsGiven past) →
    GoesOn past client l (life_after news count client o)
goes_on past client l o count Nothing at_point e within leaves gave = same_life past client l o e
goes_on past client l o count (Attached n) at_point e within leaves gave = same_life past client l (if n == client then Some (record { joined = count; places = []; drained = 0 }) else o) (missed n client o (Some (record { joined = count; places = []; drained = 0 })) leaves ∙ e)
goes_on past client l o count (Detached n) at_point e within leaves gave = same_life past client l (if n == client then None else o) (missed n client o None leaves ∙ e)
goes_on past client l o count (Requested n m id mask kind) at_point e within leaves gave = same_life past client l o e
goes_on past client l o count (Cancelled n m) at_point e within leaves gave = same_life past client l o e
goes_on past client l o count (Taken s) at_point e within leaves gave = same_life past client l o e
goes_on past client l o count (Gave n p) at_point e within leaves gave =
    split (n == client) (λ b. (n == client) ≡ b → GoesOn past client l (if b then option_map (life_got p) o else o))
    (λ h same.
    let here : IsGiven past client p = subst (λ (c : ℕ). IsGiven past c p) (eqb-true n client same) gave in
    let life_is : here.life ≡ l = cc (at_point ∙ e, here.lives) in
    let ahead : reached l ≤ p = subst (λ (x : Life). reached x ≤ p) life_is here.ahead in
    record {
      life = life_got p l;
      lives = ap (option_map (life_got p)) e;
      farther = omega (arith, ahead);
      got = inr (p, refl, here);
    })
    (λ h other. same_life past client l o e)
    refl
goes_on past client l o count (Drained n) at_point e within leaves gave =
    split (n == client) (λ b. GoesOn past client l (if b then option_map (life_drained count) o else o))
    (λ h. record {
      life = life_drained count l;
      lives = ap (option_map (life_drained count)) e;
      farther = omega (arith, within);
      got = inl refl;
    })
    (λ h. same_life past client l o e)

life_goes_on : (size : ℕ) (e : ℕ × BufferEntry) (past : List (ℕ × BufferEntry)) → WasLegal size (e ∷ past) → (client : ℕ) (l : Life) → life_at past client ≡ Some l → LeavesLife client (news_of e.1) → GoesOn past client l (life_at (e ∷ past) client)
life_goes_on size e past was client l lives leaves =
    goes_on past client l (life_at past client) (count_at past) (news_of e.1) refl lives (read_sent size past was.1 client l lives) leaves (given_by size past was.1 e.1 was.0)

-- Events that were sent stay, and none comes before them.

stays_sent : (news : News) (ss : List Sent) (p : ℕ) (s : Sent) → slice_get ss p ≡ Some s → slice_get (sent_after news ss) p ≡ Some s
stays_sent (Taken x) ss p s is = get_push ss x p s is
stays_sent news ss p s is = is

was_sent : (news : News) (ss : List Sent) (p : ℕ) (s : Sent) → p < length ss → slice_get (sent_after news ss) p ≡ Some s → slice_get ss p ≡ Some s
was_sent (Taken x) ss p s within is = get_old ss x p s within is
was_sent news ss p s within is = is

-- While the request lives.

leaves_life : (client : ℕ) (news : News) → LeavesRequests client news → LeavesLife client news
leaves_life client Nothing leaves = tt
leaves_life client (Attached n) leaves = leaves
leaves_life client (Detached n) leaves = leaves
leaves_life client (Requested n m id mask kind) leaves = tt
leaves_life client (Cancelled n m) leaves = tt
leaves_life client (Taken s) leaves = tt
leaves_life client (Gave n p) leaves = tt
leaves_life client (Drained n) leaves = tt

same_requests : (news : News) (count client n : ℕ) (o : Option EventRequest) → LeavesRequests client news → request_after news count client n o ≡ o
same_requests Nothing count client n o leaves = refl
same_requests (Attached m) count client n o leaves = missed m client o None leaves
same_requests (Detached m) count client n o leaves = missed m client o None leaves
same_requests (Requested m k id mask kind) count client n o leaves = missed m client o (if k == n then Some (record { id = id; mask = mask; kind = kind; since = count }) else o) leaves
same_requests (Cancelled m k) count client n o leaves = missed m client o (if k == n then None else o) leaves
same_requests (Taken s) count client n o leaves = refl
same_requests (Gave m p) count client n o leaves = refl
same_requests (Drained m) count client n o leaves = refl

-- the event of this place was sent, and a request for this id and mask wants it
record IsSentFor (past : List (ℕ × BufferEntry)) (id mask place : ℕ) : Type 0 where
  pub event : Sent
  pub is : slice_get (sent past) place ≡ Some event
  pub matched : Matches id mask event.event

still_sent : (e : ℕ × BufferEntry) (past : List (ℕ × BufferEntry)) (id mask place : ℕ) → IsSentFor past id mask place → IsSentFor (e ∷ past) id mask place
still_sent e past id mask place it = record { event = it.event; is = stays_sent (news_of e.1) (sent past) place it.event it.is; matched = it.matched }

-- the client has this one request, made when so many events were sent, and got since then only what it wants
record Reads (past : List (ℕ × BufferEntry)) (client id mask since number : ℕ) : Type 0 where
  pub life : Life
  pub lives : life_at past client ≡ Some life
  pub request : request_at past client number ≡ Some (record { id = id; mask = mask; kind = All; since = since })
  pub only : (n : ℕ) (q : EventRequest) → request_at past client n ≡ Some q → (q.id ≡ id) × (q.mask ≡ mask)
  pub sound : (p : ℕ) → IsIn p life.places → since ≤ p → IsSentFor past id mask p

given_sent : (past : List (ℕ × BufferEntry)) (client id mask p : ℕ) → ((n : ℕ) (q : EventRequest) → request_at past client n ≡ Some q → (q.id ≡ id) × (q.mask ≡ mask)) → IsGiven past client p → IsSentFor past id mask p
given_sent past client id mask p only it =
    let same = only it.number it.request it.wants.lives in
    record {
      event = it.event;
      is = it.wants.is_sent;
      matched = subst (λ (i : ℕ). Matches i mask it.event.event) same.0 (subst (λ (m : ℕ). Matches it.request.id m it.event.event) same.1 it.wants.matched);
    }

reads_on : (size : ℕ) (e : ℕ × BufferEntry) (past : List (ℕ × BufferEntry)) → WasLegal size (e ∷ past) → (client id mask since number : ℕ) → Reads past client id mask since number → LeavesRequests client (news_of e.1) →
    Reads (e ∷ past) client id mask since number
reads_on size e past was client id mask since number r leaves =
    let on : GoesOn past client r.life (life_at (e ∷ past) client) = life_goes_on size e past was client r.life r.lives (leaves_life client (news_of e.1) leaves) in
    let same : (n : ℕ) → request_at (e ∷ past) client n ≡ request_at past client n = λ n. same_requests (news_of e.1) (count_at past) client n (request_at past client n) leaves in
    record {
      life = on.life;
      lives = on.lives;
      request = same number ∙ r.request;
      only = λ n q is. r.only n q (sym (same n) ∙ is);
      sound = λ p is later.
          still_sent e past id mask p
          (⊎_elim
          (λ (none : on.life.places ≡ r.life.places). r.sound p (subst (IsIn p) none is) later)
          (λ (one : (q : ℕ) × (on.life.places ≡ q ∷ r.life.places) × IsGiven past client q).
          ⊎_elim
          (λ (new : p ≡ one.0). subst (IsSentFor past id mask) (sym new) (given_sent past client id mask one.0 r.only one.2))
          (λ (old : IsIn p r.life.places). r.sound p old later)
          (subst (IsIn p) one.1 is))
          on.got);
    }

reads_during : (size : ℕ) (past during : List (ℕ × BufferEntry)) → WasLegal size (past_after past during) → (client id mask since number : ℕ) → Reads past client id mask since number → KeepsRequests client during →
    Reads (past_after past during) client id mask since number
reads_during size past [] was client id mask since number r keeps = r
reads_during size past (e ∷ es) was client id mask since number r keeps =
    reads_during size (e ∷ past) es was client id mask since number (reads_on size e past (was_front size (e ∷ past) es was) client id mask since number r keeps.0) keeps.1

-- When it has read so far.

-- of the places from one on and below another, which it has read, the client got just those that it wants
record GotAll (past : List (ℕ × BufferEntry)) (client id mask from to : ℕ) : Type 0 where
  pub life : Life
  pub lives : life_at past client ≡ Some life
  pub far : to ≤ reached life
  pub sound : (p : ℕ) → IsIn p life.places → from ≤ p → p < to → IsSentFor past id mask p
  pub complete : (p : ℕ) → from ≤ p → p < to → IsSentFor past id mask p → IsIn p life.places

got_all : (size : ℕ) (past : List (ℕ × BufferEntry)) → WasLegal size past → (client id mask since number from to : ℕ) → Reads past client id mask since number → since ≤ from → (life : Life) → life_at past client ≡ Some life → to ≤ reached life →
    GotAll past client id mask from to
got_all size past was client id mask since number from to r early life lives far =
    let same : r.life ≡ life = cc (r.lives, lives) in
    let f = life_follows size past was client life lives in
    record {
      life = life;
      lives = lives;
      far = far;
      sound = λ p is after below. r.sound p (subst (λ (x : Life). IsIn p x.places) (sym same) is) (omega (arith, early, after));
      complete = λ p after below it.
          f.2.complete p number (record { id = id; mask = mask; kind = All; since = since }) it.event r.request (omega (arith, early, after)) it.is it.matched refl (omega (arith, below, far, f.2.next));
    }

got_on : (size : ℕ) (e : ℕ × BufferEntry) (past : List (ℕ × BufferEntry)) → WasLegal size (e ∷ past) → (client id mask from to : ℕ) → GotAll past client id mask from to → LeavesLife client (news_of e.1) → GotAll (e ∷ past) client id mask from to
got_on size e past was client id mask from to g leaves =
    let on : GoesOn past client g.life (life_at (e ∷ past) client) = life_goes_on size e past was client g.life g.lives leaves in
    let within : reached g.life ≤ count_at past = read_sent size past was.1 client g.life g.lives in
    record {
      life = on.life;
      lives = on.lives;
      far = omega (arith, g.far, on.farther);
      sound = λ p is after below.
          still_sent e past id mask p
          (⊎_elim
          (λ (none : on.life.places ≡ g.life.places). g.sound p (subst (IsIn p) none is) after below)
          (λ (one : (q : ℕ) × (on.life.places ≡ q ∷ g.life.places) × IsGiven past client q).
          ⊎_elim
          (λ (new : p ≡ one.0).
          let same : one.2.life ≡ g.life = cc (one.2.lives, g.lives) in
          let ahead : reached g.life ≤ one.0 = subst (λ (x : Life). reached x ≤ one.0) same one.2.ahead in
          absurd (omega (arith, new, below, g.far, ahead)))
          (λ (old : IsIn p g.life.places). g.sound p old after below)
          (subst (IsIn p) one.1 is))
          on.got);
      complete = λ p after below it.
          let old : IsIn p g.life.places =
          g.complete p after below (record { event = it.event; is = was_sent (news_of e.1) (sent past) p it.event (omega (arith, below, g.far, within)) it.is; matched = it.matched }) in
          ⊎_elim
          (λ (none : on.life.places ≡ g.life.places). subst (IsIn p) (sym none) old)
          (λ (one : (q : ℕ) × (on.life.places ≡ q ∷ g.life.places) × IsGiven past client q). subst (IsIn p) (sym one.1) (inr old))
          on.got;
    }

got_after : (size : ℕ) (past after : List (ℕ × BufferEntry)) → WasLegal size (past_after past after) → (client id mask from to : ℕ) → GotAll past client id mask from to → KeepsLife client after → GotAll (past_after past after) client id mask from to
got_after size past [] was client id mask from to g keeps = g
got_after size past (e ∷ es) was client id mask from to g keeps =
    got_after size (e ∷ past) es was client id mask from to (got_on size e past (was_front size (e ∷ past) es was) client id mask from to g keeps.0) keeps.1

-- The request is made.

first_reads : (size : ℕ) (past : List (ℕ × BufferEntry)) (caller client id mask number : ℕ) → WasLegal size ((caller, Request client id mask All (Ok number)) ∷ past) → ((n : ℕ) → request_at past client n ≡ None) →
    Reads ((caller, Request client id mask All (Ok number)) ∷ past) client id mask (count_at past) number
first_reads size past caller client id mask number was alone =
    let w : Window = window_at size past in
    let k : IsLinked size past = linked size past was.1 in
    let asking = request_given (slot_at w.clients client) number was.0 in
    let alive = living w.first (sent past) (request_at past client) (slot_at w.clients client) (life_at past client) asking.0 (k.clients client) asking.1 in
    let q : EventRequest = record { id = id; mask = mask; kind = All; since = count_at past } in
    let now : (n : ℕ) → request_at ((caller, Request client id mask All (Ok number)) ∷ past) client n ≡ (if number == n then Some q else request_at past client n) = λ n.
    ap (λ (b : Bool). if b then (if number == n then Some q else request_at past client n) else request_at past client n) (eq-eqb client client refl) in
    record {
      life = alive.0;
      lives = alive.1;
      request = now number ∙ ap (λ (b : Bool). if b then Some q else request_at past client number) (eq-eqb number number refl);
      only = λ n r is.
          split (number == n) (λ b. (if b then Some q else request_at past client n) ≡ Some r → (r.id ≡ id) × (r.mask ≡ mask))
          (λ h new. let same : q ≡ r = cc (new) in (ap (λ (x : EventRequest). x.id) (sym same), ap (λ (x : EventRequest). x.mask) (sym same)))
          (λ h old. absurd (cc (alone n, old)))
          (sym (now n) ∙ is);
      sound = λ p is later. absurd (omega (arith, alive.2.rises p is, alive.2.next, alive.2.within, later));
    }

-- The whole.

point_gets : (size : ℕ) (past : List (ℕ × BufferEntry)) → WasLegal size past → (client id mask from to : ℕ) → GotAll past client id mask from to →
    among (events_between (Some from) (Some to) (sent past)) (places_in (life_at past client)) ≡ places_of (wanted id mask (events_between (Some from) (Some to) (sent past)))
point_gets size past was client id mask from to g =
    let ss : List Sent = sent past in
    let events : List (ℕ × Sent) = events_between (Some from) (Some to) ss in
    let test : ℕ × Sent → Bool = λ (e : ℕ × Sent). matches id mask e.1.event in
    let stands : ℕ → Bool = λ (p : ℕ). list_any (λ (e : ℕ × Sent). e.0 == p) events in
    let f = life_follows size past was client g.life g.lives in
    ap (λ (o : Option Life). among events (places_in o)) g.lives
    ∙ same_members (among events (reverse g.life.places)) (places_of (wanted id mask events))
    (rises_filter stands (reverse g.life.places) (rises_reverse g.life.places f.2.falls))
    (wanted_rise test from (drop from (take to ss)))
    (λ p is.
    let parts = of_filter stands (reverse g.life.places) p is in
    let there = any_stands events p parts.1 in
    let of = of_segment (Some from) (Some to) ss there.0 p there.1 there.2 in
    let from_is : from ≡ of.0.from = cc (of.0.is_begun) in
    let it : IsSentFor past id mask p = g.sound p (of_reverse g.life.places p parts.0) (omega (arith, from_is, of.0.behind)) (of.0.before to refl) in
    let same : it.event ≡ there.1 = cc (it.is, of.1) in
    in_wanted test events there.0 p there.1 there.2 (subst (λ (s : Sent). Matches id mask s.event) same it.matched))
    (λ p is.
    let there : Stands test events p = of_wanted test events p is in
    let of = of_segment (Some from) (Some to) ss there.index p there.event there.is in
    let from_is : from ≡ of.0.from = cc (of.0.is_begun) in
    let got : IsIn p g.life.places = g.complete p (omega (arith, from_is, of.0.behind)) (of.0.before to refl) (record { event = there.event; is = of.1; matched = there.hit }) in
    in_filter stands (reverse g.life.places) p (in_reverse g.life.places p got) (stands_any events there.index p there.event there.is))

pub history_reads : (size : ℕ) (h : List (ℕ × BufferEntry)) (client id mask from to : ℕ) → IsLegal (opening size) h → ReadsAll h client id mask from to →
    among (events_between (Some from) (Some to) (sent (past_of h))) (places_got h client) ≡ places_of (wanted id mask (events_between (Some from) (Some to) (sent (past_of h))))
history_reads size h client id mask from to legal r =
    let e : ℕ × BufferEntry = (r.caller, Request client id mask All (Ok r.number)) in
    let first : List (ℕ × BufferEntry) = e ∷ past_of r.before in
    let middle : List (ℕ × BufferEntry) = past_after first r.during in
    let last : List (ℕ × BufferEntry) = past_after middle r.after in
    let whole : past_of h ≡ last = ap past_of r.whole ∙ (past_join [] r.before (e ∷ (r.during ++ r.after)) ∙ past_join first r.during r.after) in
    let was : WasLegal size last = subst (WasLegal size) whole (legal_after size [] h tt legal) in
    let was_middle : WasLegal size middle = was_front size middle r.after was in
    let was_first : WasLegal size first = was_front size first r.during was_middle in
    let reads : Reads middle client id mask (count_at (past_of r.before)) r.number =
    reads_during size first r.during was_middle client id mask (count_at (past_of r.before)) r.number (first_reads size (past_of r.before) r.caller client id mask r.number was_first r.alone) r.keeps in
    let lives : life_at middle client ≡ Some r.has_read.life = subst (λ (past : List (ℕ × BufferEntry)). life_at past client ≡ Some r.has_read.life) (past_join [] r.before (e ∷ r.during)) r.has_read.lives in
    let all : GotAll last client id mask from to =
    got_after size middle r.after was client id mask from to
    (got_all size middle was_middle client id mask (count_at (past_of r.before)) r.number from to reads r.early r.has_read.life lives r.has_read.far)
    r.stays in
    subst (λ (past : List (ℕ × BufferEntry)). among (events_between (Some from) (Some to) (sent past)) (places_in (life_at past client)) ≡ places_of (wanted id mask (events_between (Some from) (Some to) (sent past))))
    (sym whole) (point_gets size last was client id mask from to all)

pub run_reads : (size : ℕ) (h : List (ℕ × BufferEntry)) (client id mask start from to : ℕ) → IsLegal (opening size) h → ReadsAll h client id mask from to → begun_at (past_of h) start ≡ Some from → ended_at (past_of h) start ≡ Some to →
    among (segment h start) (places_got h client) ≡ places_of (wanted id mask (segment h start))
run_reads size h client id mask start from to legal r is_begun is_ended =
    let ss : List Sent = sent (past_of h) in
    let is : segment h start ≡ events_between (Some from) (Some to) ss =
    ap (λ (o : Option ℕ). events_between o (ended_at (past_of h) start) ss) is_begun ∙ ap (λ (o : Option ℕ). events_between (Some from) o ss) is_ended in
    subst (λ (events : List (ℕ × Sent)). among events (places_got h client) ≡ places_of (wanted id mask events)) (sym is) (history_reads size h client id mask from to legal r)

-- How far a client has read.

read_after : (size : ℕ) (past after : List (ℕ × BufferEntry)) → WasLegal size (past_after past after) → (client to : ℕ) (l : Life) → life_at past client ≡ Some l → to ≤ reached l → KeepsLife client after →
    (life : Life) × (life_at (past_after past after) client ≡ Some life) × (to ≤ reached life)
read_after size past [] was client to l lives far keeps = (l, lives, far)
read_after size past (e ∷ es) was client to l lives far keeps =
    let on : GoesOn past client l (life_at (e ∷ past) client) = life_goes_on size e past (was_front size (e ∷ past) es was) client l lives keeps.0 in
    read_after size (e ∷ past) es was client to on.life on.lives (omega (arith, far, on.farther)) keeps.1

-- a history whose entry at some point left the client with such a life
read_since : (size : ℕ) (before : List (ℕ × BufferEntry)) (e : ℕ × BufferEntry) (after : List (ℕ × BufferEntry)) → IsLegal (opening size) (before ++ e ∷ after) → (client to : ℕ) (l : Life) → life_at (e ∷ past_of before) client ≡ Some l → to ≤ reached l →
    KeepsLife client after → HasReadBelow (before ++ e ∷ after) client to
read_since size before e after legal client to l lives far keeps =
    let whole : past_of (before ++ e ∷ after) ≡ past_after (e ∷ past_of before) after = past_join [] before (e ∷ after) in
    let was : WasLegal size (past_after (e ∷ past_of before) after) = subst (WasLegal size) whole (legal_after size [] (before ++ e ∷ after) tt legal) in
    let it = read_after size (e ∷ past_of before) after was client to l lives far keeps in
    record { life = it.0; lives = subst (λ (past : List (ℕ × BufferEntry)). life_at past client ≡ Some it.0) (sym whole) it.1; far = it.2 }

pub got_read : (size : ℕ) (before after : List (ℕ × BufferEntry)) (caller client room place start : ℕ) → IsLegal (opening size) (before ++ (caller, Receive client room (Got place start)) ∷ after) → KeepsLife client after →
    HasReadBelow (before ++ (caller, Receive client room (Got place start)) ∷ after) client (place + 1)
got_read size before after caller client room place start legal keeps =
    let e : ℕ × BufferEntry = (caller, Receive client room (Got place start)) in
    let past : List (ℕ × BufferEntry) = past_of before in
    let was : WasLegal size (e ∷ past) = was_at size before e after legal in
    let it : IsGiven past client place = given size past was.1 client room place start was.0 in
    let lives : life_at (e ∷ past) client ≡ Some (life_got place it.life) =
    ap (λ (b : Bool). if b then option_map (life_got place) (life_at past client) else life_at past client) (eq-eqb client client refl) ∙ ap (option_map (life_got place)) it.lives in
    read_since size before e after legal client (place + 1) (life_got place it.life) lives (omega arith) keeps

drained_client : (w : Window) (room : ℕ) (gate : RunGate) (last : ℕ) (o : Option Client) → Empty gate last ≡ receive_reply_to w room o → (c : Client) × (o ≡ Some c)
drained_client w room gate last None e = absurd (cc)
drained_client w room gate last (Some c) e = (c, refl)

pub drained_read : (size : ℕ) (before after : List (ℕ × BufferEntry)) (caller client room : ℕ) (gate : RunGate) (last : ℕ) → IsLegal (opening size) (before ++ (caller, Receive client room (Empty gate last)) ∷ after) → KeepsLife client after →
    HasReadBelow (before ++ (caller, Receive client room (Empty gate last)) ∷ after) client (count_at (past_of before))
drained_read size before after caller client room gate last legal keeps =
    let e : ℕ × BufferEntry = (caller, Receive client room (Empty gate last)) in
    let past : List (ℕ × BufferEntry) = past_of before in
    let was : WasLegal size (e ∷ past) = was_at size before e after legal in
    let w : Window = window_at size past in
    let k : IsLinked size past = linked size past was.1 in
    let reader = drained_client w room gate last (slot_at w.clients client) was.0 in
    let alive = living w.first (sent past) (request_at past client) (slot_at w.clients client) (life_at past client) reader.0 (k.clients client) reader.1 in
    let lives : life_at (e ∷ past) client ≡ Some (life_drained (count_at past) alive.0) =
    ap (λ (b : Bool). if b then option_map (life_drained (count_at past)) (life_at past client) else life_at past client) (eq-eqb client client refl) ∙ ap (option_map (life_drained (count_at past))) alive.1 in
    read_since size before e after legal client (count_at past) (life_drained (count_at past) alive.0) lives (omega arith) keeps
