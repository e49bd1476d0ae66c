-- Who sent an event that stands between the marks of a run.
use Rattle.std.specs.Prelude.{◌≡◌, ◌≢◌, ℕ, zero, suc, Bool, if◌then◌else◌, Contains, List, [], ◌∷◌, ◌++◌, length, slice_get, Option, Some, None, Ok, Err, refl, ◌⊎◌}
use Rattle.std.specs.List.{AllByRecursion}
use Rattle.std.proofs.Common.{ap, sym, ◌∙◌, subst, arith, inl, inr, append_assoc, eq-eqb}
use Rattle.std.proofs.lemmas.List.Elements.{Contains-append_right}
use Rattle.daq_types.specs.Callers.{entries_by}
use Rattle.daq_types.proofs.CallersLaws.{entries_by-append, entries_by-own}
use Rattle.daq_types.specs.declared.events.Event.{Event}
use Rattle.buffer_core.specs.declared.replies.Received.TheVariants.{Got, Empty, NoClient as NoReader, SmallBuf}
use Rattle.buffer_core.specs.declared.entry.BufferEntry.{BufferEntry}
use Rattle.buffer_core.specs.declared.entry.BufferEntry.TheVariants.{Attach, Detach, Request, Cancel, Send, SendInRun, Receive, Begin, Pause, Resume, End, Level, Accepted}
use Rattle.buffer_core.specs.Window.{Sent, opening}
use Rattle.buffer_core.specs.Histories.{IsLegal}
use Rattle.buffer_core.specs.Points.{News, Nothing, Attached, Detached, Requested, Cancelled, Taken, Gave, Drained, news_of, sent, sent_after, count_at, past_after, past_of}
use Rattle.buffer_core.specs.Runs.{begun_at, ended_at, segment, events_between}
use Rattle.history_laws.specs.BufferLaws.{BufferLaws}
use Rattle.history_laws.specs.OneCaller.{SendsInRuns, HaveRunSends}
use Rattle.history_laws.specs.CallerLaws.{IsSendOf, SentByCaller, SendIsAmong, SenderHasOwn, SenderSendsInRuns, SilentSendsInRuns, SendsOrReads, MembersFit}
use Rattle.member_model.specs.SentCalls.{sent_by_call, own_sent, IsSendInRun, EachCall}
use Rattle.member_model.specs.OwnCalls.{calls_after, IsOwnCall, AreOwnCalls, SendsNone}
use Rattle.history_laws.proofs.OwnPlaces.{all_back}
use Rattle.history_laws.proofs.GotEvents.{StandThere, between_there}

-- What is so of each call.

pub all_of_each : (P : BufferEntry → Type 0) (es : List BufferEntry) → EachCall P es → AllByRecursion P es
all_of_each P [] each = tt
all_of_each P (e ∷ es) each = (each.0, all_of_each P es each.1)

pub each_of_all : (P : BufferEntry → Type 0) (es : List BufferEntry) → AllByRecursion P es → EachCall P es
each_of_all P [] all = tt
each_of_all P (e ∷ es) all = (all.0, each_of_all P es all.1)

each_weaker : (P Q : BufferEntry → Type 0) → ((e : BufferEntry) → P e → Q e) → (es : List BufferEntry) → EachCall P es → EachCall Q es
each_weaker P Q weaker [] each = tt
each_weaker P Q weaker (e ∷ es) each = (weaker e each.0, each_weaker P Q weaker es each.1)

run_send_is : (e : BufferEntry) → IsSendInRun e → SendsInRuns e
run_send_is (SendInRun start stated e reply) is = tt
run_send_is (Send stated e reply) is = absurd is
run_send_is (Attach name reply) is = tt
run_send_is (Detach client reply) is = tt
run_send_is (Request client id mask kind reply) is = tt
run_send_is (Cancel client number reply) is = tt
run_send_is (Receive client room reply) is = tt
run_send_is (Begin start reply) is = tt
run_send_is (Pause start reply) is = tt
run_send_is (Resume start reply) is = tt
run_send_is (End start reply) is = tt
run_send_is (Level reply) is = tt
run_send_is (Accepted reply) is = tt

no_send_is : (e : BufferEntry) → SendsNone e → SendsInRuns e
no_send_is (Send stated e reply) is = absurd is
no_send_is (SendInRun start stated e reply) is = tt
no_send_is (Attach name reply) is = tt
no_send_is (Detach client reply) is = tt
no_send_is (Request client id mask kind reply) is = tt
no_send_is (Cancel client number reply) is = tt
no_send_is (Receive client room reply) is = tt
no_send_is (Begin start reply) is = tt
no_send_is (Pause start reply) is = tt
no_send_is (Resume start reply) is = tt
no_send_is (End start reply) is = tt
no_send_is (Level reply) is = tt
no_send_is (Accepted reply) is = tt

send_is_own : (e : BufferEntry) (es : List BufferEntry) → IsSendInRun e → IsOwnCall e es
send_is_own (SendInRun start stated e reply) es is = tt
send_is_own (Send stated e reply) es is = tt
send_is_own (Attach name reply) es is = tt
send_is_own (Detach client reply) es is = absurd is
send_is_own (Request client id mask kind reply) es is = absurd is
send_is_own (Cancel client number reply) es is = absurd is
send_is_own (Receive client room reply) es is = absurd is
send_is_own (Begin start reply) es is = tt
send_is_own (Pause start reply) es is = tt
send_is_own (Resume start reply) es is = tt
send_is_own (End start reply) es is = tt
send_is_own (Level reply) es is = tt
send_is_own (Accepted reply) es is = tt

sends_are_own : (past es : List BufferEntry) → AreOwnCalls past → EachCall IsSendInRun es → AreOwnCalls (calls_after past es)
sends_are_own past [] are each = are
sends_are_own past (e ∷ es) are each = sends_are_own (e ∷ past) es (send_is_own e past each.0, are) each.1

pub sender_has_own : SenderHasOwn
sender_has_own own each = sends_are_own [] own tt each

pub sender_sends_in_runs : SenderSendsInRuns
sender_sends_in_runs own each = each_weaker IsSendInRun SendsInRuns run_send_is own each

pub silent_sends_in_runs : SilentSendsInRuns
silent_sends_in_runs own each = each_weaker SendsNone SendsInRuns no_send_is own each

fits_one : (own : List BufferEntry) → SendsOrReads own → AreOwnCalls (calls_after [] own) × EachCall SendsInRuns own
fits_one own (inl sends) = (sender_has_own own sends, sender_sends_in_runs own sends)
fits_one own (inr reads) = (reads.1, silent_sends_in_runs own reads.0)

pub members_fit : MembersFit
members_fit h members = (λ caller. (fits_one (entries_by caller h) (members caller)).0, λ caller. (fits_one (entries_by caller h) (members caller)).1)

-- What stands in a segment was sent at its place.

pub all_at : {X : Type 0} (P : X → Type 0) (xs : List X) (i : ℕ) (x : X) → AllByRecursion P xs → slice_get xs i ≡ Some x → P x
all_at P [] i x all e = absurd (cc (e))
all_at P (y ∷ ys) zero x all e = let same : y ≡ x = cc (e) in subst P same all.0
all_at P (y ∷ ys) (suc i) x all e = all_at P ys i x all.1 e

pub segment_there : (begin end : Option ℕ) (ss : List Sent) → StandThere ss (events_between begin end ss)
segment_there None end ss = tt
segment_there (Some from) None ss = between_there from (length ss) ss
segment_there (Some from) (Some to) ss = between_there from to ss

-- The entry by which an event was sent.
pub record IsSentBy (past es : List (ℕ × BufferEntry)) (place : ℕ) (x : Sent) : Type 0 where
  pub before : List (ℕ × BufferEntry)
  pub after : List (ℕ × BufferEntry)
  pub caller : ℕ
  pub entry : BufferEntry
  pub whole : es ≡ before ++ (caller, entry) ∷ after
  pub tells : news_of entry ≡ Taken x
  pub place_is : place ≡ count_at (past_after past before)

either_end : (ss : List Sent) (s x : Sent) (i : ℕ) → slice_get (ss ++ s ∷ []) i ≡ Some x → (slice_get ss i ≡ Some x) ⊎ ((i ≡ length ss) × (s ≡ x))
either_end [] s x zero e = inr (refl, cc (e))
either_end [] s x (suc i) e = absurd (cc (e))
either_end (y ∷ ys) s x zero e = inl e
either_end (y ∷ ys) s x (suc i) e = elim (either_end ys s x i e) as (λ w. (slice_get (y ∷ ys) (suc i) ≡ Some x) ⊎ ((suc i ≡ suc (length ys)) × (s ≡ x))) [
  | inl old ↦ inl old
  | inr new ↦ inr (omega (arith, new.0), new.1)
]

sent_now : (news : News) (ss : List Sent) (x : Sent) (i : ℕ) → slice_get (sent_after news ss) i ≡ Some x → (slice_get ss i ≡ Some x) ⊎ ((i ≡ length ss) × (news ≡ Taken x))
sent_now Nothing ss x i e = inl e
sent_now (Attached n) ss x i e = inl e
sent_now (Detached n) ss x i e = inl e
sent_now (Requested n m id mask kind) ss x i e = inl e
sent_now (Cancelled n m) ss x i e = inl e
sent_now (Taken s) ss x i e = elim (either_end ss s x i e) as (λ w. (slice_get ss i ≡ Some x) ⊎ ((i ≡ length ss) × (Taken s ≡ Taken x))) [
  | inl old ↦ inl old
  | inr new ↦ inr (new.0, ap (λ (y : Sent). Taken y) new.1)
]
sent_now (Gave n place) ss x i e = inl e
sent_now (Drained n) ss x i e = inl e

sender : (past es : List (ℕ × BufferEntry)) (place : ℕ) (x : Sent) → slice_get (sent (past_after past es)) place ≡ Some x → (slice_get (sent past) place ≡ Some x) ⊎ IsSentBy past es place x
sender past [] place x is = inl is
sender past (e ∷ es) place x is =
    elim (sender (e ∷ past) es place x is) as (λ w. (slice_get (sent past) place ≡ Some x) ⊎ IsSentBy past (e ∷ es) place x) [
      | inl here ↦ elim (sent_now (news_of e.1) (sent past) x place here) as (λ w. (slice_get (sent past) place ≡ Some x) ⊎ IsSentBy past (e ∷ es) place x) [
        | inl old ↦ inl old
        | inr now ↦ inr (record { before = []; after = es; caller = e.0; entry = e.1; whole = refl; tells = now.1; place_is = now.0 })
      ]
      | inr later ↦ inr (record {
        before = e ∷ later.before;
        after = later.after;
        caller = later.caller;
        entry = later.entry;
        whole = ap (λ (xs : List (ℕ × BufferEntry)). e ∷ xs) later.whole;
        tells = later.tells;
        place_is = later.place_is;
      })
    ]

-- An entry that sends an event, of one who sends in runs alone.
pub record IsRunSend (entry : BufferEntry) (x : Sent) : Type 0 where
  pub stated : ℕ
  pub reply : ℕ
  pub is : entry ≡ SendInRun x.start stated x.event (Ok reply)

run_send : (e : BufferEntry) (x : Sent) → SendsInRuns e → news_of e ≡ Taken x → IsRunSend e x
run_send (Attach name (Ok n)) x runs is = absurd (cc (is))
run_send (Attach name (Err f)) x runs is = absurd (cc (is))
run_send (Detach client (Ok u)) x runs is = absurd (cc (is))
run_send (Detach client (Err f)) x runs is = absurd (cc (is))
run_send (Request client id mask kind (Ok n)) x runs is = absurd (cc (is))
run_send (Request client id mask kind (Err f)) x runs is = absurd (cc (is))
run_send (Cancel client number (Ok u)) x runs is = absurd (cc (is))
run_send (Cancel client number (Err f)) x runs is = absurd (cc (is))
run_send (Send stated e reply) x runs is = absurd runs
run_send (SendInRun start stated e (Ok n)) x runs is =
    let same : record { event = e; start = start } ≡ x = taken_is (record { event = e; start = start }) x is in
    record { stated = stated; reply = n; is = ap (λ (s : Sent). SendInRun s.start stated s.event (Ok n)) same }
  where
    taken_is : (s x : Sent) → Taken s ≡ Taken x → s ≡ x
    taken_is s x e = cc (e)
run_send (SendInRun start stated e (Err f)) x runs is = absurd (cc (is))
run_send (Receive client room (Got place start)) x runs is = absurd (cc (is))
run_send (Receive client room (Empty gate last)) x runs is = absurd (cc (is))
run_send (Receive client room NoReader) x runs is = absurd (cc (is))
run_send (Receive client room (SmallBuf need)) x runs is = absurd (cc (is))
run_send (Begin start reply) x runs is = absurd (cc (is))
run_send (Pause start reply) x runs is = absurd (cc (is))
run_send (Resume start reply) x runs is = absurd (cc (is))
run_send (End start reply) x runs is = absurd (cc (is))
run_send (Level reply) x runs is = absurd (cc (is))
run_send (Accepted reply) x runs is = absurd (cc (is))

own_around : (by : ℕ) (h before after : List (ℕ × BufferEntry)) (e : BufferEntry) → h ≡ before ++ (by, e) ∷ after → entries_by by h ≡ entries_by by before ++ e ∷ entries_by by after
own_around by h before after e whole =
    ap (entries_by by) (whole ∙ sym (append_assoc before ((by, e) ∷ []) after))
    ∙ (entries_by-append by (before ++ (by, e) ∷ []) after
    ∙ (ap (λ (es : List BufferEntry). es ++ entries_by by after) (entries_by-own by before e) ∙ append_assoc (entries_by by before) (e ∷ []) (entries_by by after)))

-- the send by which an event came to its place
pub record SentInRun (h : List (ℕ × BufferEntry)) (place : ℕ) (x : Sent) : Type 0 where
  pub caller : ℕ
  pub in_run : x.start ≢ 0
  pub send : IsSendOf (entries_by caller h) x.start place x.event

pub sent_in_run : (laws : BufferLaws) (size : ℕ) (h : List (ℕ × BufferEntry)) → IsLegal (opening size) h → HaveRunSends h → (place : ℕ) (x : Sent) → slice_get (sent (past_of h)) place ≡ Some x → SentInRun h place x
sent_in_run laws size h legal sends place x there =
    elim (sender [] h place x there) as (λ w. SentInRun h place x) [
      | inl none ↦ absurd (cc (none))
      | inr s ↦
          let by : ℕ = s.caller in
          let around : entries_by by h ≡ entries_by by s.before ++ s.entry ∷ entries_by by s.after = own_around by h s.before s.after s.entry s.whole in
          let runs_alone : SendsInRuns s.entry = (all_back SendsInRuns (entries_by by s.before) (s.entry ∷ entries_by by s.after) (subst (AllByRecursion SendsInRuns) around (all_of_each SendsInRuns (entries_by by h) (sends by)))).0 in
          let r : IsRunSend s.entry x = run_send s.entry x runs_alone s.tells in
          let legal_there : IsLegal (opening size) (s.before ++ (by, SendInRun x.start r.stated x.event (Ok r.reply)) ∷ s.after) =
          subst (IsLegal (opening size)) (s.whole ∙ ap (λ (e : BufferEntry). s.before ++ (by, e) ∷ s.after) r.is) legal in
          let count : r.reply ≡ count_at (past_of s.before) = laws.counts size s.before s.after by (SendInRun x.start r.stated x.event (Ok r.reply)) legal_there in
          let reply_is : r.reply ≡ place = count ∙ sym s.place_is in
          record {
            caller = by;
            in_run = laws.sends size s.before s.after by x.start r.stated r.reply x.event legal_there;
            send = record {
              stated = r.stated;
              before = entries_by by s.before;
              after = entries_by by s.after;
              stands = around
                  ∙ ap (λ (e : BufferEntry). entries_by by s.before ++ e ∷ entries_by by s.after)
                  (r.is ∙ ap (λ (n : ℕ). SendInRun x.start r.stated x.event (Ok n)) reply_is);
            };
          }
    ]

pub sent_by_caller : BufferLaws → SentByCaller
sent_by_caller laws size h legal sends start index place x at =
    let there : slice_get (sent (past_of h)) place ≡ Some x =
    all_at (λ (e : ℕ × Sent). slice_get (sent (past_of h)) e.0 ≡ Some e.1) (segment h start) index (place, x) (segment_there (begun_at (past_of h) start) (ended_at (past_of h) start) (sent (past_of h))) at in
    let s : SentInRun h place x = sent_in_run laws size h legal sends place x there in
    let start_is : x.start ≡ start = elim ((laws.ordered size h legal).only start index place x at) as (λ w. x.start ≡ start) [
      | inl same ↦ same
      | inr none ↦ absurd (s.in_run none)
    ] in
    (s.caller, subst (λ (n : ℕ). IsSendOf (entries_by s.caller h) n place x.event) start_is s.send)

-- A send is among the events that its caller sent.

sent_append : (es fs : List BufferEntry) (start : ℕ) → own_sent (es ++ fs) start ≡ own_sent es start ++ own_sent fs start
sent_append [] fs start = refl
sent_append (e ∷ es) fs start = ap (λ (l : List Event). sent_by_call e start ++ l) (sent_append es fs start) ∙ sym (append_assoc (sent_by_call e start) (own_sent es start) (own_sent fs start))

pub send_is_among : SendIsAmong
send_is_among own start place event is =
    let call : BufferEntry = SendInRun start is.stated event (Ok place) in
    let here : sent_by_call call start ≡ event ∷ [] = ap (λ (b : Bool). if b then event ∷ [] else []) (eq-eqb start start refl) in
    let whole : own_sent own start ≡ own_sent is.before start ++ event ∷ own_sent is.after start =
    ap (λ (es : List BufferEntry). own_sent es start) is.stands
    ∙ (sent_append is.before (call ∷ is.after) start ∙ ap (λ (l : List Event). own_sent is.before start ++ (l ++ own_sent is.after start)) here) in
    subst (λ (l : List Event). Contains l event) (sym whole) (Contains-append_right (own_sent is.before start) (event ∷ own_sent is.after start) event (0, omega arith, refl))
