-- A call of a channel more among the logger's own calls.
use Rattle.std.specs.Prelude.{◌≡◌, ℕ, true, false, List, [], ◌∷◌, ◌++◌, map, Option, Some, None, Result, Ok, Err, refl, ⊤}
use Rattle.std.proofs.Common.{sym, subst, ◌∙◌, inl, inr}
use Rattle.std.proofs.lemmas.Bool.Decides.{eqb_tells}
use Rattle.std.proofs.lemmas.List.{append-nil}
use Rattle.daq_types.specs.declared.events.Event.{Event}
use Rattle.daq_types.specs.declared.runs.Kind.TheVariants.{All}
use Rattle.buffer_core.specs.declared.replies.Received.{Received}
use Rattle.buffer_core.specs.declared.replies.Received.TheVariants.{Got, Empty, NoClient, SmallBuf}
use Rattle.buffer_core.specs.declared.replies.RequestRefusal.{RequestRefusal}
use Rattle.buffer_core.specs.declared.entry.BufferEntry.{BufferEntry}
use Rattle.buffer_core.specs.declared.entry.BufferEntry.TheVariants.{Attach, Detach, Request, Cancel, Send, SendInRun, Receive, Begin, Pause, Resume, End, Level, Accepted}
use Rattle.buffer_core.specs.Ports.{GotEvent, name_of, name_given, got_after}
use Rattle.member_model.proofs.SentLaws.{EachCall-push}
use Rattle.member_model.specs.OwnCalls.{calls_after, gave_number, IsOwnCall, AreOwnCalls, SendsNone, asks, LeavesAsking, KeepsAsking}
use Rattle.member_model.proofs.ReadLaws.{calls_after-push}
use Rattle.mid_logger.specs.Channels.{KeepsOwnCalls, IsOwnClient, AsksNothing}

-- a call of the logger that sends nothing and names an own client
pub own_push : (own : List BufferEntry) (e : BufferEntry) → KeepsOwnCalls own → SendsNone e → IsOwnCall e (calls_after [] own) → KeepsOwnCalls (own ++ e ∷ [])
own_push own e keeps none is_own = record {
  sends_none = EachCall-push SendsNone own e keeps.sends_none none;
  own_calls = subst (λ (es : List BufferEntry). AreOwnCalls es) (sym (calls_after-push [] own e)) (is_own, keeps.own_calls);
}

-- an own client stays one
pub gave_stays : (e : BufferEntry) (past : List BufferEntry) (client : ℕ) → gave_number past client ≡ true → gave_number (e ∷ past) client ≡ true
gave_stays (Attach name (Ok n)) past client gave = elim (eqb_tells n client) as (λ w. gave_number (Attach name (Ok n) ∷ past) client ≡ true) [
  | inl is ↦ rw is.0 refl
  | inr other ↦ rw other.0 gave
]
gave_stays (Attach name (Err why)) past client gave = gave
gave_stays (Detach c (Ok u)) past client gave = gave
gave_stays (Detach c (Err why)) past client gave = gave
gave_stays (Request c id mask kind (Ok n)) past client gave = gave
gave_stays (Request c id mask kind (Err why)) past client gave = gave
gave_stays (Cancel c n (Ok u)) past client gave = gave
gave_stays (Cancel c n (Err why)) past client gave = gave
gave_stays (Send stated e (Ok n)) past client gave = gave
gave_stays (Send stated e (Err why)) past client gave = gave
gave_stays (SendInRun start stated e (Ok n)) past client gave = gave
gave_stays (SendInRun start stated e (Err why)) past client gave = gave
gave_stays (Receive c room (Got place start)) past client gave = gave
gave_stays (Receive c room (Empty gate last)) past client gave = gave
gave_stays (Receive c room NoClient) past client gave = gave
gave_stays (Receive c room (SmallBuf need)) past client gave = gave
gave_stays (Begin start reply) past client gave = gave
gave_stays (Pause start reply) past client gave = gave
gave_stays (Resume start reply) past client gave = gave
gave_stays (End start reply) past client gave = gave
gave_stays (Level reply) past client gave = gave
gave_stays (Accepted reply) past client gave = gave

pub client_stays_own : (own : List BufferEntry) (e : BufferEntry) (client : ℕ) → gave_number (calls_after [] own) client ≡ true → gave_number (calls_after [] (own ++ e ∷ [])) client ≡ true
client_stays_own own e client gave = subst (λ (es : List BufferEntry). gave_number es client ≡ true) (sym (calls_after-push [] own e)) (gave_stays e (calls_after [] own) client gave)

pub own_client_push : (client : Option ℕ) (own : List BufferEntry) (e : BufferEntry) → IsOwnClient client own → IsOwnClient client (own ++ e ∷ [])
own_client_push None own e is = is
own_client_push (Some n) own e is = client_stays_own own e n is

-- Requests.

-- a call that leaves the client's requests leaves what it asks for
asks_left : (e : BufferEntry) (past : List BufferEntry) (client n : ℕ) → LeavesAsking client e → asks (e ∷ past) client n ≡ asks past client n
asks_left (Request c id mask kind (Ok m)) past client n leaves = elim (eqb_tells c client) as (λ w. asks (Request c id mask kind (Ok m) ∷ past) client n ≡ asks past client n) [
  | inl is ↦ absurd (leaves is.1)
  | inr other ↦ rw other.0 refl
]
asks_left (Request c id mask kind (Err why)) past client n leaves = refl
asks_left (Cancel c m reply) past client n leaves = elim (eqb_tells c client) as (λ w. asks (Cancel c m reply ∷ past) client n ≡ asks past client n) [
  | inl is ↦ absurd (leaves is.1)
  | inr other ↦ rw other.0 refl
]
asks_left e past client n leaves = refl

pub asks_kept : (calls past : List BufferEntry) (client n : ℕ) → KeepsAsking client calls → asks (calls_after past calls) client n ≡ asks past client n
asks_kept [] past client n keeps = refl
asks_kept (e ∷ es) past client n keeps = asks_kept es (e ∷ past) client n keeps.1 ∙ asks_left e past client n keeps.0

-- a client that asks for nothing asks for nothing behind a call that leaves its requests
pub nothing_push : (own : List BufferEntry) (client : ℕ) (e : BufferEntry) → AsksNothing (Some client) own → LeavesAsking client e → AsksNothing (Some client) (own ++ e ∷ [])
nothing_push own client e nothing leaves = λ n.
    subst (λ (es : List BufferEntry). asks es client n ≡ false) (sym (calls_after-push [] own e)) (asks_left e (calls_after [] own) client n leaves ∙ nothing n)

-- once its one request is cancelled, the client asks for nothing
pub none_left : (past calls : List BufferEntry) (client id mask number n : ℕ) (reply : Result ⊤ RequestRefusal) → asks past client n ≡ false → KeepsAsking client calls
    → asks (Cancel client number reply ∷ calls_after (Request client id mask All (Ok number) ∷ past) calls) client n ≡ false
none_left past calls client id mask number n reply alone keeps =
    let before : asks (calls_after (Request client id mask All (Ok number) ∷ past) calls) client n ≡ asks (Request client id mask All (Ok number) ∷ past) client n = asks_kept calls (Request client id mask All (Ok number) ∷ past) client n keeps in
    elim (eqb_tells client client) as (λ w. asks (Cancel client number reply ∷ calls_after (Request client id mask All (Ok number) ∷ past) calls) client n ≡ false) [
      | inl is ↦ elim (eqb_tells number n) as (λ w. asks (Cancel client number reply ∷ calls_after (Request client id mask All (Ok number) ∷ past) calls) client n ≡ false) [
        | inl same ↦ rw (is.0, same.0) refl
        | inr differs ↦ rw (is.0, differs.0, before, is.0, differs.0) alone
      ]
      | inr other ↦ absurd (other.1 refl)
    ]

pub calls_after-append : (past xs ys : List BufferEntry) → calls_after past (xs ++ ys) ≡ calls_after (calls_after past xs) ys
calls_after-append past [] ys = refl
calls_after-append past (x ∷ xs) ys = calls_after-append (x ∷ past) xs ys

-- what a receive gave
abbrev pub given_by_reply : (client : ℕ) → Received → Event → List GotEvent
given_by_reply client (Got place start) e = record { client = client; place = place; start = start; event = e } ∷ []
given_by_reply client reply e = []

pub got_after_is : (got : List GotEvent) (client : ℕ) (reply : Received) (e : Event) → got_after got client reply e ≡ got ++ given_by_reply client reply e
got_after_is got client (Got place start) e = refl
got_after_is got client (Empty gate last) e = sym (append-nil got)
got_after_is got client NoClient e = sym (append-nil got)
got_after_is got client (SmallBuf need) e = sym (append-nil got)

pub given_named : (client room : ℕ) (reply : Received) (e : Event) → name_given (Receive client room reply) ≡ map name_of (given_by_reply client reply e)
given_named client room (Got place start) e = refl
given_named client room (Empty gate last) e = refl
given_named client room NoClient e = refl
given_named client room (SmallBuf need) e = refl
