-- One call more among an analyzer's own calls.
use Rattle.std.specs.Prelude.{◌≡◌, ℕ, ◌+◌, true, false, List, [], ◌∷◌, ◌++◌, map, Result, Ok, Err, refl, ⊤}
use Rattle.std.proofs.Common.{ap, sym, subst, ◌∙◌, inl, inr, arith}
use Rattle.std.proofs.lemmas.Bool.Decides.{eqb_tells}
use Rattle.std.proofs.lemmas.List.{append-nil}
use Rattle.daq_types.specs.declared.events.Event.{Event}
use Rattle.daq_types.specs.declared.runs.Kind.{Kind}
use Rattle.buffer_core.specs.declared.replies.Received.{Received}
use Rattle.buffer_core.specs.declared.replies.Received.TheVariants.{Got, Empty, NoClient, SmallBuf}
use Rattle.buffer_core.specs.declared.replies.RequestRefusal.{RequestRefusal}
use Rattle.buffer_core.specs.declared.entry.BufferEntry.{BufferEntry}
use Rattle.buffer_core.specs.declared.entry.BufferEntry.TheVariants.{Attach, Detach, Request, Cancel, Send, SendInRun, Receive, Begin, Pause, Resume, End, Level, Accepted}
use Rattle.buffer_core.specs.Ports.{GotEvent, name_of, name_given, got_after}
use Rattle.member_model.proofs.SentLaws.{EachCall-push}
use Rattle.member_model.specs.OwnCalls.{calls_after, gave_number, IsOwnCall, AreOwnCalls, asks, LeavesAsking, KeepsAsking}
use Rattle.member_model.proofs.ReadLaws.{calls_after-push}
use Rattle.analyzers.specs.CountedRuns.{requests_by, requests_made, accepts_by, accepts_made}
use Rattle.analyzers.specs.AnalyzerKept.{IsAnalyzerCall, KeepsAnalyzerCalls}

pub analyzer_push : (own : List BufferEntry) (e : BufferEntry) → KeepsAnalyzerCalls own → IsAnalyzerCall e → IsOwnCall e (calls_after [] own) → KeepsAnalyzerCalls (own ++ e ∷ [])
analyzer_push own e keeps reads is_own = record {
  only_reads = EachCall-push IsAnalyzerCall own e keeps.only_reads reads;
  own_calls = subst (λ (es : List BufferEntry). AreOwnCalls es) (sym (calls_after-push [] own e)) (is_own, keeps.own_calls);
}

-- Requests, and questions how many events were taken.

pub requests-push : (own : List BufferEntry) (e : BufferEntry) → requests_made (own ++ e ∷ []) ≡ requests_made own + requests_by e
requests-push [] e = omega arith
requests-push (x ∷ own) e = omega (arith, requests-push own e)

-- a call that makes none
pub requests_stay : (own : List BufferEntry) (e : BufferEntry) (starts : ℕ) → requests_by e ≡ 0 → requests_made own ≡ starts → requests_made (own ++ e ∷ []) ≡ starts
requests_stay own e starts none is = omega (arith, requests-push own e, none, is)

pub accepts-push : (own : List BufferEntry) (e : BufferEntry) → accepts_made (own ++ e ∷ []) ≡ accepts_made own + accepts_by e
accepts-push [] e = omega arith
accepts-push (x ∷ own) e = omega (arith, accepts-push own e)

-- a call that asks for no count
pub accepts_stay : (own : List BufferEntry) (e : BufferEntry) (stops : ℕ) → accepts_by e ≡ 0 → accepts_made own ≡ stops → accepts_made (own ++ e ∷ []) ≡ stops
accepts_stay own e stops none is = omega (arith, accepts-push own e, none, is)

-- Clients.

-- an own client stays one
gave_stays : (e : BufferEntry) (past : List BufferEntry) (client : ℕ) → gave_number past client ≡ true → gave_number (e ∷ past) client ≡ true
gave_stays (Attach name (Ok n)) past client gave = elim (eqb_tells n client) as (λ w. gave_number (Attach name (Ok n) ∷ past) client ≡ true) [
  | inl is ↦ rw is.0 refl
  | inr other ↦ rw other.0 gave
]
gave_stays (Attach name (Err why)) past client gave = gave
gave_stays (Detach c (Ok u)) past client gave = gave
gave_stays (Detach c (Err why)) past client gave = gave
gave_stays (Request c id mask kind (Ok n)) past client gave = gave
gave_stays (Request c id mask kind (Err why)) past client gave = gave
gave_stays (Cancel c n (Ok u)) past client gave = gave
gave_stays (Cancel c n (Err why)) past client gave = gave
gave_stays (Send stated e (Ok n)) past client gave = gave
gave_stays (Send stated e (Err why)) past client gave = gave
gave_stays (SendInRun start stated e (Ok n)) past client gave = gave
gave_stays (SendInRun start stated e (Err why)) past client gave = gave
gave_stays (Receive c room (Got place start)) past client gave = gave
gave_stays (Receive c room (Empty gate last)) past client gave = gave
gave_stays (Receive c room NoClient) past client gave = gave
gave_stays (Receive c room (SmallBuf need)) past client gave = gave
gave_stays (Begin start reply) past client gave = gave
gave_stays (Pause start reply) past client gave = gave
gave_stays (Resume start reply) past client gave = gave
gave_stays (End start reply) past client gave = gave
gave_stays (Level reply) past client gave = gave
gave_stays (Accepted reply) past client gave = gave

pub client_stays : (own : List BufferEntry) (e : BufferEntry) (client : ℕ) → gave_number (calls_after [] own) client ≡ true → gave_number (calls_after [] (own ++ e ∷ [])) client ≡ true
client_stays own e client gave = subst (λ (es : List BufferEntry). gave_number es client ≡ true) (sym (calls_after-push [] own e)) (gave_stays e (calls_after [] own) client gave)

-- an attach that gave no number
pub none_stays : (own : List BufferEntry) (e : BufferEntry) → ((past : List BufferEntry) (n : ℕ) → gave_number (e ∷ past) n ≡ gave_number past n)
    → ((n : ℕ) → gave_number (calls_after [] own) n ≡ false) → (n : ℕ) → gave_number (calls_after [] (own ++ e ∷ [])) n ≡ false
none_stays own e leaves none n = subst (λ (es : List BufferEntry). gave_number es n ≡ false) (sym (calls_after-push [] own e)) (leaves (calls_after [] own) n ∙ none n)

gave_now : (past : List BufferEntry) (name : List ℕ) (n : ℕ) → gave_number (Attach name (Ok n) ∷ past) n ≡ true
gave_now past name n = elim (eqb_tells n n) as (λ w. gave_number (Attach name (Ok n) ∷ past) n ≡ true) [
  | inl same ↦ rw same.0 refl
  | inr other ↦ absurd (other.1 refl)
]

pub client_given : (own : List BufferEntry) (name : List ℕ) (n : ℕ) → gave_number (calls_after [] (own ++ Attach name (Ok n) ∷ [])) n ≡ true
client_given own name n = subst (λ (es : List BufferEntry). gave_number es n ≡ true) (sym (calls_after-push [] own (Attach name (Ok n)))) (gave_now (calls_after [] own) name n)

-- Requests.

asks_same : (e : BufferEntry) (past : List BufferEntry) (c n : ℕ) → IsOwnCall e past → gave_number past c ≡ false → asks (e ∷ past) c n ≡ asks past c n
asks_same (Request r id mask kind (Ok m)) past c n own none = elim (eqb_tells r c) as (λ w. asks (Request r id mask kind (Ok m) ∷ past) c n ≡ asks past c n) [
  | inl same ↦ absurd (let never : true ≡ false = sym own ∙ (ap (λ (k : ℕ). gave_number past k) same.1 ∙ none) in cc (never))
  | inr other ↦ rw other.0 refl
]
asks_same (Cancel r m reply) past c n own none = elim (eqb_tells r c) as (λ w. asks (Cancel r m reply ∷ past) c n ≡ asks past c n) [
  | inl same ↦ absurd (let never : true ≡ false = sym own ∙ (ap (λ (k : ℕ). gave_number past k) same.1 ∙ none) in cc (never))
  | inr other ↦ rw other.0 refl
]
asks_same e past c n own none = refl

not_before : (e : BufferEntry) (past : List BufferEntry) (c : ℕ) → gave_number (e ∷ past) c ≡ false → gave_number past c ≡ false
not_before e past c none =
    elim (gave_number past c) as (λ w. gave_number past c ≡ w → w ≡ false) [
      | true ↦ λ gave. sym (gave_stays e past c gave) ∙ none
      | false ↦ λ gave. refl
    ] refl

-- a client that no attach gave asks for nothing
unasked : (past : List BufferEntry) (c n : ℕ) → AreOwnCalls past → gave_number past c ≡ false → asks past c n ≡ false
unasked [] c n own none = refl
unasked (e ∷ es) c n own none =
    let before : gave_number es c ≡ false = not_before e es c none in
    asks_same e es c n own.0 before ∙ unasked es c n own.1 before

pub new_asks_none : (own : List BufferEntry) (name : List ℕ) (client n : ℕ) → KeepsAnalyzerCalls own → gave_number (calls_after [] own) client ≡ false → asks (calls_after [] (own ++ Attach name (Ok client) ∷ [])) client n ≡ false
new_asks_none own name client n keeps none =
    subst (λ (es : List BufferEntry). asks es client n ≡ false) (sym (calls_after-push [] own (Attach name (Ok client)))) (unasked (calls_after [] own) client n keeps.own_calls none)

-- a call that leaves the client's requests leaves what it asks for
asks_left : (e : BufferEntry) (past : List BufferEntry) (client n : ℕ) → LeavesAsking client e → asks (e ∷ past) client n ≡ asks past client n
asks_left (Request c id mask kind (Ok m)) past client n leaves = elim (eqb_tells c client) as (λ w. asks (Request c id mask kind (Ok m) ∷ past) client n ≡ asks past client n) [
  | inl is ↦ absurd (leaves is.1)
  | inr other ↦ rw other.0 refl
]
asks_left (Request c id mask kind (Err why)) past client n leaves = refl
asks_left (Cancel c m reply) past client n leaves = elim (eqb_tells c client) as (λ w. asks (Cancel c m reply ∷ past) client n ≡ asks past client n) [
  | inl is ↦ absurd (leaves is.1)
  | inr other ↦ rw other.0 refl
]
asks_left e past client n leaves = refl

asks_kept : (calls past : List BufferEntry) (client n : ℕ) → KeepsAsking client calls → asks (calls_after past calls) client n ≡ asks past client n
asks_kept [] past client n keeps = refl
asks_kept (e ∷ es) past client n keeps = asks_kept es (e ∷ past) client n keeps.1 ∙ asks_left e past client n keeps.0

-- once its one request is cancelled, the client asks for nothing
pub none_left : (past calls : List BufferEntry) (client id mask : ℕ) (kind : Kind) (number n : ℕ) (reply : Result ⊤ RequestRefusal) → asks past client n ≡ false → KeepsAsking client calls
    → asks (Cancel client number reply ∷ calls_after (Request client id mask kind (Ok number) ∷ past) calls) client n ≡ false
none_left past calls client id mask kind number n reply alone keeps =
    let before : asks (calls_after (Request client id mask kind (Ok number) ∷ past) calls) client n ≡ asks (Request client id mask kind (Ok number) ∷ past) client n = asks_kept calls (Request client id mask kind (Ok number) ∷ past) client n keeps in
    elim (eqb_tells client client) as (λ w. asks (Cancel client number reply ∷ calls_after (Request client id mask kind (Ok number) ∷ past) calls) client n ≡ false) [
      | inl is ↦ elim (eqb_tells number n) as (λ w. asks (Cancel client number reply ∷ calls_after (Request client id mask kind (Ok number) ∷ past) calls) client n ≡ false) [
        | inl same ↦ rw (is.0, same.0) refl
        | inr differs ↦ rw (is.0, differs.0, before, is.0, differs.0) alone
      ]
      | inr other ↦ absurd (other.1 refl)
    ]

pub calls_after-append : (past xs ys : List BufferEntry) → calls_after past (xs ++ ys) ≡ calls_after (calls_after past xs) ys
calls_after-append past [] ys = refl
calls_after-append past (x ∷ xs) ys = calls_after-append (x ∷ past) xs ys

-- What a receive gave.

abbrev pub given_by_reply : (client : ℕ) → Received → Event → List GotEvent
given_by_reply client (Got place start) e = record { client = client; place = place; start = start; event = e } ∷ []
given_by_reply client reply e = []

pub got_after_is : (got : List GotEvent) (client : ℕ) (reply : Received) (e : Event) → got_after got client reply e ≡ got ++ given_by_reply client reply e
got_after_is got client (Got place start) e = refl
got_after_is got client (Empty gate last) e = sym (append-nil got)
got_after_is got client NoClient e = sym (append-nil got)
got_after_is got client (SmallBuf need) e = sym (append-nil got)

pub given_named : (client room : ℕ) (reply : Received) (e : Event) → name_given (Receive client room reply) ≡ map name_of (given_by_reply client reply e)
given_named client room (Got place start) e = refl
given_named client room (Empty gate last) e = refl
given_named client room NoClient e = refl
given_named client room (SmallBuf need) e = refl
