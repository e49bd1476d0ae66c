-- Each client that is called has its tally in the Done of a transition that was not refused.
use Rattle.std.specs.Prelude.{◌≡◌, ℕ, zero, suc, ◌==◌, Bool, true, false, if◌then◌else◌, List, [], ◌∷◌, ◌++◌, length, slice_get, Some, None, Ok, Err, refl, ◌⊎◌}
use Rattle.std.proofs.Common.{ap, sym, ◌∙◌, subst, inl, inr}
use Rattle.std.proofs.lemmas.Bool.{eqb-true}
use Rattle.daq_types.specs.declared.runs.StartOutcome.TheVariants.{Completed}
use Rattle.daq_types.specs.declared.runs.Transition.{Transition}
use Rattle.buffer_core.proofs.SlotLaws.{split}
use Rattle.transitions.specs.declared.client.Registered.{Registered}
use Rattle.transitions.specs.declared.called.Called.{Called}
use Rattle.transitions.specs.declared.replies.Polled.TheVariants.{Turn, Idle, Closed as PollClosed, NoClient}
use Rattle.transitions.specs.declared.replies.Progress.{Progress}
use Rattle.transitions.specs.declared.replies.Progress.TheVariants.{Going, Done, None as NoneGoing}
use Rattle.transitions.specs.declared.entry.EngineEntry.TheVariants.{Register, Begin, Poll, Answer, Check, Close}
use Rattle.transitions.specs.Called.{called_list}
use Rattle.transitions.specs.CalledOrder.{IsCalledList}
use Rattle.transitions.specs.Sequences.{sequence_for}
use Rattle.transitions.specs.Engines.{engine_opening}
use Rattle.transitions.specs.EngineCalls.{stands_in, has_polled, open_of, begun, first_polled, polled_by, told, answered_by, tallies_in, IsEngineReply, engine_after}
use Rattle.transitions.specs.EngineHistories.{engine_replay}
use Rattle.transitions.specs.Marks.{is_mark, HasNoMark}
use Rattle.member_model.specs.RunEngines.{Answer as ClientAnswer, Tally, ClientTally, EngineEntry, Underway, EngineState, EngineHistory, IsLegalEngine}
use Rattle.history_laws.specs.BegunTurns.{IsRegisteredIn, HasTally}
use Rattle.history_laws.specs.EngineLaws.{CalledAreTold}
use Rattle.transitions.proofs.Stands.{called_stands}
use Rattle.history_laws.proofs.Standing.{first_open, answered_open, none_open, due}
use Rattle.history_laws.proofs.Replies.{GivesTurn, gives_turn, Owes, owes, answered_case, Finishes, finishes}
use Rattle.history_laws.proofs.StateTold.{replay_apart}
use Rattle.history_laws.proofs.Begun.{polled_underway, answered_underway}
use Rattle.history_laws.proofs.Tallied.{legal_apart, register_number, polled_clients, answered_clients, same_underway, unrefused}

-- A registered client stays.

get_front : {X : Type 0} (xs ys : List X) (i : ℕ) (x : X) → slice_get xs i ≡ Some x → slice_get (xs ++ ys) i ≡ Some x
get_front [] ys i x e = absurd (cc (e))
get_front (y ∷ xs) ys zero x e = e
get_front (y ∷ xs) ys (suc i) x e = get_front xs ys i x e

get_last : {X : Type 0} (xs : List X) (x : X) → slice_get (xs ++ x ∷ []) (length xs) ≡ Some x
get_last [] x = refl
get_last (y ∷ xs) x = get_last xs x

client_step : (s : EngineState) (e : EngineEntry) (i : ℕ) (c : Registered) → IsEngineReply s e → slice_get s.clients i ≡ Some c → slice_get (engine_after s e).clients i ≡ Some c
client_step s (Register name sequences dump report (Ok n)) i c reply at = get_front s.clients (record { name = name; sequences = sequences; wants_dump = dump; wants_report = report } ∷ []) i c at
client_step s (Register name sequences dump report (Err r)) i c reply at = at
client_step s (Begin t sheet (Ok n)) i c reply at = at
client_step s (Begin t sheet (Err r)) i c reply at = at
client_step s (Poll other (Turn turn order dump blank)) i c reply at = ap (λ (cs : List Registered). slice_get cs i) (polled_clients s other turn order dump (gives_turn s other turn order dump blank reply)) ∙ at
client_step s (Poll other (Idle state)) i c reply at = at
client_step s (Poll other PollClosed) i c reply at = at
client_step s (Poll other NoClient) i c reply at = at
client_step s (Answer other answer (Ok done)) i c reply at = ap (λ (cs : List Registered). slice_get cs i) (answered_clients s other answer s.underway) ∙ at
client_step s (Answer other answer (Err r)) i c reply at = at
client_step s (Check (Done outcome) tallies) i c reply at = at
client_step s (Check Going tallies) i c reply at = at
client_step s (Check NoneGoing tallies) i c reply at = at
client_step s (Close (Ok done)) i c reply at = at
client_step s (Close (Err r)) i c reply at = at

client_stays : (s : EngineState) (h : EngineHistory) (i : ℕ) (c : Registered) → IsLegalEngine s h → slice_get s.clients i ≡ Some c → slice_get (engine_replay s h).clients i ≡ Some c
client_stays s [] i c legal at = at
client_stays s (x ∷ h) i c legal at = client_stays (engine_after s x.1) h i c legal.2 (client_step s x.1 i c legal.1 at)

pub registered_there : (h : EngineHistory) (client : ℕ) (t : Transition) → IsLegalEngine engine_opening h → (r : IsRegisteredIn h client t)
    → slice_get (engine_replay engine_opening h).clients client ≡ Some (record { name = r.name; sequences = r.sequences; wants_dump = r.wants_dump; wants_report = r.wants_report })
registered_there h client t legal r =
    let c : Registered = record { name = r.name; sequences = r.sequences; wants_dump = r.wants_dump; wants_report = r.wants_report } in
    let entry : EngineEntry = Register r.name r.sequences r.wants_dump r.wants_report (Ok client) in
    let parts = legal_apart engine_opening r.before ((r.caller, entry) ∷ r.after) (subst (IsLegalEngine engine_opening) r.stands legal) in
    let s : EngineState = engine_replay engine_opening r.before in
    let number : client ≡ length s.clients = (register_number s client parts.1.1).1 in
    let here : slice_get (engine_after s entry).clients client ≡ Some c = subst (λ (n : ℕ). slice_get (s.clients ++ c ∷ []) n ≡ Some c) (sym number) (get_last s.clients c) in
    ap (λ (l : EngineHistory). slice_get (engine_replay engine_opening l).clients client) r.stands
    ∙ (ap (λ (e : EngineState). slice_get e.clients client) (replay_apart engine_opening r.before ((r.caller, entry) ∷ r.after)) ∙ client_stays (engine_after s entry) r.after client c parts.1.2 here)

-- the law of called lists, for all
abbrev pub CalledLists : Type 0
CalledLists = (t : Transition) (clients : List Registered) → IsCalledList t clients (called_list t clients)

-- the client has a number for the transition, so it is called for it
pub record Listed (t : Transition) (client : ℕ) (clients : List Registered) : Type 0 where
  pub c : Registered
  pub at : slice_get clients client ≡ Some c
  pub sequence : ℕ
  pub called : sequence_for c.sequences t ≡ Some sequence

pub listed_in : (lists : CalledLists) (t : Transition) (client : ℕ) (clients : List Registered) → Listed t client clients → stands_in (called_list t clients) client ≡ true
listed_in lists t client clients l =
    let x : Called = record { client = client; sequence = l.sequence } in
    called_stands x (called_list t clients) (((lists t clients).members x).1 (record { client = l.c; stands = l.at; sequence = l.called }))

pub registered_listed : (h : EngineHistory) (client : ℕ) (t : Transition) → IsLegalEngine engine_opening h → IsRegisteredIn h client t → Listed t client (engine_replay engine_opening h).clients
registered_listed h client t legal r = record {
  c = record { name = r.name; sequences = r.sequences; wants_dump = r.wants_dump; wants_report = r.wants_report };
  at = registered_there h client t legal r;
  sequence = r.sequence;
  called = r.called;
}

-- The client has yet to answer, or has told.

record Comes (client : ℕ) (u : Underway) : Type 0 where
  comes : u.refusal ≡ None → (stands_in (open_of u) client ≡ true) ⊎ HasTally client u.tallies

record ComesIn (client : ℕ) (s : EngineState) : Type 0 where
  u : Underway
  underway_is : s.underway ≡ Some u
  coming : Comes client u

tally_more : (client : ℕ) (xs ys : List ClientTally) → HasTally client xs → HasTally client (xs ++ ys)
tally_more client xs ys has = (has.0, has.1, get_front xs ys has.0 (record { client = client; tally = has.1 }) has.2)

comes_told : (client other : ℕ) (u : Underway) (tally : Tally) → Comes client u → Comes client (told other tally u)
comes_told client other u tally c = record { comes = λ none. moves (other == client) refl (c.comes none) }
  where
    moves : (b : Bool) → (other == client) ≡ b → (stands_in (open_of u) client ≡ true) ⊎ HasTally client u.tallies → (stands_in (open_of (told other tally u)) client ≡ true) ⊎ HasTally client (u.tallies ++ record { client = other; tally = tally } ∷ [])
    moves b e (inr has) = inr (tally_more client u.tallies (record { client = other; tally = tally } ∷ []) has)
    moves false e (inl waits) = inl (answered_open client other u.polled u.called e waits)
    moves true e (inl waits) =
        let same : other ≡ client = eqb-true other client e in
        inr (length u.tallies, tally, subst (λ (n : ℕ). slice_get (u.tallies ++ record { client = other; tally = tally } ∷ []) (length u.tallies) ≡ Some (record { client = n; tally = tally })) same (get_last u.tallies (record { client = other; tally = tally })))

comes_answered : (client other : ℕ) (u : Underway) (clients : List Registered) (answer : ClientAnswer) → Comes client u → Comes client (answered_by clients other answer u)
comes_answered client other u clients answer c =
    answered_case (Comes client) clients other answer u
    (λ tally is. comes_told client other u tally c)
    (λ why is. record { comes = λ none. absurd (cc (none)) })
    (λ v is kept. record {
      comes = λ none.
          let d = due v.refusal v.polled v.is_off is in
          let never : Some d.refusal ≡ None = sym d.refused ∙ none in
          absurd (cc (never));
    })

comes_polled : (client other : ℕ) (u : Underway) (k : Registered) → Comes client u → Comes client (polled_by other k u)
comes_polled client other u k c =
    split (has_polled u other) (λ b. Comes client (if b then u else first_polled other k u)) (λ h. c)
    (λ h. record { comes = λ none. elim (c.comes none) [ inl waits ↦ inl (first_open client other k u waits) | inr has ↦ inr has ] })

comes_step : (client : ℕ) (s : EngineState) (e : EngineEntry) → is_mark e ≡ false → IsEngineReply s e → ComesIn client s → ComesIn client (engine_after s e)
comes_step client s (Register name sequences dump report (Ok n)) mark reply c = record { u = c.u; underway_is = c.underway_is; coming = c.coming }
comes_step client s (Begin t sheet (Ok n)) mark reply c = absurd (cc (mark))
comes_step client s (Check (Done outcome) tallies) mark reply c = absurd (cc (mark))
comes_step client s (Poll other (Turn turn order dump blank)) mark reply c =
    let p : GivesTurn s other turn order dump = gives_turn s other turn order dump blank reply in
    let same : c.u ≡ p.u = same_underway s c.u p.u c.underway_is p.underway_is in
    let coming : Comes client p.u = subst (Comes client) same c.coming in
    record { u = polled_by other p.c p.u; underway_is = polled_underway s other p.c p.u p.client_is p.underway_is; coming = comes_polled client other p.u p.c coming }
comes_step client s (Answer other answer (Ok done)) mark reply c =
    let o : Owes s other = owes s other done reply in
    let coming : Comes client o.u = subst (Comes client) (same_underway s c.u o.u c.underway_is o.underway_is) c.coming in
    record { u = answered_by s.clients other answer o.u; underway_is = answered_underway s other answer o.u o.underway_is; coming = comes_answered client other o.u s.clients answer coming }
comes_step client s (Close (Ok done)) mark reply c = record { u = c.u; underway_is = c.underway_is; coming = c.coming }
comes_step client s (Answer other answer (Err r)) mark reply c = c
comes_step client s (Register name sequences dump report (Err r)) mark reply c = c
comes_step client s (Begin t sheet (Err r)) mark reply c = c
comes_step client s (Poll other (Idle state)) mark reply c = c
comes_step client s (Poll other PollClosed) mark reply c = c
comes_step client s (Poll other NoClient) mark reply c = c
comes_step client s (Check Going tallies) mark reply c = c
comes_step client s (Check NoneGoing tallies) mark reply c = c
comes_step client s (Close (Err r)) mark reply c = c

comes_all : (client : ℕ) (s : EngineState) (h : EngineHistory) → IsLegalEngine s h → HasNoMark h → ComesIn client s → ComesIn client (engine_replay s h)
comes_all client s [] legal marks c = c
comes_all client s (x ∷ h) legal marks c = comes_all client (engine_after s x.1) h legal.2 marks.1 (comes_step client s x.1 marks.0 legal.1 c)

done_told : (client : ℕ) (s : EngineState) (tallies : List ClientTally) → ComesIn client s → IsEngineReply s (Check (Done Completed) tallies) → HasTally client tallies
done_told client s tallies c reply =
    let f : Finishes s Completed = finishes s Completed reply.0 in
    let coming : Comes client f.u = subst (Comes client) (same_underway s c.u f.u c.underway_is f.underway_is) c.coming in
    let told_so : tallies ≡ f.u.tallies = reply.1 ∙ (ap (λ (p : Progress). tallies_in p s.underway) (sym reply.0) ∙ ap (tallies_in (Done Completed)) f.underway_is) in
    elim (coming.comes (unrefused f.u.refusal f.outcome_is)) as (λ w. HasTally client tallies) [
      | inl is ↦ absurd (let never : false ≡ true = sym (none_open (open_of f.u) client f.done) ∙ is in cc (never))
      | inr has ↦ subst (HasTally client) (sym told_so) has
    ]

pub called_are_told : CalledLists → CalledAreTold
called_are_told lists client history legal transition sheet start tallies has registered =
    let begin : ℕ × EngineEntry = (has.opener, Begin transition sheet (Ok start)) in
    let done : ℕ × EngineEntry = (has.closer, Check (Done Completed) tallies) in
    let s1 : EngineState = engine_replay engine_opening has.earlier in
    let first = legal_apart engine_opening has.earlier (begin ∷ (has.between ++ done ∷ has.later)) (subst (IsLegalEngine engine_opening) has.whole legal) in
    let s2 : EngineState = engine_after s1 begin.1 in
    let second = legal_apart s2 has.between (done ∷ has.later) first.1.2 in
    let there : stands_in (called_list transition s1.clients) client ≡ true = listed_in lists transition client s1.clients (registered_listed has.earlier client transition first.0 registered) in
    let opens : ComesIn client s2 = record { u = begun s1 transition sheet start; underway_is = refl; coming = record { comes = λ none. inl there } } in
    done_told client (engine_replay s2 has.between) tallies (comes_all client s2 has.between second.0 has.on opens) second.1.1
