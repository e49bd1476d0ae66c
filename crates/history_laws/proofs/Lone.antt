-- A client that has its number for a start alone: while its answer is awaited, nobody else's is, and nobody has refused.
use Rattle.std.specs.Prelude.{◌≡◌, ℕ, ◌==◌, true, false, ◌⊎◌, ◌↔◌, if◌then◌else◌, List, [], ◌∷◌, ◌++◌, Option, Some, None, refl}
use Rattle.std.proofs.Common.{ap, sym, ◌∙◌, subst, inl, inr}
use Rattle.std.proofs.lemmas.Bool.{eqb-true, eqb-false}
use Rattle.daq_types.specs.declared.runs.Transition.TheVariants.{Start}
use Rattle.daq_types.specs.declared.runs.Why.{Why}
use Rattle.transitions.specs.Sequences.{sequence_for}
use Rattle.buffer_core.proofs.SlotLaws.{split}
use Rattle.transitions.specs.declared.client.Registered.{Registered}
use Rattle.transitions.specs.declared.called.Called.{Called}
use Rattle.transitions.specs.declared.engine.Refusal.{Refusal}
use Rattle.transitions.specs.CalledOrder.{IsCalledIn, IsRegisteredFor}
use Rattle.transitions.specs.EngineCalls.{stands_in, without, group_of, has_polled, is_next, begun, first_polled, polled_by, told, refused_by, answered_by}
use Rattle.member_model.specs.RunEngines.{Sheet, Answer as ClientAnswer, Tally, Underway, EngineState}
use Rattle.transitions.proofs.Stands.{or_false, or_parts, stood, stands_push, called_stands, entry_with, with_stands, from_without, in_push}
use Rattle.history_laws.proofs.Replies.{answered_case}
use Rattle.history_laws.proofs.Tallied.{OnlyIs}
use Rattle.history_laws.proofs.Completed.{CalledLists}

-- of those that are called it has this number, and nobody else
record HasNumber (client q : ℕ) (x : Called) : Type 0 where
  is_client : x.sequence ≡ q → x.client ≡ client
  has_number : x.client ≡ client → x.sequence ≡ q

pub record Lone (client q : ℕ) (u : Underway) : Type 0 where
  called : (x : Called) → IsCalledIn x u.called → HasNumber client q x
  polled : (x : Called) → IsCalledIn x u.polled → HasNumber client q x
  only : stands_in u.polled client ≡ true → (n : ℕ) → stands_in u.polled n ≡ true → n ≡ client
  pub first : stands_in u.polled client ≡ true → u.refusal ≡ None
  dropped : (r : Refusal) → u.refusal ≡ Some r → u.called ≡ []

-- until the start is called off
abbrev pub IsLone : (client q : ℕ) → Underway → Type 0
IsLone client q u = u.is_off ≡ false → Lone client q u

-- Begin.

number_is : (a b : ℕ) → Some a ≡ Some b → a ≡ b
number_is a b e = cc (e)

abbrev pub HasStart : (sequence : ℕ) → Registered → Type 0
HasStart q c = sequence_for c.sequences Start ≡ Some q

registered_number : (client q : ℕ) (clients : List Registered) (x : Called) → OnlyIs (HasStart q) client clients → IsRegisteredFor Start clients x → HasNumber client q x
registered_number client q clients x only r =
    let own : HasStart q r.client ↔ (x.client ≡ client) = only x.client r.client r.stands in
    record {
      is_client = λ e. own.0 (r.sequence ∙ ap (λ (n : ℕ). Some n) e);
      has_number = λ e. number_is x.sequence q (sym r.sequence ∙ own.1 e);
    }

pub lone_begun : (lists : CalledLists) (client q : ℕ) (s : EngineState) (sheet : Sheet) (start : ℕ) → OnlyIs (HasStart q) client s.clients → Lone client q (begun s Start sheet start)
lone_begun lists client q s sheet start only = record {
  called = λ x h. registered_number client q s.clients x only (((lists Start s.clients).members x).0 h);
  polled = λ x h. absurd h;
  only = λ (e : false ≡ true). absurd (cc (e));
  first = λ e. refl;
  dropped = λ r e. absurd (cc (e));
}

-- Poll.

-- where the client has its turn behind a first reply, this was its own, and nobody's answer was awaited
record IsOwn (client other : ℕ) (polled : List Called) : Type 0 where
  mine : other ≡ client
  nobody : polled ≡ []

first_own : (client q other : ℕ) (polled called : List Called) → ((x : Called) → IsCalledIn x polled → HasNumber client q x) → (stands_in polled client ≡ true → (n : ℕ) → stands_in polled n ≡ true → n ≡ client)
    → HasNumber client q (record { client = other; sequence = group_of polled called }) → stands_in polled other ≡ false → (stands_in polled client ≡ true) ⊎ (other ≡ client) → IsOwn client other polled
first_own client q other [] called each only own fresh (inl e) = absurd (let never : false ≡ true = e in cc (never))
first_own client q other [] called each only own fresh (inr e) = record { mine = e; nobody = refl }
first_own client q other (p ∷ ps) called each only own fresh (inl e) =
    let front : p.client ≡ client = only e p.client (called_stands p (p ∷ ps) (inl refl)) in
    let mine : other ≡ client = own.is_client ((each p (inl refl)).has_number front) in
    let never : false ≡ true = sym fresh ∙ (ap (λ (n : ℕ). stands_in (p ∷ ps) n) mine ∙ e) in
    absurd (cc (never))
first_own client q other (p ∷ ps) called each only own fresh (inr e) =
    let front : p.client ≡ client = (each p (inl refl)).is_client (own.has_number e) in
    let here : stands_in (p ∷ ps) client ≡ true = ap (λ (n : ℕ). stands_in (p ∷ ps) n) (sym front) ∙ called_stands p (p ∷ ps) (inl refl) in
    let never : false ≡ true = sym fresh ∙ (ap (λ (n : ℕ). stands_in (p ∷ ps) n) e ∙ here) in
    absurd (cc (never))

some_called : (called : List Called) (n : ℕ) → called ≡ [] → stands_in called n ≡ true → ⊥
some_called called n e stands =
    let never : false ≡ true = sym (ap (λ (cs : List Called). stands_in cs n) e) ∙ stands in
    cc (never)

refusal_case : (r : Option Refusal) → ((x : Refusal) → r ≡ Some x → ⊥) → r ≡ None
refusal_case None never = refl
refusal_case (Some x) never = absurd (never x refl)

lone_first : (client q other : ℕ) (c : Registered) (u : Underway) → has_polled u other ≡ false → is_next u.polled u.called other ≡ true → Lone client q u → Lone client q (first_polled other c u)
lone_first client q other c u fresh next l =
    let one : Called = record { client = other; sequence = group_of u.polled u.called } in
    let own : HasNumber client q one = l.called one (entry_with (group_of u.polled u.called) u.called other next) in
    let waits : stands_in u.called other ≡ true = with_stands (group_of u.polled u.called) u.called other next in
    let is_own : stands_in (u.polled ++ one ∷ []) client ≡ true → IsOwn client other u.polled = λ e.
    first_own client q other u.polled u.called l.polled l.only own fresh (polled_or (or_parts (stands_in u.polled client) (other == client) (sym (stands_push client u.polled one) ∙ e))) in
    record {
      called = λ x h. l.called x (from_without x other u.called h);
      polled = λ x h. elim (in_push x one u.polled h) [
        | inl old ↦ l.polled x old
        | inr same ↦ subst (HasNumber client q) (sym same) own
      ];
      only = λ e n there.
          let it = is_own e in
          let alone : stands_in ([] ++ one ∷ []) n ≡ true = ap (λ (ps : List Called). stands_in (ps ++ one ∷ []) n) (sym it.nobody) ∙ there in
          sym (eqb-true other n (sym (last_one other n) ∙ alone)) ∙ it.mine;
      first = λ e. refusal_case u.refusal (λ x is. some_called u.called other (l.dropped x is) waits);
      dropped = λ r is. ap (without other) (l.dropped r is);
    }
  where
    polled_or : (stands_in u.polled client ≡ true) ⊎ ((other == client) ≡ true) → (stands_in u.polled client ≡ true) ⊎ (other ≡ client)
    polled_or (inl e) = inl e
    polled_or (inr e) = inr (eqb-true other client e)

    last_one : (a n : ℕ) → stands_in (record { client = a; sequence = group_of u.polled u.called } ∷ []) n ≡ (a == n)
    last_one a n = or_false (a == n)

pub lone_polled : (client q other : ℕ) (c : Registered) (u : Underway) → (has_polled u other ≡ false → is_next u.polled u.called other ≡ true) → IsLone client q u → IsLone client q (polled_by other c u)
lone_polled client q other c u next l =
    split (has_polled u other) (λ b. has_polled u other ≡ b → IsLone client q (if b then u else first_polled other c u))
    (λ h e. l) (λ h e. λ off. lone_first client q other c u e (next e) (l off)) refl

-- Answer.

lone_told : (client q other : ℕ) (u : Underway) (tally : Tally) → Lone client q u → Lone client q (told other tally u)
lone_told client q other u tally l = record {
  called = l.called;
  polled = λ x h. l.polled x (from_without x other u.polled h);
  only = λ e n there. l.only (stood client other u.polled e).1 n (stood n other u.polled there).1;
  first = λ e. l.first (stood client other u.polled e).1;
  dropped = l.dropped;
}

lone_refused : (client q other : ℕ) (u : Underway) (why : Why) → has_polled u other ≡ true → Lone client q u → Lone client q (refused_by other why u)
lone_refused client q other u why polled l = record {
  called = λ x h. absurd h;
  polled = λ x h. l.polled x (from_without x other u.polled h);
  only = λ e n there. l.only (stood client other u.polled e).1 n (stood n other u.polled there).1;
  first = λ e.
      let was = stood client other u.polled e in
      absurd (eqb-false other client was.0 (l.only was.1 other polled));
  dropped = λ r e. refl;
}

pub lone_answered : (client q other : ℕ) (clients : List Registered) (u : Underway) (answer : ClientAnswer) → has_polled u other ≡ true → IsLone client q u → IsLone client q (answered_by clients other answer u)
lone_answered client q other clients u answer polled l =
    answered_case (IsLone client q) clients other answer u
    (λ tally is. λ off. lone_told client q other u tally (l off))
    (λ why is. λ off. lone_refused client q other u why polled (l off))
    (λ v is kept. λ (off : true ≡ false). absurd (cc (off)))
