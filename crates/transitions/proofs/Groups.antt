-- The groups of those that are called: how the lists of the engine stand to the turns and answers that were told.
use Rattle.std.proofs.Common.{◌≡◌, ℕ, ◌<◌, Bool, true, false, eqb, List, [], ◌∷◌, ◌++◌, Option, Some, None, refl, ap, sym, subst, ◌∙◌, arith, inl, inr}
use Rattle.std.specs.Prelude.{◌||◌, ◌&&◌, not, ◌⊎◌, if◌then◌else◌, is_some}
use Rattle.std.proofs.lemmas.Bool.{eqb-true}
use Rattle.daq_types.specs.declared.runs.Transition.{Transition}
use Rattle.daq_types.specs.declared.runs.Transition.TheVariants.{StartAbort}
use Rattle.daq_types.specs.declared.runs.Why.{Why}
use Rattle.transitions.specs.declared.client.Registered.{Registered}
use Rattle.transitions.specs.declared.called.Called.{Called}
use Rattle.transitions.specs.declared.sheet.Sheet.{Sheet}
use Rattle.transitions.specs.declared.answers.Answer.{Answer as ClientAnswer}
use Rattle.transitions.specs.declared.answers.Answer.TheVariants.{Yes, No}
use Rattle.transitions.specs.declared.answers.Tally.TheVariants.{Plain}
use Rattle.transitions.specs.declared.engine.Refusal.{Refusal}
use Rattle.transitions.specs.Called.{called_list, called_numbers}
use Rattle.transitions.specs.CalledOrder.{AreInOrder, IsCalledIn}
use Rattle.transitions.specs.Engines.{Underway, EngineState}
use Rattle.transitions.specs.EngineCalls.{turn_kind, turn_of, is_start, stands_in, stands_with, without, group_of, has_polled, is_next, begun, first_polled, told, first_refusal, refused_by, is_due_off, called_off, settled, answered_with}
use Rattle.transitions.specs.EnginePoints.{Calling, uncalled, refuses, refusal_from, is_among, are_among, opens_off, off_opened, turned_more, calling_after, GaveTurn}
use Rattle.transitions.specs.TurnOrder.{IsGroupReached, IsClientReached, AreDistinct}
use Rattle.transitions.proofs.Apart.{split}
use Rattle.transitions.proofs.Stands.{none, either, or_false, or_assoc, and_false, and_true, or_parts, neither, stands_other, stood, stands_push, called_stands, entry_with, with_stands, kept_without, from_without, in_push, ordered_without, front_least, among_push, among_last, among_longer, among_stands, apart_push, all_among, not_all_among}
use Rattle.transitions.proofs.CalledOrdered.{called_list_is}

-- All that are called, the turns and the answers that were told, the clients without a turn, those whose answers are
-- awaited, and whether a start was refused and is not called off yet.
pub record Stand (all : List Called) (turned answered : List ℕ) (called polled : List Called) (refused : Bool) : Type 0 where
  pub turned_is : (n : ℕ) → is_among n turned ≡ (is_among n answered || stands_in polled n)
  pub owes : (n : ℕ) → stands_in polled n ≡ true → is_among n answered ≡ false
  pub fresh : (n : ℕ) → stands_in called n ≡ true → is_among n turned ≡ false
  pub once : AreDistinct answered
  pub in_order : AreInOrder called
  pub waits : (x : Called) → IsCalledIn x called → IsCalledIn x all
  pub groups : (x : Called) → IsCalledIn x polled → IsGroupReached all answered x
  pub reached : (n : ℕ) → is_among n turned ≡ true → IsClientReached all answered n
  pub whole : refused ≡ false → (x : Called) → IsCalledIn x all → (is_among x.client turned ≡ true) ⊎ IsCalledIn x called
  pub dropped : refused ≡ true → called ≡ []

-- where a list of clients is begun with
pub stand_begun : (t : Transition) (clients : List Registered) → Stand (called_list t clients) [] [] (called_list t clients) [] false
stand_begun t clients = record {
  turned_is = λ n. refl;
  owes = λ n e. absurd cc;
  fresh = λ n e. refl;
  once = tt;
  in_order = (called_list_is t clients).in_order;
  waits = λ x h. h;
  groups = λ x h. absurd h;
  reached = λ n e. absurd cc;
  whole = λ r x h. inr h;
  dropped = λ e. absurd cc;
}

-- one that was given no turn has not answered
pub fresh_owes : (all : List Called) (turned answered : List ℕ) (called polled : List Called) (refused : Bool) (n : ℕ) → Stand all turned answered called polled refused → stands_in called n ≡ true → is_among n answered ≡ false
fresh_owes all turned answered called polled refused n s e =
    (neither (is_among n answered) (stands_in polled n) (sym (s.turned_is n) ∙ s.fresh n e)).0

-- one whose answer is awaited was given a turn
pub polled_turned : (all : List Called) (turned answered : List ℕ) (called polled : List Called) (refused : Bool) (n : ℕ) → Stand all turned answered called polled refused → stands_in polled n ≡ true → is_among n turned ≡ true
polled_turned all turned answered called polled refused n s e =
    s.turned_is n ∙ (ap (λ (b : Bool). is_among n answered || b) e ∙ either (is_among n answered))

some_called : (called : List Called) (q n : ℕ) → called ≡ [] → stands_with q called n ≡ true → ⊥
some_called called q n e stands =
    let none_there : stands_with q [] n ≡ true = subst (λ (cs : List Called). stands_with q cs n ≡ true) e stands in
    absurd cc

-- where clients without a turn can be given one, no start was refused
pub unrefused : (all : List Called) (turned answered : List ℕ) (called polled : List Called) (refused : Bool) (q n : ℕ) → Stand all turned answered called polled refused → stands_with q called n ≡ true → refused ≡ false
unrefused all turned answered called polled refused q n s e =
    split refused (λ b. refused ≡ b → refused ≡ false) (λ h g. absurd (some_called called q n (s.dropped g) e)) (λ h g. g) refl

-- each client of a lower number has answered
front_answered : (all : List Called) (turned answered : List ℕ) (called polled : List Called) (refused : Bool) (x : Called) → Stand all turned answered called polled refused → refused ≡ false
    → (IsCalledIn x called → polled ≡ [] → ⊥) → polled ≡ [] → IsCalledIn x all → is_among x.client answered ≡ true
front_answered all turned answered called polled refused x s un later nobody among =
    elim (s.whole un x among) [
      | inl turned ↦ sym (or_false (is_among x.client answered)) ∙ (ap (λ (cs : List Called). is_among x.client answered || stands_in cs x.client) (sym nobody) ∙ (sym (s.turned_is x.client) ∙ turned))
      | inr waits ↦ absurd (later waits nobody)
    ]

group_front : (all : List Called) (turned answered : List ℕ) (called polled : List Called) (refused : Bool) (n : ℕ) → Stand all turned answered called polled refused → refused ≡ false
    → (other : Called) → IsCalledIn other all → other.sequence < group_of polled called → is_among other.client answered ≡ true
group_front all turned answered called (p ∷ ps) refused n s un other among less = (s.groups p (inl refl)).front other among less
group_front all turned answered (c ∷ cs) [] refused n s un other among less =
    front_answered all turned answered (c ∷ cs) [] refused other s un
    (λ waits e.
    let least = front_least c other cs s.in_order waits in
    absurd (omega (arith, least, less)))
    refl among
group_front all turned answered [] [] refused n s un other among less = absurd (omega (arith, less))

-- a client of the group whose turn it is stands in a group that is reached
pub next_reached : (all : List Called) (turned answered : List ℕ) (called polled : List Called) (refused : Bool) (n : ℕ) → Stand all turned answered called polled refused → is_next polled called n ≡ true
    → IsGroupReached all answered (record { client = n; sequence = group_of polled called })
next_reached all turned answered called polled refused n s e = record {
  among = s.waits (record { client = n; sequence = group_of polled called }) (entry_with (group_of polled called) called n e);
  front = group_front all turned answered called polled refused n s (unrefused all turned answered called polled refused (group_of polled called) n s e);
}

-- The first reply of a turn.

turned_fresh : (n : ℕ) (turned : List ℕ) → is_among n turned ≡ false → turned_more n turned ≡ turned ++ n ∷ []
turned_fresh n turned e = ap (λ (b : Bool). if b then turned else turned ++ n ∷ []) e

stand_pushed : (all : List Called) (turned answered : List ℕ) (called polled : List Called) (refused : Bool) (n : ℕ) → Stand all turned answered called polled refused → is_next polled called n ≡ true
    → Stand all (turned ++ n ∷ []) answered (without n called) (polled ++ record { client = n; sequence = group_of polled called } ∷ []) refused
stand_pushed all turned answered called polled refused n s e =
    let one : Called = record { client = n; sequence = group_of polled called } in
    let stands : stands_in called n ≡ true = with_stands (group_of polled called) called n e in
    let own : IsGroupReached all answered one = next_reached all turned answered called polled refused n s e in
    record {
      turned_is = λ m. among_push m n turned
          ∙ (ap (λ (b : Bool). b || eqb n m) (s.turned_is m) ∙ (or_assoc (is_among m answered) (stands_in polled m) (eqb n m)
          ∙ ap (λ (b : Bool). is_among m answered || b) (sym (stands_push m polled one))));
      owes = λ m h. elim (or_parts (stands_in polled m) (eqb n m) (sym (stands_push m polled one) ∙ h)) [
        | inl polled_in ↦ s.owes m polled_in
        | inr same ↦ ap (λ (k : ℕ). is_among k answered) (sym (eqb-true n m same)) ∙ fresh_owes all turned answered called polled refused n s stands
      ];
      fresh = λ m h.
          let was = stood m n called h in
          among_push m n turned ∙ none (is_among m turned) (eqb n m) (s.fresh m was.1) was.0;
      once = s.once;
      in_order = ordered_without n called s.in_order;
      waits = λ x h. s.waits x (from_without x n called h);
      groups = λ x h. elim (in_push x one polled h) [
        | inl old ↦ s.groups x old
        | inr same ↦ subst (IsGroupReached all answered) (sym same) own
      ];
      reached = λ m h. elim (or_parts (is_among m turned) (eqb n m) (sym (among_push m n turned) ∙ h)) [
        | inl old ↦ s.reached m old
        | inr same ↦ record { one = one; is = eqb-true n m same; group = own }
      ];
      whole = λ un x h. elim (s.whole un x h) [
        | inl old ↦ inl (among_longer x.client n turned old)
        | inr waits ↦ split (eqb x.client n) (λ b. eqb x.client n ≡ b → (is_among x.client (turned ++ n ∷ []) ≡ true) ⊎ IsCalledIn x (without n called))
            (λ k g. inl (ap (λ (m : ℕ). is_among m (turned ++ n ∷ [])) (eqb-true x.client n g) ∙ among_last n turned))
            (λ k g. inr (kept_without x n called g waits)) refl
      ];
      dropped = λ r. ap (without n) (s.dropped r);
    }

pub stand_polled : (all : List Called) (turned answered : List ℕ) (called polled : List Called) (refused : Bool) (n : ℕ) → Stand all turned answered called polled refused → is_next polled called n ≡ true
    → Stand all (turned_more n turned) answered (without n called) (polled ++ record { client = n; sequence = group_of polled called } ∷ []) refused
stand_polled all turned answered called polled refused n s e =
    let new : is_among n turned ≡ false = s.fresh n (with_stands (group_of polled called) called n e) in
    subst (λ (xs : List ℕ). Stand all xs answered (without n called) (polled ++ record { client = n; sequence = group_of polled called } ∷ []) refused) (sym (turned_fresh n turned new))
    (stand_pushed all turned answered called polled refused n s e)

-- An answer.

group_longer : (all : List Called) (answered : List ℕ) (n : ℕ) (x : Called) → IsGroupReached all answered x → IsGroupReached all (answered ++ n ∷ []) x
group_longer all answered n x g = record { among = g.among; front = λ other h less. among_longer other.client n answered (g.front other h less) }

pub stand_told : (all : List Called) (turned answered : List ℕ) (called polled : List Called) (refused : Bool) (n : ℕ) → Stand all turned answered called polled refused → stands_in polled n ≡ true
    → Stand all turned (answered ++ n ∷ []) called (without n polled) refused
stand_told all turned answered called polled refused n s e = record {
  turned_is = λ m. s.turned_is m ∙ (moves m ∙ ap (λ (b : Bool). b || stands_in (without n polled) m) (sym (among_push m n answered)));
  owes = λ m h.
      let was = stood m n polled h in
      among_push m n answered ∙ none (is_among m answered) (eqb n m) (s.owes m was.1) was.0;
  fresh = s.fresh;
  once = apart_push n answered (s.owes n e) s.once;
  in_order = s.in_order;
  waits = s.waits;
  groups = λ x h. group_longer all answered n x (s.groups x (from_without x n polled h));
  reached = λ m h.
      let r = s.reached m h in
      record { one = r.one; is = r.is; group = group_longer all answered n r.one r.group };
  whole = s.whole;
  dropped = s.dropped;
}
  where
    moves : (m : ℕ) → (is_among m answered || stands_in polled m) ≡ ((is_among m answered || eqb n m) || stands_in (without n polled) m)
    moves m =
        split (eqb n m) (λ b. eqb n m ≡ b → (is_among m answered || stands_in polled m) ≡ ((is_among m answered || b) || stands_in (without n polled) m))
        (λ h g.
        let here : stands_in polled m ≡ true = ap (λ (k : ℕ). stands_in polled k) (sym (eqb-true n m g)) ∙ e in
        ap (λ (b : Bool). is_among m answered || b) here ∙ (either (is_among m answered) ∙ sym (ap (λ (b : Bool). b || stands_in (without n polled) m) (either (is_among m answered)))))
        (λ h g. ap (λ (b : Bool). is_among m answered || b) (sym (stands_other m n polled g)) ∙ ap (λ (b : Bool). b || stands_in (without n polled) m) (sym (or_false (is_among m answered)))) refl

-- a No drops those without a turn
pub stand_dropped : (all : List Called) (turned answered : List ℕ) (called polled : List Called) (refused : Bool) → Stand all turned answered called polled refused → Stand all turned answered [] polled true
stand_dropped all turned answered called polled refused s = record {
  turned_is = s.turned_is;
  owes = s.owes;
  fresh = λ n e. absurd cc;
  once = s.once;
  in_order = tt;
  waits = λ x h. absurd h;
  groups = s.groups;
  reached = s.reached;
  whole = λ e. absurd cc;
  dropped = λ e. refl;
}

-- Whether all have answered.

-- without a refusal all that are called have answered exactly where nobody is left
pub all_answered : (all : List Called) (turned answered : List ℕ) (called polled : List Called) (refused : Bool) → Stand all turned answered called polled refused → refused ≡ false → polled ++ called ≡ []
    → (x : Called) → IsCalledIn x all → is_among x.client answered ≡ true
all_answered all turned answered called polled refused s un done x among =
    let parts = both_none polled called done in
    front_answered all turned answered called polled refused x s un (λ waits e. subst (IsCalledIn x) parts.1 waits) parts.0 among
  where
    both_none : (xs ys : List Called) → xs ++ ys ≡ [] → (xs ≡ []) × (ys ≡ [])
    both_none [] ys e = (refl, e)
    both_none (x ∷ xs) ys e = absurd cc

-- and where somebody is left, not all have
pub not_all_answered : (all : List Called) (turned answered : List ℕ) (called polled : List Called) (refused : Bool) (o : Called) (os : List Called) → Stand all turned answered called polled refused → polled ++ called ≡ o ∷ os
    → are_among (called_numbers all) answered ≡ false
not_all_answered all turned answered called (p ∷ ps) refused o os s left =
    let here : is_among p.client (called_numbers all) ≡ true = among_stands p.client all ∙ called_stands p all (s.groups p (inl refl)).among in
    not_all_among p.client (called_numbers all) answered here (s.owes p.client (called_stands p (p ∷ ps) (inl refl)))
not_all_answered all turned answered (c ∷ cs) [] refused o os s left =
    let here : is_among c.client (called_numbers all) ≡ true = among_stands c.client all ∙ called_stands c all (s.waits c (inl refl)) in
    not_all_among c.client (called_numbers all) answered here (fresh_owes all turned answered (c ∷ cs) [] refused c.client s (called_stands c (c ∷ cs) (inl refl)))
not_all_answered all turned answered [] [] refused o os s left = absurd cc

module _ {R : Type 0} where
  -- What the turns and answers tell stands to what the engine holds.

  abbrev pub is_refused : Underway R → Bool
  is_refused u = not u.is_off && is_some u.refusal

  pub record Keeps (c : Calling) (clients : List Registered) (u : Underway R) : Type 0 where
    pub refusal : c.refusal ≡ u.refusal
    pub off : c.off ≡ u.is_off
    pub stand : Stand (called_list (turn_of u) clients) c.turned c.answered u.called u.polled (is_refused u)

  pub keeps_begun : (s : EngineState R) (t : Transition) (sheet : Sheet R) (n : ℕ) → Keeps uncalled s.clients (begun s t sheet n)
  keeps_begun s t sheet n = record { refusal = refl; off = refl; stand = stand_begun t s.clients }

  pub keeps_polled : (c : Calling) (clients : List Registered) (u : Underway R) (client : ℕ) (k : Registered) (blank : Option R) (t : Option Transition) → Keeps c clients u → is_next u.polled u.called client ≡ true
      → Keeps (calling_after (GaveTurn client blank) t c) clients (first_polled client k u)
  keeps_polled c clients u client k blank t s e = record {
    refusal = s.refusal;
    off = s.off;
    stand = stand_polled (called_list (turn_of u) clients) c.turned c.answered u.called u.polled (is_refused u) client s.stand e;
  }

  pub keeps_again : (c : Calling) (clients : List Registered) (u : Underway R) (client : ℕ) (blank : Option R) (t : Option Transition) → Keeps c clients u → has_polled u client ≡ true
      → Keeps (calling_after (GaveTurn client blank) t c) clients u
  keeps_again c clients u client blank t s e =
      let turned : is_among client c.turned ≡ true = polled_turned (called_list (turn_of u) clients) c.turned c.answered u.called u.polled (is_refused u) client s.stand e in
      let same : turned_more client c.turned ≡ c.turned = ap (λ (b : Bool). if b then c.turned else c.turned ++ client ∷ []) turned in
      record {
        refusal = s.refusal;
        off = s.off;
        stand = subst (λ (xs : List ℕ). Stand (called_list (turn_of u) clients) xs c.answered u.called u.polled (is_refused u)) (sym same) s.stand;
      }

  -- what is told right behind an answer
  abbrev pub answered_calling : (client : ℕ) → ClientAnswer R → Option Transition → Calling → Calling
  answered_calling client answer t c = record {
    refusal = refusal_from (refuses answer t c.off) client answer c.refusal;
    off = c.off;
    turned = c.turned;
    answered = c.answered ++ client ∷ [];
  }

first_is : (R : Type 0) (r : Option Refusal) (client : ℕ) (why : Why) → refusal_from {R = R} true client (No why) r ≡ Some (first_refusal r client why)
first_is R None client why = refl
first_is R (Some r) client why = refl

start_not_off : (t : Transition) (off : Bool) → is_start (turn_kind t off) ≡ true → off ≡ false
start_not_off t false e = refl
start_not_off t true e = absurd cc

module _ {R : Type 0} where
  pub keeps_answered : (c : Calling) (clients : List Registered) (u : Underway R) (client : ℕ) (answer : ClientAnswer R) → Keeps c clients u → has_polled u client ≡ true
      → Keeps (answered_calling client answer (Some u.transition) c) clients (answered_with client answer u)
  keeps_answered c clients u client (Yes tally) s e = record {
    refusal = s.refusal;
    off = s.off;
    stand = stand_told (called_list (turn_of u) clients) c.turned c.answered u.called u.polled (is_refused u) client s.stand e;
  }
  keeps_answered c clients u client (No why) s e =
      let after : Stand (called_list (turn_of u) clients) c.turned (c.answered ++ client ∷ []) u.called (without client u.polled) (is_refused u) =
      stand_told (called_list (turn_of u) clients) c.turned c.answered u.called u.polled (is_refused u) client s.stand e in
      let refusing : refuses {R = R} (No why) (Some u.transition) c.off ≡ is_start (turn_of u) = ap (λ (b : Bool). is_start (turn_kind u.transition b)) s.off in
      split (is_start (turn_of u)) (λ b. is_start (turn_of u) ≡ b → Keeps (answered_calling {R = R} client (No why) (Some u.transition) c) clients (if b then refused_by client why u else told client Plain u))
      (λ h g. record {
        refusal = ap (λ (b : Bool). refusal_from {R = R} b client (No why) c.refusal) (refusing ∙ g) ∙ (first_is R c.refusal client why ∙ ap (λ (r : Option Refusal). Some (first_refusal r client why)) s.refusal);
        off = s.off;
        stand = subst (Stand (called_list (turn_of u) clients) c.turned (c.answered ++ client ∷ []) [] (without client u.polled))
            (sym (ap (λ (b : Bool). not b && true) (start_not_off u.transition u.is_off g)))
            (stand_dropped (called_list (turn_of u) clients) c.turned (c.answered ++ client ∷ []) u.called (without client u.polled) (is_refused u) after);
      })
      (λ h g. record {
        refusal = ap (λ (b : Bool). refusal_from {R = R} b client (No why) c.refusal) (refusing ∙ g) ∙ s.refusal;
        off = s.off;
        stand = after;
      })
      refl

-- The calling off.

-- the test of the law is that of the engine
pub opens_is : (all : List Called) (turned answered : List ℕ) (called polled : List Called) (refused : Bool) (r : Option Refusal) (off : Bool) → Stand all turned answered called polled refused
    → opens_off (record { refusal = r; off = off; turned = turned; answered = answered }) ≡ is_due_off r polled off
opens_is all turned answered called polled refused None off s = and_false (not off)
opens_is all turned answered called [] refused (Some r) off s =
    let each : are_among turned answered ≡ true = all_among turned answered (λ n e. sym (or_false (is_among n answered)) ∙ (sym (s.turned_is n) ∙ e)) in
    ap (λ (b : Bool). not off && b) each ∙ and_true (not off)
opens_is all turned answered called (p ∷ ps) refused (Some r) off s =
    let here : stands_in (p ∷ ps) p.client ≡ true = called_stands p (p ∷ ps) (inl refl) in
    let some : are_among turned answered ≡ false = not_all_among p.client turned answered (polled_turned all turned answered called (p ∷ ps) refused p.client s here) (s.owes p.client here) in
    ap (λ (b : Bool). not off && b) some ∙ and_false (not off)

pub due_none : (r : Option Refusal) (polled : List Called) (off : Bool) → is_due_off r polled off ≡ true → polled ≡ []
due_none None polled off e = absurd cc
due_none (Some r) [] off e = refl
due_none (Some r) (p ∷ ps) off e = absurd cc

module _ {R : Type 0} where
  pub keeps_settled : (c : Calling) (clients : List Registered) (u : Underway R) → Keeps c clients u → Keeps (off_opened c) clients (settled clients u)
  keeps_settled c clients u s =
      let test : opens_off c ≡ is_due_off u.refusal u.polled u.is_off =
      opens_is (called_list (turn_of u) clients) c.turned c.answered u.called u.polled (is_refused u) c.refusal c.off s.stand
      ∙ (ap (λ (r : Option Refusal). is_due_off r u.polled c.off) s.refusal ∙ ap (is_due_off u.refusal u.polled) s.off) in
      split (is_due_off u.refusal u.polled u.is_off)
      (λ b. is_due_off u.refusal u.polled u.is_off ≡ b → Keeps (off_opened c) clients (if b then called_off clients u else u))
      (λ h g.
      let opened : Calling = record { refusal = c.refusal; off = true; turned = []; answered = [] } in
      let is : off_opened c ≡ opened = ap (λ (b : Bool). if b then opened else c) (test ∙ g) in
      subst (λ (x : Calling). Keeps x clients (called_off clients u)) (sym is) (record {
        refusal = s.refusal;
        off = refl;
        stand = subst (λ (ps : List Called). Stand (called_list StartAbort clients) [] [] (called_list StartAbort clients) ps false)
            (sym (due_none u.refusal u.polled u.is_off g)) (stand_begun StartAbort clients);
      }))
      (λ h g.
      let is : off_opened c ≡ c = ap (λ (b : Bool). if b then record { refusal = c.refusal; off = true; turned = []; answered = [] } else c) (test ∙ g) in
      subst (λ (x : Calling). Keeps x clients u) (sym is) s)
      refl

  -- behind it start-abort is not due
  pub settled_not_due : (clients : List Registered) (u : Underway R) → is_due_off (settled clients u).refusal (settled clients u).polled (settled clients u).is_off ≡ false
  settled_not_due clients u =
      split (is_due_off u.refusal u.polled u.is_off)
      (λ b. is_due_off u.refusal u.polled u.is_off ≡ b
      → is_due_off (if b then called_off clients u else u).refusal (if b then called_off clients u else u).polled (if b then called_off clients u else u).is_off ≡ false)
      (λ h g. off_not_due u.refusal u.polled) (λ h g. g) refl
    where
      off_not_due : (r : Option Refusal) (polled : List Called) → is_due_off r polled true ≡ false
      off_not_due None polled = refl
      off_not_due (Some r) [] = refl
      off_not_due (Some r) (p ∷ ps) = refl
