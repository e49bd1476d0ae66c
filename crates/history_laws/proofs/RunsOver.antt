-- A client that is called for each stop and each start-abort is given a start only once all runs before it are over.
use Rattle.std.specs.Prelude.{◌≡◌, ◌≢◌, ℕ, ◌==◌, Bool, true, false, is_some, if◌then◌else◌, List, [], ◌∷◌, ◌++◌, fold, slice_get, Option, Some, None, Ok, Err, refl, ⊤, ◌⊎◌}
use Rattle.std.specs.Option.{option_map}
use Rattle.std.proofs.Common.{ap, sym, ◌∙◌, subst, arith, inl, inr, append_assoc}
use Rattle.std.proofs.lemmas.Bool.{eqb-true}
use Rattle.std.proofs.lemmas.Bool.Decides.{eqb_tells}
use Rattle.daq_types.specs.Callers.{entries_by}
use Rattle.daq_types.specs.declared.runs.RunState.{RunState}
use Rattle.daq_types.specs.declared.runs.RunState.TheVariants.{Stopped, Paused, Running}
use Rattle.daq_types.specs.declared.runs.Transition.{Transition}
use Rattle.daq_types.specs.declared.runs.Transition.TheVariants.{Start, Stop, Pause, Resume, StartAbort}
use Rattle.daq_types.specs.declared.runs.Why.{Why}
use Rattle.transitions.specs.States.{is_allowed}
use Rattle.buffer_core.proofs.SlotLaws.{split}
use Rattle.transitions.specs.declared.client.Registered.{Registered}
use Rattle.transitions.specs.declared.called.Called.{Called}
use Rattle.transitions.specs.declared.engine.Refusal.{Refusal}
use Rattle.transitions.specs.declared.replies.Polled.TheVariants.{Turn, Idle, Closed as PollClosed, NoClient}
use Rattle.transitions.specs.declared.replies.Progress.TheVariants.{Going, Done, None as NoneGoing}
use Rattle.transitions.specs.declared.entry.EngineEntry.TheVariants.{Register, Begin, Poll, Answer, Check, Close}
use Rattle.transitions.specs.Called.{called_list}
use Rattle.transitions.specs.Engines.{engine_opening}
use Rattle.transitions.specs.EngineCalls.{turn_kind, turn_of, is_start, stands_in, without, group_of, has_polled, is_next, open_of, state_with, first_polled, polled_by, told, refused_by, is_due_off, called_off, answered_with, answered_by, after_poll_by, after_answer_in, with_underway, IsEngineReply, engine_after}
use Rattle.transitions.specs.EngineHistories.{engine_replay}
use Rattle.transitions.specs.GivenTurns.{SpeaksFor}
use Rattle.transitions.specs.TurnOrder.{number_with}
use Rattle.member_model.specs.RunEngines.{Answer as ClientAnswer, Tally, EngineEntry, Underway, EngineState, EngineHistory, IsLegalEngine}
use Rattle.member_model.specs.Turns.{MemberTurn, HasTurn, NoneOpen}
use Rattle.member_model.specs.TurnCalls.{turn_told, turn_answered, turns_with}
use Rattle.history_laws.specs.BegunTurns.{IsRegisteredIn, IsOver, AreOver, ComesLast, StartsComeLast, IsAlwaysCalled}
use Rattle.history_laws.specs.EngineLaws.{RunsAreOver}
use Rattle.transitions.proofs.Groups.{settled_not_due}
use Rattle.transitions.proofs.Tracked.{pushed_not_due}
use Rattle.history_laws.proofs.Standing.{first_owes, first_other_called, next_called, open_polled, open_called, first_open, none_open, none_polled, KindFits, start_not_off, due}
use Rattle.history_laws.proofs.Replies.{Begins, begins, GivesFirst, IsGiven, given_case, GivesTurn, gives_turn, Owes, owes, owes_none, answered_case, Finishes, finishes}
use Rattle.history_laws.proofs.TurnLists.{HaveBelow, Phase, with_answer, told_new}
use Rattle.history_laws.proofs.Gave.{OpenFor, RunsOn, Gave, GaveAt, told_again, not_stopped, gave_step, gave_unaccepted, other_step, own_or_other, opening_gave}
use Rattle.history_laws.proofs.StateTold.{replay_apart}
use Rattle.history_laws.proofs.Tallied.{legal_apart, register_number, polled_clients, answered_clients}
use Rattle.history_laws.proofs.Begun.{polled_underway, answered_underway}
use Rattle.history_laws.proofs.Completed.{CalledLists, Listed, listed_in, registered_listed}

-- Turns.

abbrev AreOverBut : (start : ℕ) → List MemberTurn → Type 0
AreOverBut start ts = (t : MemberTurn) → HasTurn ts t → t.transition ≡ Start → t.order.start ≢ start → IsOver ts t.order.start

over_more : (t : MemberTurn) (ts : List MemberTurn) (start : ℕ) → IsOver ts start → IsOver (t ∷ ts) start
over_more t ts start o = record { turn = o.turn; stands = inr o.stands; ends = o.ends; of = o.of }

all_over : (ts : List MemberTurn) (start : ℕ) → AreOverBut start ts → IsOver ts start → AreOver ts
all_over ts start but over t has starts = elim (eqb_tells t.order.start start) as (λ w. IsOver ts t.order.start) [
  | inl same ↦ subst (λ (n : ℕ). IsOver ts n) (sym same.1) over
  | inr differs ↦ but t has starts differs.1
]

-- a turn like another, but for its dump and its answer
record Like (ts : List MemberTurn) (t : MemberTurn) : Type 0 where
  turn : MemberTurn
  stands : HasTurn ts turn
  kind : turn.transition ≡ t.transition
  number : turn.order.start ≡ t.order.start

like_itself : (ts : List MemberTurn) (t : MemberTurn) → HasTurn ts t → Like ts t
like_itself ts t has = record { turn = t; stands = has; kind = refl; number = refl }

-- two lists of the same turns, but for answers
record Alike (ts later : List MemberTurn) : Type 0 where
  to : (t : MemberTurn) → HasTurn ts t → Like later t
  from : (t : MemberTurn) → HasTurn later t → Like ts t
  last : StartsComeLast ts → StartsComeLast later

alike_same : (ts : List MemberTurn) → Alike ts ts
alike_same ts = record { to = like_itself ts; from = like_itself ts; last = λ l. l }

alike_latest : (u : MemberTurn) (us : List MemberTurn) (answer : ClientAnswer) → Alike (u ∷ us) (with_answer u answer ∷ us)
alike_latest u us answer = record {
  to = λ t has. elim has as (λ w. Like (with_answer u answer ∷ us) t) [
    | inl same ↦ record { turn = with_answer u answer; stands = inl refl; kind = ap (λ (v : MemberTurn). v.transition) same; number = ap (λ (v : MemberTurn). v.order.start) same }
    | inr old ↦ record { turn = t; stands = inr old; kind = refl; number = refl }
  ];
  from = λ t has. elim has as (λ w. Like (u ∷ us) t) [
    | inl same ↦ record { turn = u; stands = inl refl; kind = ap (λ (v : MemberTurn). v.transition) same; number = ap (λ (v : MemberTurn). v.order.start) same }
    | inr old ↦ record { turn = t; stands = inr old; kind = refl; number = refl }
  ];
  last = λ l. (l.0, l.1);
}

alike_answered : (ts : List MemberTurn) (answer : ClientAnswer) → Alike ts (turn_answered ts answer)
alike_answered [] answer = alike_same []
alike_answered (u ∷ us) answer =
    split (is_some u.answer) (λ b. Alike (u ∷ us) (if b then u ∷ us else with_answer u answer ∷ us)) (λ h. alike_same (u ∷ us)) (λ h. alike_latest u us answer)

over_alike : (ts later : List MemberTurn) (start : ℕ) → Alike ts later → IsOver ts start → IsOver later start
over_alike ts later start alike o =
    let l : Like later o.turn = alike.to o.turn o.stands in
    record {
      turn = l.turn;
      stands = l.stands;
      ends = elim o.ends as (λ w. (l.turn.transition ≡ Stop) ⊎ (l.turn.transition ≡ StartAbort)) [
        | inl stop ↦ inl (l.kind ∙ stop)
        | inr abort ↦ inr (l.kind ∙ abort)
      ];
      of = l.number ∙ o.of;
    }

but_alike : (ts later : List MemberTurn) (start : ℕ) → Alike ts later → AreOverBut start ts → AreOverBut start later
but_alike ts later start alike but t has starts differs =
    let l : Like ts t = alike.from t has in
    subst (λ (n : ℕ). IsOver later n) l.number (over_alike ts later l.turn.order.start alike (but l.turn l.stands (l.kind ∙ starts) (λ same. differs (sym l.number ∙ same))))

-- What is so while a transition goes on.

-- the client's turn of a stop, or of a start-abort, is to come, or its run is over
abbrev MayBeOver : (client start : ℕ) → List MemberTurn → (called : List Called) → Type 0
MayBeOver client start ts called = (stands_in called client ≡ true) ⊎ IsOver ts start

-- with these clients without a turn, and these yet to answer; nothing while a refused start is not called off
abbrev Held : Transition → Option Refusal → (is_off : Bool) → (client start : ℕ) → List MemberTurn → (called left : List Called) → RunState → Type 0
Held k (Some refusal) true client start ts called left state = MayBeOver client start ts called
Held k (Some refusal) false client start ts called left state = ⊤
Held Start None is_off client start ts called [] state = state ≢ Stopped
Held Start None is_off client start ts called (x ∷ xs) state = ⊤
Held Stop None is_off client start ts called left state = MayBeOver client start ts called
Held Pause None is_off client start ts called left state = state ≢ Stopped
Held Resume None is_off client start ts called left state = state ≢ Stopped
Held StartAbort None is_off client start ts called left state = ⊥

abbrev Stays : RunState → (start client : ℕ) → List MemberTurn → Option Underway → Type 0
Stays state start client ts None = AreOver ts ⊎ (state ≢ Stopped)
Stays state start client ts (Some u) = Held u.transition u.refusal u.is_off client start ts u.called (open_of u) state

record OverAt (state : RunState) (start client : ℕ) (ts : List MemberTurn) (o : Option Underway) : Type 0 where
  but : AreOverBut start ts
  last : StartsComeLast ts
  now : Stays state start client ts o

-- Begin.

started_stopped : (state : RunState) → is_allowed state Start ≡ true → state ≡ Stopped
started_stopped Stopped e = refl
started_stopped Paused e = absurd (cc (e))
started_stopped Running e = absurd (cc (e))

never_aborted : (state : RunState) → is_allowed state StartAbort ≡ true → ⊥
never_aborted Stopped e = cc (e)
never_aborted Paused e = cc (e)
never_aborted Running e = cc (e)

begun_start : (client start : ℕ) (ts : List MemberTurn) (is_off : Bool) (called left : List Called) (state : RunState) → Held Start None is_off client start ts called left (state_with state Start None left)
begun_start client start ts is_off called [] state = λ (e : Running ≡ Stopped). cc (e)
begun_start client start ts is_off called (x ∷ xs) state = tt

paused_state : (state : RunState) (called : List Called) → state ≢ Stopped → state_with state Pause None called ≢ Stopped
paused_state state [] on = λ (e : Paused ≡ Stopped). cc (e)
paused_state state (x ∷ xs) on = on

resumed_state : (state : RunState) (called : List Called) → state ≢ Stopped → state_with state Resume None called ≢ Stopped
resumed_state state [] on = λ (e : Running ≡ Stopped). cc (e)
resumed_state state (x ∷ xs) on = on

-- what is so behind the begin of a transition
record BegunOver (k : Transition) (client start : ℕ) (ts : List MemberTurn) (called : List Called) (state : RunState) : Type 0 where
  but : AreOverBut start ts
  now : Held k None false client start ts called called state

begun_over : (k : Transition) (state : RunState) (start client n : ℕ) (ts : List MemberTurn) (called : List Called) → is_allowed state k ≡ true → n ≡ number_with k start → (k ≡ Stop → stands_in called client ≡ true) → AreOverBut start ts → AreOver ts ⊎ (state ≢ Stopped)
    → BegunOver k client n ts called (state_with state k None called)
begun_over Start state start client n ts called allowed number listed but rests = record {
  but = λ t has starts differs. elim rests as (λ w. IsOver ts t.order.start) [
    | inl all ↦ all t has starts
    | inr on ↦ absurd (on (started_stopped state allowed))
  ];
  now = begun_start client n ts false called called state;
}
begun_over Stop state start client n ts called allowed number listed but rests = record { but = subst (λ (m : ℕ). AreOverBut m ts) (sym number) but; now = inl (listed refl) }
begun_over Pause state start client n ts called allowed number listed but rests = record {
  but = subst (λ (m : ℕ). AreOverBut m ts) (sym number) but;
  now = paused_state state called (not_stopped Pause state (λ (e : Pause ≡ Start). cc (e)) allowed);
}
begun_over Resume state start client n ts called allowed number listed but rests = record {
  but = subst (λ (m : ℕ). AreOverBut m ts) (sym number) but;
  now = resumed_state state called (not_stopped Resume state (λ (e : Resume ≡ Start). cc (e)) allowed);
}
begun_over StartAbort state start client n ts called allowed number listed but rests = absurd (never_aborted state allowed)

-- Poll.

may_more : (client start : ℕ) (ts : List MemberTurn) (called fewer : List Called) → (stands_in called client ≡ true → stands_in fewer client ≡ true) → MayBeOver client start ts called → MayBeOver client start ts fewer
may_more client start ts called fewer more may = elim may as (λ w. MayBeOver client start ts fewer) [
  | inl is ↦ inl (more is)
  | inr over ↦ inr over
]

-- a first reply to another client, while somebody has yet to answer
held_other : (k : Transition) (r : Option Refusal) (is_off : Bool) (client start : ℕ) (ts : List MemberTurn) (called fewer before after : List Called) (one : ℕ) (state : RunState) → (stands_in called client ≡ true → stands_in fewer client ≡ true) → stands_in before one ≡ true → stands_in after one ≡ true
    → Held k r is_off client start ts called before state → Held k r is_off client start ts fewer after state
held_other k (Some refusal) true client start ts called fewer before after one state more some left held = may_more client start ts called fewer more held
held_other k (Some refusal) false client start ts called fewer before after one state more some left held = tt
held_other Start None is_off client start ts called fewer before [] one state more some left held = absurd (cc (left))
held_other Start None is_off client start ts called fewer before (y ∷ ys) one state more some left held = tt
held_other Stop None is_off client start ts called fewer before after one state more some left held = may_more client start ts called fewer more held
held_other Pause None is_off client start ts called fewer before after one state more some left held = held
held_other Resume None is_off client start ts called fewer before after one state more some left held = held
held_other StartAbort None is_off client start ts called fewer before after one state more some left held = absurd held

-- and the client's own
held_push : (k : Transition) (r : Option Refusal) (is_off : Bool) (client start : ℕ) (t : MemberTurn) (ts : List MemberTurn) (called fewer before after : List Called) (one : ℕ) (state : RunState) → KindFits k r is_off → t.transition ≡ turn_kind k is_off → t.order.start ≡ start → stands_in after one ≡ true
    → Held k r is_off client start ts called before state → Held k r is_off client start (t ∷ ts) fewer after state
held_push k (Some refusal) true client start t ts called fewer before after one state fits kind number left held = inr (record { turn = t; stands = inl refl; ends = inr kind; of = number })
held_push k (Some refusal) false client start t ts called fewer before after one state fits kind number left held = tt
held_push Start None is_off client start t ts called fewer before [] one state fits kind number left held = absurd (cc (left))
held_push Start None is_off client start t ts called fewer before (y ∷ ys) one state fits kind number left held = tt
held_push Stop None is_off client start t ts called fewer before after one state fits kind number left held =
    inr (record { turn = t; stands = inl refl; ends = inl (kind ∙ ap (turn_kind Stop) fits); of = number })
held_push Pause None is_off client start t ts called fewer before after one state fits kind number left held = held
held_push Resume None is_off client start t ts called fewer before after one state fits kind number left held = held
held_push StartAbort None is_off client start t ts called fewer before after one state fits kind number left held = absurd held

but_push : (start : ℕ) (t : MemberTurn) (ts : List MemberTurn) → t.order.start ≡ start → AreOverBut start ts → AreOverBut start (t ∷ ts)
but_push start t ts number but v has starts differs = elim has as (λ w. IsOver (t ∷ ts) v.order.start) [
  | inl same ↦ absurd (differs (ap (λ (x : MemberTurn). x.order.start) (sym same) ∙ number))
  | inr old ↦ over_more t ts v.order.start (but v old starts differs)
]

-- before the client's turn of a start all runs are over
start_last : (k : Transition) (come : Type 0) (start : ℕ) (ts : List MemberTurn) → k ≡ Start → come → Phase k come start ts → AreOverBut start ts → ComesLast ts start
start_last k come start ts is here phase but =
    let now : Phase Start come start ts = subst (λ (x : Transition). Phase x come start ts) is phase in
    let below : HaveBelow start ts = now.2 here in
    record { over = λ t has starts. but t has starts (λ same. omega (arith, below t has, same)); above = below }

polled_mine : (state : RunState) (start client : ℕ) (ts : List MemberTurn) (u : Underway) (c : Registered) (dump : Option (List ℕ)) → GaveAt state start client ts (Some u) → GivesFirst c u client dump → OverAt state start client ts (Some u)
    → OverAt state start client (turn_told ts (record { transition = turn_of u; order = u.order; dump = dump; answer = None })) (Some (first_polled client c u))
polled_mine state start client ts u c dump g first o =
    let t : MemberTurn = record { transition = turn_of u; order = u.order; dump = dump; answer = None } in
    let now : RunsOn state start client ts u = g.now in
    let none : NoneOpen ts = subst (λ (b : Bool). OpenFor b u ts) first.fresh now.open_turn in
    let come : stands_in u.called client ≡ true = next_called u client first.next in
    let left : stands_in (open_of (first_polled client c u)) client ≡ true = open_polled (first_polled client c u) client (first_owes client c u) in
    subst (λ (x : List MemberTurn). OverAt state start client x (Some (first_polled client c u))) (sym (told_new ts t none)) (record {
      but = but_push start t ts now.number o.but;
      last = ((λ starts. subst (λ (n : ℕ). ComesLast ts n) (sym now.number) (start_last (turn_of u) (stands_in u.called client ≡ true) start ts starts come now.phase o.but)), o.last);
      now = held_push u.transition u.refusal u.is_off client start t ts u.called (without client u.called) (open_of u) (open_of (first_polled client c u)) client state now.kind refl now.number left o.now;
    })

polled_other : (state : RunState) (start client other : ℕ) (ts : List MemberTurn) (u : Underway) (c : Registered) → is_next u.polled u.called other ≡ true → (other == client) ≡ false → OverAt state start client ts (Some u) → OverAt state start client ts (Some (first_polled other c u))
polled_other state start client other ts u c next differs o =
    let here : stands_in (open_of u) other ≡ true = open_called u other (next_called u other next) in
    record {
      but = o.but;
      last = o.last;
      now = held_other u.transition u.refusal u.is_off client start ts u.called (without other u.called) (open_of u) (open_of (first_polled other c u)) other state
          (λ is. first_other_called client other c u differs ∙ is) here (first_open other other c u here) o.now;
    }

over_polled : (state : RunState) (start client other : ℕ) (ts : List MemberTurn) (u : Underway) (c : Registered) (dump : Option (List ℕ)) → GaveAt state start client ts (Some u) → IsGiven c u other dump → OverAt state start client ts (Some u)
    → OverAt state start client (if other == client then turn_told ts (record { transition = turn_of u; order = u.order; dump = dump; answer = None }) else ts) (Some (polled_by other c u))
over_polled state start client other ts u c dump g given o =
    let t : MemberTurn = record { transition = turn_of u; order = u.order; dump = dump; answer = None } in
    split (other == client) (λ b. (other == client) ≡ b → OverAt state start client (if b then turn_told ts t else ts) (Some (polled_by other c u)))
    (λ h e.
    let same : other ≡ client = eqb-true other client e in
    given_case (λ v. OverAt state start client (turn_told ts t) (Some v)) other c u dump given
    (λ again. subst (λ (x : List MemberTurn). OverAt state start client x (Some u)) (sym (told_again client ts u t g.now.open_turn (subst (λ (n : ℕ). has_polled u n ≡ true) same again.polled))) o)
    (λ first. subst (λ (n : ℕ). OverAt state start client (turn_told ts t) (Some (first_polled n c u))) (sym same) (polled_mine state start client ts u c dump g (subst (λ (n : ℕ). GivesFirst c u n dump) same first) o)))
    (λ h e. given_case (λ v. OverAt state start client ts (Some v)) other c u dump given (λ again. o) (λ first. polled_other state start client other ts u c first.next e o))
    refl

-- Answer.

may_alike : (client start : ℕ) (ts later : List MemberTurn) (called : List Called) → Alike ts later → MayBeOver client start ts called → MayBeOver client start later called
may_alike client start ts later called alike may = elim may as (λ w. MayBeOver client start later called) [
  | inl is ↦ inl is
  | inr over ↦ inr (over_alike ts later start alike over)
]

held_told : (k : Transition) (r : Option Refusal) (is_off : Bool) (client start : ℕ) (ts later : List MemberTurn) (called before after : List Called) (one : ℕ) (state : RunState) → Alike ts later → stands_in before one ≡ true → Held k r is_off client start ts called before state
    → Held k r is_off client start later called after (state_with state k r after)
held_told k (Some refusal) true client start ts later called before after one state alike some held = may_alike client start ts later called alike held
held_told k (Some refusal) false client start ts later called before after one state alike some held = tt
held_told Start None is_off client start ts later called before after one state alike some held = begun_start client start later is_off called after state
held_told Stop None is_off client start ts later called before after one state alike some held = may_alike client start ts later called alike held
held_told Pause None is_off client start ts later called before after one state alike some held = paused_state state after held
held_told Resume None is_off client start ts later called before after one state alike some held = resumed_state state after held
held_told StartAbort None is_off client start ts later called before after one state alike some held = absurd held

-- the engine with a transition in progress, of which this is kept
abbrev OverWith : RunState → (start client : ℕ) → List MemberTurn → Underway → Type 0
OverWith state start client ts v = OverAt (state_with state v.transition v.refusal (open_of v)) start client ts (Some v)

over_told : (state : RunState) (start client other : ℕ) (ts later : List MemberTurn) (u : Underway) (tally : Tally) → Alike ts later → has_polled u other ≡ true → OverAt state start client ts (Some u)
    → OverWith state start client later (told other tally u)
over_told state start client other ts later u tally alike polled o = record {
  but = but_alike ts later start alike o.but;
  last = alike.last o.last;
  now = held_told u.transition u.refusal u.is_off client start ts later u.called (open_of u) (open_of (told other tally u)) other state alike (open_polled u other polled) o.now;
}

over_refused : (state : RunState) (start client other : ℕ) (ts later : List MemberTurn) (u : Underway) (why : Why) → Alike ts later → is_start (turn_of u) ≡ true → OverAt state start client ts (Some u)
    → OverWith state start client later (refused_by other why u)
over_refused state start client other ts later u why alike starts o =
    let v : Underway = refused_by other why u in
    record {
      but = but_alike ts later start alike o.but;
      last = alike.last o.last;
      now = subst (λ (b : Bool). Held u.transition v.refusal b client start later [] (open_of v) state) (sym (start_not_off u.transition u.is_off starts)) tt;
    }

off_held : (k : Transition) (r : Option Refusal) (refusal : Refusal) (client start : ℕ) (ts : List MemberTurn) (called left : List Called) (state : RunState) → r ≡ Some refusal → MayBeOver client start ts called → Held k r true client start ts called left state
off_held k None refusal client start ts called left state refused may = absurd (cc (refused))
off_held k (Some r) refusal client start ts called left state refused may = may

over_off : (lists : CalledLists) (state : RunState) (start client : ℕ) (ts : List MemberTurn) (clients : List Registered) (v : Underway) → Listed StartAbort client clients → is_due_off v.refusal v.polled v.is_off ≡ true → OverWith state start client ts v
    → OverWith state start client ts (called_off clients v)
over_off lists state start client ts clients v listed is o =
    let d = due v.refusal v.polled v.is_off is in
    let w : Underway = called_off clients v in
    record {
      but = o.but;
      last = o.last;
      now = off_held v.transition v.refusal d.refusal client start ts w.called (open_of w) (state_with state v.transition v.refusal (open_of w)) d.refused (inl (listed_in lists StartAbort client clients listed));
    }

alike_by : (client other : ℕ) (ts : List MemberTurn) (answer : ClientAnswer) → Alike ts (if other == client then turn_answered ts answer else ts)
alike_by client other ts answer = split (other == client) (λ b. Alike ts (if b then turn_answered ts answer else ts)) (λ h. alike_answered ts answer) (λ h. alike_same ts)

over_answered : (lists : CalledLists) (s : EngineState) (client other : ℕ) (ts : List MemberTurn) (u : Underway) (answer : ClientAnswer) → Listed StartAbort client s.clients → has_polled u other ≡ true → OverAt s.state s.start client ts (Some u)
    → (let after : EngineState = with_underway s (answered_by s.clients other answer u) in OverAt after.state after.start client (if other == client then turn_answered ts answer else ts) after.underway)
over_answered lists s client other ts u answer listed polled o =
    let later : List MemberTurn = if other == client then turn_answered ts answer else ts in
    let alike : Alike ts later = alike_by client other ts answer in
    answered_case (OverWith s.state s.start client later) s.clients other answer u
    (λ tally is. over_told s.state s.start client other ts later u tally alike polled o)
    (λ why is. over_refused s.state s.start client other ts later u why alike is.starts o)
    (λ v is kept. over_off lists s.state s.start client later s.clients v listed is kept)

-- Done.

done_over : (client start : ℕ) (ts : List MemberTurn) (called : List Called) (state : RunState) → stands_in called client ≡ false → AreOverBut start ts → MayBeOver client start ts called → AreOver ts ⊎ (state ≢ Stopped)
done_over client start ts called state none but may = elim may as (λ w. AreOver ts ⊎ (state ≢ Stopped)) [
  | inl is ↦ absurd (let never : false ≡ true = sym none ∙ is in cc (never))
  | inr over ↦ inl (all_over ts start but over)
]

held_done : (k : Transition) (r : Option Refusal) (is_off : Bool) (client start : ℕ) (ts : List MemberTurn) (called : List Called) (state : RunState) → stands_in called client ≡ false → is_due_off r [] is_off ≡ false → AreOverBut start ts → Held k r is_off client start ts called [] state
    → AreOver ts ⊎ (state ≢ Stopped)
held_done k (Some refusal) true client start ts called state none unsettled but held = done_over client start ts called state none but held
held_done k (Some refusal) false client start ts called state none unsettled but held = absurd (cc (unsettled))
held_done Start None is_off client start ts called state none unsettled but held = inr held
held_done Stop None is_off client start ts called state none unsettled but held = done_over client start ts called state none but held
held_done Pause None is_off client start ts called state none unsettled but held = inr held
held_done Resume None is_off client start ts called state none unsettled but held = inr held
held_done StartAbort None is_off client start ts called state none unsettled but held = absurd held

over_done : (state : RunState) (start client : ℕ) (ts : List MemberTurn) (u : Underway) → open_of u ≡ [] → is_due_off u.refusal u.polled u.is_off ≡ false → OverAt state start client ts (Some u) → OverAt state start client ts None
over_done state start client ts u done unsettled o =
    let nobody : u.polled ≡ [] = none_polled u.polled u.called done in
    record {
      but = o.but;
      last = o.last;
      now = held_done u.transition u.refusal u.is_off client start ts u.called state
          (none_open u.called client (ap (λ (ps : List Called). ps ++ u.called) (sym nobody) ∙ done)) (ap (λ (ps : List Called). is_due_off u.refusal ps u.is_off) (sym nobody) ∙ unsettled) o.but
          (subst (λ (xs : List Called). Held u.transition u.refusal u.is_off client start ts u.called xs state) done o.now);
    }

-- One call.

abbrev Over : EngineState → (client : ℕ) → List MemberTurn → Type 0
Over s client ts = OverAt s.state s.start client ts s.underway

record Runs (client : ℕ) (ts : List MemberTurn) (s : EngineState) : Type 0 where
  over : Over s client ts
  listed : (u : Underway) → s.underway ≡ Some u → Listed StartAbort client s.clients
  unsettled : (u : Underway) → s.underway ≡ Some u → is_due_off u.refusal u.polled u.is_off ≡ false

-- whether start-abort is due now
abbrev due_in : Option Underway → Bool
due_in None = false
due_in (Some u) = is_due_off u.refusal u.polled u.is_off

polled_unsettled : (client : ℕ) (c : Registered) (u : Underway) → is_due_off u.refusal u.polled u.is_off ≡ false → due_in (Some (polled_by client c u)) ≡ false
polled_unsettled client c u unsettled =
    split (has_polled u client) (λ b. due_in (Some (if b then u else first_polled client c u)) ≡ false) (λ h. unsettled)
    (λ h. pushed_not_due u.refusal u.polled (record { client = client; sequence = group_of u.polled u.called }) u.is_off)

-- where the call begins a transition, the client is called for what ends a run
abbrev CallsFor : (client : ℕ) → EngineState → EngineEntry → Type 0
CallsFor client s (Begin t sheet (Ok n)) = Listed Stop client s.clients × Listed StartAbort client s.clients
CallsFor client s entry = ⊤

stop_listed : (lists : CalledLists) (k : Transition) (client : ℕ) (clients : List Registered) → Listed Stop client clients → k ≡ Stop → stands_in (called_list k clients) client ≡ true
stop_listed lists k client clients listed is = subst (λ (x : Transition). stands_in (called_list x clients) client ≡ true) (sym is) (listed_in lists Stop client clients listed)

runs_step : (lists : CalledLists) (client : ℕ) (ts : List MemberTurn) (s : EngineState) (e : EngineEntry) → Gave s client ts → IsEngineReply s e → CallsFor client s e → Runs client ts s → Runs client (turns_with client ts e) (engine_after s e)
runs_step lists client ts s (Register name sequences dump report (Ok n)) g reply called o = record {
  over = record { but = o.over.but; last = o.over.last; now = o.over.now };
  listed = λ u is. absurd (let never : None ≡ Some u = sym (register_number s n reply).0 ∙ is in cc (never));
  unsettled = o.unsettled;
}
runs_step lists client ts s (Register name sequences dump report (Err r)) g reply called o = o
runs_step lists client ts s (Begin t sheet (Ok n)) g reply called o =
    let b : Begins s t n = begins s t n reply in
    let rests : AreOver ts ⊎ (s.state ≢ Stopped) = subst (Stays s.state s.start client ts) b.free o.over.now in
    let begins_over : BegunOver t client n ts (called_list t s.clients) (state_with s.state t None (called_list t s.clients)) =
    begun_over t s.state s.start client n ts (called_list t s.clients) b.allowed b.number (stop_listed lists t client s.clients called.0) o.over.but rests in
    record { over = record { but = begins_over.but; last = o.over.last; now = begins_over.now }; listed = λ u is. called.1; unsettled = λ u is. ap (λ (x : Option Underway). due_in x) (sym is) }
runs_step lists client ts s (Begin t sheet (Err r)) g reply called o = o
runs_step lists client ts s (Poll other (Turn turn order dump blank)) g reply called o =
    let p : GivesTurn s other turn order dump = gives_turn s other turn order dump blank reply in
    let told_so : MemberTurn = record { transition = turn; order = order; dump = dump; answer = None } in
    let given : MemberTurn = record { transition = turn_of p.u; order = p.u.order; dump = dump; answer = None } in
    let same : given ≡ told_so = ap (λ (k : Transition). record { transition = k; order = p.u.order; dump = dump; answer = None }) (sym p.turn_is) ∙ ap (λ x. record { transition = turn; order = x; dump = dump; answer = None }) (sym p.order_is) in
    let at : GaveAt s.state s.start client ts (Some p.u) = subst (GaveAt s.state s.start client ts) p.underway_is g in
    let before : OverAt s.state s.start client ts (Some p.u) = subst (OverAt s.state s.start client ts) p.underway_is o.over in
    let after : OverAt s.state s.start client (if other == client then turn_told ts given else ts) (Some (polled_by other p.c p.u)) = over_polled s.state s.start client other ts p.u p.c dump at p.given before in
    let over : Over (after_poll_by s other (slice_get s.clients other)) client (if other == client then turn_told ts told_so else ts) =
    subst (λ (x : Option Registered). Over (after_poll_by s other x) client (if other == client then turn_told ts told_so else ts)) (sym p.client_is)
    (subst (λ (x : Option Underway). OverAt s.state s.start client (if other == client then turn_told ts told_so else ts) (option_map (polled_by other p.c) x)) (sym p.underway_is)
    (subst (λ (x : MemberTurn). OverAt s.state s.start client (if other == client then turn_told ts x else ts) (Some (polled_by other p.c p.u))) same after)) in
    record {
      over = over;
      listed = λ u is. subst (Listed StartAbort client) (sym (polled_clients s other turn order dump p)) (o.listed p.u p.underway_is);
      unsettled = λ u is.
          let both : Some (polled_by other p.c p.u) ≡ Some u = sym (polled_underway s other p.c p.u p.client_is p.underway_is) ∙ is in
          ap due_in (sym both) ∙ polled_unsettled other p.c p.u (o.unsettled p.u p.underway_is);
    }
runs_step lists client ts s (Poll other (Idle state)) g reply called o = o
runs_step lists client ts s (Poll other PollClosed) g reply called o = o
runs_step lists client ts s (Poll other NoClient) g reply called o = o
runs_step lists client ts s (Answer other answer (Ok done)) g reply called o =
    let w : Owes s other = owes s other done reply in
    let before : OverAt s.state s.start client ts (Some w.u) = subst (OverAt s.state s.start client ts) w.underway_is o.over in
    let over : Over (after_answer_in s other answer s.underway) client (if other == client then turn_answered ts answer else ts) =
    subst (λ (x : Option Underway). Over (after_answer_in s other answer x) client (if other == client then turn_answered ts answer else ts)) (sym w.underway_is)
    (over_answered lists s client other ts w.u answer (o.listed w.u w.underway_is) w.polled before) in
    record {
      over = over;
      listed = λ u is. subst (Listed StartAbort client) (sym (answered_clients s other answer s.underway)) (o.listed w.u w.underway_is);
      unsettled = λ u is.
          let both : Some (answered_by s.clients other answer w.u) ≡ Some u = sym (answered_underway s other answer w.u w.underway_is) ∙ is in
          ap due_in (sym both) ∙ settled_not_due s.clients (answered_with other answer w.u);
    }
runs_step lists client ts s (Answer other answer (Err r)) g reply called o =
    subst (λ (x : List MemberTurn). Runs client x s) (sym (gave_unaccepted s client other ts answer g (owes_none s other r reply))) o
runs_step lists client ts s (Check (Done outcome) tallies) g reply called o =
    let f : Finishes s outcome = finishes s outcome reply.0 in
    record { over = over_done s.state s.start client ts f.u f.done (o.unsettled f.u f.underway_is) (subst (OverAt s.state s.start client ts) f.underway_is o.over); listed = λ u is. absurd (cc (is)); unsettled = λ u is. absurd (cc (is)) }
runs_step lists client ts s (Check Going tallies) g reply called o = o
runs_step lists client ts s (Check NoneGoing tallies) g reply called o = o
runs_step lists client ts s (Close (Ok done)) g reply called o = record { over = record { but = o.over.but; last = o.over.last; now = o.over.now }; listed = o.listed; unsettled = o.unsettled }
runs_step lists client ts s (Close (Err r)) g reply called o = o

-- A whole history.

listed_of : (client : ℕ) (k : Transition) (pre : EngineHistory) (s : EngineState) → engine_replay engine_opening pre ≡ s → IsLegalEngine engine_opening pre → IsRegisteredIn pre client k → Listed k client s.clients
listed_of client k pre s is legal r = subst (λ (x : EngineState). Listed k client x.clients) is (registered_listed pre client k legal r)

calls_for : (client : ℕ) (history pre h : EngineHistory) (s : EngineState) (caller : ℕ) (e : EngineEntry) → history ≡ pre ++ (caller, e) ∷ h → engine_replay engine_opening pre ≡ s → IsLegalEngine engine_opening pre → IsAlwaysCalled history client → CallsFor client s e
calls_for client history pre h s caller (Begin t sheet (Ok n)) whole is legal always =
    let registered = always pre h caller t sheet n whole in
    (listed_of client Stop pre s is legal registered.0, listed_of client StartAbort pre s is legal registered.1)
calls_for client history pre h s caller (Begin t sheet (Err r)) whole is legal always = tt
calls_for client history pre h s caller (Register name sequences dump report reply) whole is legal always = tt
calls_for client history pre h s caller (Poll other reply) whole is legal always = tt
calls_for client history pre h s caller (Answer other answer reply) whole is legal always = tt
calls_for client history pre h s caller (Check reply tallies) whole is legal always = tt
calls_for client history pre h s caller (Close reply) whole is legal always = tt

all_last : (lists : CalledLists) (by client : ℕ) (history : EngineHistory) → IsLegalEngine engine_opening history → IsAlwaysCalled history client → (pre h : EngineHistory) (ts : List MemberTurn) (s : EngineState) → history ≡ pre ++ h → engine_replay engine_opening pre ≡ s
    → IsLegalEngine s h → SpeaksFor by client h → Gave s client ts → Runs client ts s → StartsComeLast (fold (turns_with client) ts (entries_by by h))
all_last lists by client history legal always pre [] ts s whole is here alone g o = o.over.last
all_last lists by client history legal always pre ((caller, e) ∷ h) ts s whole is here alone g o =
    let first : IsLegalEngine engine_opening pre = (legal_apart engine_opening pre ((caller, e) ∷ h) (subst (IsLegalEngine engine_opening) whole legal)).0 in
    let called : CallsFor client s e = calls_for client history pre h s caller e whole is first always in
    let next : Gave (engine_after s e) client (turns_with client ts e) = gave_step s client ts e g here.1 in
    let runs : Runs client (turns_with client ts e) (engine_after s e) = runs_step lists client ts s e g here.1 called o in
    let longer : history ≡ (pre ++ (caller, e) ∷ []) ++ h = whole ∙ sym (append_assoc pre ((caller, e) ∷ []) h) in
    let behind : engine_replay engine_opening (pre ++ (caller, e) ∷ []) ≡ engine_after s e = replay_apart engine_opening pre ((caller, e) ∷ []) ∙ ap (λ (x : EngineState). engine_after x e) is in
    own_or_other by client (caller, e) h (λ es. StartsComeLast (fold (turns_with client) ts es)) alone.0
    (all_last lists by client history legal always (pre ++ (caller, e) ∷ []) h (turns_with client ts e) (engine_after s e) longer behind here.2 alone.1 next runs)
    (λ not. let same : turns_with client ts e ≡ ts = other_step s client ts e g here.1 not in
    all_last lists by client history legal always (pre ++ (caller, e) ∷ []) h ts (engine_after s e) longer behind here.2 alone.1 (subst (Gave (engine_after s e) client) same next)
    (subst (λ (y : List MemberTurn). Runs client y (engine_after s e)) same runs))

pub runs_are_over : CalledLists → RunsAreOver
runs_are_over lists by client history legal alone always =
    all_last lists by client history legal always [] history [] engine_opening refl refl legal alone (opening_gave client)
    (record { over = record { but = λ t has. absurd has; last = tt; now = inl (λ t has. absurd has) }; listed = λ u is. absurd (cc (is)); unsettled = λ u is. absurd (cc (is)) })
