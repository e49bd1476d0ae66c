-- The turns of a client are turns as an engine gives them: what holds of them and of the engine at each point of a history.
use Rattle.std.specs.Prelude.{◌≡◌, ◌≢◌, ℕ, suc, ◌≤◌, ◌==◌, Bool, true, false, if◌then◌else◌, List, [], ◌∷◌, fold, map, Option, Some, None, Ok, Err, refl, ⊤}
use Rattle.std.specs.List.{filter}
use Rattle.std.specs.Option.{option_map}
use Rattle.std.proofs.Common.{ap, sym, ◌∙◌, subst, arith, inr}
use Rattle.std.proofs.lemmas.Bool.{eqb-true, eqb-false}
use Rattle.daq_types.specs.Callers.{entries_by}
use Rattle.daq_types.specs.declared.runs.Order.{Order}
use Rattle.daq_types.specs.declared.runs.RunState.{RunState}
use Rattle.daq_types.specs.declared.runs.RunState.TheVariants.{Stopped, Paused, Running}
use Rattle.daq_types.specs.declared.runs.Transition.{Transition}
use Rattle.daq_types.specs.declared.runs.Transition.TheVariants.{Start, Stop, Pause, Resume, StartAbort}
use Rattle.daq_types.specs.declared.runs.Why.{Why}
use Rattle.transitions.specs.States.{is_allowed}
use Rattle.buffer_core.proofs.SlotLaws.{split}
use Rattle.transitions.specs.declared.client.Registered.{Registered}
use Rattle.transitions.specs.declared.called.Called.{Called}
use Rattle.transitions.specs.declared.engine.Refusal.{Refusal}
use Rattle.transitions.specs.declared.replies.Polled.TheVariants.{Turn, Idle, Closed as PollClosed, NoClient}
use Rattle.transitions.specs.declared.replies.Progress.TheVariants.{Going, Done, None as NoneGoing}
use Rattle.transitions.specs.declared.entry.EngineEntry.TheVariants.{Register, Begin, Poll, Answer, Check, Close}
use Rattle.transitions.specs.Called.{called_list}
use Rattle.transitions.specs.Engines.{engine_opening}
use Rattle.transitions.specs.EngineCalls.{turn_kind, turn_of, is_start, stands_in, without, has_polled, is_next, open_of, state_with, begun, first_polled, polled_by, told, refused_by, is_due_off, called_off, answered_by, after_poll_by, after_answer_in, with_underway, owes_answer, IsEngineReply, engine_after}
use Rattle.transitions.specs.EngineHistories.{engine_replay}
use Rattle.transitions.specs.GivenTurns.{is_of_client, SpeaksFor}
use Rattle.transitions.specs.Marks.{is_mark, HasNoMark}
use Rattle.transitions.specs.TurnOrder.{number_with}
use Rattle.member_model.specs.RunEngines.{Sheet, Answer as ClientAnswer, Tally, EngineEntry, Underway, EngineState, EngineHistory, IsLegalEngine}
use Rattle.transitions.proofs.Stands.{stands_gone, stands_other}
use Rattle.member_model.specs.Turns.{MemberTurn, NoneOpen, IsOfRun, IsNextTurn, AreEngineTurns}
use Rattle.member_model.specs.TurnCalls.{turn_told, turn_answered, turns_with}
use Rattle.history_laws.specs.EngineLaws.{GivesEngineTurns}
use Rattle.history_laws.proofs.Standing.{first_gone, first_owes, first_other_owes, first_fewer, next_called, open_polled, open_called, first_open, none_open, none_polled, KindFits, start_kind, due, due_kind, kind_off}
use Rattle.history_laws.proofs.Replies.{Begins, begins, GivesFirst, IsGiven, given_case, GivesTurn, gives_turn, Owes, owes, owes_none, answered_case, Finishes, finishes}
use Rattle.history_laws.proofs.TurnLists.{HaveUpTo, up_to_more, up_to_push, up_to_answered, with_answer, Phase, phase_weaker, phase_answered, phase_next, phase_push, told_new, answered_none}

-- the state of the engine fits the transition in progress, with these clients yet to answer
abbrev pub StateFits : Transition → Option Refusal → List Called → RunState → Type 0
StateFits t (Some refusal) called state = state ≡ Stopped
StateFits Start None [] state = ⊤
StateFits Start None (x ∷ xs) state = state ≡ Stopped
StateFits Stop None [] state = state ≡ Stopped
StateFits Stop None (x ∷ xs) state = ⊤
StateFits Pause None called state = ⊤
StateFits Resume None called state = ⊤
StateFits StartAbort None called state = ⊥

-- the latest turn is not answered, where the client owes an answer
abbrev pub OpenFor : Bool → Underway → List MemberTurn → Type 0
OpenFor true u ts = (dump : Option (List ℕ)) × (rest : List MemberTurn) × (ts ≡ record { transition = turn_of u; order = u.order; dump = dump; answer = None } ∷ rest)
OpenFor false u ts = NoneOpen ts

-- a turn stays open while its kind and its order are the same
pub open_like : (b : Bool) (u v : Underway) (ts : List MemberTurn) → turn_of v ≡ turn_of u → v.order ≡ u.order → OpenFor b u ts → OpenFor b v ts
open_like true u v ts turn order still = (
  still.0,
  still.1,
  still.2
      ∙ (ap (λ (k : Transition). record { transition = k; order = u.order; dump = still.0; answer = None } ∷ still.1) (sym turn)
      ∙ ap (λ (o : Order). record { transition = turn_of v; order = o; dump = still.0; answer = None } ∷ still.1) (sym order)),
)
open_like false u v ts turn order none = none

pub record RunsOn (state : RunState) (start client : ℕ) (ts : List MemberTurn) (u : Underway) : Type 0 where
  pub number : u.order.start ≡ start
  pub kind : KindFits u.transition u.refusal u.is_off
  pub fits : StateFits u.transition u.refusal (open_of u) state
  pub phase : Phase (turn_of u) (stands_in u.called client ≡ true) start ts
  pub open_turn : OpenFor (stands_in u.polled client) u ts

pub record Rests (state : RunState) (start : ℕ) (ts : List MemberTurn) : Type 0 where
  pub of_run : state ≢ Stopped → IsOfRun start ts
  pub none : NoneOpen ts

abbrev pub StandsAt : RunState → (start client : ℕ) → List MemberTurn → Option Underway → Type 0
StandsAt state start client ts None = Rests state start ts
StandsAt state start client ts (Some u) = RunsOn state start client ts u

pub record GaveAt (state : RunState) (start client : ℕ) (ts : List MemberTurn) (o : Option Underway) : Type 0 where
  pub low : HaveUpTo start ts
  pub are : AreEngineTurns ts
  pub now : StandsAt state start client ts o

abbrev pub Gave : EngineState → (client : ℕ) → List MemberTurn → Type 0
Gave s client ts = GaveAt s.state s.start client ts s.underway

-- Begin.

number_grows : (t : Transition) (start n : ℕ) → n ≡ number_with t start → start ≤ n
number_grows t start n e = split (is_start t) (λ b. n ≡ (if b then suc start else start) → start ≤ n) (λ h e'. omega (arith, e')) (λ h e'. omega (arith, e')) e

begun_fits : (t : Transition) (state : RunState) (called : List Called) → is_allowed state t ≡ true → StateFits t None called (state_with state t None called)
begun_fits Start state [] e = tt
begun_fits Start Stopped (x ∷ xs) e = refl
begun_fits Start Paused (x ∷ xs) e = absurd (cc (e))
begun_fits Start Running (x ∷ xs) e = absurd (cc (e))
begun_fits Stop state [] e = refl
begun_fits Stop state (x ∷ xs) e = tt
begun_fits Pause state called e = tt
begun_fits Resume state called e = tt
begun_fits StartAbort Stopped called e = absurd (cc (e))
begun_fits StartAbort Paused called e = absurd (cc (e))
begun_fits StartAbort Running called e = absurd (cc (e))

pub not_stopped : (t : Transition) (state : RunState) → t ≢ Start → is_allowed state t ≡ true → state ≢ Stopped
not_stopped t Paused other e = λ (same : Paused ≡ Stopped). cc (same)
not_stopped t Running other e = λ (same : Running ≡ Stopped). cc (same)
not_stopped Start Stopped other e = absurd (other refl)
not_stopped Stop Stopped other e = absurd (cc (e))
not_stopped Pause Stopped other e = absurd (cc (e))
not_stopped Resume Stopped other e = absurd (cc (e))
not_stopped StartAbort Stopped other e = absurd (cc (e))

begun_phase : (t : Transition) (come : Type 0) (state : RunState) (start n : ℕ) (ts : List MemberTurn) → is_allowed state t ≡ true → n ≡ number_with t start → HaveUpTo start ts → (state ≢ Stopped → IsOfRun start ts) → Phase t come n ts
begun_phase Start come state start n ts e number low of_run = (
  (λ (zero_is : n ≡ 0). omega (arith, number, zero_is)),
  inr (λ t has starts same. omega (arith, low t has, number, same)),
  (λ is t has. omega (arith, low t has, number)),
)
begun_phase Stop come state start n ts e number low of_run = λ is. subst (λ (m : ℕ). IsOfRun m ts) (sym number) (of_run (not_stopped Stop state (λ (same : Stop ≡ Start). cc (same)) e))
begun_phase Pause come state start n ts e number low of_run = subst (λ (m : ℕ). IsOfRun m ts) (sym number) (of_run (not_stopped Pause state (λ (same : Pause ≡ Start). cc (same)) e))
begun_phase Resume come state start n ts e number low of_run = subst (λ (m : ℕ). IsOfRun m ts) (sym number) (of_run (not_stopped Resume state (λ (same : Resume ≡ Start). cc (same)) e))
begun_phase StartAbort come Stopped start n ts e number low of_run = absurd (cc (e))
begun_phase StartAbort come Paused start n ts e number low of_run = absurd (cc (e))
begun_phase StartAbort come Running start n ts e number low of_run = absurd (cc (e))

gave_begun : (s : EngineState) (client : ℕ) (ts : List MemberTurn) (t : Transition) (sheet : Sheet) (n : ℕ) → Begins s t n → Gave s client ts
    → GaveAt (state_with s.state t None (called_list t s.clients)) n client ts (Some (begun s t sheet n))
gave_begun s client ts t sheet n b g =
    let rests : Rests s.state s.start ts = subst (StandsAt s.state s.start client ts) b.free g.now in
    record {
      low = up_to_more s.start n ts (number_grows t s.start n b.number) g.low;
      are = g.are;
      now = record {
        number = refl;
        kind = refl;
        fits = begun_fits t s.state (called_list t s.clients) b.allowed;
        phase = begun_phase t (stands_in (called_list t s.clients) client ≡ true) s.state s.start n ts b.allowed b.number g.low rests.of_run;
        open_turn = rests.none;
      };
    }

-- Poll.

never_both : (b : Bool) → b ≡ false → b ≡ true → ⊥
never_both true not is = absurd (cc (not))
never_both false not is = absurd (cc (is))

-- while somebody has yet to answer, the state fits
still_fits : (t : Transition) (r : Option Refusal) (before after : List Called) (one other : ℕ) (state : RunState) → stands_in before one ≡ true → stands_in after other ≡ true → StateFits t r before state → StateFits t r after state
still_fits t (Some refusal) before after one other state some left fits = fits
still_fits Start None [] after one other state some left fits = absurd (cc (some))
still_fits Start None (x ∷ xs) [] one other state some left fits = absurd (cc (left))
still_fits Start None (x ∷ xs) (y ∷ ys) one other state some left fits = fits
still_fits Stop None before [] one other state some left fits = absurd (cc (left))
still_fits Stop None before (y ∷ ys) one other state some left fits = tt
still_fits Pause None before after one other state some left fits = tt
still_fits Resume None before after one other state some left fits = tt
still_fits StartAbort None before after one other state some left fits = absurd fits

first_fits : (state : RunState) (other : ℕ) (u : Underway) (c : Registered) → is_next u.polled u.called other ≡ true → StateFits u.transition u.refusal (open_of u) state → StateFits u.transition u.refusal (open_of (first_polled other c u)) state
first_fits state other u c next fits =
    let here : stands_in (open_of u) other ≡ true = open_called u other (next_called u other next) in
    still_fits u.transition u.refusal (open_of u) (open_of (first_polled other c u)) other other state here (first_open other other c u here) fits

polled_fresh : (state : RunState) (start client : ℕ) (ts : List MemberTurn) (u : Underway) (c : Registered) (dump : Option (List ℕ)) → GaveAt state start client ts (Some u) → GivesFirst c u client dump
    → GaveAt state start client (turn_told ts (record { transition = turn_of u; order = u.order; dump = dump; answer = None })) (Some (first_polled client c u))
polled_fresh state start client ts u c dump g first =
    let t : MemberTurn = record { transition = turn_of u; order = u.order; dump = dump; answer = None } in
    let now : RunsOn state start client ts u = g.now in
    let come : stands_in u.called client ≡ true = next_called u client first.next in
    let none : NoneOpen ts = subst (λ (b : Bool). OpenFor b u ts) first.fresh now.open_turn in
    let next : IsNextTurn (turn_of u) u.order.start ts = subst (λ (n : ℕ). IsNextTurn (turn_of u) n ts) (sym now.number) (phase_next (turn_of u) (stands_in u.called client ≡ true) start ts come now.phase) in
    subst (λ (x : List MemberTurn). GaveAt state start client x (Some (first_polled client c u))) (sym (told_new ts t none)) (record {
      low = up_to_push start t ts now.number g.low;
      are = (next, g.are);
      now = record {
        number = now.number;
        kind = now.kind;
        fits = first_fits state client u c first.next now.fits;
        phase = phase_push (turn_of u) (stands_in u.called client ≡ true) (stands_in (first_polled client c u).called client ≡ true) start ts u.order dump None now.number
            (never_both (stands_in (first_polled client c u).called client) (first_gone client c u)) now.phase;
        open_turn = subst (λ (b : Bool). OpenFor b (first_polled client c u) (t ∷ ts)) (sym (first_owes client c u)) (dump, ts, refl);
      };
    })

polled_other : (state : RunState) (start client other : ℕ) (ts : List MemberTurn) (u : Underway) (c : Registered) → GaveAt state start client ts (Some u) → is_next u.polled u.called other ≡ true → (other == client) ≡ false
    → GaveAt state start client ts (Some (first_polled other c u))
polled_other state start client other ts u c g next differs =
    let now : RunsOn state start client ts u = g.now in
    record {
      low = g.low;
      are = g.are;
      now = record {
        number = now.number;
        kind = now.kind;
        fits = first_fits state other u c next now.fits;
        phase = phase_weaker (turn_of u) (stands_in u.called client ≡ true) (stands_in (first_polled other c u).called client ≡ true) start ts (first_fewer client other c u) now.phase;
        open_turn = subst (λ (b : Bool). OpenFor b (first_polled other c u) ts) (sym (first_other_owes client other c u differs)) (open_like (stands_in u.polled client) u (first_polled other c u) ts refl refl now.open_turn);
      };
    }

-- a turn that is given again is the open one
pub told_again : (client : ℕ) (ts : List MemberTurn) (u : Underway) (t : MemberTurn) → OpenFor (stands_in u.polled client) u ts → has_polled u client ≡ true → turn_told ts t ≡ ts
told_again client ts u t open_turn polled =
    let still : OpenFor true u ts = subst (λ (b : Bool). OpenFor b u ts) polled open_turn in
    ap (λ (x : List MemberTurn). turn_told x t) still.2 ∙ sym still.2

gave_polled : (state : RunState) (start client other : ℕ) (ts : List MemberTurn) (u : Underway) (c : Registered) (dump : Option (List ℕ)) → GaveAt state start client ts (Some u) → IsGiven c u other dump
    → GaveAt state start client (if other == client then turn_told ts (record { transition = turn_of u; order = u.order; dump = dump; answer = None }) else ts) (Some (polled_by other c u))
gave_polled state start client other ts u c dump g given =
    let t : MemberTurn = record { transition = turn_of u; order = u.order; dump = dump; answer = None } in
    split (other == client) (λ b. (other == client) ≡ b → GaveAt state start client (if b then turn_told ts t else ts) (Some (polled_by other c u)))
    (λ h e.
    let same : other ≡ client = eqb-true other client e in
    given_case (λ v. GaveAt state start client (turn_told ts t) (Some v)) other c u dump given
    (λ again. subst (λ (x : List MemberTurn). GaveAt state start client x (Some u)) (sym (told_again client ts u t g.now.open_turn (subst (λ (n : ℕ). has_polled u n ≡ true) same again.polled))) g)
    (λ first. subst (λ (n : ℕ). GaveAt state start client (turn_told ts t) (Some (first_polled n c u))) (sym same)
    (polled_fresh state start client ts u c dump g (subst (λ (n : ℕ). GivesFirst c u n dump) same first))))
    (λ h e. given_case (λ v. GaveAt state start client ts (Some v)) other c u dump given (λ again. g) (λ first. polled_other state start client other ts u c g first.next e))
    refl

-- Answer.

-- what an answer leaves of the client's turns
pub record Leaves (start client other : ℕ) (u : Underway) (ts later : List MemberTurn) : Type 0 where
  pub low : HaveUpTo start later
  pub are : AreEngineTurns later
  pub open_turn : OpenFor (stands_in (without other u.polled) client) u later
  pub phase : (k : Transition) (called : List Called) → Phase k (stands_in called client ≡ true) start ts → Phase k (stands_in called client ≡ true) start later

answered_mine : (state : RunState) (start client : ℕ) (ts : List MemberTurn) (u : Underway) (answer : ClientAnswer) → GaveAt state start client ts (Some u) → has_polled u client ≡ true
    → Leaves start client client u ts (turn_answered ts answer)
answered_mine state start client ts u answer g polled =
    let now : RunsOn state start client ts u = g.now in
    let still : OpenFor true u ts = subst (λ (b : Bool). OpenFor b u ts) polled now.open_turn in
    let t : MemberTurn = record { transition = turn_of u; order = u.order; dump = still.0; answer = None } in
    let are : AreEngineTurns (t ∷ still.1) = subst AreEngineTurns still.2 g.are in
    subst (λ (x : List MemberTurn). Leaves start client client u x (turn_answered x answer)) (sym still.2) (record {
      low = up_to_answered start t still.1 answer (subst (HaveUpTo start) still.2 g.low);
      are = are;
      open_turn = subst (λ (b : Bool). OpenFor b u (with_answer t answer ∷ still.1)) (sym (stands_gone client u.polled)) tt;
      phase = λ k called phase. phase_answered k (stands_in called client ≡ true) start t still.1 answer phase;
    })

answered_other : (state : RunState) (start client other : ℕ) (ts : List MemberTurn) (u : Underway) → GaveAt state start client ts (Some u) → (other == client) ≡ false → Leaves start client other u ts ts
answered_other state start client other ts u g differs =
    let now : RunsOn state start client ts u = g.now in
    record {
      low = g.low;
      are = g.are;
      open_turn = subst (λ (b : Bool). OpenFor b u ts) (sym (stands_other client other u.polled differs)) now.open_turn;
      phase = λ k called phase. phase;
    }

leaves : (state : RunState) (start client other : ℕ) (ts : List MemberTurn) (u : Underway) (answer : ClientAnswer) → GaveAt state start client ts (Some u) → has_polled u other ≡ true
    → Leaves start client other u ts (if other == client then turn_answered ts answer else ts)
leaves state start client other ts u answer g polled =
    split (other == client) (λ b. (other == client) ≡ b → Leaves start client other u ts (if b then turn_answered ts answer else ts))
    (λ h e.
    let same : other ≡ client = eqb-true other client e in
    subst (λ (n : ℕ). Leaves start client n u ts (turn_answered ts answer)) (sym same) (answered_mine state start client ts u answer g (subst (λ (n : ℕ). has_polled u n ≡ true) same polled)))
    (λ h e. answered_other state start client other ts u g e)
    refl

told_fits : (t : Transition) (r : Option Refusal) (before after : List Called) (one : ℕ) (state : RunState) → stands_in before one ≡ true → StateFits t r before state → StateFits t r after (state_with state t r after)
told_fits t (Some refusal) before after one state some fits = fits
told_fits Start None [] after one state some fits = absurd (cc (some))
told_fits Start None (x ∷ xs) [] one state some fits = tt
told_fits Start None (x ∷ xs) (y ∷ ys) one state some fits = fits
told_fits Stop None before [] one state some fits = refl
told_fits Stop None before (y ∷ ys) one state some fits = tt
told_fits Pause None before after one state some fits = tt
told_fits Resume None before after one state some fits = tt
told_fits StartAbort None before after one state some fits = absurd fits

-- the engine with a transition in progress, of which this is kept
abbrev pub GaveWith : RunState → (start client : ℕ) → List MemberTurn → Underway → Type 0
GaveWith state start client ts v = GaveAt (state_with state v.transition v.refusal (open_of v)) start client ts (Some v)

gave_told : (state : RunState) (start client other : ℕ) (ts later : List MemberTurn) (u : Underway) (tally : Tally) → GaveAt state start client ts (Some u) → has_polled u other ≡ true → Leaves start client other u ts later
    → GaveWith state start client later (told other tally u)
gave_told state start client other ts later u tally g polled left =
    let now : RunsOn state start client ts u = g.now in
    record {
      low = left.low;
      are = left.are;
      now = record {
        number = now.number;
        kind = now.kind;
        fits = told_fits u.transition u.refusal (open_of u) (open_of (told other tally u)) other state (open_polled u other polled) now.fits;
        phase = left.phase (turn_of u) u.called now.phase;
        open_turn = open_like (stands_in (without other u.polled) client) u (told other tally u) later refl refl left.open_turn;
      };
    }

start_fits : (t : Transition) (r : Option Refusal) (called : List Called) (other : ℕ) (state : RunState) → t ≡ Start → stands_in called other ≡ true → StateFits t r called state → state ≡ Stopped
start_fits t (Some refusal) called other state starts some fits = fits
start_fits t None [] other state starts some fits = absurd (cc (some))
start_fits Start None (x ∷ xs) other state starts some fits = fits
start_fits Stop None (x ∷ xs) other state starts some fits = absurd (cc (starts))
start_fits Pause None (x ∷ xs) other state starts some fits = absurd (cc (starts))
start_fits Resume None (x ∷ xs) other state starts some fits = absurd (cc (starts))
start_fits StartAbort None (x ∷ xs) other state starts some fits = absurd (cc (starts))

gave_refused : (state : RunState) (start client other : ℕ) (ts later : List MemberTurn) (u : Underway) (why : Why) → GaveAt state start client ts (Some u) → is_start (turn_of u) ≡ true → has_polled u other ≡ true → Leaves start client other u ts later
    → GaveWith state start client later (refused_by other why u)
gave_refused state start client other ts later u why g starts polled left =
    let now : RunsOn state start client ts u = g.now in
    let kind : u.transition ≡ Start = start_kind u.transition u.is_off starts in
    record {
      low = left.low;
      are = left.are;
      now = record {
        number = now.number;
        kind = kind;
        fits = start_fits u.transition u.refusal (open_of u) other state kind (open_polled u other polled) now.fits;
        phase = left.phase (turn_of u) [] (phase_weaker (turn_of u) (stands_in u.called client ≡ true) (stands_in [] client ≡ true) start ts (λ (is : false ≡ true). absurd (cc (is))) now.phase);
        open_turn = open_like (stands_in (without other u.polled) client) u (refused_by other why u) later refl refl left.open_turn;
      };
    }

off_fits : (t : Transition) (r : Option Refusal) (refusal : Refusal) (before after : List Called) (state : RunState) → r ≡ Some refusal → StateFits t r before (state_with state t r before) → StateFits t r after (state_with state t r after)
off_fits t None refusal before after state refused fits = absurd (cc (refused))
off_fits t (Some r) refusal before after state refused fits = fits

start_phase : (k : Transition) (come : Type 0) (start : ℕ) (ts : List MemberTurn) → k ≡ Start → Phase k come start ts → IsOfRun start ts
start_phase k come start ts starts phase = (subst (λ (x : Transition). Phase x come start ts) starts phase).1

gave_off : (state : RunState) (start client : ℕ) (later : List MemberTurn) (clients : List Registered) (v : Underway) → is_due_off v.refusal v.polled v.is_off ≡ true → GaveWith state start client later v → GaveWith state start client later (called_off clients v)
gave_off state start client later clients v is g =
    let now : RunsOn (state_with state v.transition v.refusal (open_of v)) start client later v = g.now in
    let d = due v.refusal v.polled v.is_off is in
    let starts : turn_of v ≡ Start = ap (turn_kind v.transition) d.not_off ∙ due_kind v.transition v.refusal v.polled v.is_off is now.kind in
    let none : stands_in v.polled client ≡ false = none_open v.polled client d.nobody in
    record {
      low = g.low;
      are = g.are;
      now = record {
        number = now.number;
        kind = kind_off v.transition v.refusal v.polled v.is_off is now.kind;
        fits = off_fits v.transition v.refusal d.refusal (open_of v) (open_of (called_off clients v)) state d.refused now.fits;
        phase = λ come. start_phase (turn_of v) (stands_in v.called client ≡ true) start later starts now.phase;
        open_turn = subst (λ (b : Bool). OpenFor b (called_off clients v) later) (sym none) (subst (λ (b : Bool). OpenFor b v later) none now.open_turn);
      };
    }

gave_answered : (s : EngineState) (client other : ℕ) (ts : List MemberTurn) (u : Underway) (answer : ClientAnswer) → GaveAt s.state s.start client ts (Some u) → has_polled u other ≡ true
    → Gave (with_underway s (answered_by s.clients other answer u)) client (if other == client then turn_answered ts answer else ts)
gave_answered s client other ts u answer g polled =
    let later : List MemberTurn = if other == client then turn_answered ts answer else ts in
    let left : Leaves s.start client other u ts later = leaves s.state s.start client other ts u answer g polled in
    answered_case (GaveWith s.state s.start client later) s.clients other answer u
    (λ tally is. gave_told s.state s.start client other ts later u tally g polled left)
    (λ why is. gave_refused s.state s.start client other ts later u why g is.starts polled left)
    (λ v is kept. gave_off s.state s.start client later s.clients v is kept)

-- An answer that is not accepted.

owes_nothing : (state : RunState) (start client : ℕ) (ts : List MemberTurn) (o : Option Underway) → StandsAt state start client ts o → owes_answer o client ≡ false → NoneOpen ts
owes_nothing state start client ts None now none = now.none
owes_nothing state start client ts (Some u) now none = subst (λ (b : Bool). OpenFor b u ts) none now.open_turn

pub gave_unaccepted : (s : EngineState) (client other : ℕ) (ts : List MemberTurn) (answer : ClientAnswer) → Gave s client ts → owes_answer s.underway other ≡ false → (if other == client then turn_answered ts answer else ts) ≡ ts
gave_unaccepted s client other ts answer g none =
    split (other == client) (λ b. (other == client) ≡ b → (if b then turn_answered ts answer else ts) ≡ ts)
    (λ h e. answered_none ts answer (owes_nothing s.state s.start client ts s.underway g.now (subst (λ (n : ℕ). owes_answer s.underway n ≡ false) (eqb-true other client e) none)))
    (λ h e. refl)
    refl

-- Check.

done_of_run : (t : Transition) (r : Option Refusal) (is_off : Bool) (come : Type 0) (state : RunState) (start : ℕ) (ts : List MemberTurn) → KindFits t r is_off → StateFits t r [] state → Phase (turn_kind t is_off) come start ts → state ≢ Stopped → IsOfRun start ts
done_of_run t (Some refusal) is_off come state start ts kind fits phase on = absurd (on fits)
done_of_run Start None is_off come state start ts kind fits phase on = (subst (λ (b : Bool). Phase (turn_kind Start b) come start ts) kind phase).1
done_of_run Stop None is_off come state start ts kind fits phase on = absurd (on fits)
done_of_run Pause None is_off come state start ts kind fits phase on = subst (λ (b : Bool). Phase (turn_kind Pause b) come start ts) kind phase
done_of_run Resume None is_off come state start ts kind fits phase on = subst (λ (b : Bool). Phase (turn_kind Resume b) come start ts) kind phase
done_of_run StartAbort None is_off come state start ts kind fits phase on = absurd fits

gave_done : (state : RunState) (start client : ℕ) (ts : List MemberTurn) (u : Underway) → GaveAt state start client ts (Some u) → open_of u ≡ [] → GaveAt state start client ts None
gave_done state start client ts u g done =
    let now : RunsOn state start client ts u = g.now in
    let none : stands_in u.polled client ≡ false = none_open u.polled client (none_polled u.polled u.called done) in
    record {
      low = g.low;
      are = g.are;
      now = record {
        of_run = done_of_run u.transition u.refusal u.is_off (stands_in u.called client ≡ true) state start ts now.kind (subst (λ (cs : List Called). StateFits u.transition u.refusal cs state) done now.fits) now.phase;
        none = subst (λ (b : Bool). OpenFor b u ts) none now.open_turn;
      };
    }

-- One call.

pub gave_step : (s : EngineState) (client : ℕ) (ts : List MemberTurn) (e : EngineEntry) → Gave s client ts → IsEngineReply s e → Gave (engine_after s e) client (turns_with client ts e)
gave_step s client ts (Register name sequences dump report (Ok n)) g reply = record { low = g.low; are = g.are; now = g.now }
gave_step s client ts (Register name sequences dump report (Err r)) g reply = g
gave_step s client ts (Begin t sheet (Ok n)) g reply = gave_begun s client ts t sheet n (begins s t n reply) g
gave_step s client ts (Begin t sheet (Err r)) g reply = g
gave_step s client ts (Poll other (Turn turn order dump blank)) g reply =
    let p : GivesTurn s other turn order dump = gives_turn s other turn order dump blank reply in
    let told_so : MemberTurn = record { transition = turn; order = order; dump = dump; answer = None } in
    let given : MemberTurn = record { transition = turn_of p.u; order = p.u.order; dump = dump; answer = None } in
    let same : given ≡ told_so = ap (λ (k : Transition). record { transition = k; order = p.u.order; dump = dump; answer = None }) (sym p.turn_is) ∙ ap (λ (o : Order). record { transition = turn; order = o; dump = dump; answer = None }) (sym p.order_is) in
    let at : GaveAt s.state s.start client ts (Some p.u) = subst (GaveAt s.state s.start client ts) p.underway_is g in
    let after : GaveAt s.state s.start client (if other == client then turn_told ts given else ts) (Some (polled_by other p.c p.u)) = gave_polled s.state s.start client other ts p.u p.c dump at p.given in
    subst (λ (x : Option Registered). Gave (after_poll_by s other x) client (if other == client then turn_told ts told_so else ts)) (sym p.client_is)
    (subst (λ (o : Option Underway). GaveAt s.state s.start client (if other == client then turn_told ts told_so else ts) (option_map (polled_by other p.c) o)) (sym p.underway_is)
    (subst (λ (x : MemberTurn). GaveAt s.state s.start client (if other == client then turn_told ts x else ts) (Some (polled_by other p.c p.u))) same after))
gave_step s client ts (Poll other (Idle state)) g reply = g
gave_step s client ts (Poll other PollClosed) g reply = g
gave_step s client ts (Poll other NoClient) g reply = g
gave_step s client ts (Answer other answer (Ok done)) g reply =
    let o : Owes s other = owes s other done reply in
    let at : GaveAt s.state s.start client ts (Some o.u) = subst (GaveAt s.state s.start client ts) o.underway_is g in
    subst (λ (x : Option Underway). Gave (after_answer_in s other answer x) client (if other == client then turn_answered ts answer else ts)) (sym o.underway_is)
    (gave_answered s client other ts o.u answer at o.polled)
gave_step s client ts (Answer other answer (Err r)) g reply =
    subst (Gave s client) (sym (gave_unaccepted s client other ts answer g (owes_none s other r reply))) g
gave_step s client ts (Check (Done outcome) tallies) g reply =
    let f : Finishes s outcome = finishes s outcome reply.0 in
    gave_done s.state s.start client ts f.u (subst (GaveAt s.state s.start client ts) f.underway_is g) f.done
gave_step s client ts (Check Going tallies) g reply = g
gave_step s client ts (Check NoneGoing tallies) g reply = g
gave_step s client ts (Close (Ok done)) g reply = record { low = g.low; are = g.are; now = g.now }
gave_step s client ts (Close (Err r)) g reply = g

-- A call by another caller leaves the turns.

pub other_step : (s : EngineState) (client : ℕ) (ts : List MemberTurn) (e : EngineEntry) → Gave s client ts → IsEngineReply s e → is_of_client client e ≡ false → turns_with client ts e ≡ ts
other_step s client ts (Register name sequences dump report reply) g legal not = refl
other_step s client ts (Begin t sheet reply) g legal not = refl
other_step s client ts (Poll other (Turn turn order dump blank)) g legal not = ap (λ (b : Bool). if b then turn_told ts (record { transition = turn; order = order; dump = dump; answer = None }) else ts) not
other_step s client ts (Poll other (Idle state)) g legal not = refl
other_step s client ts (Poll other PollClosed) g legal not = refl
other_step s client ts (Poll other NoClient) g legal not = refl
other_step s client ts (Answer other answer (Ok done)) g legal not = ap (λ (b : Bool). if b then turn_answered ts answer else ts) not
other_step s client ts (Answer other answer (Err r)) g legal not = gave_unaccepted s client other ts answer g (owes_none s other r legal)
other_step s client ts (Check reply tallies) g legal not = refl
other_step s client ts (Close reply) g legal not = refl

-- A whole history.

not_own : (b : Bool) → (b ≡ true → ⊥) → b ≡ false
not_own false never = refl
not_own true never = absurd (never refl)

pub own_or_other : (by client : ℕ) (x : ℕ × EngineEntry) (rest : List (ℕ × EngineEntry)) (P : List EngineEntry → Type 0) → (is_of_client client x.1 ≡ true → x.0 ≡ by)
    → P (x.1 ∷ entries_by by rest) → (is_of_client client x.1 ≡ false → P (entries_by by rest)) → P (entries_by by (x ∷ rest))
own_or_other by client x rest P alone own other =
    split (x.0 == by) (λ b. (x.0 == by) ≡ b → P (map (λ (e : ℕ × EngineEntry). e.1) (if b then x ∷ filter (λ (e : ℕ × EngineEntry). e.0 == by) rest else filter (λ (e : ℕ × EngineEntry). e.0 == by) rest)))
    (λ h e. own)
    (λ h e. other (not_own (is_of_client client x.1) (λ is. eqb-false x.0 by e (alone is))))
    refl

pub gave_all : (s : EngineState) (by client : ℕ) (h : EngineHistory) (ts : List MemberTurn) → IsLegalEngine s h → SpeaksFor by client h → Gave s client ts
    → Gave (engine_replay s h) client (fold (turns_with client) ts (entries_by by h))
gave_all s by client [] ts legal alone g = g
gave_all s by client (x ∷ h) ts legal alone g =
    let next : Gave (engine_after s x.1) client (turns_with client ts x.1) = gave_step s client ts x.1 g legal.1 in
    own_or_other by client x h (λ es. Gave (engine_replay (engine_after s x.1) h) client (fold (turns_with client) ts es)) alone.0
    (gave_all (engine_after s x.1) by client h (turns_with client ts x.1) legal.2 alone.1 next)
    (λ not. gave_all (engine_after s x.1) by client h ts legal.2 alone.1 (subst (Gave (engine_after s x.1) client) (other_step s client ts x.1 g legal.1 not) next))

-- what each call keeps that is no begin and no Done, all of them keep
pub kept_all : (by client : ℕ) (K : List MemberTurn → EngineState → Type 0)
    → ((ts : List MemberTurn) (s : EngineState) (e : EngineEntry) → Gave s client ts → is_mark e ≡ false → IsEngineReply s e → K ts s → K (turns_with client ts e) (engine_after s e))
    → (ts : List MemberTurn) (s : EngineState) (h : EngineHistory) → IsLegalEngine s h → SpeaksFor by client h → HasNoMark h → Gave s client ts → K ts s → K (fold (turns_with client) ts (entries_by by h)) (engine_replay s h)
kept_all by client K step ts s [] legal alone marks g kept = kept
kept_all by client K step ts s (x ∷ h) legal alone marks g kept =
    let next : Gave (engine_after s x.1) client (turns_with client ts x.1) = gave_step s client ts x.1 g legal.1 in
    let kept_next : K (turns_with client ts x.1) (engine_after s x.1) = step ts s x.1 g marks.0 legal.1 kept in
    own_or_other by client x h (λ es. K (fold (turns_with client) ts es) (engine_replay (engine_after s x.1) h)) alone.0
    (kept_all by client K step (turns_with client ts x.1) (engine_after s x.1) h legal.2 alone.1 marks.1 next kept_next)
    (λ not. let same : turns_with client ts x.1 ≡ ts = other_step s client ts x.1 g legal.1 not in
    kept_all by client K step ts (engine_after s x.1) h legal.2 alone.1 marks.1 (subst (Gave (engine_after s x.1) client) same next)
    (subst (λ (y : List MemberTurn). K y (engine_after s x.1)) same kept_next))

pub opening_gave : (client : ℕ) → Gave engine_opening client []
opening_gave client = record {
  low = λ t has. absurd has;
  are = tt;
  now = record { of_run = λ on. absurd (on refl); none = tt };
}

pub gives_engine_turns : GivesEngineTurns
gives_engine_turns by client h legal alone = (gave_all engine_opening by client h [] legal alone (opening_gave client)).are
