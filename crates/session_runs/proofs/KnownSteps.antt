-- What the main thread knows is what the engine holds, behind each call of a legal history.
use Rattle.std.specs.Prelude.{◌≡◌, ℕ, suc, ◌+◌, Bool, true, false, nat_lt, if◌then◌else◌, List, [], ◌∷◌, ◌++◌, Option, Some, None, Result, Ok, Err, refl, ⊤}
use Rattle.std.specs.Option.{option_map}
use Rattle.std.proofs.Common.{ap, sym, subst, ◌∙◌, arith}
use Rattle.daq_types.specs.declared.runs.RunState.{RunState}
use Rattle.daq_types.specs.declared.runs.Transition.{Transition}
use Rattle.daq_types.specs.declared.runs.Transition.TheVariants.{Start, Stop, Pause, Resume, StartAbort}
use Rattle.daq_types.specs.declared.runs.StartOutcome.{StartOutcome}
use Rattle.daq_types.specs.declared.runs.StartOutcome.TheVariants.{Completed}
use Rattle.transitions.specs.States.{is_allowed}
use Rattle.transitions.specs.declared.client.Registered.{Registered}
use Rattle.transitions.specs.declared.called.Called.{Called}
use Rattle.transitions.specs.declared.engine.Refusal.{Refusal}
use Rattle.transitions.specs.declared.replies.BeginRefusal.{BeginRefusal}
use Rattle.transitions.specs.declared.replies.BeginRefusal.TheVariants.{Closed as BeginClosed, WrongState, LastStart}
use Rattle.transitions.specs.declared.replies.Polled.TheVariants.{Turn, Idle, Closed as PollClosed, NoClient}
use Rattle.transitions.specs.declared.replies.NotYourTurn.{NotYourTurn}
use Rattle.transitions.specs.declared.replies.Progress.TheVariants.{Going, Done, None as NoneGoing}
use Rattle.transitions.specs.declared.entry.EngineEntry.TheVariants.{Register, Begin, Poll, Answer, Check, Close}
use Rattle.transitions.specs.Limits.{last_start_number}
use Rattle.transitions.specs.Called.{called_list}
use Rattle.transitions.specs.EngineCalls.{state_with, stands_in, has_polled, is_next, open_of, owes_answer, not_your_turn, start_reply, begin_reply, begin_reply_in, first_polled, polled_by, after_poll_by, answered_by, after_answer_in, check_reply_in, progress_of, outcome_of, IsEngineReply, engine_after}
use Rattle.transitions.specs.EnginePoints.{transition_at}
use Rattle.transitions.specs.TurnOrder.{number_with}
use Rattle.member_model.specs.RunEngines.{Answer as ClientAnswer, EngineEntry, Underway, EngineState}
use Rattle.daq_types.specs.Callers.{main_caller}
use Rattle.daq_types.specs.declared.runs.Order.{Order}
use Rattle.history_laws.proofs.Standing.{next_called, open_polled, open_called, first_open}
use Rattle.history_laws.proofs.Replies.{given_case, GivesTurn, gives_turn, answered_case}
use Rattle.session_runs.specs.MainKnowledge.{MainKnows, state_behind, state_told_at, known_at, begin_known, begin_known_in}

-- the transition in progress, and the state: while all have not answered it is that before
abbrev pub KnowsTransition : (going : Option Transition) → (before : RunState) → (state : RunState) → Option Underway → Type 0
KnowsTransition going before state None = (going ≡ None) × (state ≡ before)
KnowsTransition going before state (Some u) = (going ≡ Some u.transition) × (state ≡ state_with before u.transition u.refusal (open_of u))

-- the engine holds what is known
pub record Knows (k : MainKnows) (s : EngineState) : Type 0 where
  pub closed : s.closed ≡ k.closed
  pub clients : s.clients ≡ k.clients
  pub starts : s.start ≡ k.starts
  pub transition : KnowsTransition k.going k.state s.state s.underway

-- Polls.

-- while somebody has yet to answer, the state is that before the transition
still_before : (before : RunState) (t : Transition) (refusal : Option Refusal) (left : List Called) (client : ℕ) → stands_in left client ≡ true → state_with before t refusal left ≡ before
still_before before t (Some r) left client some = refl
still_before before t None [] client some = absurd (cc (some))
still_before before t None (c ∷ cs) client some = refl

-- a first reply leaves somebody who has yet to answer
first_keeps : (going : Option Transition) (before state : RunState) (client : ℕ) (c : Registered) (u : Underway) → is_next u.polled u.called client ≡ true → KnowsTransition going before state (Some u) → KnowsTransition going before state (Some (first_polled client c u))
first_keeps going before state client c u next knows =
    let here : stands_in (open_of u) client ≡ true = open_called u client (next_called u client next) in (
      knows.0,
      knows.1
          ∙ (still_before before u.transition u.refusal (open_of u) client here
          ∙ sym (still_before before u.transition u.refusal (open_of (first_polled client c u)) client (first_open client client c u here))),
    )

pub polled : (k : MainKnows) (s : EngineState) (client : ℕ) (turn : Transition) (order : Order) (dump : Option (List ℕ)) (blank : _) → IsEngineReply s (Poll client (Turn turn order dump blank)) → Knows k s
    → Knows k (engine_after s (Poll client (Turn turn order dump blank)))
polled k s client turn order dump blank reply knows =
    let p : GivesTurn s client turn order dump = gives_turn s client turn order dump blank reply in
    let now : KnowsTransition k.going k.state s.state (Some p.u) = subst (KnowsTransition k.going k.state s.state) p.underway_is knows.transition in
    let later : KnowsTransition k.going k.state s.state (Some (polled_by client p.c p.u)) =
    given_case (λ v. KnowsTransition k.going k.state s.state (Some v)) client p.c p.u dump p.given (λ again. now) (λ first. first_keeps k.going k.state s.state client p.c p.u first.next now) in
    subst (λ (o : Option Registered). Knows k (after_poll_by s client o)) (sym p.client_is) (record {
      closed = knows.closed;
      clients = knows.clients;
      starts = knows.starts;
      transition = subst (λ (o : Option Underway). KnowsTransition k.going k.state s.state (option_map (polled_by client p.c) o)) (sym p.underway_is) later;
    })

-- Answers.

same_transition : (clients : List Registered) (client : ℕ) (answer : ClientAnswer) (u : Underway) → (answered_by clients client answer u).transition ≡ u.transition
same_transition clients client answer u = answered_case (λ v. v.transition ≡ u.transition) clients client answer u (λ tally is. refl) (λ why is. refl) (λ v is kept. kept)

abbrev may_answer : Bool → Result ⊤ NotYourTurn
may_answer owes = if owes then Ok tt else Err not_your_turn

owed : (owes : Bool) (done : ⊤) → Ok done ≡ may_answer owes → owes ≡ true
owed true done is = refl
owed false done is = absurd (cc (is))

pub answered : (k : MainKnows) (s : EngineState) (client : ℕ) (answer : ClientAnswer) (u : Option Underway) (done : ⊤) → s.underway ≡ u → Ok done ≡ may_answer (owes_answer u client)
    → Knows k s → Knows k (after_answer_in s client answer u)
answered k s client answer None done is reply knows = absurd (cc (reply))
answered k s client answer (Some u) done is reply knows =
    let now : KnowsTransition k.going k.state s.state (Some u) = subst (KnowsTransition k.going k.state s.state) is knows.transition in
    let later : Underway = answered_by s.clients client answer u in
    let some : stands_in (open_of u) client ≡ true = open_polled u client (owed (has_polled u client) done reply) in
    let state : s.state ≡ k.state = now.1 ∙ still_before k.state u.transition u.refusal (open_of u) client some in
    record {
      closed = knows.closed;
      clients = knows.clients;
      starts = knows.starts;
      transition = (now.0 ∙ ap Some (sym (same_transition s.clients client answer u)), ap (λ (r : RunState). state_with r later.transition later.refusal (open_of later)) state);
    }

-- Begins.

limited : (b : Bool) (start n : ℕ) → Ok n ≡ (if b then Ok (start + 1) else Err LastStart) → n ≡ suc start
limited true start n is = let same : n ≡ start + 1 = cc (is) in omega (arith, same)
limited false start n is = absurd (cc (is))

start_number : (t : Transition) (start n : ℕ) → Ok n ≡ start_reply t start → n ≡ number_with t start
start_number Start start n is = limited (nat_lt start last_start_number) start n is
start_number Stop start n is = cc (is)
start_number Pause start n is = cc (is)
start_number Resume start n is = cc (is)
start_number StartAbort start n is = cc (is)

allowed_number : (b : Bool) (state : RunState) (t : Transition) (start n : ℕ) → Ok n ≡ (if b then start_reply t start else Err (WrongState state)) → n ≡ number_with t start
allowed_number true state t start n is = start_number t start n is
allowed_number false state t start n is = absurd (cc (is))

pub begin_parts : (closed : Bool) (u : Option Underway) (state : RunState) (t : Transition) (start n : ℕ) → Ok n ≡ (if closed then Err BeginClosed else begin_reply_in u state t start)
    → (u ≡ None) × (n ≡ number_with t start)
begin_parts true u state t start n is = absurd (cc (is))
begin_parts false (Some u) state t start n is = absurd (cc (is))
begin_parts false None state t start n is = (refl, allowed_number (is_allowed state t) state t start n is)

-- Ends.

ended_state : (before : RunState) (going : Option Transition) (state : RunState) (t : Transition) (refusal : Option Refusal) → going ≡ Some t → state ≡ state_with before t refusal []
    → state ≡ state_behind (outcome_of refusal) going before
ended_state before going state t None going_is state_is = state_is ∙ ap (λ (g : Option Transition). state_behind Completed g before) (sym going_is)
ended_state before going state t (Some r) going_is state_is = state_is

done_outcome : (outcome : StartOutcome) (called : List Called) (refusal : Option Refusal) → Done outcome ≡ progress_of called refusal → (called ≡ []) × (outcome ≡ outcome_of refusal)
done_outcome outcome [] refusal is = (refl, cc (is))
done_outcome outcome (c ∷ cs) refusal is = absurd (cc (is))

pub ended : (before : RunState) (going : Option Transition) (state : RunState) (u : Option Underway) (outcome : StartOutcome) → Done outcome ≡ check_reply_in u
    → KnowsTransition going before state u → state ≡ state_behind outcome going before
ended before going state None outcome is knows = absurd (cc (is))
ended before going state (Some u) outcome is knows =
    let done : (open_of u ≡ []) × (outcome ≡ outcome_of u.refusal) = done_outcome outcome (open_of u) u.refusal is in
    let at_end : state ≡ state_with before u.transition u.refusal [] = knows.1 ∙ ap (state_with before u.transition u.refusal) done.0 in
    ended_state before going state u.transition u.refusal knows.0 at_end ∙ ap (λ (o : StartOutcome). state_behind o going before) (sym done.1)

-- One call of the main thread.

begun_from : (k : MainKnows) (s : EngineState) → Knows k s → s.underway ≡ None → s.state ≡ k.state
begun_from k s knows free = (subst (KnowsTransition k.going k.state s.state) free knows.transition).1

pub main_step : (past : List (ℕ × EngineEntry)) (s : EngineState) (e : EngineEntry) → IsEngineReply s e → Knows (known_at past) s → Knows (known_at ((main_caller, e) ∷ past)) (engine_after s e)
main_step past s (Register name sequences dump report (Ok n)) reply knows = record {
  closed = knows.closed;
  clients = ap (λ (cs : List Registered). cs ++ record { name = name; sequences = sequences; wants_dump = dump; wants_report = report } ∷ []) knows.clients;
  starts = knows.starts;
  transition = knows.transition;
}
main_step past s (Register name sequences dump report (Err refusal)) reply knows = knows
main_step past s (Begin t sheet (Ok n)) reply knows =
    let parts : (s.underway ≡ None) × (n ≡ number_with t s.start) = begin_parts s.closed s.underway s.state t s.start n reply in
    record {
      closed = knows.closed;
      clients = knows.clients;
      starts = parts.1 ∙ ap (number_with t) knows.starts;
      transition = (refl, ap (λ (r : RunState). state_with r t None (called_list t s.clients)) (begun_from (known_at past) s knows parts.0));
    }
main_step past s (Begin t sheet (Err refusal)) reply knows = knows
main_step past s (Poll client (Turn t order dump blank)) reply knows = polled (known_at past) s client t order dump blank reply knows
main_step past s (Poll client (Idle state)) reply knows = knows
main_step past s (Poll client PollClosed) reply knows = knows
main_step past s (Poll client NoClient) reply knows = knows
main_step past s (Answer client answer (Ok done)) reply knows = answered (known_at past) s client answer s.underway done refl reply knows
main_step past s (Answer client answer (Err refusal)) reply knows = knows
main_step past s (Check (Done outcome) tallies) reply knows = record {
  closed = knows.closed;
  clients = knows.clients;
  starts = knows.starts;
  transition = (refl, ended (state_told_at past) (transition_at past) s.state s.underway outcome reply.0 knows.transition);
}
main_step past s (Check Going tallies) reply knows = knows
main_step past s (Check NoneGoing tallies) reply knows = knows
main_step past s (Close (Ok done)) reply knows = record { closed = refl; clients = knows.clients; starts = knows.starts; transition = knows.transition }
main_step past s (Close (Err refusal)) reply knows = knows

-- The reply of a begin.

begin_same_in : (k : MainKnows) (u : Option Underway) (state : RunState) (t : Transition) (start : ℕ) → KnowsTransition k.going k.state state u → start ≡ k.starts
    → begin_reply_in u state t start ≡ begin_known_in k.going k.state k.starts t
begin_same_in k (Some u) state t start knows starts = sym (ap (λ (g : Option Transition). begin_known_in g k.state k.starts t) knows.0)
begin_same_in k None state t start knows starts =
    ap (λ (r : RunState). if is_allowed r t then start_reply t start else Err (WrongState r)) knows.1
    ∙ (ap (λ (n : ℕ). if is_allowed k.state t then start_reply t n else Err (WrongState k.state)) starts
    ∙ sym (ap (λ (g : Option Transition). begin_known_in g k.state k.starts t) knows.0))

pub begin_same : (k : MainKnows) (s : EngineState) (t : Transition) → Knows k s → begin_reply s t ≡ begin_known k t
begin_same k s t knows =
    ap (λ (b : Bool). if b then Err BeginClosed else begin_reply_in s.underway s.state t s.start) knows.closed
    ∙ ap (λ (r : Result ℕ BeginRefusal). if k.closed then Err BeginClosed else r) (begin_same_in k s.underway s.state t s.start knows.transition knows.starts)
