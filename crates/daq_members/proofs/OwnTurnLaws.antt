-- How the turns that a client's own calls tell go on with one call more.
use Rattle.std.specs.Prelude.{◌≡◌, ℕ, true, is_some, if◌then◌else◌, List, [], ◌∷◌, ◌++◌, Option, Some, None, Result, ⊤, refl}
use Rattle.std.proofs.Common.{ap, sym, ◌∙◌, eq-eqb}
use Rattle.std.proofs.lemmas.List.Sums.{fold-append}
use Rattle.std.proofs.lemmas.List.Folds.{list_all-append}
use Rattle.daq_types.specs.declared.runs.Order.{Order}
use Rattle.daq_types.specs.declared.runs.RunState.{RunState}
use Rattle.daq_types.specs.declared.runs.Transition.{Transition}
use Rattle.event_report.specs.Reports.{Totals}
use Rattle.transitions.specs.declared.replies.NotYourTurn.{NotYourTurn}
use Rattle.transitions.specs.declared.replies.Polled.TheVariants.{Turn, Idle, Closed, NoClient}
use Rattle.member_model.specs.RunEngines.{Answer, Polled, EngineEntry}
use Rattle.transitions.specs.declared.entry.EngineEntry.TheVariants.{Poll, Answer as Answers}
use Rattle.member_model.specs.Turns.{MemberTurn, HasAnswer, NoneOpen, latest_answered}
use Rattle.member_model.specs.TurnCalls.{turn_told, turn_answered, turns_with, member_turns}
use Rattle.daq_members.specs.OwnTurns.{start_unanswered, open_start, start_owed, owed_by, is_call_for, are_calls_for, GivesAnswer, AnswersLast}

-- One call more.

pub member_turns-push : (client : ℕ) (calls : List EngineEntry) (e : EngineEntry) → member_turns client (calls ++ e ∷ []) ≡ turns_with client (member_turns client calls) e
member_turns-push client calls e = fold-append (turns_with client) [] calls (e ∷ [])

-- a turn without an answer, as it is told
abbrev pub told_turn : Transition → Order → (dump : Option (List ℕ)) → MemberTurn
told_turn transition order dump = record { transition = transition; order = order; dump = dump; answer = None }

-- the same turn, with this answer, if it is one
abbrev pub taken_turn : Transition → Order → (dump : Option (List ℕ)) → Option Answer → MemberTurn
taken_turn transition order dump answer = record { transition = transition; order = order; dump = dump; answer = answer }

-- the client's own poll that was replied a turn tells it
pub polled_turn : (client : ℕ) (ts : List MemberTurn) (transition : Transition) (order : Order) (dump : Option (List ℕ)) (blank : Option Totals)
    → turns_with client ts (Poll client (Turn transition order dump blank)) ≡ turn_told ts (told_turn transition order dump)
polled_turn client ts transition order dump blank = rw (eq-eqb client client refl) refl

pub answered_turn : (client : ℕ) (ts : List MemberTurn) (answer : Answer) (reply : Result ⊤ NotYourTurn) → turns_with client ts (Answers client answer reply) ≡ turn_answered ts answer
answered_turn client ts answer reply = rw (eq-eqb client client refl) refl

-- Where no turn is owed, the latest turn, if there is one, was answered; and a turn that is told is a new one.

none_open_by : (a : Option Answer) (start : ℕ) → start_unanswered a start ≡ None → HasAnswer a
none_open_by None start e = absurd (cc (e))
none_open_by (Some answer) start e = tt

pub none_open : (ts : List MemberTurn) → open_start ts ≡ None → NoneOpen ts
none_open [] e = tt
none_open (t ∷ ts) e = none_open_by t.answer t.order.start e

told_new_by : (a : Option Answer) (start : ℕ) (t u : MemberTurn) (us : List MemberTurn) → start_unanswered a start ≡ None → (if is_some a then t ∷ (u ∷ us) else u ∷ us) ≡ t ∷ (u ∷ us)
told_new_by None start t u us e = absurd (cc (e))
told_new_by (Some answer) start t u us e = refl

pub told_new : (ts : List MemberTurn) (t : MemberTurn) → open_start ts ≡ None → turn_told ts t ≡ t ∷ ts
told_new [] t e = refl
told_new (u ∷ us) t e = told_new_by u.answer u.order.start t u us e

-- Where a turn is owed, it is told again.

told_again_by : (a : Option Answer) (start owed : ℕ) (t u : MemberTurn) (us : List MemberTurn) → start_unanswered a start ≡ Some owed → (if is_some a then t ∷ (u ∷ us) else u ∷ us) ≡ u ∷ us
told_again_by None start owed t u us e = refl
told_again_by (Some answer) start owed t u us e = absurd (cc (e))

pub told_again : (ts : List MemberTurn) (t : MemberTurn) (owed : ℕ) → open_start ts ≡ Some owed → turn_told ts t ≡ ts
told_again [] t owed e = absurd (cc (e))
told_again (u ∷ us) t owed e = told_again_by u.answer u.order.start owed t u us e

-- and an answer is that to it
answered_latest_by : (a : Option Answer) (start owed : ℕ) (answer : Answer) (u : MemberTurn) (us : List MemberTurn) → start_unanswered a start ≡ Some owed
    → (if is_some a then u ∷ us else record u { answer = Some answer } ∷ us) ≡ record u { answer = Some answer } ∷ us
answered_latest_by None start owed answer u us e = refl
answered_latest_by (Some before) start owed answer u us e = absurd (cc (e))

pub answered_latest : (ts : List MemberTurn) (answer : Answer) (owed : ℕ) → open_start ts ≡ Some owed → turn_answered ts answer ≡ latest_answered ts (Some answer)
answered_latest [] answer owed e = absurd (cc (e))
answered_latest (u ∷ us) answer owed e = answered_latest_by u.answer u.order.start owed answer u us e

-- What is owed behind a call.

owed_still : (owed : Option ℕ) (state : RunState) → owed ≡ owed_by owed (Idle state)
owed_still None state = refl
owed_still (Some start) state = refl

owed_closed : (owed : Option ℕ) → owed ≡ owed_by owed Closed
owed_closed None = refl
owed_closed (Some start) = refl

owed_unknown : (owed : Option ℕ) → owed ≡ owed_by owed NoClient
owed_unknown None = refl
owed_unknown (Some start) = refl

-- a poll
pub owed_polled : (client : ℕ) (calls : List EngineEntry) (reply : Polled) → start_owed client (calls ++ Poll client reply ∷ []) ≡ owed_by (start_owed client calls) reply
owed_polled client calls (Turn transition order dump blank) =
    ap open_start (member_turns-push client calls (Poll client (Turn transition order dump blank)) ∙ polled_turn client (member_turns client calls) transition order dump blank)
    ∙ told (open_start (member_turns client calls)) refl
  where
    told : (owed : Option ℕ) → open_start (member_turns client calls) ≡ owed
        → open_start (turn_told (member_turns client calls) (told_turn transition order dump)) ≡ owed_by (open_start (member_turns client calls)) (Turn transition order dump blank)
    told None is = ap open_start (told_new (member_turns client calls) (told_turn transition order dump) is)
        ∙ ap (λ (o : Option ℕ). owed_by o (Turn transition order dump blank)) (sym is)
    told (Some start) is = ap open_start (told_again (member_turns client calls) (told_turn transition order dump) start is)
        ∙ (is ∙ ap (λ (o : Option ℕ). owed_by o (Turn transition order dump blank)) (sym is))
owed_polled client calls (Idle state) = ap open_start (member_turns-push client calls (Poll client (Idle state))) ∙ owed_still (open_start (member_turns client calls)) state
owed_polled client calls Closed = ap open_start (member_turns-push client calls (Poll client Closed)) ∙ owed_closed (open_start (member_turns client calls))
owed_polled client calls NoClient = ap open_start (member_turns-push client calls (Poll client NoClient)) ∙ owed_unknown (open_start (member_turns client calls))

-- an answer: nothing is owed
answered_by : (ts : List MemberTurn) (answer : Answer) → open_start (turn_answered ts answer) ≡ None
answered_by [] answer = refl
answered_by (u ∷ us) answer = by_answer u.answer refl
  where
    by_answer : (a : Option Answer) → u.answer ≡ a → open_start (turn_answered (u ∷ us) answer) ≡ None
    by_answer None is = rw is refl
    by_answer (Some before) is = rw is refl

pub owed_given : (client : ℕ) (calls : List EngineEntry) (answer : Answer) (reply : Result ⊤ NotYourTurn) → start_owed client (calls ++ Answers client answer reply ∷ []) ≡ None
owed_given client calls answer reply =
    ap open_start (member_turns-push client calls (Answers client answer reply) ∙ answered_turn client (member_turns client calls) answer reply)
    ∙ answered_by (member_turns client calls) answer

-- Each of the calls is for the client.

pub calls_for-push : (client : ℕ) (calls : List EngineEntry) (e : EngineEntry) → are_calls_for client calls ≡ true → is_call_for client e ≡ true → are_calls_for client (calls ++ e ∷ []) ≡ true
calls_for-push client calls e all here = list_all-append (is_call_for client) calls (e ∷ []) ∙ rw (all, here) refl

-- The turns behind a turn that was taken.

given_new : (client : ℕ) (calls later : List EngineEntry) (ts : List MemberTurn) (transition : Transition) (order : Order) (dump : Option (List ℕ)) (answer : Option Answer)
    → member_turns client calls ≡ told_turn transition order dump ∷ ts → GivesAnswer client answer calls later → member_turns client later ≡ taken_turn transition order dump answer ∷ ts
given_new client calls later ts transition order dump None turns gives = ap (member_turns client) gives ∙ turns
given_new client calls later ts transition order dump (Some answer) turns gives =
    ap (member_turns client) gives.1
    ∙ (member_turns-push client calls (Answers client answer gives.0)
    ∙ (answered_turn client (member_turns client calls) answer gives.0
    ∙ ap (λ (l : List MemberTurn). turn_answered l answer) turns))

-- a new turn, and its answer, if there is one
pub taken_turns : (client : ℕ) (calls polled later : List EngineEntry) (transition : Transition) (order : Order) (dump : Option (List ℕ)) (blank : Option Totals) (answer : Option Answer)
    → start_owed client calls ≡ None → polled ≡ calls ++ Poll client (Turn transition order dump blank) ∷ [] → GivesAnswer client answer polled later
    → member_turns client later ≡ taken_turn transition order dump answer ∷ member_turns client calls
taken_turns client calls polled later transition order dump blank answer owed asks gives =
    given_new client polled later (member_turns client calls) transition order dump answer
    (ap (member_turns client) asks
    ∙ (member_turns-push client calls (Poll client (Turn transition order dump blank))
    ∙ (polled_turn client (member_turns client calls) transition order dump blank
    ∙ told_new (member_turns client calls) (told_turn transition order dump) owed)))
    gives

given_owed : (client : ℕ) (calls later : List EngineEntry) (ts : List MemberTurn) (start : ℕ) (answer : Option Answer) → member_turns client calls ≡ ts → open_start ts ≡ Some start
    → GivesAnswer client answer calls later → member_turns client later ≡ latest_answered ts answer
given_owed client calls later ts start None turns owed gives = ap (member_turns client) gives ∙ turns
given_owed client calls later ts start (Some answer) turns owed gives =
    ap (member_turns client) gives.1
    ∙ (member_turns-push client calls (Answers client answer gives.0)
    ∙ (answered_turn client (member_turns client calls) answer gives.0
    ∙ (ap (λ (l : List MemberTurn). turn_answered l answer) turns
    ∙ answered_latest ts answer start owed)))

-- the turn that is owed, told again, and its answer, if there is one
pub finished_turns : (client : ℕ) (calls polled later : List EngineEntry) (transition : Transition) (order : Order) (dump : Option (List ℕ)) (blank : Option Totals) (start : ℕ) (answer : Option Answer)
    → start_owed client calls ≡ Some start → polled ≡ calls ++ Poll client (Turn transition order dump blank) ∷ [] → GivesAnswer client answer polled later
    → member_turns client later ≡ latest_answered (member_turns client calls) answer
finished_turns client calls polled later transition order dump blank start answer owed asks gives =
    given_owed client polled later (member_turns client calls) start answer
    (ap (member_turns client) asks
    ∙ (member_turns-push client calls (Poll client (Turn transition order dump blank))
    ∙ (polled_turn client (member_turns client calls) transition order dump blank
    ∙ told_again (member_turns client calls) (told_turn transition order dump) start owed)))
    owed gives

-- Where the engine gives no turn, the turns are as they were.

pub idle_turns : (client : ℕ) (calls : List EngineEntry) (state : RunState) → member_turns client (calls ++ Poll client (Idle state) ∷ []) ≡ member_turns client calls
idle_turns client calls state = member_turns-push client calls (Poll client (Idle state))

pub closed_turns : (client : ℕ) (calls : List EngineEntry) → member_turns client (calls ++ Poll client Closed ∷ []) ≡ member_turns client calls
closed_turns client calls = member_turns-push client calls (Poll client Closed)

pub unknown_turns : (client : ℕ) (calls : List EngineEntry) → member_turns client (calls ++ Poll client NoClient ∷ []) ≡ member_turns client calls
unknown_turns client calls = member_turns-push client calls (Poll client NoClient)

-- what is last in a turn is so by whatever is seen of the things beside the engine
pub last_seen : {X Y : Type 0} (see : X → Y) (answer : Option Answer) (stood now : X) → AnswersLast answer stood now → AnswersLast answer (see stood) (see now)
last_seen see None stood now last = tt
last_seen see (Some answer) stood now last = ap see last
