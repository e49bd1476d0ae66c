-- What an accepted call says of the engine.
use Rattle.std.specs.Prelude.{◌≡◌, ℕ, suc, ◌+◌, Bool, true, false, nat_lt, if◌then◌else◌, List, [], ◌∷◌, slice_get, Option, Some, None, Result, Ok, Err, refl, ⊤, ◌⊎◌}
use Rattle.std.proofs.Common.{sym, subst, arith, inl, inr}
use Rattle.daq_types.specs.declared.runs.Transition.{Transition}
use Rattle.daq_types.specs.declared.runs.Transition.TheVariants.{Start, Stop, Pause, Resume, StartAbort}
use Rattle.daq_types.specs.declared.runs.Order.{Order}
use Rattle.daq_types.specs.declared.runs.StartOutcome.{StartOutcome}
use Rattle.transitions.specs.States.{is_allowed}
use Rattle.event_report.specs.Reports.{Totals}
use Rattle.buffer_core.proofs.SlotLaws.{split}
use Rattle.transitions.specs.declared.client.Registered.{Registered}
use Rattle.transitions.specs.declared.called.Called.{Called}
use Rattle.transitions.specs.declared.answers.Answer.TheVariants.{Yes, No}
use Rattle.transitions.specs.declared.answers.Tally.TheVariants.{Plain}
use Rattle.transitions.specs.declared.engine.Refusal.{Refusal}
use Rattle.daq_types.specs.declared.runs.Why.{Why}
use Rattle.transitions.specs.declared.replies.BeginRefusal.TheVariants.{Closed as BeginClosed, WrongState, LastStart}
use Rattle.transitions.specs.declared.replies.NotYourTurn.{NotYourTurn}
use Rattle.transitions.specs.declared.replies.Polled.TheVariants.{Turn, Idle, Closed as PollClosed}
use Rattle.transitions.specs.declared.replies.Progress.TheVariants.{Done}
use Rattle.transitions.specs.Limits.{last_start_number}
use Rattle.transitions.specs.EngineCalls.{turn_of, is_start, has_polled, is_next, open_of, same_turn, first_turn, first_polled, polled_by, told, refused_by, is_due_off, called_off, answered_with, answered_by, begin_reply, begin_reply_in, start_reply, poll_reply, poll_reply_to, poll_reply_in, owes_answer, answer_reply, not_your_turn, outcome_of, progress_of, check_reply, check_reply_in}
use Rattle.transitions.specs.EnginePoints.{tally_of}
use Rattle.transitions.specs.TurnOrder.{number_with}
use Rattle.member_model.specs.RunEngines.{Answer as ClientAnswer, Tally, Underway, EngineState}

-- Begin.

pub record Begins (s : EngineState) (t : Transition) (n : ℕ) : Type 0 where
  pub free : s.underway ≡ None
  pub allowed : is_allowed s.state t ≡ true
  pub number : n ≡ number_with t s.start

start_number : (t : Transition) (start n : ℕ) → Ok n ≡ start_reply t start → n ≡ number_with t start
start_number Start start n e =
    split (nat_lt start last_start_number) (λ b. Ok n ≡ (if b then Ok (start + 1) else Err LastStart) → n ≡ suc start)
    (λ h e'. let same : n ≡ start + 1 = cc in omega (arith, same)) (λ h e'. absurd cc) e
start_number Stop start n e = cc
start_number Pause start n e = cc
start_number Resume start n e = cc
start_number StartAbort start n e = cc

begins_in : (s : EngineState) (t : Transition) (n : ℕ) (o : Option Underway) → s.underway ≡ o → Ok n ≡ begin_reply_in o s.state t s.start → Begins s t n
begins_in s t n (Some u) is e = absurd cc
begins_in s t n None is e =
    split (is_allowed s.state t) (λ b. is_allowed s.state t ≡ b → Ok n ≡ (if b then start_reply t s.start else Err (WrongState s.state)) → Begins s t n)
    (λ h g e'. record { free = is; allowed = g; number = start_number t s.start n e' }) (λ h g e'. absurd cc) refl e

pub begins : (s : EngineState) (t : Transition) (n : ℕ) → Ok n ≡ begin_reply s t → Begins s t n
begins s t n e =
    split s.closed (λ b. Ok n ≡ (if b then Err BeginClosed else begin_reply_in s.underway s.state t s.start) → Begins s t n)
    (λ h e'. absurd cc) (λ h e'. begins_in s t n s.underway refl e') e

-- Poll.

-- a turn is given again until it is answered, without a dump, and else to a client of the group whose turn it is
pub record GivesAgain (u : Underway) (client : ℕ) (dump : Option (List ℕ)) : Type 0 where
  pub polled : has_polled u client ≡ true
  pub dump_is : dump ≡ None

pub record GivesFirst (c : Registered) (u : Underway) (client : ℕ) (dump : Option (List ℕ)) : Type 0 where
  pub fresh : has_polled u client ≡ false
  pub next : is_next u.polled u.called client ≡ true
  pub dump_is : dump ≡ (if c.wants_dump then u.dump else None)

abbrev pub IsGiven : Registered → Underway → (client : ℕ) → Option (List ℕ) → Type 0
IsGiven c u client dump = GivesAgain u client dump ⊎ GivesFirst c u client dump

pub record GivesTurn (s : EngineState) (client : ℕ) (turn : Transition) (order : Order) (dump : Option (List ℕ)) : Type 0 where
  pub c : Registered
  pub u : Underway
  pub client_is : slice_get s.clients client ≡ Some c
  pub underway_is : s.underway ≡ Some u
  pub turn_is : turn ≡ turn_of u
  pub order_is : order ≡ u.order
  pub given : IsGiven c u client dump

-- what is so behind both kinds of reply
pub given_case : (P : Underway → Type 0) (client : ℕ) (c : Registered) (u : Underway) (dump : Option (List ℕ)) → IsGiven c u client dump
    → (GivesAgain u client dump → P u) → (GivesFirst c u client dump → P (first_polled client c u)) → P (polled_by client c u)
given_case P client c u dump (inl again) same first = subst (λ (b : Bool). P (if b then u else first_polled client c u)) (sym again.polled) (same again)
given_case P client c u dump (inr new) same first = subst (λ (b : Bool). P (if b then u else first_polled client c u)) (sym new.fresh) (first new)

gives_in : (s : EngineState) (client : ℕ) (c : Registered) (o : Option Underway) (turn : Transition) (order : Order) (dump : Option (List ℕ)) (blank : Option Totals)
    → slice_get s.clients client ≡ Some c → s.underway ≡ o → Turn turn order dump blank ≡ poll_reply_in s.state client c o → GivesTurn s client turn order dump
gives_in s client c None turn order dump blank is at e = absurd cc
gives_in s client c (Some u) turn order dump blank is at e =
    split (has_polled u client) (λ b. has_polled u client ≡ b
    → Turn turn order dump blank ≡ (if b then same_turn u else if is_next u.polled u.called client then first_turn c u else Idle s.state) → GivesTurn s client turn order dump)
    (λ h g e'. record { c = c; u = u; client_is = is; underway_is = at; turn_is = cc (e'); order_is = cc (e'); given = inl (record { polled = g; dump_is = cc (e') }) })
    (λ h g e'. split (is_next u.polled u.called client) (λ b. is_next u.polled u.called client ≡ b
    → Turn turn order dump blank ≡ (if b then first_turn c u else Idle s.state) → GivesTurn s client turn order dump)
    (λ k f e''. record { c = c; u = u; client_is = is; underway_is = at; turn_is = cc (e''); order_is = cc (e''); given = inr (record { fresh = g; next = f; dump_is = cc (e'') }) })
    (λ k f e''. absurd cc) refl e')
    refl e

gives_to : (s : EngineState) (client : ℕ) (o : Option Registered) (turn : Transition) (order : Order) (dump : Option (List ℕ)) (blank : Option Totals)
    → slice_get s.clients client ≡ o → Turn turn order dump blank ≡ poll_reply_to s client o → GivesTurn s client turn order dump
gives_to s client None turn order dump blank is e = absurd cc
gives_to s client (Some c) turn order dump blank is e =
    split s.closed (λ b. Turn turn order dump blank ≡ (if b then PollClosed else poll_reply_in s.state client c s.underway) → GivesTurn s client turn order dump)
    (λ h e'. absurd cc) (λ h e'. gives_in s client c s.underway turn order dump blank is refl e') e

pub gives_turn : (s : EngineState) (client : ℕ) (turn : Transition) (order : Order) (dump : Option (List ℕ)) (blank : Option Totals) → Turn turn order dump blank ≡ poll_reply s client → GivesTurn s client turn order dump
gives_turn s client turn order dump blank e = gives_to s client (slice_get s.clients client) turn order dump blank refl e

-- Answer.

pub record Owes (s : EngineState) (client : ℕ) : Type 0 where
  pub u : Underway
  pub underway_is : s.underway ≡ Some u
  pub polled : has_polled u client ≡ true

owes_in : (s : EngineState) (client : ℕ) (o : Option Underway) → s.underway ≡ o → owes_answer o client ≡ true → Owes s client
owes_in s client None is e = absurd cc
owes_in s client (Some u) is e = record { u = u; underway_is = is; polled = e }

pub owes : (s : EngineState) (client : ℕ) (done : ⊤) → Ok done ≡ answer_reply s client → Owes s client
owes s client done e =
    split (owes_answer s.underway client) (λ b. owes_answer s.underway client ≡ b → Ok done ≡ (if b then Ok tt else Err not_your_turn) → Owes s client)
    (λ h g e'. owes_in s client s.underway refl g) (λ h g e'. absurd cc) refl e

abbrev owed : Result ⊤ NotYourTurn
owed = Ok tt

pub owes_none : (s : EngineState) (client : ℕ) (why : NotYourTurn) → Err why ≡ answer_reply s client → owes_answer s.underway client ≡ false
owes_none s client why e =
    split (owes_answer s.underway client) (λ b. Err why ≡ (if b then owed else Err not_your_turn) → b ≡ false)
    (λ h e'. absurd cc) (λ h e'. refl) e

-- what an answer is told as: with a tally, or as a No to a start
pub record IsToldAs (u : Underway) (answer : ClientAnswer) (tally : Tally) : Type 0 where
  pub tally_is : tally ≡ tally_of answer
  pub accepted : is_start (turn_of u) ≡ true → answer ≡ Yes tally

pub record Refuses (u : Underway) (answer : ClientAnswer) (why : Why) : Type 0 where
  pub is : answer ≡ No why
  pub starts : is_start (turn_of u) ≡ true

never_start : (b : Bool) (answer : ClientAnswer) (tally : Tally) → b ≡ false → b ≡ true → answer ≡ Yes tally
never_start true answer tally not is = absurd cc
never_start false answer tally not is = absurd cc

with_case : (P : Underway → Type 0) (client : ℕ) (answer : ClientAnswer) (u : Underway) → ((tally : Tally) → IsToldAs u answer tally → P (told client tally u)) → ((why : Why) → Refuses u answer why → P (refused_by client why u))
    → P (answered_with client answer u)
with_case P client (Yes tally) u tells refuses = tells tally (record { tally_is = refl; accepted = λ starts. refl })
with_case P client (No why) u tells refuses =
    split (is_start (turn_of u)) (λ b. is_start (turn_of u) ≡ b → P (if b then refused_by client why u else told client Plain u))
    (λ h e. refuses why (record { is = refl; starts = e }))
    (λ h e. tells Plain (record { tally_is = refl; accepted = never_start (is_start (turn_of u)) (No why) Plain e })) refl

-- what is so behind an answer of any kind
pub answered_case : (P : Underway → Type 0) (clients : List Registered) (client : ℕ) (answer : ClientAnswer) (u : Underway) → ((tally : Tally) → IsToldAs u answer tally → P (told client tally u))
    → ((why : Why) → Refuses u answer why → P (refused_by client why u)) → ((v : Underway) → is_due_off v.refusal v.polled v.is_off ≡ true → P v → P (called_off clients v)) → P (answered_by clients client answer u)
answered_case P clients client answer u tells refuses opens =
    let v : Underway = answered_with client answer u in
    let kept : P v = with_case P client answer u tells refuses in
    split (is_due_off v.refusal v.polled v.is_off) (λ b. is_due_off v.refusal v.polled v.is_off ≡ b → P (if b then called_off clients v else v))
    (λ h e. opens v e kept) (λ h e. kept) refl

-- Check.

pub record Finishes (s : EngineState) (outcome : StartOutcome) : Type 0 where
  pub u : Underway
  pub underway_is : s.underway ≡ Some u
  pub done : open_of u ≡ []
  pub outcome_is : outcome ≡ outcome_of u.refusal

finishes_at : (called : List Called) (r : Option Refusal) (outcome : StartOutcome) → Done outcome ≡ progress_of called r → (called ≡ []) × (outcome ≡ outcome_of r)
finishes_at [] r outcome e = (refl, cc)
finishes_at (c ∷ cs) r outcome e = absurd cc

finishes_in : (s : EngineState) (o : Option Underway) (outcome : StartOutcome) → s.underway ≡ o → Done outcome ≡ check_reply_in o → Finishes s outcome
finishes_in s None outcome is e = absurd cc
finishes_in s (Some u) outcome is e =
    let parts = finishes_at (open_of u) u.refusal outcome e in
    record { u = u; underway_is = is; done = parts.0; outcome_is = parts.1 }

pub finishes : (s : EngineState) (outcome : StartOutcome) → Done outcome ≡ check_reply s → Finishes s outcome
finishes s outcome e = finishes_in s s.underway outcome refl e
