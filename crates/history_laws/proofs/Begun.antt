-- The transition in progress and the turns of a client come from a begin in the history.
use Rattle.std.specs.Prelude.{◌≡◌, ◌≢◌, ℕ, ◌==◌, Bool, true, false, is_some, if◌then◌else◌, List, [], ◌∷◌, ◌++◌, fold, slice_get, Option, Some, None, Ok, Err, refl, ⊤, ◌⊎◌}
use Rattle.std.specs.Option.{option_map}
use Rattle.std.proofs.Common.{ap, sym, ◌∙◌, subst, inl, inr, append_assoc, append-nil}
use Rattle.daq_types.specs.Callers.{entries_by}
use Rattle.daq_types.specs.declared.runs.Order.{Order}
use Rattle.daq_types.specs.declared.runs.RunState.{RunState}
use Rattle.daq_types.specs.declared.runs.RunState.TheVariants.{Stopped, Paused, Running}
use Rattle.daq_types.specs.declared.runs.Transition.{Transition}
use Rattle.daq_types.specs.declared.runs.Transition.TheVariants.{Start, Stop, StartAbort}
use Rattle.daq_types.specs.declared.runs.Why.{Why}
use Rattle.transitions.specs.States.{is_allowed}
use Rattle.buffer_core.proofs.SlotLaws.{split}
use Rattle.transitions.specs.declared.client.Registered.{Registered}
use Rattle.transitions.specs.declared.engine.Refusal.{Refusal}
use Rattle.transitions.specs.declared.replies.Polled.TheVariants.{Turn, Idle, Closed as PollClosed, NoClient}
use Rattle.transitions.specs.declared.replies.Progress.TheVariants.{Going, Done, None as NoneGoing}
use Rattle.transitions.specs.declared.entry.EngineEntry.TheVariants.{Register, Begin, Poll, Answer, Check, Close}
use Rattle.transitions.specs.Engines.{engine_opening}
use Rattle.transitions.specs.EngineCalls.{turn_kind, turn_of, is_start, has_polled, order_for, begun, first_polled, polled_by, told, refused_by, is_due_off, called_off, answered_by, after_poll_by, after_answer_in, IsEngineReply, engine_after}
use Rattle.transitions.specs.EngineHistories.{engine_replay}
use Rattle.transitions.specs.EnginePoints.{engine_past, state_at}
use Rattle.transitions.specs.GivenTurns.{SpeaksFor}
use Rattle.member_model.specs.RunEngines.{Sheet, Answer as ClientAnswer, Tally, EngineEntry, Underway, EngineState, EngineHistory, IsEngineCaller, IsLegalEngine}
use Rattle.member_model.specs.Turns.{MemberTurn, HasTurn}
use Rattle.member_model.specs.TurnCalls.{turn_told, turn_answered, turns_with}
use Rattle.history_laws.specs.BegunTurns.{IsOfBegin, WasBegun}
use Rattle.history_laws.specs.EngineLaws.{TurnsWereBegun, StartsFromStopped, StopsFromRun}
use Rattle.history_laws.proofs.Standing.{KindFits, start_kind, kind_off}
use Rattle.history_laws.proofs.Replies.{begins, IsGiven, GivesTurn, gives_turn, Owes, owes, answered_case}
use Rattle.history_laws.proofs.StateTold.{Follows, StateTold, state_told, legal_joined, replay_apart}
use Rattle.history_laws.proofs.TurnLists.{with_answer}
use Rattle.history_laws.proofs.Gave.{Gave, gave_step, other_step, own_or_other, opening_gave}

-- The transition in progress is that of a begin.

pub record FromBegin (came : RunState) (transition : Transition) (sheet : Sheet) (start : ℕ) (u : Underway) : Type 0 where
  pub transition_is : u.transition ≡ transition
  pub order : u.order ≡ order_for sheet start came
  pub allowed : is_allowed came transition ≡ true
  pub kind : KindFits transition u.refusal u.is_off
  pub dump : (bytes : List ℕ) → u.dump ≡ Some bytes → sheet.dump ≡ Some bytes

pub from_begun : (came : RunState) (s : EngineState) (t : Transition) (sheet : Sheet) (n : ℕ) → s.state ≡ came → is_allowed s.state t ≡ true → FromBegin came t sheet n (begun s t sheet n)
from_begun came s t sheet n is allowed = record { transition_is = refl; order = ap (order_for sheet n) is; allowed = ap (λ (r : RunState). is_allowed r t) (sym is) ∙ allowed; kind = refl; dump = λ bytes e. e }

left_dump : (b : Bool) (d : Option (List ℕ)) (bytes : List ℕ) → (if b then None else d) ≡ Some bytes → d ≡ Some bytes
left_dump true d bytes e = absurd (cc (e))
left_dump false d bytes e = e

given_dump : (b : Bool) (d : Option (List ℕ)) (bytes : List ℕ) → (if b then d else None) ≡ Some bytes → d ≡ Some bytes
given_dump true d bytes e = e
given_dump false d bytes e = absurd (cc (e))

pub from_first : (came : RunState) (transition : Transition) (sheet : Sheet) (start : ℕ) (u : Underway) (client : ℕ) (c : Registered) → FromBegin came transition sheet start u → FromBegin came transition sheet start (first_polled client c u)
from_first came transition sheet start u client c f =
    record { transition_is = f.transition_is; order = f.order; allowed = f.allowed; kind = f.kind; dump = λ bytes e. f.dump bytes (left_dump c.wants_dump u.dump bytes e) }

pub from_polled : (came : RunState) (transition : Transition) (sheet : Sheet) (start : ℕ) (u : Underway) (client : ℕ) (c : Registered) → FromBegin came transition sheet start u → FromBegin came transition sheet start (polled_by client c u)
from_polled came transition sheet start u client c f =
    split (has_polled u client) (λ b. FromBegin came transition sheet start (if b then u else first_polled client c u)) (λ h. f) (λ h. from_first came transition sheet start u client c f)

pub from_told : (came : RunState) (transition : Transition) (sheet : Sheet) (start : ℕ) (u : Underway) (client : ℕ) (tally : Tally) → FromBegin came transition sheet start u → FromBegin came transition sheet start (told client tally u)
from_told came transition sheet start u client tally f = record { transition_is = f.transition_is; order = f.order; allowed = f.allowed; kind = f.kind; dump = f.dump }

pub from_refused : (came : RunState) (transition : Transition) (sheet : Sheet) (start : ℕ) (u : Underway) (client : ℕ) (why : Why) → is_start (turn_of u) ≡ true → FromBegin came transition sheet start u → FromBegin came transition sheet start (refused_by client why u)
from_refused came transition sheet start u client why starts f =
    record { transition_is = f.transition_is; order = f.order; allowed = f.allowed; kind = sym f.transition_is ∙ start_kind u.transition u.is_off starts; dump = f.dump }

pub from_off : (came : RunState) (transition : Transition) (sheet : Sheet) (start : ℕ) (clients : List Registered) (v : Underway) → is_due_off v.refusal v.polled v.is_off ≡ true → FromBegin came transition sheet start v → FromBegin came transition sheet start (called_off clients v)
from_off came transition sheet start clients v is f =
    record { transition_is = f.transition_is; order = f.order; allowed = f.allowed; kind = kind_off transition v.refusal v.polled v.is_off is f.kind; dump = f.dump }

pub from_answered : (came : RunState) (transition : Transition) (sheet : Sheet) (start : ℕ) (u : Underway) (clients : List Registered) (client : ℕ) (answer : ClientAnswer) → FromBegin came transition sheet start u → FromBegin came transition sheet start (answered_by clients client answer u)
from_answered came transition sheet start u clients client answer f =
    answered_case (FromBegin came transition sheet start) clients client answer u
    (λ tally is. from_told came transition sheet start u client tally f)
    (λ why is. from_refused came transition sheet start u client why is.starts f)
    (λ v is kept. from_off came transition sheet start clients v is kept)

-- A turn of it.

kind_of : (t transition : Transition) (r : Option Refusal) (is_off : Bool) → t ≡ transition → KindFits transition r is_off → (turn_kind t is_off ≡ transition) ⊎ ((transition ≡ Start) × (turn_kind t is_off ≡ StartAbort))
kind_of t transition r false same kind = inl same
kind_of t transition None true same kind = absurd (cc (kind))
kind_of t transition (Some refusal) true same kind = inr (kind, refl)

abbrev pub turn_from : Underway → Option (List ℕ) → MemberTurn
turn_from u dump = record { transition = turn_of u; order = u.order; dump = dump; answer = None }

-- the dump of a reply is that of the transition, or none
pub dump_from : (u : Underway) (client : ℕ) (c : Registered) (dump : Option (List ℕ)) (bytes : List ℕ) → IsGiven c u client dump → dump ≡ Some bytes → u.dump ≡ Some bytes
dump_from u client c dump bytes (inl again) e =
    let none : None ≡ Some bytes = sym again.dump_is ∙ e in
    absurd (cc (none))
dump_from u client c dump bytes (inr first) e = given_dump c.wants_dump u.dump bytes (sym first.dump_is ∙ e)

pub turn_of_begin : (came : RunState) (transition : Transition) (sheet : Sheet) (start : ℕ) (u : Underway) (client : ℕ) (c : Registered) (dump : Option (List ℕ)) → FromBegin came transition sheet start u → IsGiven c u client dump → IsOfBegin came transition sheet start (turn_from u dump)
turn_of_begin came transition sheet start u client c dump f given = record {
  kind = kind_of u.transition transition u.refusal u.is_off f.transition_is f.kind;
  order = f.order;
  allowed = f.allowed;
  dump = λ bytes e. f.dump bytes (dump_from u client c dump bytes given e);
}

pub of_begin_answered : (came : RunState) (transition : Transition) (sheet : Sheet) (start : ℕ) (turn : MemberTurn) (answer : ClientAnswer) → IsOfBegin came transition sheet start turn → IsOfBegin came transition sheet start (with_answer turn answer)
of_begin_answered came transition sheet start turn answer is = record { kind = is.kind; order = is.order; allowed = is.allowed; dump = is.dump }

-- Where a turn among those behind a call stood before.

pub told_source : (ts : List MemberTurn) (t u : MemberTurn) → HasTurn (turn_told ts t) u → HasTurn ts u ⊎ (t ≡ u)
told_source [] t u (inl same) = inr same
told_source [] t u (inr before) = absurd before
told_source (x ∷ xs) t u has =
    split (is_some x.answer) (λ b. HasTurn (if b then t ∷ (x ∷ xs) else x ∷ xs) u → HasTurn (x ∷ xs) u ⊎ (t ≡ u))
    (λ h. new) (λ h. inl) has
  where
    new : HasTurn (t ∷ (x ∷ xs)) u → HasTurn (x ∷ xs) u ⊎ (t ≡ u)
    new (inl same) = inr same
    new (inr before) = inl before

-- the turn that got the answer
pub record GotAnswer (ts : List MemberTurn) (answer : ClientAnswer) (u : MemberTurn) : Type 0 where
  pub turn : MemberTurn
  pub stands : HasTurn ts turn
  pub is : with_answer turn answer ≡ u

pub answered_source : (ts : List MemberTurn) (answer : ClientAnswer) (u : MemberTurn) → HasTurn (turn_answered ts answer) u → HasTurn ts u ⊎ GotAnswer ts answer u
answered_source [] answer u has = absurd has
answered_source (x ∷ xs) answer u has =
    split (is_some x.answer) (λ b. HasTurn (if b then x ∷ xs else with_answer x answer ∷ xs) u → HasTurn (x ∷ xs) u ⊎ GotAnswer (x ∷ xs) answer u)
    (λ h. inl) (λ h. got) has
  where
    got : HasTurn (with_answer x answer ∷ xs) u → HasTurn (x ∷ xs) u ⊎ GotAnswer (x ∷ xs) answer u
    got (inl same) = inr (record { turn = x; stands = inl refl; is = same })
    got (inr before) = inl (inr before)

-- The engine behind a call.

pub polled_underway : (s : EngineState) (client : ℕ) (c : Registered) (u : Underway) → slice_get s.clients client ≡ Some c → s.underway ≡ Some u → (after_poll_by s client (slice_get s.clients client)).underway ≡ Some (polled_by client c u)
polled_underway s client c u is at = ap (λ (o : Option Registered). (after_poll_by s client o).underway) is ∙ ap (option_map (polled_by client c)) at

pub answered_underway : (s : EngineState) (client : ℕ) (answer : ClientAnswer) (u : Underway) → s.underway ≡ Some u → (after_answer_in s client answer s.underway).underway ≡ Some (answered_by s.clients client answer u)
answered_underway s client answer u at = ap (λ (o : Option Underway). (after_answer_in s client answer o).underway) at

-- In the whole history.

pub record UnderwayBegun (history : EngineHistory) (u : Underway) : Type 0 where
  pub earlier : EngineHistory
  pub later : EngineHistory
  pub caller : ℕ
  pub transition : Transition
  pub sheet : Sheet
  pub start : ℕ
  pub stands : history ≡ earlier ++ (caller, Begin transition sheet (Ok start)) ∷ later
  pub from : FromBegin (state_at (engine_past earlier)) transition sheet start u

abbrev BegunIf : EngineHistory → Option Underway → Type 0
BegunIf h None = ⊤
BegunIf h (Some u) = UnderwayBegun h u

abbrev AllBegun : EngineHistory → List MemberTurn → Type 0
AllBegun h ts = (t : MemberTurn) → HasTurn ts t → WasBegun h t

longer : (h earlier later : EngineHistory) (e x : ℕ × EngineEntry) → h ≡ earlier ++ e ∷ later → h ++ x ∷ [] ≡ earlier ++ e ∷ (later ++ x ∷ [])
longer h earlier later e x is = ap (λ (l : EngineHistory). l ++ x ∷ []) is ∙ append_assoc earlier (e ∷ later) (x ∷ [])

begun_longer : (h : EngineHistory) (x : ℕ × EngineEntry) (t : MemberTurn) → WasBegun h t → WasBegun (h ++ x ∷ []) t
begun_longer h x t was = record {
  earlier = was.earlier;
  later = was.later ++ x ∷ [];
  caller = was.caller;
  transition = was.transition;
  sheet = was.sheet;
  stands = longer h was.earlier was.later (was.caller, Begin was.transition was.sheet (Ok t.order.start)) x was.stands;
  of_begin = was.of_begin;
}

all_longer : (h : EngineHistory) (x : ℕ × EngineEntry) (ts : List MemberTurn) → AllBegun h ts → AllBegun (h ++ x ∷ []) ts
all_longer h x ts all t has = begun_longer h x t (all t has)

underway_longer : (h : EngineHistory) (x : ℕ × EngineEntry) (o : Option Underway) → BegunIf h o → BegunIf (h ++ x ∷ []) o
underway_longer h x None was = tt
underway_longer h x (Some u) was = record {
  earlier = was.earlier;
  later = was.later ++ x ∷ [];
  caller = was.caller;
  transition = was.transition;
  sheet = was.sheet;
  start = was.start;
  stands = longer h was.earlier was.later (was.caller, Begin was.transition was.sheet (Ok was.start)) x was.stands;
  from = was.from;
}

underway_on : (h : EngineHistory) (u v : Underway) (w : UnderwayBegun h u) → FromBegin (state_at (engine_past w.earlier)) w.transition w.sheet w.start v → UnderwayBegun h v
underway_on h u v w f = record { earlier = w.earlier; later = w.later; caller = w.caller; transition = w.transition; sheet = w.sheet; start = w.start; stands = w.stands; from = f }

begun_answered : (h : EngineHistory) (t : MemberTurn) (answer : ClientAnswer) → WasBegun h t → WasBegun h (with_answer t answer)
begun_answered h t answer was = record {
  earlier = was.earlier;
  later = was.later;
  caller = was.caller;
  transition = was.transition;
  sheet = was.sheet;
  stands = was.stands;
  of_begin = of_begin_answered (state_at (engine_past was.earlier)) was.transition was.sheet t.order.start t answer was.of_begin;
}

-- a turn of the transition in progress
turn_begun : (h : EngineHistory) (u : Underway) (client : ℕ) (c : Registered) (dump : Option (List ℕ)) → UnderwayBegun h u → IsGiven c u client dump → WasBegun h (turn_from u dump)
turn_begun h u client c dump w given =
    let number : w.start ≡ u.order.start = sym (ap (λ (o : Order). o.start) w.from.order) in
    record {
      earlier = w.earlier;
      later = w.later;
      caller = w.caller;
      transition = w.transition;
      sheet = w.sheet;
      stands = w.stands ∙ ap (λ (n : ℕ). w.earlier ++ (w.caller, Begin w.transition w.sheet (Ok n)) ∷ w.later) number;
      of_begin = subst (λ (n : ℕ). IsOfBegin (state_at (engine_past w.earlier)) w.transition w.sheet n (turn_from u dump)) number (turn_of_begin (state_at (engine_past w.earlier)) w.transition w.sheet w.start u client c dump w.from given);
    }

all_told : (h : EngineHistory) (ts : List MemberTurn) (x : MemberTurn) (mine : Bool) → AllBegun h ts → WasBegun h x → AllBegun h (if mine then turn_told ts x else ts)
all_told h ts x false all was t has = all t has
all_told h ts x true all was t has = elim (told_source ts x t has) as (λ w. WasBegun h t) [
  | inl before ↦ all t before
  | inr same ↦ subst (WasBegun h) same was
]

all_answered : (h : EngineHistory) (ts : List MemberTurn) (answer : ClientAnswer) (mine : Bool) → AllBegun h ts → AllBegun h (if mine then turn_answered ts answer else ts)
all_answered h ts answer false all t has = all t has
all_answered h ts answer true all t has = elim (answered_source ts answer t has) as (λ w. WasBegun h t) [
  | inl before ↦ all t before
  | inr got ↦ subst (WasBegun h) got.is (begun_answered h got.turn answer (all got.turn got.stands))
]

record AreBegun (h : EngineHistory) (s : EngineState) (ts : List MemberTurn) : Type 0 where
  underway : BegunIf h s.underway
  turns : AllBegun h ts

begun_step : (h : EngineHistory) (s : EngineState) (client by : ℕ) (ts : List MemberTurn) (e : EngineEntry) → StateTold h s → AreBegun h s ts → IsEngineCaller by e → IsEngineReply s e → AreBegun (h ++ (by, e) ∷ []) (engine_after s e) (turns_with client ts e)
begun_step h s client by ts (Begin t sheet (Ok n)) tells a may reply =
    let x : ℕ × EngineEntry = (by, Begin t sheet (Ok n)) in
    record {
      underway = record { earlier = h; later = []; caller = by; transition = t; sheet = sheet; start = n; stands = refl; from = from_begun (state_at (engine_past h)) s t sheet n (tells by t sheet n may reply) (begins s t n reply).allowed };
      turns = all_longer h x ts a.turns;
    }
begun_step h s client by ts (Poll other (Turn turn order dump blank)) tells a may reply =
    let x : ℕ × EngineEntry = (by, Poll other (Turn turn order dump blank)) in
    let p : GivesTurn s other turn order dump = gives_turn s other turn order dump blank reply in
    let told_so : MemberTurn = record { transition = turn; order = order; dump = dump; answer = None } in
    let same : turn_from p.u dump ≡ told_so = ap (λ (k : Transition). record { transition = k; order = p.u.order; dump = dump; answer = None }) (sym p.turn_is) ∙ ap (λ (o : Order). record { transition = turn; order = o; dump = dump; answer = None }) (sym p.order_is) in
    let w : UnderwayBegun (h ++ x ∷ []) p.u = subst (BegunIf (h ++ x ∷ [])) p.underway_is (underway_longer h x s.underway a.underway) in
    record {
      underway = subst (BegunIf (h ++ x ∷ [])) (sym (polled_underway s other p.c p.u p.client_is p.underway_is)) (underway_on (h ++ x ∷ []) p.u (polled_by other p.c p.u) w (from_polled (state_at (engine_past w.earlier)) w.transition w.sheet w.start p.u other p.c w.from));
      turns = all_told (h ++ x ∷ []) ts told_so (other == client) (all_longer h x ts a.turns) (subst (WasBegun (h ++ x ∷ [])) same (turn_begun (h ++ x ∷ []) p.u other p.c dump w p.given));
    }
begun_step h s client by ts (Answer other answer (Ok done)) tells a may reply =
    let x : ℕ × EngineEntry = (by, Answer other answer (Ok done)) in
    let o : Owes s other = owes s other done reply in
    let w : UnderwayBegun (h ++ x ∷ []) o.u = subst (BegunIf (h ++ x ∷ [])) o.underway_is (underway_longer h x s.underway a.underway) in
    record {
      underway = subst (BegunIf (h ++ x ∷ [])) (sym (answered_underway s other answer o.u o.underway_is))
          (underway_on (h ++ x ∷ []) o.u (answered_by s.clients other answer o.u) w (from_answered (state_at (engine_past w.earlier)) w.transition w.sheet w.start o.u s.clients other answer w.from));
      turns = all_answered (h ++ x ∷ []) ts answer (other == client) (all_longer h x ts a.turns);
    }
begun_step h s client by ts (Answer other answer (Err r)) tells a may reply =
    let x : ℕ × EngineEntry = (by, Answer other answer (Err r)) in
    record { underway = underway_longer h x s.underway a.underway; turns = all_answered (h ++ x ∷ []) ts answer (other == client) (all_longer h x ts a.turns) }
begun_step h s client by ts (Check (Done outcome) tallies) tells a may reply = record { underway = tt; turns = all_longer h (by, Check (Done outcome) tallies) ts a.turns }
begun_step h s client by ts (Register name sequences dump report (Ok n)) tells a may reply =
    let x : ℕ × EngineEntry = (by, Register name sequences dump report (Ok n)) in record { underway = underway_longer h x s.underway a.underway; turns = all_longer h x ts a.turns }
begun_step h s client by ts (Close (Ok done)) tells a may reply = let x : ℕ × EngineEntry = (by, Close (Ok done)) in record { underway = underway_longer h x s.underway a.underway; turns = all_longer h x ts a.turns }
begun_step h s client by ts (Register name sequences dump report (Err r)) tells a may reply =
    let x : ℕ × EngineEntry = (by, Register name sequences dump report (Err r)) in record { underway = underway_longer h x s.underway a.underway; turns = all_longer h x ts a.turns }
begun_step h s client by ts (Begin t sheet (Err r)) tells a may reply = let x : ℕ × EngineEntry = (by, Begin t sheet (Err r)) in record { underway = underway_longer h x s.underway a.underway; turns = all_longer h x ts a.turns }
begun_step h s client by ts (Poll other (Idle state)) tells a may reply = let x : ℕ × EngineEntry = (by, Poll other (Idle state)) in record { underway = underway_longer h x s.underway a.underway; turns = all_longer h x ts a.turns }
begun_step h s client by ts (Poll other PollClosed) tells a may reply = let x : ℕ × EngineEntry = (by, Poll other PollClosed) in record { underway = underway_longer h x s.underway a.underway; turns = all_longer h x ts a.turns }
begun_step h s client by ts (Poll other NoClient) tells a may reply = let x : ℕ × EngineEntry = (by, Poll other NoClient) in record { underway = underway_longer h x s.underway a.underway; turns = all_longer h x ts a.turns }
begun_step h s client by ts (Check Going tallies) tells a may reply = let x : ℕ × EngineEntry = (by, Check Going tallies) in record { underway = underway_longer h x s.underway a.underway; turns = all_longer h x ts a.turns }
begun_step h s client by ts (Check NoneGoing tallies) tells a may reply = let x : ℕ × EngineEntry = (by, Check NoneGoing tallies) in record { underway = underway_longer h x s.underway a.underway; turns = all_longer h x ts a.turns }
begun_step h s client by ts (Close (Err r)) tells a may reply = let x : ℕ × EngineEntry = (by, Close (Err r)) in record { underway = underway_longer h x s.underway a.underway; turns = all_longer h x ts a.turns }

begun_all : (follows : Follows) (before : EngineHistory) (s : EngineState) (by client : ℕ) (h : EngineHistory) (ts : List MemberTurn) → IsLegalEngine engine_opening before → engine_replay engine_opening before ≡ s
    → IsLegalEngine s h → SpeaksFor by client h → Gave s client ts → AreBegun before s ts → AllBegun (before ++ h) (fold (turns_with client) ts (entries_by by h))
begun_all follows before s by client [] ts past at legal alone g a = subst (λ (l : EngineHistory). AllBegun l ts) (sym (append-nil before)) a.turns
begun_all follows before s by client (x ∷ h) ts past at legal alone g a =
    let tells : StateTold before s = subst (StateTold before) at (state_told follows before past) in
    let past_next : IsLegalEngine engine_opening (before ++ x ∷ []) = legal_joined engine_opening before (x ∷ []) past (subst (λ (e : EngineState). IsLegalEngine e (x ∷ [])) (sym at) (legal.0, legal.1, tt)) in
    let at_next : engine_replay engine_opening (before ++ x ∷ []) ≡ engine_after s x.1 = replay_apart engine_opening before (x ∷ []) ∙ ap (λ (e : EngineState). engine_after e x.1) at in
    let next : Gave (engine_after s x.1) client (turns_with client ts x.1) = gave_step s client ts x.1 g legal.1 in
    let begun_next : AreBegun (before ++ x ∷ []) (engine_after s x.1) (turns_with client ts x.1) = begun_step before s client x.0 ts x.1 tells a legal.0 legal.1 in
    subst (λ (l : EngineHistory). AllBegun l (fold (turns_with client) ts (entries_by by (x ∷ h)))) (append_assoc before (x ∷ []) h)
    (own_or_other by client x h (λ es. AllBegun ((before ++ x ∷ []) ++ h) (fold (turns_with client) ts es)) alone.0
    (begun_all follows (before ++ x ∷ []) (engine_after s x.1) by client h (turns_with client ts x.1) past_next at_next legal.2 alone.1 next begun_next)
    (λ not. let same : turns_with client ts x.1 ≡ ts = other_step s client ts x.1 g legal.1 not in
    begun_all follows (before ++ x ∷ []) (engine_after s x.1) by client h ts past_next at_next legal.2 alone.1
    (subst (Gave (engine_after s x.1) client) same next) (subst (AreBegun (before ++ x ∷ []) (engine_after s x.1)) same begun_next)))

pub turns_were_begun : Follows → TurnsWereBegun
turns_were_begun follows by client h legal alone = begun_all follows [] engine_opening by client h [] tt refl legal alone (opening_gave client) (record { underway = tt; turns = λ t has. absurd has })

-- The state before.

start_from : (t : Transition) (from : RunState) → t ≡ Start → is_allowed from t ≡ true → from ≡ Stopped
start_from t Stopped starts allowed = refl
start_from t Paused starts allowed = absurd (let e : is_allowed Paused Start ≡ true = ap (is_allowed Paused) (sym starts) ∙ allowed in cc (e))
start_from t Running starts allowed = absurd (let e : is_allowed Running Start ≡ true = ap (is_allowed Running) (sym starts) ∙ allowed in cc (e))

stop_from : (t : Transition) (from : RunState) → t ≡ Stop → is_allowed from t ≡ true → from ≢ Stopped
stop_from t Stopped stops allowed = absurd (let e : is_allowed Stopped Stop ≡ true = ap (is_allowed Stopped) (sym stops) ∙ allowed in cc (e))
stop_from t Paused stops allowed = λ (same : Paused ≡ Stopped). cc (same)
stop_from t Running stops allowed = λ (same : Running ≡ Stopped). cc (same)

pub starts_from_stopped : Follows → StartsFromStopped
starts_from_stopped follows by client h legal alone turn has starts =
    let was : WasBegun h turn = turns_were_begun follows by client h legal alone turn has in
    elim was.of_begin.kind as (λ w. turn.order.from ≡ Stopped) [
      | inl same ↦ ap (λ (o : Order). o.from) was.of_begin.order ∙ start_from was.transition (state_at (engine_past was.earlier)) (sym same ∙ starts) was.of_begin.allowed
      | inr off ↦ absurd (let e : Start ≡ StartAbort = sym starts ∙ off.1 in cc (e))
    ]

pub stops_from_run : Follows → StopsFromRun
stops_from_run follows by client h legal alone turn has stops =
    let was : WasBegun h turn = turns_were_begun follows by client h legal alone turn has in
    elim was.of_begin.kind as (λ w. turn.order.from ≢ Stopped) [
      | inl same ↦ λ stopped. stop_from was.transition (state_at (engine_past was.earlier)) (sym same ∙ stops) was.of_begin.allowed (sym (ap (λ (o : Order). o.from) was.of_begin.order) ∙ stopped)
      | inr off ↦ absurd (let e : Stop ≡ StartAbort = sym stops ∙ off.1 in cc (e))
    ]
