-- The tallies in a Done are the answers to turns of its transition.
use Rattle.std.specs.Prelude.{◌≡◌, ◌≢◌, ℕ, zero, suc, ◌==◌, Bool, true, false, is_some, nat_lt, if◌then◌else◌, List, [], ◌∷◌, ◌++◌, ◌↔◌, fold, length, slice_get, Option, Some, None, Ok, Err, refl, ◌⊎◌}
use Rattle.std.specs.List.{AllByRecursion}
use Rattle.std.proofs.Common.{ap, sym, ◌∙◌, subst, arith, inl, inr, append_assoc}
use Rattle.std.proofs.lemmas.Grind.{fold-append}
use Rattle.std.proofs.lemmas.Bool.{eqb-true, eqb-false}
use Rattle.daq_types.specs.Callers.{entries_by}
use Rattle.daq_types.proofs.CallersLaws.{entries_by-append}
use Rattle.daq_types.specs.declared.runs.Order.{Order}
use Rattle.daq_types.specs.declared.runs.StartOutcome.{StartOutcome}
use Rattle.daq_types.specs.declared.runs.StartOutcome.TheVariants.{Completed, Refused}
use Rattle.daq_types.specs.declared.runs.RunState.{RunState}
use Rattle.daq_types.specs.declared.runs.Transition.{Transition}
use Rattle.daq_types.specs.declared.runs.Transition.TheVariants.{Start, StartAbort}
use Rattle.daq_types.specs.declared.runs.Why.{Why}
use Rattle.buffer_core.proofs.SlotLaws.{split}
use Rattle.event_report.specs.Reports.{Totals}
use Rattle.transitions.specs.declared.client.Registered.{Registered}
use Rattle.transitions.specs.declared.answers.Answer.TheVariants.{Yes, No}
use Rattle.transitions.specs.declared.engine.Refusal.{Refusal}
use Rattle.transitions.specs.declared.replies.RegisterRefusal.TheVariants.{Closed as RegisterClosed, NoSlot}
use Rattle.transitions.specs.declared.replies.Polled.TheVariants.{Turn, Idle, Closed as PollClosed, NoClient}
use Rattle.transitions.specs.declared.replies.Progress.{Progress}
use Rattle.transitions.specs.declared.replies.Progress.TheVariants.{Going, Done, None as NoneGoing}
use Rattle.transitions.specs.declared.entry.EngineEntry.TheVariants.{Register, Begin, Poll, Answer, Check, Close}
use Rattle.transitions.specs.Limits.{most_clients}
use Rattle.transitions.specs.Engines.{engine_opening}
use Rattle.transitions.specs.EngineCalls.{turn_kind, turn_of, is_start, stands_in, has_polled, begun, first_polled, polled_by, told, first_refusal, refused_by, is_due_off, called_off, answered_by, after_poll_by, after_answer_in, register_reply, register_reply_in, tallies_in, IsEngineReply, engine_after, outcome_of}
use Rattle.transitions.specs.EngineHistories.{engine_replay}
use Rattle.transitions.specs.EnginePoints.{engine_past, state_at, tally_of}
use Rattle.transitions.specs.GivenTurns.{SpeaksFor}
use Rattle.transitions.specs.Marks.{is_mark, IsEndOf}
use Rattle.member_model.specs.RunEngines.{Sheet, Answer as ClientAnswer, Tally, ClientTally, EngineEntry, Underway, EngineState, EngineHistory, IsLegalEngine}
use Rattle.member_model.specs.Turns.{MemberTurn, HasTurn, HasAnswer, NoneOpen}
use Rattle.member_model.specs.TurnCalls.{turn_told, turn_answered, turns_with, member_turns}
use Rattle.history_laws.specs.BegunTurns.{IsOfBegin, HasTransition, IsAlone, WantsAlone, OneWantsDump, IsTallyOfTurn}
use Rattle.history_laws.specs.EngineLaws.{DonesHaveBegins, TalliesAreAnswers, RefusalsAreAnswers}
use Rattle.history_laws.proofs.Standing.{first_gone, first_fewer, next_called, KindFits, unrefused_kind, is_start_kind}
use Rattle.history_laws.proofs.Replies.{Begins, begins, GivesFirst, IsGiven, given_case, GivesTurn, gives_turn, Owes, owes, owes_none, IsToldAs, Refuses, answered_case, Finishes, finishes}
use Rattle.history_laws.proofs.TurnLists.{with_answer, told_new}
use Rattle.history_laws.proofs.Gave.{OpenFor, RunsOn, StandsAt, Gave, GaveAt, told_again, gave_step, gave_all, kept_all, gave_unaccepted, own_or_other, opening_gave}
use Rattle.history_laws.proofs.StateTold.{Follows, state_told}
use Rattle.history_laws.proofs.Begun.{FromBegin, from_begun, from_first, from_told, from_refused, from_off, turn_from, turn_of_begin, of_begin_answered, polled_underway, answered_underway}

-- Lists.

pub legal_apart : (s : EngineState) (xs ys : EngineHistory) → IsLegalEngine s (xs ++ ys) → IsLegalEngine s xs × IsLegalEngine (engine_replay s xs) ys
legal_apart s [] ys legal = (tt, legal)
legal_apart s (x ∷ xs) ys legal =
    let rest = legal_apart (engine_after s x.1) xs ys legal.2 in
    ((legal.0, legal.1, rest.0), rest.1)

pub speaks_apart : (by client : ℕ) (xs ys : EngineHistory) → SpeaksFor by client (xs ++ ys) → SpeaksFor by client xs × SpeaksFor by client ys
speaks_apart by client [] ys alone = (tt, alone)
speaks_apart by client (x ∷ xs) ys alone =
    let rest = speaks_apart by client xs ys alone.1 in
    ((alone.0, rest.0), rest.1)

pub all_front : {X : Type 0} (P : X → Type 0) (xs ys : List X) → AllByRecursion P (xs ++ ys) → AllByRecursion P xs
all_front P [] ys all = tt
all_front P (x ∷ xs) ys all = (all.0, all_front P xs ys all.1)

all_weaker : {X : Type 0} (P Q : X → Type 0) → ((x : X) → P x → Q x) → (xs : List X) → AllByRecursion P xs → AllByRecursion Q xs
all_weaker P Q weaker [] all = tt
all_weaker P Q weaker (x ∷ xs) all = (weaker x all.0, all_weaker P Q weaker xs all.1)

all_push : {X : Type 0} (P : X → Type 0) (xs : List X) (y : X) → AllByRecursion P xs → P y → AllByRecursion P (xs ++ y ∷ [])
all_push P [] y all here = (here, tt)
all_push P (x ∷ xs) y all here = (all.0, all_push P xs y all.1 here)

all_at : {X : Type 0} (P : X → Type 0) (xs : List X) (i : ℕ) (x : X) → AllByRecursion P xs → slice_get xs i ≡ Some x → P x
all_at P [] i x all e = absurd (cc (e))
all_at P (y ∷ ys) zero x all e = let same : y ≡ x = cc (e) in subst P same all.0
all_at P (y ∷ ys) (suc i) x all e = all_at P ys i x all.1 e

has_front : (xs ys : List MemberTurn) (t : MemberTurn) → HasTurn xs t → HasTurn (xs ++ ys) t
has_front [] ys t has = absurd has
has_front (x ∷ xs) ys t (inl same) = inl same
has_front (x ∷ xs) ys t (inr before) = inr (has_front xs ys t before)

-- An answered turn stays.

told_stays : (ts : List MemberTurn) (x t : MemberTurn) → HasTurn ts t → HasTurn (turn_told ts x) t
told_stays [] x t has = absurd has
told_stays (u ∷ us) x t has = split (is_some u.answer) (λ b. HasTurn (if b then x ∷ (u ∷ us) else u ∷ us) t) (λ h. inr has) (λ h. has)

answered_stays : (ts : List MemberTurn) (a answer : ClientAnswer) (t : MemberTurn) → t.answer ≡ Some answer → HasTurn ts t → HasTurn (turn_answered ts a) t
answered_stays [] a answer t is has = absurd has
answered_stays (u ∷ us) a answer t is has =
    split (is_some u.answer) (λ b. is_some u.answer ≡ b → HasTurn (if b then u ∷ us else with_answer u a ∷ us) t)
    (λ h e. has)
    (λ h e. elim has as (λ w. HasTurn (with_answer u a ∷ us) t) [
      | inl same ↦ absurd (let never : is_some u.answer ≡ true = ap (λ (v : MemberTurn). is_some v.answer) same ∙ ap is_some is in cc (never, e))
      | inr before ↦ inr before
    ])
    refl

pub step_stays : (client : ℕ) (ts : List MemberTurn) (e : EngineEntry) (answer : ClientAnswer) (t : MemberTurn) → t.answer ≡ Some answer → HasTurn ts t → HasTurn (turns_with client ts e) t
step_stays client ts (Poll other (Turn turn order dump blank)) answer t is has =
    let x : MemberTurn = record { transition = turn; order = order; dump = dump; answer = None } in
    split (other == client) (λ b. HasTurn (if b then turn_told ts x else ts) t) (λ h. told_stays ts x t has) (λ h. has)
step_stays client ts (Answer other a reply) answer t is has = split (other == client) (λ b. HasTurn (if b then turn_answered ts a else ts) t) (λ h. answered_stays ts a answer t is has) (λ h. has)
step_stays client ts entry answer t is has = has

pub all_stay : (client : ℕ) (ts : List MemberTurn) (es : List EngineEntry) (answer : ClientAnswer) (t : MemberTurn) → t.answer ≡ Some answer → HasTurn ts t → HasTurn (fold (turns_with client) ts es) t
all_stay client ts [] answer t is has = has
all_stay client ts (e ∷ es) answer t is has = all_stay client (turns_with client ts e) es answer t is (step_stays client ts e answer t is has)

-- What is so of one client alone.

abbrev pub OnlyIs : (P : Registered → Type 0) → (client : ℕ) → List Registered → Type 0
OnlyIs P client clients = (other : ℕ) (c : Registered) → slice_get clients other ≡ Some c → P c ↔ (other ≡ client)

abbrev WantsDump : Registered → Type 0
WantsDump c = c.wants_dump ≡ true

abbrev OnlyWants : (client : ℕ) → List Registered → Type 0
OnlyWants client clients = OnlyIs WantsDump client clients

count_in : (count n : ℕ) → Ok n ≡ register_reply_in {R = Totals} None count → n ≡ count
count_in count n e = split (nat_lt count most_clients) (λ b. Ok n ≡ (if b then Ok count else Err NoSlot) → n ≡ count) (λ h e'. cc) (λ h e'. absurd cc) e

register_number_in : (o : Option Underway) (count n : ℕ) → Ok n ≡ register_reply_in o count → (o ≡ None) × (n ≡ count)
register_number_in None count n e = (refl, count_in count n e)
register_number_in (Some u) count n e = absurd (cc (e))

pub register_number : (s : EngineState) (n : ℕ) → Ok n ≡ register_reply s → (s.underway ≡ None) × (n ≡ length s.clients)
register_number s n e =
    split s.closed (λ b. Ok n ≡ (if b then Err RegisterClosed else register_reply_in s.underway (length s.clients)) → (s.underway ≡ None) × (n ≡ length s.clients))
    (λ h e'. absurd cc) (λ h e'. register_number_in s.underway (length s.clients) n e') e

pub either_end : (cs : List Registered) (c d : Registered) (i : ℕ) → slice_get (cs ++ c ∷ []) i ≡ Some d → (slice_get cs i ≡ Some d) ⊎ ((i ≡ length cs) × (c ≡ d))
either_end [] c d zero e = inr (refl, cc (e))
either_end [] c d (suc i) e = absurd (cc (e))
either_end (y ∷ ys) c d zero e = inl e
either_end (y ∷ ys) c d (suc i) e = elim (either_end ys c d i e) as (λ w. (slice_get (y ∷ ys) (suc i) ≡ Some d) ⊎ ((suc i ≡ suc (length ys)) × (c ≡ d))) [
  | inl old ↦ inl old
  | inr new ↦ inr (omega (arith, new.0), new.1)
]

pub polled_clients : (s : EngineState) (client : ℕ) (turn : Transition) (order : Order) (dump : Option (List ℕ)) (p : GivesTurn s client turn order dump) → (after_poll_by s client (slice_get s.clients client)).clients ≡ s.clients
polled_clients s client turn order dump p = ap (λ (o : Option Registered). (after_poll_by s client o).clients) p.client_is

pub answered_clients : (s : EngineState) (client : ℕ) (answer : ClientAnswer) (o : Option Underway) → (after_answer_in s client answer o).clients ≡ s.clients
answered_clients s client answer None = refl
answered_clients s client answer (Some u) = refl

alone_step : (P : Registered → Type 0) (client : ℕ) (s : EngineState) (x : ℕ × EngineEntry) → OnlyIs P client s.clients → IsAlone P client x → IsEngineReply s x.1 → OnlyIs P client (engine_after s x.1).clients
alone_step P client s (by, Register name sequences dump report (Ok n)) only alone reply = λ other c at.
    let new : Registered = record { name = name; sequences = sequences; wants_dump = dump; wants_report = report } in
    elim (either_end s.clients new c other at) as (λ w. P c ↔ (other ≡ client)) [
      | inl old ↦ only other c old
      | inr here ↦
          let number : n ≡ other = (register_number s n reply).1 ∙ sym here.0 in
          subst (λ (m : ℕ). P c ↔ (m ≡ client)) number (subst (λ (r : Registered). P r ↔ (n ≡ client)) here.1 alone)
    ]
alone_step P client s (by, Register name sequences dump report (Err r)) only alone reply = only
alone_step P client s (by, Begin t sheet (Ok n)) only alone reply = only
alone_step P client s (by, Begin t sheet (Err r)) only alone reply = only
alone_step P client s (by, Poll other (Turn turn order dump blank)) only alone reply = subst (OnlyIs P client) (sym (polled_clients s other turn order dump (gives_turn s other turn order dump blank reply))) only
alone_step P client s (by, Poll other (Idle state)) only alone reply = only
alone_step P client s (by, Poll other PollClosed) only alone reply = only
alone_step P client s (by, Poll other NoClient) only alone reply = only
alone_step P client s (by, Answer other answer (Ok done)) only alone reply = subst (OnlyIs P client) (sym (answered_clients s other answer s.underway)) only
alone_step P client s (by, Answer other answer (Err r)) only alone reply = only
alone_step P client s (by, Check (Done outcome) tallies) only alone reply = only
alone_step P client s (by, Check Going tallies) only alone reply = only
alone_step P client s (by, Check NoneGoing tallies) only alone reply = only
alone_step P client s (by, Close (Ok done)) only alone reply = only
alone_step P client s (by, Close (Err r)) only alone reply = only

pub alone_all : (P : Registered → Type 0) (client : ℕ) (s : EngineState) (h : EngineHistory) → IsLegalEngine s h → AllByRecursion (IsAlone P client) h → OnlyIs P client s.clients → OnlyIs P client (engine_replay s h).clients
alone_all P client s [] legal alone only = only
alone_all P client s (x ∷ h) legal alone only = alone_all P client (engine_after s x.1) h legal.2 alone.1 (alone_step P client s x only alone.0 legal.1)

not_true : (b : Bool) → (b ≡ true → ⊥) → b ≡ false
not_true false never = refl
not_true true never = absurd (never refl)

-- The turns since the begin.

record SinceTurn (wants : Type 0) (came : RunState) (transition : Transition) (sheet : Sheet) (start : ℕ) (t : MemberTurn) : Type 0 where
  of_begin : IsOfBegin came transition sheet start t
  dump : wants → t.transition ≡ transition → t.dump ≡ sheet.dump

record IsTold (since : List MemberTurn) (tally : Tally) : Type 0 where
  turn : MemberTurn
  stands : HasTurn since turn
  answer : ClientAnswer
  answered : turn.answer ≡ Some answer
  tally_is : tally ≡ tally_of answer
  accepted : turn.transition ≡ Start → answer ≡ Yes tally

-- one of these turns is of a start, and was refused so
record IsRefused (since : List MemberTurn) (why : Why) : Type 0 where
  turn : MemberTurn
  stands : HasTurn since turn
  starts : turn.transition ≡ Start
  answered : turn.answer ≡ Some (No why)

-- where this client refused the start, that is what it answered to its turn
abbrev RefusesMine : (client : ℕ) → List MemberTurn → Option Refusal → Type 0
RefusesMine client since refusal = (r : Refusal) → refusal ≡ Some r → r.client ≡ client → IsRefused since r.why

abbrev TellsMine : (client : ℕ) → List MemberTurn → ClientTally → Type 0
TellsMine client since x = x.client ≡ client → IsTold since x.tally

-- the turn is of the transition itself
abbrev IsOfKind : Transition → MemberTurn → Type 0
IsOfKind transition t = t.transition ≡ transition

record Since (wants : Type 0) (came : RunState) (transition : Transition) (sheet : Sheet) (start client : ℕ) (past ts : List MemberTurn) (u : Underway) : Type 0 where
  from : FromBegin came transition sheet start u
  since : List MemberTurn
  ts_is : ts ≡ since ++ past
  turns : AllByRecursion (SinceTurn wants came transition sheet start) since
  plain : u.refusal ≡ None → AllByRecursion (IsOfKind transition) since
  told : AllByRecursion (TellsMine client since) u.tallies
  refused : RefusesMine client since u.refusal
  fresh : wants → u.is_off ≡ false → stands_in u.called client ≡ true → u.dump ≡ sheet.dump

-- A poll.

none_taken : (wish : Bool) (d : Option (List ℕ)) → wish ≡ false → (if wish then None else d) ≡ d
none_taken true d e = absurd (cc (e))
none_taken false d e = refl

all_given : (wish : Bool) (d : Option (List ℕ)) → wish ≡ true → (if wish then d else None) ≡ d
all_given true d e = refl
all_given false d e = absurd (cc (e))

-- a turn of a transition is none of its start-abort
kept_kind : (t transition : Transition) (r : Option Refusal) (is_off : Bool) → KindFits transition r is_off → turn_kind t is_off ≡ transition → is_off ≡ false
kept_kind t transition r false fits kind = refl
kept_kind t transition None true fits kind = absurd (cc (fits))
kept_kind t transition (Some refusal) true fits kind = absurd (let e : StartAbort ≡ Start = kind ∙ fits in cc (e))

told_weaker : (client : ℕ) (since more : List MemberTurn) → ((t : MemberTurn) (answer : ClientAnswer) → t.answer ≡ Some answer → HasTurn since t → HasTurn more t) → (xs : List ClientTally) → AllByRecursion (TellsMine client since) xs → AllByRecursion (TellsMine client more) xs
told_weaker client since more stays xs all =
    all_weaker (TellsMine client since) (TellsMine client more)
    (λ x tells mine. let it : IsTold since x.tally = tells mine in
    record { turn = it.turn; stands = stays it.turn it.answer it.answered it.stands; answer = it.answer; answered = it.answered; tally_is = it.tally_is; accepted = it.accepted })
    xs all

since_first : (wants : Type 0) (came : RunState) (transition : Transition) (sheet : Sheet) (start client : ℕ) (past ts : List MemberTurn) (u : Underway) (c : Registered) (dump : Option (List ℕ)) → Since wants came transition sheet start client past ts u → (wants → c.wants_dump ≡ true)
    → GivesFirst c u client dump → NoneOpen ts → Since wants came transition sheet start client past (turn_told ts (turn_from u dump)) (first_polled client c u)
since_first wants came transition sheet start client past ts u c dump s wish first none =
    let t : MemberTurn = turn_from u dump in
    record {
      from = from_first came transition sheet start u client c s.from;
      since = t ∷ s.since;
      ts_is = told_new ts t none ∙ ap (λ (xs : List MemberTurn). t ∷ xs) s.ts_is;
      turns = (
        record {
          of_begin = turn_of_begin came transition sheet start u client c dump s.from (inr first);
          dump = λ w kind. first.dump_is ∙ (all_given c.wants_dump u.dump (wish w) ∙ s.fresh w (kept_kind u.transition transition u.refusal u.is_off s.from.kind kind) (next_called u client first.next));
        },
        s.turns,
      );
      plain = λ none. (ap (turn_kind u.transition) (unrefused_kind transition u.refusal u.is_off s.from.kind none) ∙ s.from.transition_is, s.plain none);
      told = told_weaker client s.since (t ∷ s.since) (λ v answer is has. inr has) u.tallies s.told;
      refused = λ r is mine. let it : IsRefused s.since r.why = s.refused r is mine in record { turn = it.turn; stands = inr it.stands; starts = it.starts; answered = it.answered };
      fresh = λ w off is. absurd (let never : false ≡ true = sym (first_gone client c u) ∙ is in cc (never));
    }

since_other : (wants : Type 0) (came : RunState) (transition : Transition) (sheet : Sheet) (start client other : ℕ) (past ts : List MemberTurn) (u : Underway) (c : Registered) → Since wants came transition sheet start client past ts u → (wants → c.wants_dump ≡ false)
    → Since wants came transition sheet start client past ts (first_polled other c u)
since_other wants came transition sheet start client other past ts u c s wish = record {
  from = from_first came transition sheet start u other c s.from;
  since = s.since;
  ts_is = s.ts_is;
  turns = s.turns;
  plain = s.plain;
  told = s.told;
  refused = s.refused;
  fresh = λ w off is. none_taken c.wants_dump u.dump (wish w) ∙ s.fresh w off (first_fewer client other c u is);
}

since_polled : (wants : Type 0) (came : RunState) (transition : Transition) (sheet : Sheet) (start client other : ℕ) (past ts : List MemberTurn) (state : RunState) (number : ℕ) (u : Underway) (c : Registered) (clients : List Registered) (dump : Option (List ℕ))
    → GaveAt state number client ts (Some u) → Since wants came transition sheet start client past ts u → (wants → OnlyWants client clients) → slice_get clients other ≡ Some c → IsGiven c u other dump
    → Since wants came transition sheet start client past (if other == client then turn_told ts (turn_from u dump) else ts) (polled_by other c u)
since_polled wants came transition sheet start client other past ts state number u c clients dump g s only there given =
    let t : MemberTurn = turn_from u dump in
    let now : RunsOn state number client ts u = g.now in
    split (other == client) (λ b. (other == client) ≡ b → Since wants came transition sheet start client past (if b then turn_told ts t else ts) (polled_by other c u))
    (λ h e.
    let same : other ≡ client = eqb-true other client e in
    given_case (Since wants came transition sheet start client past (turn_told ts t)) other c u dump given
    (λ again. subst (λ (x : List MemberTurn). Since wants came transition sheet start client past x u) (sym (told_again client ts u t now.open_turn (subst (λ (n : ℕ). has_polled u n ≡ true) same again.polled))) s)
    (λ first.
    let mine : GivesFirst c u client dump = subst (λ (n : ℕ). GivesFirst c u n dump) same first in
    subst (λ (n : ℕ). Since wants came transition sheet start client past (turn_told ts t) (first_polled n c u)) (sym same)
    (since_first wants came transition sheet start client past ts u c dump s (λ w. (only w other c there).1 same) mine (subst (λ (b : Bool). OpenFor b u ts) mine.fresh now.open_turn))))
    (λ h e.
    given_case (Since wants came transition sheet start client past ts) other c u dump given (λ again. s)
    (λ first. since_other wants came transition sheet start client other past ts u c s (λ w. not_true c.wants_dump (λ wish. eqb-false other client e ((only w other c there).0 wish)))))
    refl

-- An answer.

-- the latest turn, which is not answered, came since the begin
record LatestSince (since : List MemberTurn) (t : MemberTurn) : Type 0 where
  rest : List MemberTurn
  is : since ≡ t ∷ rest

latest_since : (since past rest : List MemberTurn) (t : MemberTurn) → t.answer ≡ None → NoneOpen past → since ++ past ≡ t ∷ rest → LatestSince since t
latest_since [] past rest t unanswered none is = absurd (subst HasAnswer unanswered (subst NoneOpen is none))
latest_since (x ∷ xs) past rest t unanswered none is =
    let same : x ≡ t = cc (is) in
    record { rest = xs; is = ap (λ (y : MemberTurn). y ∷ xs) same }

-- what the client's answer leaves of the turns since
record AnsweredSince (wants : Type 0) (came : RunState) (transition : Transition) (sheet : Sheet) (start client : ℕ) (past ts : List MemberTurn) (tallies : List ClientTally) (refusal : Option Refusal) (kind : Transition) (answer : ClientAnswer) : Type 0 where
  since : List MemberTurn
  ts_is : ts ≡ since ++ past
  turns : AllByRecursion (SinceTurn wants came transition sheet start) since
  plain : refusal ≡ None → AllByRecursion (IsOfKind transition) since
  told : AllByRecursion (TellsMine client since) tallies
  refused : RefusesMine client since refusal
  latest : MemberTurn
  stands : HasTurn since latest
  answered : latest.answer ≡ Some answer
  of_kind : latest.transition ≡ kind

answered_since : (wants : Type 0) (came : RunState) (transition : Transition) (sheet : Sheet) (start client : ℕ) (past ts : List MemberTurn) (u : Underway) (answer : ClientAnswer) → Since wants came transition sheet start client past ts u → NoneOpen past → OpenFor true u ts
    → AnsweredSince wants came transition sheet start client past (turn_answered ts answer) u.tallies u.refusal (turn_of u) answer
answered_since wants came transition sheet start client past ts u answer s none still =
    let t : MemberTurn = turn_from u still.0 in
    let latest : LatestSince s.since t = latest_since s.since past still.1 t refl none (sym s.ts_is ∙ still.2) in
    let turns : AllByRecursion (SinceTurn wants came transition sheet start) (t ∷ latest.rest) = subst (AllByRecursion (SinceTurn wants came transition sheet start)) latest.is s.turns in
    let told_so : AllByRecursion (TellsMine client (t ∷ latest.rest)) u.tallies = subst (λ (xs : List MemberTurn). AllByRecursion (TellsMine client xs) u.tallies) latest.is s.told in
    record {
      since = with_answer t answer ∷ latest.rest;
      ts_is = ap (λ (xs : List MemberTurn). turn_answered xs answer) (s.ts_is ∙ ap (λ (xs : List MemberTurn). xs ++ past) latest.is);
      turns = (record { of_begin = of_begin_answered came transition sheet start t answer turns.0.of_begin; dump = turns.0.dump }, turns.1);
      plain = λ un. let all : AllByRecursion (IsOfKind transition) (t ∷ latest.rest) = subst (AllByRecursion (IsOfKind transition)) latest.is (s.plain un) in (all.0, all.1);
      told = told_weaker client (t ∷ latest.rest) (with_answer t answer ∷ latest.rest) stays u.tallies told_so;
      refused = λ r is mine.
          let it : IsRefused (t ∷ latest.rest) r.why = subst (λ (xs : List MemberTurn). IsRefused xs r.why) latest.is (s.refused r is mine) in
          record { turn = it.turn; stands = stays it.turn (No r.why) it.answered it.stands; starts = it.starts; answered = it.answered };
      latest = with_answer t answer;
      stands = inl refl;
      answered = refl;
      of_kind = refl;
    }
  where
    stays : (v : MemberTurn) (a : ClientAnswer) → v.answer ≡ Some a → HasTurn (turn_from u still.0 ∷ (latest_since s.since past still.1 (turn_from u still.0) refl none (sym s.ts_is ∙ still.2)).rest) v
        → HasTurn (with_answer (turn_from u still.0) answer ∷ (latest_since s.since past still.1 (turn_from u still.0) refl none (sym s.ts_is ∙ still.2)).rest) v
    stays v a is (inl same) = absurd (let e : None ≡ Some a = ap (λ (x : MemberTurn). x.answer) same ∙ is in cc (e))
    stays v a is (inr before) = inr before

-- the turns since, once this client or another answered
abbrev Behind : (wants : Type 0) → RunState → Transition → Sheet → (start client other : ℕ) → (past ts : List MemberTurn) → Underway → ClientAnswer → Type 0
Behind wants came transition sheet start client other past ts u answer = (other ≡ client) × AnsweredSince wants came transition sheet start client past ts u.tallies u.refusal (turn_of u) answer ⊎ (other ≢ client) × Since wants came transition sheet start client past ts u

since_told : (wants : Type 0) (came : RunState) (transition : Transition) (sheet : Sheet) (start client other : ℕ) (past ts later : List MemberTurn) (u : Underway) (answer : ClientAnswer) (tally : Tally) → Since wants came transition sheet start client past ts u
    → IsToldAs u answer tally → Behind wants came transition sheet start client other past later u answer → Since wants came transition sheet start client past later (told other tally u)
since_told wants came transition sheet start client other past ts later u answer tally s is (inl (same, a)) = record {
  from = from_told came transition sheet start u other tally s.from;
  since = a.since;
  ts_is = a.ts_is;
  turns = a.turns;
  plain = a.plain;
  told = all_push (TellsMine client a.since) u.tallies (record { client = other; tally = tally }) a.told
      (λ mine. record { turn = a.latest; stands = a.stands; answer = answer; answered = a.answered; tally_is = is.tally_is; accepted = λ starts. is.accepted (ap is_start (sym a.of_kind ∙ starts)) });
  refused = a.refused;
  fresh = s.fresh;
}
since_told wants came transition sheet start client other past ts later u answer tally s is (inr (differs, b)) = record {
  from = from_told came transition sheet start u other tally s.from;
  since = b.since;
  ts_is = b.ts_is;
  turns = b.turns;
  plain = b.plain;
  told = all_push (TellsMine client b.since) u.tallies (record { client = other; tally = tally }) b.told (λ mine. absurd (differs mine));
  refused = b.refused;
  fresh = s.fresh;
}

-- the first refusal stays
first_by : (r : Option Refusal) (x : Refusal) (other : ℕ) (why : Why) → Some (first_refusal r other why) ≡ Some x → (r ≡ Some x) ⊎ (r ≡ None) × (other ≡ x.client) × (why ≡ x.why)
first_by None x other why e = inr (refl, cc (e), cc (e))
first_by (Some r) x other why e = inl e

since_refused : (wants : Type 0) (came : RunState) (transition : Transition) (sheet : Sheet) (start client other : ℕ) (past ts later : List MemberTurn) (u : Underway) (why : Why) (answer : ClientAnswer) → Since wants came transition sheet start client past ts u
    → Refuses u answer why → Behind wants came transition sheet start client other past later u answer → Since wants came transition sheet start client past later (refused_by other why u)
since_refused wants came transition sheet start client other past ts later u why answer s refuses (inl (same, a)) = record {
  from = from_refused came transition sheet start u other why refuses.starts s.from;
  since = a.since;
  ts_is = a.ts_is;
  turns = a.turns;
  plain = λ un. absurd (cc (un));
  told = a.told;
  refused = λ r is mine. elim (first_by u.refusal r other why is) [
    | inl before ↦ a.refused r before mine
    | inr first ↦
        record { turn = a.latest; stands = a.stands; starts = a.of_kind ∙ is_start_kind (turn_of u) refuses.starts; answered = a.answered ∙ (ap (λ (x : ClientAnswer). Some x) refuses.is ∙ ap (λ (w : Why). Some (No w)) first.2) }
  ];
  fresh = λ w off is. absurd (cc (is));
}
since_refused wants came transition sheet start client other past ts later u why answer s refuses (inr (differs, b)) = record {
  from = from_refused came transition sheet start u other why refuses.starts s.from;
  since = b.since;
  ts_is = b.ts_is;
  turns = b.turns;
  plain = λ un. absurd (cc (un));
  told = b.told;
  refused = λ r is mine. elim (first_by u.refusal r other why is) [
    | inl before ↦ b.refused r before mine
    | inr first ↦ absurd (differs (first.1 ∙ mine))
  ];
  fresh = λ w off is. absurd (cc (is));
}

since_off : (wants : Type 0) (came : RunState) (transition : Transition) (sheet : Sheet) (start client : ℕ) (past ts : List MemberTurn) (clients : List Registered) (v : Underway) → is_due_off v.refusal v.polled v.is_off ≡ true → Since wants came transition sheet start client past ts v
    → Since wants came transition sheet start client past ts (called_off clients v)
since_off wants came transition sheet start client past ts clients v is s = record {
  from = from_off came transition sheet start clients v is s.from;
  since = s.since;
  ts_is = s.ts_is;
  turns = s.turns;
  plain = s.plain;
  told = s.told;
  refused = s.refused;
  fresh = λ w off is. absurd (cc (off));
}

since_by : (wants : Type 0) (came : RunState) (transition : Transition) (sheet : Sheet) (start client other : ℕ) (past ts later : List MemberTurn) (u : Underway) (clients : List Registered) (answer : ClientAnswer) → Since wants came transition sheet start client past ts u
    → Behind wants came transition sheet start client other past later u answer → Since wants came transition sheet start client past later (answered_by clients other answer u)
since_by wants came transition sheet start client other past ts later u clients answer s behind =
    answered_case (Since wants came transition sheet start client past later) clients other answer u
    (λ tally is. since_told wants came transition sheet start client other past ts later u answer tally s is behind)
    (λ why is. since_refused wants came transition sheet start client other past ts later u why answer s is behind)
    (λ v is kept. since_off wants came transition sheet start client past later clients v is kept)

since_answered : (wants : Type 0) (came : RunState) (transition : Transition) (sheet : Sheet) (start client other : ℕ) (past ts : List MemberTurn) (state : RunState) (number : ℕ) (u : Underway) (clients : List Registered) (answer : ClientAnswer)
    → GaveAt state number client ts (Some u) → Since wants came transition sheet start client past ts u → NoneOpen past → has_polled u other ≡ true
    → Since wants came transition sheet start client past (if other == client then turn_answered ts answer else ts) (answered_by clients other answer u)
since_answered wants came transition sheet start client other past ts state number u clients answer g s none polled =
    let now : RunsOn state number client ts u = g.now in
    split (other == client) (λ b. (other == client) ≡ b → Since wants came transition sheet start client past (if b then turn_answered ts answer else ts) (answered_by clients other answer u))
    (λ h e.
    let same : other ≡ client = eqb-true other client e in
    let still : OpenFor true u ts = subst (λ (b : Bool). OpenFor b u ts) (subst (λ (n : ℕ). has_polled u n ≡ true) same polled) now.open_turn in
    since_by wants came transition sheet start client other past ts (turn_answered ts answer) u clients answer s (inl (same, answered_since wants came transition sheet start client past ts u answer s none still)))
    (λ h e. since_by wants came transition sheet start client other past ts ts u clients answer s (inr (eqb-false other client e, s)))
    refl

-- One call.

record Goes (wants : Type 0) (came : RunState) (transition : Transition) (sheet : Sheet) (start client : ℕ) (past ts : List MemberTurn) (s : EngineState) : Type 0 where
  u : Underway
  underway_is : s.underway ≡ Some u
  only : wants → OnlyWants client s.clients
  since : Since wants came transition sheet start client past ts u

pub same_underway : (s : EngineState) (u v : Underway) → s.underway ≡ Some u → s.underway ≡ Some v → u ≡ v
same_underway s u v one other = let both : Some u ≡ Some v = sym one ∙ other in cc (both)

goes_step : (wants : Type 0) (came : RunState) (transition : Transition) (sheet : Sheet) (start client : ℕ) (past ts : List MemberTurn) (s : EngineState) (e : EngineEntry) → Gave s client ts → NoneOpen past → is_mark e ≡ false → IsEngineReply s e
    → Goes wants came transition sheet start client past ts s → Goes wants came transition sheet start client past (turns_with client ts e) (engine_after s e)
goes_step wants came transition sheet start client past ts s (Register name sequences dump report (Ok n)) g none mark reply goes =
    absurd (let never : None ≡ Some goes.u = sym (register_number s n reply).0 ∙ goes.underway_is in cc (never))
goes_step wants came transition sheet start client past ts s (Begin t sheet' (Ok n)) g none mark reply goes = absurd (cc (mark))
goes_step wants came transition sheet start client past ts s (Check (Done outcome) tallies) g none mark reply goes = absurd (cc (mark))
goes_step wants came transition sheet start client past ts s (Poll other (Turn turn order dump blank)) g none mark reply goes =
    let p : GivesTurn s other turn order dump = gives_turn s other turn order dump blank reply in
    let told_so : MemberTurn = record { transition = turn; order = order; dump = dump; answer = None } in
    let same : turn_from p.u dump ≡ told_so = ap (λ (k : Transition). record { transition = k; order = p.u.order; dump = dump; answer = None }) (sym p.turn_is) ∙ ap (λ (o : Order). record { transition = turn; order = o; dump = dump; answer = None }) (sym p.order_is) in
    let since : Since wants came transition sheet start client past ts p.u = subst (Since wants came transition sheet start client past ts) (same_underway s goes.u p.u goes.underway_is p.underway_is) goes.since in
    let at : GaveAt s.state s.start client ts (Some p.u) = subst (GaveAt s.state s.start client ts) p.underway_is g in
    record {
      u = polled_by other p.c p.u;
      underway_is = polled_underway s other p.c p.u p.client_is p.underway_is;
      only = λ w. subst (OnlyWants client) (sym (polled_clients s other turn order dump p)) (goes.only w);
      since = subst (λ (x : MemberTurn). Since wants came transition sheet start client past (if other == client then turn_told ts x else ts) (polled_by other p.c p.u)) same
          (since_polled wants came transition sheet start client other past ts s.state s.start p.u p.c s.clients dump at since goes.only p.client_is p.given);
    }
goes_step wants came transition sheet start client past ts s (Answer other answer (Ok done)) g none mark reply goes =
    let o : Owes s other = owes s other done reply in
    let since : Since wants came transition sheet start client past ts o.u = subst (Since wants came transition sheet start client past ts) (same_underway s goes.u o.u goes.underway_is o.underway_is) goes.since in
    let at : GaveAt s.state s.start client ts (Some o.u) = subst (GaveAt s.state s.start client ts) o.underway_is g in
    record {
      u = answered_by s.clients other answer o.u;
      underway_is = answered_underway s other answer o.u o.underway_is;
      only = λ w. subst (OnlyWants client) (sym (answered_clients s other answer s.underway)) (goes.only w);
      since = since_answered wants came transition sheet start client other past ts s.state s.start o.u s.clients answer at since none o.polled;
    }
goes_step wants came transition sheet start client past ts s (Answer other answer (Err r)) g none mark reply goes =
    subst (λ (x : List MemberTurn). Goes wants came transition sheet start client past x s) (sym (gave_unaccepted s client other ts answer g (owes_none s other r reply))) goes
goes_step wants came transition sheet start client past ts s (Close (Ok done)) g none mark reply goes = record { u = goes.u; underway_is = goes.underway_is; only = goes.only; since = goes.since }
goes_step wants came transition sheet start client past ts s (Register name sequences dump report (Err r)) g none mark reply goes = goes
goes_step wants came transition sheet start client past ts s (Begin t sheet' (Err r)) g none mark reply goes = goes
goes_step wants came transition sheet start client past ts s (Poll other (Idle state)) g none mark reply goes = goes
goes_step wants came transition sheet start client past ts s (Poll other PollClosed) g none mark reply goes = goes
goes_step wants came transition sheet start client past ts s (Poll other NoClient) g none mark reply goes = goes
goes_step wants came transition sheet start client past ts s (Check Going tallies) g none mark reply goes = goes
goes_step wants came transition sheet start client past ts s (Check NoneGoing tallies) g none mark reply goes = goes
goes_step wants came transition sheet start client past ts s (Close (Err r)) g none mark reply goes = goes

pub unrefused : (r : Option Refusal) → Completed ≡ outcome_of r → r ≡ None
unrefused None e = refl
unrefused (Some refusal) e = absurd (cc (e))

-- From the begin to the Done.

goes_begun : (wants : Type 0) (came : RunState) (client : ℕ) (ts : List MemberTurn) (s : EngineState) (t : Transition) (sheet : Sheet) (n : ℕ) → s.state ≡ came → Begins s t n → (wants → OnlyWants client s.clients)
    → Goes wants came t sheet n client ts ts (engine_after s (Begin t sheet (Ok n)))
goes_begun wants came client ts s t sheet n is b only = record {
  u = begun s t sheet n;
  underway_is = refl;
  only = only;
  since = record { from = from_begun came s t sheet n is b.allowed; since = []; ts_is = refl; turns = tt; plain = λ un. tt; told = tt; refused = λ r is' mine. absurd (cc (is')); fresh = λ w refusal is'. refl };
}

-- the turns of the caller's calls in two parts
pub turns_apart : (by client : ℕ) (ts : List MemberTurn) (xs ys : EngineHistory) → fold (turns_with client) ts (entries_by by (xs ++ ys)) ≡ fold (turns_with client) (fold (turns_with client) ts (entries_by by xs)) (entries_by by ys)
turns_apart by client ts xs ys = ap (fold (turns_with client) ts) (entries_by-append by xs ys) ∙ fold-append (turns_with client) ts (entries_by by xs) (entries_by by ys)

-- a begin is no call of a client
pub turns_begin : (by client : ℕ) (ts : List MemberTurn) (opener : ℕ) (t : Transition) (sheet : Sheet) (n : ℕ) (ys : EngineHistory) → fold (turns_with client) ts (entries_by by ((opener, Begin t sheet (Ok n)) ∷ ys)) ≡ fold (turns_with client) ts (entries_by by ys)
turns_begin by client ts opener t sheet n ys =
    own_or_other by client (opener, Begin t sheet (Ok n)) ys (λ es. fold (turns_with client) ts es ≡ fold (turns_with client) ts (entries_by by ys)) (λ (is : false ≡ true). absurd (cc (is))) refl (λ not. refl)

at_turn : (P : MemberTurn → Type 0) (t : MemberTurn) (xs : List MemberTurn) → AllByRecursion P xs → HasTurn xs t → P t
at_turn P t [] all has = absurd has
at_turn P t (x ∷ xs) all (inl same) = subst P same all.0
at_turn P t (x ∷ xs) all (inr before) = at_turn P t xs all.1 before

-- what the Done tells, and that it is still so at the history's end
tally_told : (wants : Type 0) (came : RunState) (transition : Transition) (sheet : Sheet) (start by client : ℕ) (past ts : List MemberTurn) (s : EngineState) (closer : ℕ) (outcome : StartOutcome) (tallies : List ClientTally) (later : EngineHistory) (index : ℕ) (tally : Tally)
    → Goes wants came transition sheet start client past ts s → IsEngineReply s (Check (Done outcome) tallies) → slice_get tallies index ≡ Some (record { client = client; tally = tally })
    → (history : EngineHistory) → (OneWantsDump client history → wants) → IsTallyOfTurn history client (fold (turns_with client) ts (entries_by by ((closer, Check (Done outcome) tallies) ∷ later))) came transition sheet start outcome tally
tally_told wants came transition sheet start by client past ts s closer outcome tallies later index tally goes reply at history wish =
    let told_so : tallies ≡ goes.u.tallies = reply.1 ∙ (ap (λ (p : Progress). tallies_in p s.underway) (sym reply.0) ∙ ap (tallies_in (Done outcome)) goes.underway_is) in
    let mine : IsTold goes.since.since tally =
    all_at (TellsMine client goes.since.since) goes.u.tallies index (record { client = client; tally = tally }) goes.since.told (subst (λ (xs : List ClientTally). slice_get xs index ≡ Some (record { client = client; tally = tally })) told_so at) refl in
    let turn : SinceTurn wants came transition sheet start mine.turn = at_turn (SinceTurn wants came transition sheet start) mine.turn goes.since.since goes.since.turns mine.stands in
    let there : HasTurn ts mine.turn = subst (λ (xs : List MemberTurn). HasTurn xs mine.turn) (sym goes.since.ts_is) (has_front goes.since.since past mine.turn mine.stands) in
    record {
      turn = mine.turn;
      stands = all_stay client ts (entries_by by ((closer, Check (Done outcome) tallies) ∷ later)) mine.answer mine.turn mine.answered there;
      of_begin = turn.of_begin;
      answer = mine.answer;
      answered = mine.answered;
      tally_is = mine.tally_is;
      accepted = mine.accepted;
      completed = λ done.
          let f : Finishes s outcome = finishes s outcome reply.0 in
          let un : f.u.refusal ≡ None = unrefused f.u.refusal (sym done ∙ f.outcome_is) in
          let mine_un : goes.u.refusal ≡ None = ap (λ (u : Underway). u.refusal) (same_underway s goes.u f.u goes.underway_is f.underway_is) ∙ un in
          at_turn (IsOfKind transition) mine.turn goes.since.since (goes.since.plain mine_un) mine.stands;
      dump = λ one kind. turn.dump (wish one) kind;
    }

rests_none : (client : ℕ) (ts : List MemberTurn) (s : EngineState) → s.underway ≡ None → Gave s client ts → NoneOpen ts
rests_none client ts s free g = (subst (StandsAt s.state s.start client ts) free g.now).none

pub opening_alone : (P : Registered → Type 0) (client : ℕ) → OnlyIs P client []
opening_alone P client = λ other c at. absurd (cc (at))

-- the client's turns since the begin, at the Done
record AtDone (by client : ℕ) (history : EngineHistory) (transition : Transition) (sheet : Sheet) (start : ℕ) (outcome : StartOutcome) (tallies : List ClientTally) (has : HasTransition history transition sheet start outcome tallies) : Type 0 where
  past : List MemberTurn
  ts : List MemberTurn
  engine : EngineState
  goes : Goes (OneWantsDump client has.earlier) (state_at (engine_past has.earlier)) transition sheet start client past ts engine
  reply : IsEngineReply engine (Check (Done outcome) tallies)
  turns_are : member_turns client (entries_by by history) ≡ fold (turns_with client) ts (entries_by by ((has.closer, Check (Done outcome) tallies) ∷ has.later))

at_done : Follows → (by client : ℕ) (history : EngineHistory) → IsLegalEngine engine_opening history → SpeaksFor by client history → (transition : Transition) (sheet : Sheet) (start : ℕ) (outcome : StartOutcome) (tallies : List ClientTally)
    → (has : HasTransition history transition sheet start outcome tallies) → AtDone by client history transition sheet start outcome tallies has
at_done follows by client history legal alone transition sheet start outcome tallies has =
    let wants : Type 0 = OneWantsDump client has.earlier in
    let came : RunState = state_at (engine_past has.earlier) in
    let begin : ℕ × EngineEntry = (has.opener, Begin transition sheet (Ok start)) in
    let done : ℕ × EngineEntry = (has.closer, Check (Done outcome) tallies) in
    let rest : EngineHistory = has.between ++ done ∷ has.later in
    let s1 : EngineState = engine_replay engine_opening has.earlier in
    let first = legal_apart engine_opening has.earlier (begin ∷ rest) (subst (IsLegalEngine engine_opening) has.whole legal) in
    let s2 : EngineState = engine_after s1 begin.1 in
    let second = legal_apart s2 has.between (done ∷ has.later) first.1.2 in
    let speaks = speaks_apart by client has.earlier (begin ∷ rest) (subst (SpeaksFor by client) has.whole alone) in
    let speaks_later = speaks_apart by client has.between (done ∷ has.later) speaks.1.1 in
    let ts1 : List MemberTurn = fold (turns_with client) [] (entries_by by has.earlier) in
    let g1 : Gave s1 client ts1 = gave_all engine_opening by client has.earlier [] first.0 speaks.0 (opening_gave client) in
    let b : Begins s1 transition start = begins s1 transition start first.1.1 in
    let g2 : Gave s2 client ts1 = gave_step s1 client ts1 begin.1 g1 first.1.1 in
    let none : NoneOpen ts1 = rests_none client ts1 s1 b.free g1 in
    let goes2 : Goes wants came transition sheet start client ts1 ts1 s2 = goes_begun wants came client ts1 s1 transition sheet start (state_told follows has.earlier first.0 has.opener transition sheet start first.1.0 first.1.1) b (λ w. alone_all WantsDump client engine_opening has.earlier first.0 w (opening_alone WantsDump client)) in
    record {
      past = ts1;
      ts = fold (turns_with client) ts1 (entries_by by has.between);
      engine = engine_replay s2 has.between;
      goes = kept_all by client (Goes wants came transition sheet start client ts1) (λ ts s e g. goes_step wants came transition sheet start client ts1 ts s e g none) ts1 s2 has.between second.0 speaks_later.0 has.on g2 goes2;
      reply = second.1.1;
      turns_are = ap (λ (h : EngineHistory). member_turns client (entries_by by h)) has.whole
          ∙ (turns_apart by client [] has.earlier (begin ∷ rest) ∙ (turns_begin by client ts1 has.opener transition sheet start rest ∙ turns_apart by client ts1 has.between (done ∷ has.later)));
    }

pub tallies_are_answers : Follows → TalliesAreAnswers
tallies_are_answers follows by client history legal alone transition sheet start outcome tallies has index tally at =
    let d : AtDone by client history transition sheet start outcome tallies has = at_done follows by client history legal alone transition sheet start outcome tallies has in
    let begin : ℕ × EngineEntry = (has.opener, Begin transition sheet (Ok start)) in
    let rest : EngineHistory = has.between ++ (has.closer, Check (Done outcome) tallies) ∷ has.later in
    subst (λ (xs : List MemberTurn). IsTallyOfTurn history client xs (state_at (engine_past has.earlier)) transition sheet start outcome tally) (sym d.turns_are)
    (tally_told (OneWantsDump client has.earlier) (state_at (engine_past has.earlier)) transition sheet start by client d.past d.ts d.engine has.closer outcome tallies has.later index tally d.goes d.reply at history
    (λ one. all_front (WantsAlone client) has.earlier (begin ∷ rest) (subst (OneWantsDump client) has.whole one)))

-- A refusal.

pub refusal_is : (r : Option Refusal) (client : ℕ) (why : Why) → Refused client why ≡ outcome_of r → r ≡ Some (record { client = client; why = why })
refusal_is None client why e = absurd (cc (e))
refusal_is (Some refusal) client why e =
    let client_is : refusal.client ≡ client = cc (e) in
    let why_is : refusal.why ≡ why = cc (e) in
    ap (λ (n : ℕ). Some (record { client = n; why = refusal.why })) client_is ∙ ap (λ (w : Why). Some (record { client = client; why = w })) why_is

pub refusals_are_answers : Follows → RefusalsAreAnswers
refusals_are_answers follows by client history legal alone sheet start why tallies has =
    let outcome : StartOutcome = Refused client why in
    let d : AtDone by client history Start sheet start outcome tallies has = at_done follows by client history legal alone Start sheet start outcome tallies has in
    let came : RunState = state_at (engine_past has.earlier) in
    let wants : Type 0 = OneWantsDump client has.earlier in
    let f : Finishes d.engine outcome = finishes d.engine outcome d.reply.0 in
    let said : f.u.refusal ≡ Some (record { client = client; why = why }) = refusal_is f.u.refusal client why f.outcome_is in
    let refusal : d.goes.u.refusal ≡ Some (record { client = client; why = why }) = ap (λ (u : Underway). u.refusal) (same_underway d.engine d.goes.u f.u d.goes.underway_is f.underway_is) ∙ said in
    let mine : IsRefused d.goes.since.since why = d.goes.since.refused (record { client = client; why = why }) refusal refl in
    let turn : SinceTurn wants came Start sheet start mine.turn = at_turn (SinceTurn wants came Start sheet start) mine.turn d.goes.since.since d.goes.since.turns mine.stands in
    let there : HasTurn d.ts mine.turn = subst (λ (xs : List MemberTurn). HasTurn xs mine.turn) (sym d.goes.since.ts_is) (has_front d.goes.since.since d.past mine.turn mine.stands) in
    let done : ℕ × EngineEntry = (has.closer, Check (Done outcome) tallies) in
    record {
      turn = mine.turn;
      stands = subst (λ (xs : List MemberTurn). HasTurn xs mine.turn) (sym d.turns_are) (all_stay client d.ts (entries_by by (done ∷ has.later)) (No why) mine.turn mine.answered there);
      of_begin = turn.of_begin;
      starts = mine.starts;
      answered = mine.answered;
    }

-- Which begin.

-- the law of the begin of a Done
abbrev pub TalliesBelong : Type 0
TalliesBelong = (before after : EngineHistory) → (caller : ℕ) → (outcome : StartOutcome) → (tallies : List ClientTally) →
    IsLegalEngine engine_opening (before ++ (caller, Check (Done outcome) tallies) ∷ after) → (transition : Transition) × IsEndOf before transition tallies

pub dones_have_begins : TalliesBelong → DonesHaveBegins
dones_have_begins belong before after caller outcome tallies legal =
    let it : (transition : Transition) × IsEndOf before transition tallies = belong before after caller outcome tallies legal in
    let w = it.1.underway in
    let done : ℕ × EngineEntry = (caller, Check (Done outcome) tallies) in (
      it.0,
      w.sheet,
      w.start,
      record {
        earlier = w.earlier;
        between = w.later;
        later = after;
        opener = w.caller;
        closer = caller;
        whole = ap (λ (h : EngineHistory). h ++ done ∷ after) w.stands ∙ append_assoc w.earlier ((w.caller, Begin it.0 w.sheet (Ok w.start)) ∷ w.later) (done ∷ after);
        on = w.on;
      },
      w.stands,
    )
