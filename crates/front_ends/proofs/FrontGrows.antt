-- What a front-end keeps, as turns and calls are added.
use Rattle.std.specs.Prelude.{◌≡◌, ◌≢◌, ℕ, zero, suc, ◌+◌, ◌≤◌, Bool, true, false, ◌||◌, nat_le, is_some, if◌then◌else◌, List, [], ◌∷◌, ◌++◌, length, Option, Some, None, refl}
use Rattle.std.proofs.Common.{ap, sym, subst, ◌∙◌, append_assoc, add-one, inl, inr, arith, length-append}
use Rattle.std.proofs.lemmas.Bool.{leb-true}
use Rattle.std.proofs.lemmas.List.{append-nil}
use Rattle.daq_types.specs.declared.events.Event.{Event}
use Rattle.daq_types.specs.declared.runs.Order.{Order}
use Rattle.daq_types.specs.declared.runs.RunState.{RunState}
use Rattle.daq_types.specs.declared.runs.RunState.TheVariants.{Stopped, Paused, Running}
use Rattle.daq_types.specs.declared.runs.Transition.{Transition}
use Rattle.daq_types.specs.declared.runs.Transition.TheVariants.{Start, Stop}
use Rattle.daq_types.specs.declared.runs.Why.TheVariants.{NotReady}
use Rattle.daq_types.specs.declared.runs.FrontEnded.{FrontEnded}
use Rattle.daq_types.specs.declared.runs.FrontEnded.TheVariants.{Quota, Paused as EndedPaused, Spent as EndedSpent}
use Rattle.buffer_core.specs.declared.entry.BufferEntry.{BufferEntry}
use Rattle.buffer_core.specs.declared.entry.BufferEntry.TheVariants.{SendInRun}
use Rattle.member_model.specs.RunEngines.{Answer}
use Rattle.transitions.specs.declared.answers.Answer.TheVariants.{Yes, No}
use Rattle.transitions.specs.declared.answers.Tally.TheVariants.{Plain, Front}
use Rattle.member_model.specs.Turns.{MemberTurn, IsAcceptedStart, HasTurnOf, IsNewStart, IsNextTurn, HasAnswer, NoneOpen, AreEngineTurns}
use Rattle.member_model.proofs.TurnLaws.{HasTurnOf-more, HasTurnOf-earlier}
use Rattle.member_model.specs.SentCalls.{sent_by_call, own_sent}
use Rattle.member_model.proofs.SentLaws.{own_sent-push, WasSpent-push}
use Rattle.front_ends.specs.declared.front_run.FrontRun.{FrontRun}
use Rattle.front_ends.specs.Fronts.{front_ended, is_from_pause, paused_run}
use Rattle.front_ends.specs.FrontKept.{made_events, IsMade, IsNextCall, AreNextSends, StopsTold, EndedSo, IsFrontTally, KeepsFront, IsWaiting, IsSpentSo, NoStopAnswered, TakesPart}

pub length-made_events : (makes : Order → ℕ → Event) (order : Order) (n : ℕ) → length (made_events makes order n) ≡ n
length-made_events makes order zero = refl
length-made_events makes order (suc n) =
    length-append (made_events makes order n) (makes order (suc n) ∷ []) ∙ ap (λ k. k + 1) (length-made_events makes order n) ∙ add-one n

-- One turn more.

pub IsMade-more : (makes : Order → ℕ → Event) (own : List BufferEntry) (turns : List MemberTurn) (t : MemberTurn) (start : ℕ) → IsMade makes own turns start → IsMade makes own (t ∷ turns) start
IsMade-more makes own turns t start made = elim made as (λ w. IsMade makes own (t ∷ turns) start) [
  | inl none ↦ inl none
  | inr m ↦ inr (record { turn = m.turn; is_start = HasTurnOf-more t m.is_start; number = m.number; sent = m.sent })
]

EndedSo-more : (own : List BufferEntry) (turns : List MemberTurn) (t : MemberTurn) (stop : Order) (sent : ℕ) (ended : FrontEnded) → EndedSo own turns stop sent ended → EndedSo own (t ∷ turns) stop sent ended
EndedSo-more own turns t stop sent Quota so = (so.0, HasTurnOf-more t so.1, so.2)
EndedSo-more own turns t stop sent EndedPaused so = so
EndedSo-more own turns t stop sent (EndedSpent total) so = so

pub Tally-more : (own : List BufferEntry) (turns : List MemberTurn) (t : MemberTurn) (stop : Order) (sent : ℕ) (ended : FrontEnded) → IsFrontTally own turns stop sent ended → IsFrontTally own (t ∷ turns) stop sent ended
Tally-more own turns t stop sent ended so = record { number = so.number; ended_so = EndedSo-more own turns t stop sent ended so.ended_so }

-- where the new turn is a stop that was answered with a tally, that is right
abbrev pub TellsRight : List BufferEntry → List MemberTurn → MemberTurn → Type 0
TellsRight own turns t = AreEngineTurns (t ∷ turns) → (sent : ℕ) → (ended : FrontEnded) → t.transition ≡ Stop → t.answer ≡ Some (Yes (Front sent ended)) → IsFrontTally own (t ∷ turns) t.order sent ended

-- where it is a start, it is answered as the equipment takes part
abbrev pub AnswersStart : (Order → Bool) → MemberTurn → Type 0
AnswersStart takes t = t.transition ≡ Start → t.answer ≡ Some (if takes t.order then Yes Plain else No NotReady)

-- where it is an answered stop of a run whose start was accepted, it has a tally
abbrev pub TellsTally : List MemberTurn → MemberTurn → Type 0
TellsTally turns t =
    AreEngineTurns (t ∷ turns) → t.transition ≡ Stop → (begin : MemberTurn) (answer : Answer) → IsAcceptedStart turns t.order.start begin → t.answer ≡ Some answer → (sent : ℕ) × (ended : FrontEnded) × (answer ≡ Yes (Front sent ended))

-- a start turn among more turns

next_turns : (makes : Order → ℕ → Event) (turns later : List MemberTurn) → ((start : ℕ) (u : MemberTurn) → HasTurnOf turns Start start u → HasTurnOf later Start start u) → (before : List BufferEntry) (e : BufferEntry) → IsNextCall makes before turns e → IsNextCall makes before later e
next_turns makes turns later more before (SendInRun start stated event reply) is =
    record { turn = is.turn; of_run = record { is_start = more start is.turn is.of_run.is_start; accepted = is.of_run.accepted }; more = is.more; next = is.next; size = is.size }
next_turns makes turns later more before entry is = absurd is

pub sends_turns : (makes : Order → ℕ → Event) (turns later : List MemberTurn) → ((start : ℕ) (u : MemberTurn) → HasTurnOf turns Start start u → HasTurnOf later Start start u) → (before es : List BufferEntry) → AreNextSends makes before turns es → AreNextSends makes before later es
sends_turns makes turns later more before [] are = tt
sends_turns makes turns later more before (e ∷ es) are = (next_turns makes turns later more before e are.0, sends_turns makes turns later more (before ++ e ∷ []) es are.1)

pub sends_push : (makes : Order → ℕ → Event) (turns : List MemberTurn) (before es : List BufferEntry) (e : BufferEntry) → AreNextSends makes before turns es → IsNextCall makes (before ++ es) turns e → AreNextSends makes before turns (es ++ e ∷ [])
sends_push makes turns before [] e are next = (subst (λ (xs : List BufferEntry). IsNextCall makes xs turns e) (append-nil before) next, tt)
sends_push makes turns before (x ∷ xs) e are next =
    (are.0, sends_push makes turns (before ++ x ∷ []) xs e are.1 (subst (λ (ys : List BufferEntry). IsNextCall makes ys turns e) (sym (append_assoc before (x ∷ []) xs)) next))

new_start : (t : MemberTurn) (turns : List MemberTurn) → AreEngineTurns (t ∷ turns) → t.transition ≡ Start → IsNewStart t.order.start turns
new_start t turns are starts = subst (λ (k : Transition). IsNextTurn k t.order.start turns) starts are.0

-- an accepted start is an earlier turn than one that is no start
pub accepted_earlier : (t : MemberTurn) (turns : List MemberTurn) (start : ℕ) (begin : MemberTurn) → t.transition ≢ Start → IsAcceptedStart (t ∷ turns) start begin → IsAcceptedStart turns start begin
accepted_earlier t turns start begin other is = record { is_start = HasTurnOf-earlier is.is_start other; accepted = is.accepted }

stops_more : (turns : List MemberTurn) (t : MemberTurn) → AreEngineTurns (t ∷ turns) → StopsTold turns → TellsTally turns t → StopsTold (t ∷ turns)
stops_more turns t are told tells start begin stop answer accepted stops is = elim stops.stands as (λ w. (sent : ℕ) × (ended : FrontEnded) × (answer ≡ Yes (Front sent ended))) [
  | inl same ↦
      let stop_is : t.transition ≡ Stop = ap (λ (v : MemberTurn). v.transition) same ∙ stops.is in
      let number : start ≡ t.order.start = sym (ap (λ (v : MemberTurn). v.order.start) same ∙ stops.of) in
      let other : t.transition ≢ Start = λ starts. absurd (let never : Stop ≡ Start = sym stop_is ∙ starts in cc (never)) in
      tells are stop_is begin answer (subst (λ (n : ℕ). IsAcceptedStart turns n begin) number (accepted_earlier t turns start begin other accepted)) (ap (λ (v : MemberTurn). v.answer) same ∙ is)
  | inr before ↦ elim accepted.is_start.stands as (λ w. (sent : ℕ) × (ended : FrontEnded) × (answer ≡ Yes (Front sent ended))) [
    | inl new ↦
        let starts : t.transition ≡ Start = ap (λ (v : MemberTurn). v.transition) new ∙ accepted.is_start.is in
        let number : t.order.start ≡ start = ap (λ (v : MemberTurn). v.order.start) new ∙ accepted.is_start.of in
        absurd ((new_start t turns are starts).1 stop before (stops.of ∙ sym number))
    | inr old ↦
        told start begin stop answer (record { is_start = record { stands = old; is = accepted.is_start.is; of = accepted.is_start.of }; accepted = accepted.accepted }) (record { stands = before; is = stops.is; of = stops.of }) is
  ]
]

-- of an answered turn
pub same_answer : {a b : Answer} → Some a ≡ Some b → a ≡ b
same_answer e = cc (e)

pub keeps_more : (takes : Order → Bool) (makes : Order → ℕ → Event) (own : List BufferEntry) (turns : List MemberTurn) (t : MemberTurn) → KeepsFront takes makes own turns → TellsRight own turns t → AnswersStart takes t → TellsTally turns t
    → KeepsFront takes makes own (t ∷ turns)
keeps_more takes makes own turns t keeps right starts tells = record {
  only_sends = keeps.only_sends;
  starts = λ u answer stands is told. elim stands as (λ w. answer ≡ (if takes u.order then Yes Plain else No NotReady)) [
    | inl same ↦ same_answer (sym told ∙ subst (AnswersStart takes) same starts is)
    | inr before ↦ keeps.starts u answer before is told
  ];
  sends = λ are. sends_turns makes turns (t ∷ turns) (λ start u is. HasTurnOf-more t is) [] own (keeps.sends are.1);
  stops = λ are. stops_more turns t are (keeps.stops are.1) tells;
  made = λ are start. IsMade-more makes own turns t start (keeps.made are.1 start);
  tallies = λ are u sent ended stands is answer. elim stands as (λ w. IsFrontTally own (t ∷ turns) u.order sent ended) [
    | inl same ↦ subst (λ (v : MemberTurn). v.transition ≡ Stop → v.answer ≡ Some (Yes (Front sent ended)) → IsFrontTally own (t ∷ turns) v.order sent ended) same (right are sent ended) is answer
    | inr before ↦ Tally-more own turns t u.order sent ended (keeps.tallies are.1 u sent ended before is answer)
  ];
}

waiting_more : (stop : Option Order) (start : ℕ) (turns : List MemberTurn) (t : MemberTurn) → IsWaiting stop start turns → NoneOpen turns → HasAnswer t.answer → IsWaiting stop start (t ∷ turns)
waiting_more None start turns t waits none answered = answered
waiting_more (Some order) start turns t waits none answered = absurd (subst (λ (ts : List MemberTurn). NoneOpen ts) waits.3 none)

-- the new turn is no answered stop of this run
abbrev pub LeavesRun : MemberTurn → (start : ℕ) → Type 0
LeavesRun t start = t.transition ≡ Stop → HasAnswer t.answer → t.order.start ≢ start

pub fresh_more : (turns : List MemberTurn) (t : MemberTurn) (start : ℕ) → NoStopAnswered turns start → LeavesRun t start → NoStopAnswered (t ∷ turns) start
fresh_more turns t start fresh leaves = λ u stands is answer. elim stands as (λ w. u.order.start ≢ start) [
  | inl same ↦ subst (λ (v : MemberTurn). v.transition ≡ Stop → HasAnswer v.answer → v.order.start ≢ start) same leaves is answer
  | inr before ↦ fresh u before is answer
]

pub on_more : (makes : Order → ℕ → Event) (own : List BufferEntry) (turns : List MemberTurn) (r : FrontRun) (t : MemberTurn) → TakesPart makes own turns r → NoneOpen turns → HasAnswer t.answer → LeavesRun t r.order.start → TakesPart makes own (t ∷ turns) r
on_more makes own turns r t on none answered leaves = record {
  begin_turn = on.begin_turn;
  is_start = HasTurnOf-more t on.is_start;
  accepted = on.accepted;
  order_is = on.order_is;
  within = on.within;
  spent_so = on.spent_so;
  waiting = waiting_more r.stop r.order.start turns t on.waiting none answered;
  sent_is = λ are. on.sent_is are.1;
  fresh = λ are. fresh_more turns t r.order.start (on.fresh are.1) leaves;
}

pub on_paused : (makes : Order → ℕ → Event) (own : List BufferEntry) (turns : List MemberTurn) (r : FrontRun) (paused : Bool) → TakesPart makes own turns r → TakesPart makes own turns (paused_run paused r)
on_paused makes own turns r paused on = record {
  begin_turn = on.begin_turn;
  is_start = on.is_start;
  accepted = on.accepted;
  order_is = on.order_is;
  within = on.within;
  spent_so = on.spent_so;
  waiting = on.waiting;
  sent_is = on.sent_is;
  fresh = on.fresh;
}

-- a new start number, under which nothing was sent yet
pub none_sent : (makes : Order → ℕ → Event) (own : List BufferEntry) (turns : List MemberTurn) (start : ℕ) → IsMade makes own turns start → IsNewStart start turns → own_sent own start ≡ []
none_sent makes own turns start made new = elim made as (λ w. own_sent own start ≡ []) [
  | inl none ↦ none
  | inr m ↦ absurd (new.1 m.turn m.is_start.stands m.is_start.of)
]

-- How a run ended.

no_more : (quota sent : ℕ) → ((nat_le quota sent || false) || false) ≡ true → quota ≤ sent
no_more quota sent over = leb-true quota sent (without (nat_le quota sent) over)
  where
    without : (b : Bool) → ((b || false) || false) ≡ true → b ≡ true
    without true e = refl
    without false e = e

ended_holds : (own : List BufferEntry) (turns : List MemberTurn) (stop : Order) (sent quota : ℕ) (spent : Option ℕ) (from : RunState) (t : MemberTurn) → stop.from ≡ from → IsSpentSo own stop.start spent
    → ((nat_le quota sent || is_some spent) || is_from_pause from) ≡ true → sent ≤ quota → HasTurnOf turns Start stop.start t → t.order.quota ≡ quota → EndedSo own turns stop sent (front_ended spent (is_from_pause from))
ended_holds own turns stop sent quota (Some total) from t came so over within is wants = so
ended_holds own turns stop sent quota None Paused t came so over within is wants = came
ended_holds own turns stop sent quota None Stopped t came so over within is wants = (t, is, omega (arith, no_more quota sent over))
ended_holds own turns stop sent quota None Running t came so over within is wants = (t, is, omega (arith, no_more quota sent over))

pub tally_holds : (makes : Order → ℕ → Event) (own : List BufferEntry) (turns : List MemberTurn) (r : FrontRun) (stop : Order) → TakesPart makes own turns r → AreEngineTurns turns → r.order.start ≡ stop.start
    → ((nat_le r.order.quota r.sent || is_some r.spent) || is_from_pause stop.from) ≡ true → IsFrontTally own turns stop r.sent (front_ended r.spent (is_from_pause stop.from))
tally_holds makes own turns r stop on are same over = record {
  number = subst (λ (start : ℕ). length (own_sent own start) ≡ r.sent) same (ap (λ (es : List Event). length es) (on.sent_is are) ∙ length-made_events makes r.order r.sent);
  ended_so = ended_holds own turns stop r.sent r.order.quota r.spent stop.from on.begin_turn refl
      (subst (λ (start : ℕ). IsSpentSo own start r.spent) same on.spent_so) over on.within
      (subst (λ (start : ℕ). HasTurnOf turns Start start on.begin_turn) same on.is_start) (ap (λ (o : Order). o.quota) on.order_is);
}

-- One call more.

pub IsMade-same : (makes : Order → ℕ → Event) (own later : List BufferEntry) (turns : List MemberTurn) (start : ℕ) → own_sent later start ≡ own_sent own start → IsMade makes own turns start → IsMade makes later turns start
IsMade-same makes own later turns start same made = elim made as (λ w. IsMade makes later turns start) [
  | inl none ↦ inl (same ∙ none)
  | inr m ↦ inr (record { turn = m.turn; is_start = m.is_start; number = m.number; sent = same ∙ m.sent })
]

EndedSo-pushed : (own : List BufferEntry) (entry : BufferEntry) (turns : List MemberTurn) (stop : Order) (sent : ℕ) (ended : FrontEnded) → EndedSo own turns stop sent ended → EndedSo (own ++ entry ∷ []) turns stop sent ended
EndedSo-pushed own entry turns stop sent Quota so = so
EndedSo-pushed own entry turns stop sent EndedPaused so = so
EndedSo-pushed own entry turns stop sent (EndedSpent total) so = WasSpent-push own entry stop.start total so

pub Tally-pushed : (own : List BufferEntry) (entry : BufferEntry) (turns : List MemberTurn) (stop : Order) (sent : ℕ) (ended : FrontEnded) → own_sent (own ++ entry ∷ []) stop.start ≡ own_sent own stop.start
    → IsFrontTally own turns stop sent ended → IsFrontTally (own ++ entry ∷ []) turns stop sent ended
Tally-pushed own entry turns stop sent ended same so = record {
  number = ap (λ (es : List Event). length es) same ∙ so.number;
  ended_so = EndedSo-pushed own entry turns stop sent ended so.ended_so;
}

pub spent_pushed : (own : List BufferEntry) (entry : BufferEntry) (start : ℕ) (spent : Option ℕ) → IsSpentSo own start spent → IsSpentSo (own ++ entry ∷ []) start spent
spent_pushed own entry start None so = so
spent_pushed own entry start (Some total) so = WasSpent-push own entry start total so

-- a call that sends nothing leaves what was sent
pub sent_same : (own : List BufferEntry) (entry : BufferEntry) (start : ℕ) → sent_by_call entry start ≡ [] → own_sent (own ++ entry ∷ []) start ≡ own_sent own start
sent_same own entry start none = own_sent-push own entry start ∙ (ap (λ (es : List Event). own_sent own start ++ es) none ∙ append-nil (own_sent own start))
