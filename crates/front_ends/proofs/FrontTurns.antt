-- What a front-end keeps at a turn and when it finishes.
use Rattle.std.specs.Option.{option_map}
use Rattle.std.specs.Prelude.{◌≡◌, ◌≢◌, ℕ, ◌≤◌, Bool, true, false, ◌||◌, if◌then◌else◌, List, [], ◌∷◌, Option, Some, None, refl}
use Rattle.std.proofs.Common.{ap, sym, subst, ◌∙◌, inl, inr, arith}
use Rattle.std.proofs.lemmas.Bool.{eqb-true, eqb-false}
use Rattle.daq_types.specs.declared.events.Event.{Event}
use Rattle.daq_types.specs.declared.runs.Order.{Order}
use Rattle.daq_types.specs.declared.runs.Transition.{Transition}
use Rattle.daq_types.specs.declared.runs.Transition.TheVariants.{Start, Stop, Pause, Resume, StartAbort}
use Rattle.daq_types.specs.declared.runs.FrontEnded.{FrontEnded}
use Rattle.daq_types.specs.declared.runs.FrontEnded.TheVariants.{Quota, Paused as EndedPaused, Spent as EndedSpent}
use Rattle.daq_types.specs.declared.runs.Why.TheVariants.{NotReady}
use Rattle.buffer_core.specs.declared.entry.BufferEntry.{BufferEntry}
use Rattle.member_model.specs.RunEngines.{Answer}
use Rattle.transitions.specs.declared.answers.Answer.TheVariants.{Yes, No}
use Rattle.transitions.specs.declared.answers.Tally.TheVariants.{Plain, Front}
use Rattle.member_model.specs.Turns.{MemberTurn, IsAcceptedStart, HasTurnOf, HasAnswer, NoneOpen, current_run, IsOfRun, AreEngineTurns, latest_answered}
use Rattle.member_model.proofs.TurnLaws.{HasTurnOf-earlier}
use Rattle.front_ends.specs.declared.front_run.FrontRun.{FrontRun}
use Rattle.front_ends.specs.Fronts.{IsWithinQuota, front_turn, front_answer, run_after, begun_run, paused_run, stopping_run, is_stop_of, is_over, is_done, is_at_work, is_from_pause, front_tally, front_ended, finish_answer, finish_with, run_finished}
use Rattle.front_ends.specs.FrontKept.{IsMade, EndedSo, IsFrontTally, IsWaiting, TakesPart, IsInRun, IsInCurrent, answered_last, last_answered, FrontStands}
use Rattle.front_ends.proofs.FrontGrows.{AnswersStart, TellsTally, sends_turns, accepted_earlier, keeps_more, Tally-more, LeavesRun, fresh_more, on_more, on_paused, none_sent, tally_holds}

-- a turn that is no start, and of which the client's caller reads no other run, leaves the front-end in the current one
current_more : (run : Option FrontRun) (t : MemberTurn) (turns : List MemberTurn) → t.transition ≢ Start → current_run (t ∷ turns) ≡ current_run turns → IsInCurrent run turns → IsInCurrent run (t ∷ turns)
current_more run t turns other same current start begin on accepted = current start begin (sym same ∙ on) (accepted_earlier t turns start begin other accepted)

current_none : (run : Option FrontRun) (turns : List MemberTurn) → current_run turns ≡ None → IsInCurrent run turns
current_none run turns none start begin on accepted = absurd (let e : None ≡ Some start = sym none ∙ on in cc (e))

current_paused : (run : Option FrontRun) (turns : List MemberTurn) (paused : Bool) → IsInCurrent run turns → IsInCurrent (option_map (paused_run paused) run) turns
current_paused None turns paused current start begin on accepted = current start begin on accepted
current_paused (Some r) turns paused current start begin on accepted = current start begin on accepted

-- a stop whose start was accepted is of the run that the front-end is in
stop_in_run : (run : Option FrontRun) (turns : List MemberTurn) (start : ℕ) (begin : MemberTurn) → IsInCurrent run turns → IsOfRun start turns → IsAcceptedStart turns start begin → IsInRun run start
stop_in_run run turns start begin current of_run accepted = elim of_run as (λ w. IsInRun run start) [
  | inl on ↦ current start begin on accepted
  | inr none ↦ absurd (none begin accepted.is_start.stands accepted.is_start.is accepted.is_start.of)
]

-- a turn that was answered is the latest that was
last_is : (a : Option Answer) (k : Transition) (before : Option Transition) → HasAnswer a → answered_last a k before ≡ Some Pause → k ≡ Pause
last_is None k before answered last = absurd answered
last_is (Some answer) k before answered last = cc (last)

-- a turn that is answered without a tally, and that leaves the run
plain_more : (takes : Order → Bool) (makes : Order → ℕ → Event) (own : List BufferEntry) (turns : List MemberTurn) (run : Option FrontRun) (t : MemberTurn) → NoneOpen turns → FrontStands takes makes run own turns → HasAnswer t.answer
    → ((start : ℕ) (r : FrontRun) → run ≡ Some r → LeavesRun t r.order.start) → ((sent : ℕ) (ended : FrontEnded) → t.answer ≢ Some (Yes (Front sent ended))) → AnswersStart takes t → TellsTally turns t
    → (AreEngineTurns (t ∷ turns) → IsInCurrent run (t ∷ turns)) → (t.transition ≡ Pause → is_at_work run ≡ false) → FrontStands takes makes run own (t ∷ turns)
plain_more takes makes own turns None t none stands answer leaves plain starts tells current pauses = record {
  keeps = keeps_more takes makes own turns t stands.keeps (λ are sent ended is tells. absurd (plain sent ended tells)) starts tells;
  run_stands = answer;
  current = current;
  rests = λ last. pauses (last_is t.answer t.transition (last_answered turns) answer last);
}
plain_more takes makes own turns (Some r) t none stands answer leaves plain starts tells current pauses = record {
  keeps = keeps_more takes makes own turns t stands.keeps (λ are sent ended is tells. absurd (plain sent ended tells)) starts tells;
  run_stands = on_more makes own turns r t stands.run_stands none answer (leaves 0 r refl);
  current = current;
  rests = λ last. pauses (last_is t.answer t.transition (last_answered turns) answer last);
}

begin_kept : (dump : Option (List ℕ)) (takes : Order → Bool) (makes : Order → ℕ → Event) (own : List BufferEntry) (turns : List MemberTurn) (run : Option FrontRun) (order : Order) → true ≡ takes order → FrontStands takes makes run own turns
    → FrontStands takes makes (Some (begun_run order)) own (front_turn dump Start order (Some (Yes Plain)) ∷ turns)
begin_kept dump takes makes own turns run order takes_part stands =
    let t : MemberTurn = front_turn dump Start order (Some (Yes Plain)) in
    record {
      keeps = keeps_more takes makes own turns t stands.keeps (λ are sent ended is tells. absurd (cc (is)))
          (λ is. ap (λ (b : Bool). Some (if b then Yes Plain else No NotReady)) takes_part)
          (λ are is begin answer accepted told. absurd (cc (is)));
      run_stands = record {
        begin_turn = t;
        is_start = record { stands = inl refl; is = refl; of = refl };
        accepted = refl;
        order_is = refl;
        within = omega arith;
        spent_so = tt;
        waiting = tt;
        sent_is = λ are. none_sent makes own turns order.start (stands.keeps.made are.1 order.start) are.0;
        fresh = λ are u here is answer. elim here as (λ w. u.order.start ≢ order.start) [
          | inl same ↦ absurd (let e : Start ≡ u.transition = ap (λ (v : MemberTurn). v.transition) same in cc (is))
          | inr before ↦ are.0.1 u before
        ];
      };
      current = λ are start begin on accepted. let number : order.start ≡ start = cc (on) in number;
      rests = λ last. absurd (let never : Start ≡ Pause = cc (last) in cc (never));
    }

-- a start that was refused is not the accepted start of its number
refused_current : (dump : Option (List ℕ)) (run : Option FrontRun) (turns : List MemberTurn) (order : Order) → AreEngineTurns (front_turn dump Start order (Some (No NotReady)) ∷ turns) → IsInCurrent run (front_turn dump Start order (Some (No NotReady)) ∷ turns)
refused_current dump run turns order are start begin on accepted =
    let number : order.start ≡ start = cc (on) in
    elim accepted.is_start.stands as (λ w. IsInRun run start) [
      | inl same ↦ absurd (let e : Some (No NotReady) ≡ Some (Yes Plain) = ap (λ (v : MemberTurn). v.answer) same ∙ accepted.accepted in cc (e))
      | inr before ↦ absurd (are.0.1 begin before (accepted.is_start.of ∙ sym number))
    ]

stop_kept : (dump : Option (List ℕ)) (takes : Order → Bool) (makes : Order → ℕ → Event) (own : List BufferEntry) (turns : List MemberTurn) (r : FrontRun) (order : Order) (same over : Bool) → (same ≡ true → r.order.start ≡ order.start) → (same ≡ false → r.order.start ≢ order.start)
    → (over ≡ true → is_over r order ≡ true) → NoneOpen turns → FrontStands takes makes (Some r) own turns
    → FrontStands takes makes (if same then (if over then None else Some (stopping_run order r)) else Some r) own
    (front_turn dump Stop order (if same then (if over then Some (Yes (front_tally r order.from)) else None) else Some (Yes Plain)) ∷ turns)
stop_kept dump takes makes own turns r order true true is other over none stands =
    let t : MemberTurn = front_turn dump Stop order (Some (Yes (front_tally r order.from))) in
    record {
      keeps = keeps_more takes makes own turns t stands.keeps
          (λ are sent ended stop tells.
          let right : IsFrontTally own (t ∷ turns) order r.sent (front_ended r.spent (is_from_pause order.from)) =
          Tally-more own turns t order r.sent (front_ended r.spent (is_from_pause order.from)) (tally_holds makes own turns r order stands.run_stands are.1 (is refl) (over refl)) in
          let number : r.sent ≡ sent = cc (tells) in
          let how : front_ended r.spent (is_from_pause order.from) ≡ ended = cc (tells) in
          subst (λ (n : ℕ). IsFrontTally own (t ∷ turns) order n ended) number
          (subst (λ (e : FrontEnded). IsFrontTally own (t ∷ turns) order r.sent e) how right))
          (λ starts. absurd (cc (starts)))
          (λ are stop begin answer accepted told.
          let same_answer : Yes (front_tally r order.from) ≡ answer = cc (told) in
          (r.sent, front_ended r.spent (is_from_pause order.from), sym same_answer));
      run_stands = tt;
      current = λ are. current_none None (t ∷ turns) refl;
      rests = λ last. refl;
    }
stop_kept dump takes makes own turns r order true false is other over none stands =
    let t : MemberTurn = front_turn dump Stop order None in
    let on : TakesPart makes own turns r = stands.run_stands in
    record {
      keeps = keeps_more takes makes own turns t stands.keeps (λ are sent ended stop tells. absurd (cc (tells)))
          (λ starts. absurd (cc (starts)))
          (λ are stop begin answer accepted told. absurd (cc (told)));
      run_stands = record {
        begin_turn = on.begin_turn;
        is_start = record { stands = inr on.is_start.stands; is = on.is_start.is; of = on.is_start.of };
        accepted = on.accepted;
        order_is = on.order_is;
        within = on.within;
        spent_so = on.spent_so;
        waiting = (sym (is refl), dump, turns, refl);
        sent_is = λ are. on.sent_is are.1;
        fresh = λ are. fresh_more turns t r.order.start (on.fresh are.1) (λ stop answer. absurd answer);
      };
      current = λ are. current_none (Some (stopping_run order r)) (t ∷ turns) refl;
      rests = stands.rests;
    }
stop_kept dump takes makes own turns r order false over is other ends none stands =
    let t : MemberTurn = front_turn dump Stop order (Some (Yes Plain)) in
    plain_more takes makes own turns (Some r) t none stands tt
    (λ start q run stop answer. let e : r ≡ q = cc (run) in
    subst (λ (v : FrontRun). order.start ≢ v.order.start) e (λ (back : order.start ≡ r.order.start). other refl (sym back)))
    (λ sent ended tells. cc (tells))
    (λ starts. absurd (cc (starts)))
    (λ are stop begin answer accepted told. absurd (other refl (stop_in_run (Some r) turns order.start begin (stands.current are.1) are.0 accepted)))
    (λ are. current_none (Some r) (t ∷ turns) refl)
    (λ pause. absurd (cc (pause)))

-- a turn that is neither a start nor a stop, and is answered plainly, leaves all as it is
quiet_kept : (takes : Order → Bool) (makes : Order → ℕ → Event) (own : List BufferEntry) (turns : List MemberTurn) (run : Option FrontRun) (t : MemberTurn) → NoneOpen turns → FrontStands takes makes run own turns → t.answer ≡ Some (Yes Plain)
    → t.transition ≢ Start → t.transition ≢ Stop → current_run (t ∷ turns) ≡ current_run turns → (t.transition ≡ Pause → is_at_work run ≡ false) → FrontStands takes makes run own (t ∷ turns)
quiet_kept takes makes own turns run t none stands plain no_start no_stop same pauses =
    plain_more takes makes own turns run t none stands (subst (λ (a : Option Answer). HasAnswer a) (sym plain) tt) (λ start r is stop answer. absurd (no_stop stop))
    (λ sent ended tells. absurd (let e : Some (Yes Plain) ≡ Some (Yes (Front sent ended)) = sym plain ∙ tells in cc (e)))
    (λ starts. absurd (no_start starts))
    (λ are stop begin answer accepted told. absurd (no_stop stop))
    (λ are. current_more run t turns no_start same (stands.current are.1))
    pauses

paused_kept : (takes : Order → Bool) (makes : Order → ℕ → Event) (own : List BufferEntry) (turns : List MemberTurn) (r : FrontRun) (paused : Bool) → (last_answered turns ≡ Some Pause → is_at_work (Some (paused_run paused r)) ≡ false) → FrontStands takes makes (Some r) own turns → FrontStands takes makes (Some (paused_run paused r)) own turns
paused_kept takes makes own turns r paused rests stands = record {
  keeps = stands.keeps;
  run_stands = on_paused makes own turns r paused stands.run_stands;
  current = λ are. current_paused (Some r) turns paused (stands.current are);
  rests = rests;
}

-- what holds before a turn holds behind it, with its answer
pub turn_kept : (dump : Option (List ℕ)) (takes : Order → Bool) (makes : Order → ℕ → Event) (part : Bool) (run : Option FrontRun) (own : List BufferEntry) (turns : List MemberTurn) (transition : Transition) (order : Order) → part ≡ takes order → NoneOpen turns → FrontStands takes makes run own turns
    → FrontStands takes makes (run_after part run transition order) own (front_turn dump transition order (front_answer part run transition order) ∷ turns)
turn_kept dump takes makes true run own turns Start order is none stands = begin_kept dump takes makes own turns run order is stands
turn_kept dump takes makes false run own turns Start order is none stands =
    plain_more takes makes own turns run (front_turn dump Start order (Some (No NotReady))) none stands tt (λ start r is stop answer. absurd (cc (stop))) (λ sent ended tells. cc (tells))
    (λ starts. ap (λ (b : Bool). Some (if b then Yes Plain else No NotReady)) is)
    (λ are stop begin answer accepted told. absurd (cc (stop)))
    (refused_current dump run turns order)
    (λ pause. absurd (cc (pause)))
turn_kept dump takes makes part None own turns Stop order is none stands =
    let t : MemberTurn = front_turn dump Stop order (Some (Yes Plain)) in
    plain_more takes makes own turns None t none stands tt (λ start r is stop answer. absurd (cc (is))) (λ sent ended tells. cc (tells))
    (λ starts. absurd (cc (starts)))
    (λ are stop begin answer accepted told. absurd (stop_in_run None turns order.start begin (stands.current are.1) are.0 accepted))
    (λ are. current_none None (t ∷ turns) refl)
    (λ pause. absurd (cc (pause)))
turn_kept dump takes makes part (Some r) own turns Stop order is none stands =
    stop_kept dump takes makes own turns r order (is_stop_of r order) (is_over r order) (λ e. eqb-true r.order.start order.start e) (λ e. eqb-false r.order.start order.start e) (λ e. e) none stands
turn_kept dump takes makes part None own turns Pause order is none stands = quiet_kept takes makes own turns None (front_turn dump Pause order (Some (Yes Plain))) none stands refl (λ e. cc (e)) (λ e. cc (e)) refl (λ pause. refl)
turn_kept dump takes makes part (Some r) own turns Pause order is none stands =
    quiet_kept takes makes own turns (Some (paused_run true r)) (front_turn dump Pause order (Some (Yes Plain))) none (paused_kept takes makes own turns r true (λ last. refl) stands) refl (λ e. cc (e)) (λ e. cc (e)) refl (λ pause. refl)
turn_kept dump takes makes part None own turns Resume order is none stands = quiet_kept takes makes own turns None (front_turn dump Resume order (Some (Yes Plain))) none stands refl (λ e. cc (e)) (λ e. cc (e)) refl (λ pause. refl)
turn_kept dump takes makes part (Some r) own turns Resume order is none stands =
    paused_kept takes makes own (front_turn dump Resume order (Some (Yes Plain)) ∷ turns) r false (λ last. absurd (let never : Resume ≡ Pause = cc (last) in cc (never)))
    (quiet_kept takes makes own turns (Some r) (front_turn dump Resume order (Some (Yes Plain))) none stands refl (λ e. cc (e)) (λ e. cc (e)) refl (λ pause. absurd (cc (pause))))
turn_kept dump takes makes part run own turns StartAbort order is none stands =
    let t : MemberTurn = front_turn dump StartAbort order (Some (Yes Plain)) in
    record {
      keeps = keeps_more takes makes own turns t stands.keeps (λ are sent ended stop tells. absurd (cc (stop)))
          (λ starts. absurd (cc (starts)))
          (λ are stop begin answer accepted told. absurd (cc (stop)));
      run_stands = tt;
      current = λ are. current_none None (t ∷ turns) refl;
      rests = λ last. refl;
    }

within_stopped : (r : FrontRun) (order : Order) (same over : Bool) → r.sent ≤ r.order.quota → IsWithinQuota (if same then (if over then None else Some (stopping_run order r)) else Some r)
within_stopped r order true true within = tt
within_stopped r order true false within = within
within_stopped r order false over within = within

-- no turn takes a run beyond its quota
pub within_after : (part : Bool) (run : Option FrontRun) (transition : Transition) (order : Order) → IsWithinQuota run → IsWithinQuota (run_after part run transition order)
within_after true run Start order within = omega arith
within_after false run Start order within = within
within_after part None Stop order within = within
within_after part (Some r) Stop order within = within_stopped r order (is_stop_of r order) (is_over r order) within
within_after part None Pause order within = within
within_after part (Some r) Pause order within = within
within_after part None Resume order within = within
within_after part (Some r) Resume order within = within
within_after part run StartAbort order within = tt

-- The answer to the stop that waited.

pub turns_answered : (t : MemberTurn) (earlier : List MemberTurn) (answer : Answer) → AreEngineTurns (record t { answer = Some answer } ∷ earlier) → AreEngineTurns (t ∷ earlier)
turns_answered t earlier answer are = are

across : (before t : MemberTurn) (earlier : List MemberTurn) (start : ℕ) (u : MemberTurn) → before.transition ≢ Start → HasTurnOf (before ∷ earlier) Start start u → HasTurnOf (t ∷ earlier) Start start u
across before t earlier start u other of =
    let old : HasTurnOf earlier Start start u = HasTurnOf-earlier of other in
    record { stands = inr old.stands; is = old.is; of = old.of }

EndedSo-across : (own : List BufferEntry) (before t : MemberTurn) (earlier : List MemberTurn) (stop : Order) (sent : ℕ) (ended : FrontEnded) → before.transition ≢ Start → EndedSo own (before ∷ earlier) stop sent ended → EndedSo own (t ∷ earlier) stop sent ended
EndedSo-across own before t earlier stop sent Quota other so = (so.0, across before t earlier stop.start so.0 other so.1, so.2)
EndedSo-across own before t earlier stop sent EndedPaused other so = so
EndedSo-across own before t earlier stop sent (EndedSpent total) other so = so

Tally-across : (own : List BufferEntry) (before t : MemberTurn) (earlier : List MemberTurn) (stop : Order) (sent : ℕ) (ended : FrontEnded) → before.transition ≢ Start → IsFrontTally own (before ∷ earlier) stop sent ended → IsFrontTally own (t ∷ earlier) stop sent ended
Tally-across own before t earlier stop sent ended other so = record { number = so.number; ended_so = EndedSo-across own before t earlier stop sent ended other so.ended_so }

done_is_over : (a b : Bool) → a ≡ true → (a || b) ≡ true
done_is_over true b e = refl
done_is_over false b e = absurd (cc (e))

closed_kept : (dump : Option (List ℕ)) (takes : Order → Bool) (makes : Order → ℕ → Event) (r : FrontRun) (own : List BufferEntry) (earlier : List MemberTurn) (order : Order) → order.start ≡ r.order.start → is_done r ≡ true
    → FrontStands takes makes (Some r) own (front_turn dump Stop order None ∷ earlier) → FrontStands takes makes None own (front_turn dump Stop order (Some (Yes (front_tally r order.from))) ∷ earlier)
closed_kept dump takes makes r own earlier order same done stands =
    let before : MemberTurn = front_turn dump Stop order None in
    let t : MemberTurn = front_turn dump Stop order (Some (Yes (front_tally r order.from))) in
    let ended_as : FrontEnded = front_ended r.spent (is_from_pause order.from) in
    let other : before.transition ≢ Start = λ (e : Stop ≡ Start). cc (e) in
    record {
      keeps = record {
        only_sends = stands.keeps.only_sends;
        starts = λ u answer here is told. elim here as (λ w. answer ≡ (if takes u.order then Yes Plain else No NotReady)) [
          | inl same_turn ↦ absurd (let e : Stop ≡ Start = ap (λ (v : MemberTurn). v.transition) same_turn ∙ is in cc (e))
          | inr old ↦ stands.keeps.starts u answer (inr old) is told
        ];
        sends = λ are. sends_turns makes (before ∷ earlier) (t ∷ earlier) (λ start u of. across before t earlier start u other of) [] own (stands.keeps.sends are);
        stops = λ are start begin stop answer accepted stops is. elim stops.stands as (λ w. (sent : ℕ) × (ended : FrontEnded) × (answer ≡ Yes (Front sent ended))) [
          | inl same_turn ↦
              let told : Some (Yes (front_tally r order.from)) ≡ Some answer = ap (λ (v : MemberTurn). v.answer) same_turn ∙ is in
              let same_answer : Yes (front_tally r order.from) ≡ answer = cc (told) in
              (r.sent, ended_as, sym same_answer)
          | inr old ↦
              let begin_old : IsAcceptedStart earlier start begin = accepted_earlier t earlier start begin other accepted in
              stands.keeps.stops are start begin stop answer
              (record { is_start = record { stands = inr begin_old.is_start.stands; is = begin_old.is_start.is; of = begin_old.is_start.of }; accepted = begin_old.accepted })
              (record { stands = inr old; is = stops.is; of = stops.of }) is
        ];
        made = λ are start. elim (stands.keeps.made are start) as (λ w. IsMade makes own (t ∷ earlier) start) [
          | inl nothing ↦ inl nothing
          | inr m ↦ inr (record { turn = m.turn; is_start = across before t earlier start m.turn other m.is_start; number = m.number; sent = m.sent })
        ];
        tallies = λ are u sent ended here is answer. elim here as (λ w. IsFrontTally own (t ∷ earlier) u.order sent ended) [
          | inl same_turn ↦
              let right : IsFrontTally own (t ∷ earlier) order r.sent ended_as =
              Tally-across own before t earlier order r.sent ended_as other
              (tally_holds makes own (before ∷ earlier) r order stands.run_stands are (sym same) (done_is_over (is_done r) (is_from_pause order.from) done)) in
              let tells : Some (Yes (Front r.sent ended_as)) ≡ Some (Yes (Front sent ended)) = ap (λ (v : MemberTurn). v.answer) same_turn ∙ answer in
              let number : r.sent ≡ sent = cc (tells) in
              let how : ended_as ≡ ended = cc (tells) in
              subst (λ (v : MemberTurn). IsFrontTally own (t ∷ earlier) v.order sent ended) same_turn
              (subst (λ (n : ℕ). IsFrontTally own (t ∷ earlier) order n ended) number
              (subst (λ (e : FrontEnded). IsFrontTally own (t ∷ earlier) order r.sent e) how right))
          | inr old ↦ Tally-across own before t earlier u.order sent ended other (stands.keeps.tallies are u sent ended (inr old) is answer)
        ];
      };
      run_stands = tt;
      current = λ are. current_none None (t ∷ earlier) refl;
      rests = λ last. refl;
    }

abbrev finish_by : (done : Bool) → (stop : Option Order) → FrontRun → Option Answer
finish_by done None r = None
finish_by done (Some order) r = if done then Some (Yes (front_tally r order.from)) else None

finish_with_kept : (takes : Order → Bool) (makes : Order → ℕ → Event) (r : FrontRun) (stop : Option Order) (done : Bool) (own : List BufferEntry) (turns : List MemberTurn) → (done ≡ true → is_done r ≡ true) → IsWaiting stop r.order.start turns → FrontStands takes makes (Some r) own turns
    → FrontStands takes makes (run_finished (Some r) (finish_by done stop r)) own (latest_answered turns (finish_by done stop r))
finish_with_kept takes makes r None done own turns ends waits stands = stands
finish_with_kept takes makes r (Some order) false own turns ends waits stands = stands
finish_with_kept takes makes r (Some order) true own turns ends waits stands =
    subst (λ (ts : List MemberTurn). FrontStands takes makes None own (latest_answered ts (Some (Yes (front_tally r order.from))))) (sym waits.3)
    (closed_kept waits.1 takes makes r own waits.2 order waits.0 (ends refl) (subst (λ (ts : List MemberTurn). FrontStands takes makes (Some r) own ts) waits.3 stands))

-- what holds before a finish holds behind it, with the answer of the stop that waited
pub finish_kept : (takes : Order → Bool) (makes : Order → ℕ → Event) (run : Option FrontRun) (own : List BufferEntry) (turns : List MemberTurn) → FrontStands takes makes run own turns
    → FrontStands takes makes (run_finished run (finish_answer run)) own (latest_answered turns (finish_answer run))
finish_kept takes makes None own turns stands = stands
finish_kept takes makes (Some r) own turns stands = by_stop r.stop stands.run_stands.waiting
  where
    by_stop : (stop : Option Order) → IsWaiting stop r.order.start turns → FrontStands takes makes (run_finished (Some r) (finish_with stop r)) own (latest_answered turns (finish_with stop r))
    by_stop None waits = stands
    by_stop (Some order) waits = finish_with_kept takes makes r (Some order) (is_done r) own turns (λ e. e) waits stands
