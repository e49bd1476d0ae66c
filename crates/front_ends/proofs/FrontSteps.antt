-- What a front-end keeps at a step.
use Rattle.std.specs.Prelude.{◌≡◌, ◌≢◌, ℕ, suc, ◌<◌, ◌||◌, ◌&&◌, not, nat_le, is_some, Bool, true, false, List, [], ◌∷◌, ◌++◌, length, Option, Some, Result, Ok, Err, refl}
use Rattle.std.proofs.Common.{ap, sym, subst, ◌∙◌, inl, inr, arith}
use Rattle.std.proofs.lemmas.Bool.Decides.{eqb_tells, leb_tells}
use Rattle.daq_types.specs.declared.events.Event.{Event}
use Rattle.daq_types.specs.declared.runs.Order.{Order}
use Rattle.daq_types.specs.declared.runs.Transition.TheVariants.{Start, Pause}
use Rattle.member_model.specs.RunEngines.{Answer}
use Rattle.buffer_core.specs.declared.replies.SendRefusal.{SendRefusal}
use Rattle.buffer_core.specs.declared.replies.SendRefusal.TheVariants.{NotRunning, BadSize, ReservedId, TooLarge, Full, Spent}
use Rattle.buffer_core.specs.declared.entry.BufferEntry.{BufferEntry}
use Rattle.buffer_core.specs.declared.entry.BufferEntry.TheVariants.{SendInRun}
use Rattle.member_model.specs.Turns.{MemberTurn, HasTurnOf, HasAnswer, AreEngineTurns}
use Rattle.member_model.specs.SentCalls.{sent_by_call, own_sent, IsSendInRun}
use Rattle.member_model.proofs.SentLaws.{own_sent-push, EachCall-push, WasSpent-here}
use Rattle.front_ends.specs.declared.front_run.FrontRun.{FrontRun}
use Rattle.front_ends.specs.declared.front_step.FrontStep.{FrontStep}
use Rattle.front_ends.specs.declared.front_step.FrontStep.TheVariants.{NoWork}
use Rattle.front_ends.specs.Fronts.{IsWithinQuota, is_done, is_at_work, IsStepOf, run_sent}
use Rattle.front_ends.specs.FrontKept.{made_events, IsMade, IsNextCall, KeepsFront, TakesPart, last_answered, FrontStands}
use Rattle.front_ends.proofs.FrontGrows.{length-made_events, sends_push, IsMade-same, Tally-pushed, spent_pushed, sent_same}

-- the send of the next event, with this reply
abbrev sent_next : (Order → ℕ → Event) → FrontRun → Result ℕ SendRefusal → BufferEntry
sent_next makes r reply = SendInRun r.order.start (length (makes r.order (suc r.sent)).body) (makes r.order (suc r.sent)) reply

or_none : (a b : Bool) → (a || b) ≡ false → a ≡ false
or_none true b e = e
or_none false b e = refl

-- a run that is not done has events to be sent
pub work_left : (r : FrontRun) → is_done r ≡ false → r.sent < r.order.quota
work_left r e = elim (leb_tells r.order.quota r.sent) as (λ w. r.sent < r.order.quota) [
  | inl is ↦ absurd (let never = or_none (nat_le r.order.quota r.sent) (is_some r.spent) e in cc (is.0, never))
  | inr is ↦ is.1
]

pub at_work : (r : FrontRun) → r.paused ≡ false → is_done r ≡ false → is_at_work (Some r) ≡ true
at_work r on more = ap (λ (paused : Bool). not paused && not (is_done r)) on ∙ ap (λ (done : Bool). not done) more

-- a run at work does not rest
pub not_at_rest : {A : Type 0} (before : Option FrontRun) (r : FrontRun) → before ≡ Some r → is_at_work (Some r) ≡ true → is_at_work before ≡ false → A
not_at_rest before r is work rests = absurd (let never : true ≡ false = sym work ∙ (ap (λ (run : Option FrontRun). is_at_work run) (sym is) ∙ rests) in cc (never))

-- a send comes to a step
pub step_made : (reply : Result ℕ SendRefusal) (step : FrontStep) → IsStepOf reply step → step ≢ NoWork
step_made (Ok place) step is = λ none. cc
step_made (Err (Spent total)) step is = λ none. cc
step_made (Err (NotRunning gate)) step is = λ none. cc
step_made (Err (BadSize stated given)) step is = absurd is
step_made (Err (ReservedId id)) step is = absurd is
step_made (Err (TooLarge slot size)) step is = absurd is
step_made (Err (Full client place)) step is = λ none. cc

-- a send keeps a run that wants more within its quota
pub within_sent : (r : FrontRun) (reply : Result ℕ SendRefusal) → r.sent < r.order.quota → IsWithinQuota (Some (run_sent reply r))
within_sent r (Ok place) more = omega arith
within_sent r (Err (Spent total)) more = omega arith
within_sent r (Err (NotRunning gate)) more = omega arith
within_sent r (Err (BadSize stated given)) more = omega arith
within_sent r (Err (ReservedId id)) more = omega arith
within_sent r (Err (TooLarge slot size)) more = omega arith
within_sent r (Err (Full client place)) more = omega arith

-- the send is the next one of the run
next_send : (makes : Order → ℕ → Event) (own : List BufferEntry) (turns : List MemberTurn) (r : FrontRun) (reply : Result ℕ SendRefusal) → TakesPart makes own turns r → r.sent < r.order.quota → AreEngineTurns turns
    → IsNextCall makes own turns (sent_next makes r reply)
next_send makes own turns r reply on more are =
    let number : length (own_sent own r.order.start) ≡ r.sent = ap (λ (es : List Event). length es) (on.sent_is are) ∙ length-made_events makes r.order r.sent in
    let quota : on.begin_turn.order.quota ≡ r.order.quota = ap (λ (o : Order). o.quota) on.order_is in
    record {
      turn = on.begin_turn;
      of_run = record { is_start = on.is_start; accepted = on.accepted };
      more = omega (arith, number, quota, more);
      next = ap (λ (o : Order). makes o (suc r.sent)) (sym on.order_is) ∙ ap (λ (n : ℕ). makes on.begin_turn.order (suc n)) (sym number);
      size = refl;
    }

-- A send that was refused.

keeps_refused : (takes : Order → Bool) (makes : Order → ℕ → Event) (own : List BufferEntry) (turns : List MemberTurn) (r : FrontRun) (why : SendRefusal) → (AreEngineTurns turns → IsNextCall makes own turns (sent_next makes r (Err why))) → KeepsFront takes makes own turns → KeepsFront takes makes (own ++ sent_next makes r (Err why) ∷ []) turns
keeps_refused takes makes own turns r why next keeps =
    let entry : BufferEntry = sent_next makes r (Err why) in
    record {
      only_sends = EachCall-push IsSendInRun own entry keeps.only_sends tt;
      starts = keeps.starts;
      sends = λ are. sends_push makes turns [] own entry (keeps.sends are) (next are);
      stops = keeps.stops;
      made = λ are start. IsMade-same makes own (own ++ entry ∷ []) turns start (sent_same own entry start refl) (keeps.made are start);
      tallies = λ are t sent ended here is answer. Tally-pushed own entry turns t.order sent ended (sent_same own entry t.order.start refl) (keeps.tallies are t sent ended here is answer);
    }

on_refused : (makes : Order → ℕ → Event) (own : List BufferEntry) (turns : List MemberTurn) (r : FrontRun) (why : SendRefusal) → TakesPart makes own turns r → TakesPart makes (own ++ sent_next makes r (Err why) ∷ []) turns r
on_refused makes own turns r why on =
    let entry : BufferEntry = sent_next makes r (Err why) in
    record {
      begin_turn = on.begin_turn;
      is_start = on.is_start;
      accepted = on.accepted;
      order_is = on.order_is;
      within = on.within;
      spent_so = spent_pushed own entry r.order.start r.spent on.spent_so;
      waiting = on.waiting;
      sent_is = λ are. sent_same own entry r.order.start refl ∙ on.sent_is are;
      fresh = on.fresh;
    }

on_spent : (makes : Order → ℕ → Event) (own : List BufferEntry) (turns : List MemberTurn) (r : FrontRun) (total : ℕ) → TakesPart makes own turns r → TakesPart makes (own ++ sent_next makes r (Err (Spent total)) ∷ []) turns (run_sent (Err (Spent total)) r)
on_spent makes own turns r total on =
    let entry : BufferEntry = sent_next makes r (Err (Spent total)) in
    record {
      begin_turn = on.begin_turn;
      is_start = on.is_start;
      accepted = on.accepted;
      order_is = on.order_is;
      within = on.within;
      spent_so = WasSpent-here own entry r.order.start total (refl, refl);
      waiting = on.waiting;
      sent_is = λ are. sent_same own entry r.order.start refl ∙ on.sent_is are;
      fresh = on.fresh;
    }

-- A send that was accepted.

accepted_here : (makes : Order → ℕ → Event) (own : List BufferEntry) (r : FrontRun) (place start : ℕ) → r.order.start ≡ start → own_sent (own ++ sent_next makes r (Ok place) ∷ []) start ≡ own_sent own start ++ makes r.order (suc r.sent) ∷ []
accepted_here makes own r place start same =
    own_sent-push own (sent_next makes r (Ok place)) start
    ∙ elim (eqb_tells r.order.start start) as (λ w. own_sent own start ++ sent_by_call (sent_next makes r (Ok place)) start ≡ own_sent own start ++ makes r.order (suc r.sent) ∷ []) [
      | inl is ↦ rw is.0 refl
      | inr other ↦ absurd (other.1 same)
    ]

accepted_elsewhere : (makes : Order → ℕ → Event) (own : List BufferEntry) (r : FrontRun) (place start : ℕ) → r.order.start ≢ start → own_sent (own ++ sent_next makes r (Ok place) ∷ []) start ≡ own_sent own start
accepted_elsewhere makes own r place start other =
    sent_same own (sent_next makes r (Ok place)) start
    (elim (eqb_tells r.order.start start) as (λ w. sent_by_call (sent_next makes r (Ok place)) start ≡ []) [
      | inl is ↦ absurd (other is.1)
      | inr differs ↦ rw differs.0 refl
    ])

made_accepted : (makes : Order → ℕ → Event) (own : List BufferEntry) (turns : List MemberTurn) (r : FrontRun) (place start : ℕ) → TakesPart makes own turns r → AreEngineTurns turns → IsMade makes own turns start → IsMade makes (own ++ sent_next makes r (Ok place) ∷ []) turns start
made_accepted makes own turns r place start on are made =
    let later : List BufferEntry = own ++ sent_next makes r (Ok place) ∷ [] in
    elim (eqb_tells r.order.start start) as (λ w. IsMade makes later turns start) [
      | inl is ↦ inr (record {
        turn = on.begin_turn;
        is_start = subst (λ (s : ℕ). HasTurnOf turns Start s on.begin_turn) is.1 on.is_start;
        number = suc r.sent;
        sent = accepted_here makes own r place start is.1
            ∙ (ap (λ (es : List Event). es ++ makes r.order (suc r.sent) ∷ []) (subst (λ (s : ℕ). own_sent own s ≡ made_events makes r.order r.sent) is.1 (on.sent_is are))
            ∙ ap (λ (o : Order). made_events makes o (suc r.sent)) (sym on.order_is));
      })
      | inr differs ↦ IsMade-same makes own later turns start (accepted_elsewhere makes own r place start differs.1) made
    ]

-- a run of which an event is to be sent rests behind no pause
works_on : (turns : List MemberTurn) (r : FrontRun) (later : Option FrontRun) → is_at_work (Some r) ≡ true → (last_answered turns ≡ Some Pause → is_at_work (Some r) ≡ false) → last_answered turns ≡ Some Pause → is_at_work later ≡ false
works_on turns r later work rests last = absurd (let never : true ≡ false = sym work ∙ rests last in cc (never))

accepted_kept : (takes : Order → Bool) (makes : Order → ℕ → Event) (own : List BufferEntry) (turns : List MemberTurn) (r : FrontRun) (place : ℕ) → r.sent < r.order.quota → is_at_work (Some r) ≡ true → FrontStands takes makes (Some r) own turns → FrontStands takes makes (Some (run_sent (Ok place) r)) (own ++ sent_next makes r (Ok place) ∷ []) turns
accepted_kept takes makes own turns r place more work stands =
    let entry : BufferEntry = sent_next makes r (Ok place) in
    let on : TakesPart makes own turns r = stands.run_stands in
    record {
      keeps = record {
        only_sends = EachCall-push IsSendInRun own entry stands.keeps.only_sends tt;
        starts = stands.keeps.starts;
        sends = λ are. sends_push makes turns [] own entry (stands.keeps.sends are) (next_send makes own turns r (Ok place) on more are);
        stops = stands.keeps.stops;
        made = λ are start. made_accepted makes own turns r place start on are (stands.keeps.made are start);
        tallies = λ are t sent ended here is answer.
            Tally-pushed own entry turns t.order sent ended
            (accepted_elsewhere makes own r place t.order.start (λ (same : r.order.start ≡ t.order.start). on.fresh are t here is (subst (λ (a : Option Answer). HasAnswer a) (sym answer) tt) (sym same)))
            (stands.keeps.tallies are t sent ended here is answer);
      };
      run_stands = record {
        begin_turn = on.begin_turn;
        is_start = on.is_start;
        accepted = on.accepted;
        order_is = on.order_is;
        within = omega (arith, more);
        spent_so = spent_pushed own entry r.order.start r.spent on.spent_so;
        waiting = on.waiting;
        sent_is = λ are. accepted_here makes own r place r.order.start refl ∙ ap (λ (es : List Event). es ++ makes r.order (suc r.sent) ∷ []) (on.sent_is are);
        fresh = on.fresh;
      };
      current = stands.current;
      rests = works_on turns r (Some (run_sent (Ok place) r)) work stands.rests;
    }

refused_kept : (takes : Order → Bool) (makes : Order → ℕ → Event) (own : List BufferEntry) (turns : List MemberTurn) (r : FrontRun) (why : SendRefusal) → r.sent < r.order.quota → FrontStands takes makes (Some r) own turns
    → FrontStands takes makes (Some r) (own ++ sent_next makes r (Err why) ∷ []) turns
refused_kept takes makes own turns r why more stands =
    record { keeps = keeps_refused takes makes own turns r why (next_send makes own turns r (Err why) stands.run_stands more) stands.keeps; run_stands = on_refused makes own turns r why stands.run_stands; current = stands.current; rests = stands.rests }

-- what holds before a step holds behind it, whatever its send was replied
pub step_kept : (takes : Order → Bool) (makes : Order → ℕ → Event) (own : List BufferEntry) (turns : List MemberTurn) (r : FrontRun) (reply : Result ℕ SendRefusal) → r.sent < r.order.quota → is_at_work (Some r) ≡ true → FrontStands takes makes (Some r) own turns
    → FrontStands takes makes (Some (run_sent reply r)) (own ++ sent_next makes r reply ∷ []) turns
step_kept takes makes own turns r (Ok place) more work stands = accepted_kept takes makes own turns r place more work stands
step_kept takes makes own turns r (Err (Spent total)) more work stands =
    record { keeps = keeps_refused takes makes own turns r (Spent total) (next_send makes own turns r (Err (Spent total)) stands.run_stands more) stands.keeps; run_stands = on_spent makes own turns r total stands.run_stands; current = stands.current; rests = works_on turns r (Some (run_sent (Err (Spent total)) r)) work stands.rests }
step_kept takes makes own turns r (Err (NotRunning gate)) more work stands = refused_kept takes makes own turns r (NotRunning gate) more stands
step_kept takes makes own turns r (Err (BadSize stated given)) more work stands = refused_kept takes makes own turns r (BadSize stated given) more stands
step_kept takes makes own turns r (Err (ReservedId id)) more work stands = refused_kept takes makes own turns r (ReservedId id) more stands
step_kept takes makes own turns r (Err (TooLarge slot size)) more work stands = refused_kept takes makes own turns r (TooLarge slot size) more stands
step_kept takes makes own turns r (Err (Full client place)) more work stands = refused_kept takes makes own turns r (Full client place) more stands
