-- What a front-end keeps as a member, at a step, at a new turn, and when it answers the stop that waited.
use Rattle.std.specs.Prelude.{◌≡◌, ℕ, suc, Bool, true, false, is_some, List, [], ◌∷◌, ◌++◌, length, Option, Some, None, refl}
use Rattle.std.proofs.Common.{ap, sym, subst, ◌∙◌, arith, append-nil}
use Rattle.daq_types.specs.declared.events.Event.{Event}
use Rattle.daq_types.specs.declared.runs.Order.{Order}
use Rattle.daq_types.specs.declared.runs.Transition.{Transition}
use Rattle.daq_types.specs.declared.runs.Transition.TheVariants.{Stop}
use Rattle.buffer_core.specs.declared.entry.BufferEntry.{BufferEntry}
use Rattle.buffer_core.specs.declared.entry.BufferEntry.TheVariants.{SendInRun}
use Rattle.buffer_core.specs.Ports.{Access}
use Rattle.odb_watch.specs.declared.entry.WatchEntry.{WatchEntry}
use Rattle.member_model.specs.RunEngines.{Answer, EngineEntry}
use Rattle.member_model.specs.Turns.{MemberTurn, NoneOpen, IsOfRun, AreEngineTurns, latest_answered}
use Rattle.member_model.specs.TurnCalls.{member_turns}
use Rattle.member_model.specs.Moments.{moments_answered}
use Rattle.member_model.specs.SentCalls.{own_sent}
use Rattle.front_ends.specs.declared.front_run.FrontRun.{FrontRun}
use Rattle.front_ends.specs.declared.front_step.FrontStep.{FrontStep}
use Rattle.front_ends.specs.declared.front_step.FrontStep.TheVariants.{NoWork}
use Rattle.front_ends.specs.Fronts.{front_turn, finish_answer, finish_with, is_at_work, SendsNext, events_sent}
use Rattle.front_ends.specs.FrontKept.{FrontStands, KeepsMoments, IsInRun, IsWaiting}
use Rattle.loggers.specs.Moments.{IsSameAccess}
use Rattle.daq_members.specs.OwnTurns.{open_start}
use Rattle.composition.specs.SentSets.{sent_by_moment}
use Rattle.daq_members.specs.SentSets.{number_set_at, number_if, AddsNumberIf, AreNumbersSet}
use Rattle.daq_members.specs.FrontTaken.{StepsBy, StepsFront, FrontMemberStands}
use Rattle.daq_members.proofs.OwnTurnLaws.{taken_turn}
use Rattle.daq_members.proofs.SetLaws.{sent_by_all_calls, sets_more, number_now}

-- the same front-end with calls that tell the same turns
pub same_turns_stand : (client : ℕ) (name : List ℕ) (takes : Order → Bool) (makes : Order → ℕ → Event) (run : Option FrontRun) (calls later : List EngineEntry) (own : List BufferEntry) (moments : List ℕ) (sets : List WatchEntry)
    → member_turns client later ≡ member_turns client calls → FrontMemberStands client name takes makes run calls own moments sets → FrontMemberStands client name takes makes run later own moments sets
same_turns_stand client name takes makes run calls later own moments sets same member = record {
  stands = subst (λ (ts : List MemberTurn). FrontStands takes makes run own ts) (sym same) member.stands;
  kept = subst (λ (ts : List MemberTurn). KeepsMoments own ts moments) (sym same) member.kept;
  told = subst (λ (ts : List MemberTurn). AreEngineTurns ts → AreNumbersSet name own ts moments sets) (sym same) member.told;
}

-- A step: more calls on the buffer.
pub step_stands : (client : ℕ) (name : List ℕ) (takes : Order → Bool) (makes : Order → ℕ → Event) (run later : Option FrontRun) (calls : List EngineEntry) (own more : List BufferEntry) (moments : List ℕ) (sets : List WatchEntry)
    → (member : FrontMemberStands client name takes makes run calls own moments sets)
    → FrontStands takes makes later (own ++ more) (member_turns client calls) → KeepsMoments (own ++ more) (member_turns client calls) moments
    → FrontMemberStands client name takes makes later calls (own ++ more) moments sets
step_stands client name takes makes run later calls own more moments sets member stands kept = record {
  stands = stands;
  kept = kept;
  told = λ are. sets_more name own more (member_turns client calls) moments (length own) sets (omega arith) member.kept.are (member.told are);
}

-- A new turn, whose answer, if there is one, is given.
pub taken_stands : (client : ℕ) (name : List ℕ) (takes : Order → Bool) (makes : Order → ℕ → Event) (run later_run : Option FrontRun) (calls later : List EngineEntry) (own : List BufferEntry) (moments : List ℕ) (sets later_sets : List WatchEntry)
    (transition : Transition) (order : Order) (dump : Option (List ℕ)) (answer : Option Answer)
    → (member : FrontMemberStands client name takes makes run calls own moments sets)
    → NoneOpen (member_turns client calls)
    → member_turns client later ≡ taken_turn transition order dump answer ∷ member_turns client calls
    → FrontStands takes makes later_run own (front_turn dump transition order answer ∷ member_turns client calls)
    → KeepsMoments own (front_turn dump transition order answer ∷ member_turns client calls) (length own ∷ moments)
    → (AreEngineTurns (member_turns client calls) → IsOfRun order.start (member_turns client calls) → length (own_sent own order.start) ≡ events_sent run order.start)
    → AddsNumberIf name (number_set_at transition (is_some answer) (events_sent run order.start)) sets later_sets
    → FrontMemberStands client name takes makes later_run later own (length own ∷ moments) later_sets
taken_stands client name takes makes run later_run calls later own moments sets later_sets transition order dump answer member answered turns stands kept sent adds =
    same_as (member_turns client later) (sym turns)
  where
    told_so : AreEngineTurns (front_turn dump transition order answer ∷ member_turns client calls)
        → AreNumbersSet name own (front_turn dump transition order answer ∷ member_turns client calls) (length own ∷ moments) later_sets
    told_so are = (
      answered,
      sets,
      member.told are.1,
      subst (λ (n : Option ℕ). AddsNumberIf name n sets later_sets)
          (sym (number_now transition (is_some answer) own (member_turns client calls) order.start (events_sent run order.start) are.0 (sent are.1))) adds,
    )

    same_as : (ts : List MemberTurn) → taken_turn transition order dump answer ∷ member_turns client calls ≡ member_turns client later → FrontMemberStands client name takes makes later_run later own (length own ∷ moments) later_sets
    same_as ts same = record {
      stands = subst (λ (l : List MemberTurn). FrontStands takes makes later_run own l) same stands;
      kept = subst (λ (l : List MemberTurn). KeepsMoments own l (length own ∷ moments)) same kept;
      told = subst (λ (l : List MemberTurn). AreEngineTurns l → AreNumbersSet name own l (length own ∷ moments) later_sets) same told_so;
    }

-- The stop that waited is answered.

-- where it can be answered, the latest turn is that stop, of the run that the front-end is in
pub record IsStopOwed (run : Option FrontRun) (turns : List MemberTurn) (start : ℕ) : Type 0 where
  pub order : Order
  pub dump : Option (List ℕ)
  pub earlier : List MemberTurn
  pub turns_are : turns ≡ front_turn dump Stop order None ∷ earlier
  pub of : order.start ≡ start
  pub in_run : IsInRun run start

owed_with : (r : FrontRun) (stop : Option Order) (turns : List MemberTurn) (start : ℕ) (answer : Answer) → IsWaiting stop r.order.start turns → finish_with stop r ≡ Some answer → open_start turns ≡ Some start → IsStopOwed (Some r) turns start
owed_with r None turns start answer waits is owed = absurd (cc (is))
owed_with r (Some order) turns start answer waits is owed =
    let here : Some order.start ≡ Some start = ap open_start (sym waits.3) ∙ owed in
    let number : order.start ≡ start = cc (here) in
    record {
      order = order;
      dump = waits.1;
      earlier = waits.2;
      turns_are = waits.3;
      of = number;
      in_run = sym waits.0 ∙ number;
    }

pub stop_owed : (takes : Order → Bool) (makes : Order → ℕ → Event) (run : Option FrontRun) (own : List BufferEntry) (turns : List MemberTurn) (start : ℕ) (answer : Answer) → FrontStands takes makes run own turns → finish_answer run ≡ Some answer
    → open_start turns ≡ Some start → IsStopOwed run turns start
stop_owed takes makes None own turns start answer stands is owed = absurd (cc (is))
stop_owed takes makes (Some r) own turns start answer stands is owed = owed_with r r.stop turns start answer stands.run_stands.waiting is owed

-- the sets behind the answer
finish_told : (name : List ℕ) (own : List BufferEntry) (turns : List MemberTurn) (moments : List ℕ) (calls : ℕ) (sets later_sets : List WatchEntry) (order : Order) (dump : Option (List ℕ)) (earlier : List MemberTurn) (answer : Answer) (sent : ℕ)
    → turns ≡ front_turn dump Stop order None ∷ earlier → length (own_sent own order.start) ≡ sent → AddsNumberIf name (Some sent) sets later_sets → AreNumbersSet name own turns moments sets
    → AreNumbersSet name own (latest_answered turns (Some answer)) (moments_answered moments (Some answer) (length own)) later_sets
finish_told name own [] moments calls sets later_sets order dump earlier answer sent is number adds told = absurd (cc (is))
finish_told name own (t ∷ ts) [] calls sets later_sets order dump earlier answer sent is number adds told = absurd told
finish_told name own (t ∷ ts) (m ∷ ms) calls sets later_sets order dump earlier answer sent is number adds told =
    let latest : t ≡ front_turn dump Stop order None = cc (is) in
    let none : sets ≡ told.1 = subst (λ (v : MemberTurn). AddsNumberIf name (number_set_at v.transition (is_some v.answer) (sent_by_moment own v.order.start m)) told.1 sets) latest told.3 in (
      told.0,
      told.1,
      told.2,
      subst (λ (v : MemberTurn). AddsNumberIf name (number_set_at v.transition true (sent_by_moment own v.order.start (length own))) told.1 later_sets) (sym latest)
          (subst (λ (n : ℕ). AddsNumberIf name (Some n) told.1 later_sets) (sym (sent_by_all_calls own order.start ∙ number))
          (subst (λ (l : List WatchEntry). AddsNumberIf name (Some sent) l later_sets) none adds)),
    )

-- A turn that is owed, and its answer, if it can be given.
pub finished_stands : (client : ℕ) (name : List ℕ) (takes : Order → Bool) (makes : Order → ℕ → Event) (run later_run : Option FrontRun) (calls later : List EngineEntry) (own : List BufferEntry) (moments : List ℕ) (sets later_sets : List WatchEntry) (start : ℕ) (answer : Option Answer)
    → (member : FrontMemberStands client name takes makes run calls own moments sets)
    → answer ≡ finish_answer run
    → open_start (member_turns client calls) ≡ Some start
    → member_turns client later ≡ latest_answered (member_turns client calls) answer
    → FrontStands takes makes later_run own (latest_answered (member_turns client calls) answer)
    → KeepsMoments own (latest_answered (member_turns client calls) answer) (moments_answered moments answer (length own))
    → (AreEngineTurns (member_turns client calls) → IsInRun run start → length (own_sent own start) ≡ events_sent run start)
    → AddsNumberIf name (number_if (is_some answer) (events_sent run start)) sets later_sets
    → (AreEngineTurns (latest_answered (member_turns client calls) answer) → AreEngineTurns (member_turns client calls))
    → FrontMemberStands client name takes makes later_run later own (moments_answered moments answer (length own)) later_sets
finished_stands client name takes makes run later_run calls later own moments sets later_sets start None member is owed turns stands kept sent adds engine = record {
  stands = subst (λ (l : List MemberTurn). FrontStands takes makes later_run own l) (sym turns) stands;
  kept = subst (λ (l : List MemberTurn). KeepsMoments own l moments) (sym turns) kept;
  told = subst (λ (l : List MemberTurn). AreEngineTurns l → AreNumbersSet name own l moments later_sets) (sym turns)
      (λ are. subst (λ (l : List WatchEntry). AreNumbersSet name own (member_turns client calls) moments l) (sym adds) (member.told are));
}
finished_stands client name takes makes run later_run calls later own moments sets later_sets start (Some answer) member is owed turns stands kept sent adds engine =
    let stop : IsStopOwed run (member_turns client calls) start = stop_owed takes makes run own (member_turns client calls) start answer member.stands (sym is) owed in
    record {
      stands = subst (λ (l : List MemberTurn). FrontStands takes makes later_run own l) (sym turns) stands;
      kept = subst (λ (l : List MemberTurn). KeepsMoments own l (moments_answered moments (Some answer) (length own))) (sym turns) kept;
      told = subst (λ (l : List MemberTurn). AreEngineTurns l → AreNumbersSet name own l (moments_answered moments (Some answer) (length own)) later_sets) (sym turns)
          (λ are. finish_told name own (member_turns client calls) moments (length own) sets later_sets stop.order stop.dump stop.earlier answer (events_sent run start) stop.turns_are
          (ap (λ (n : ℕ). length (own_sent own n)) stop.of ∙ sent (engine are) stop.in_run)
          adds (member.told (engine are)));
    }

-- an answer to the latest turn leaves whether the turns are an engine's
pub engine_unanswered : (turns : List MemberTurn) (answer : Option Answer) → AreEngineTurns (latest_answered turns answer) → AreEngineTurns turns
engine_unanswered turns None are = are
engine_unanswered [] (Some answer) are = are
engine_unanswered (t ∷ ts) (Some answer) are = are

-- A step of the front-end, by what its own call says of it.

pub steps_so : (makes : Order → ℕ → Event) (run later : Option FrontRun) (a b : Access) (step : FrontStep) → (is_at_work run ≡ false → step ≡ NoWork) → (is_at_work run ≡ false → later ≡ run) → (is_at_work run ≡ false → b ≡ a)
    → (is_at_work run ≡ true → SendsNext makes run later a b step) → StepsFront makes run later a b step
steps_so makes run later a b step nothing idle quiet sends = by_work (is_at_work run) refl
  where
    by_work : (work : Bool) → is_at_work run ≡ work → StepsBy work makes run later a b step
    by_work false is = (idle is, quiet is, nothing is)
    by_work true is = sends is

-- it is by the same access
pub step_same : (makes : Order → ℕ → Event) (run later : Option FrontRun) (a b : Access) (step : FrontStep) → StepsFront makes run later a b step → IsSameAccess a b
step_same makes run later a b step steps = by_work (is_at_work run) steps
  where
    by_work : (work : Bool) → StepsBy work makes run later a b step → IsSameAccess a b
    by_work false idle = (ap (λ (x : Access). x.buffer) idle.1, ap (λ (x : Access). x.caller) idle.1, ap (λ (x : Access). x.size) idle.1)
    by_work true sends = (sends.sent.buffer, sends.sent.caller, sends.sent.size)

-- it adds calls to those on the buffer
pub step_adds : (makes : Order → ℕ → Event) (run later : Option FrontRun) (a b : Access) (step : FrontStep) → StepsFront makes run later a b step → (more : List BufferEntry) × (b.own ≡ a.own ++ more)
step_adds makes run later a b step steps = by_work (is_at_work run) steps
  where
    by_work : (work : Bool) → StepsBy work makes run later a b step → (more : List BufferEntry) × (b.own ≡ a.own ++ more)
    by_work false idle = ([], ap (λ (x : Access). x.own) idle.1 ∙ sym (append-nil a.own))
    by_work true sends = (SendInRun sends.run.order.start (length (makes sends.run.order (suc sends.run.sent)).body) (makes sends.run.order (suc sends.run.sent)) sends.reply ∷ [], sends.sent.own)

-- What is kept behind a step.
pub stepped_stands : (client : ℕ) (name : List ℕ) (takes : Order → Bool) (makes : Order → ℕ → Event) (run later : Option FrontRun) (a b : Access) (step : FrontStep) (calls : List EngineEntry) (moments : List ℕ) (sets : List WatchEntry)
    → StepsFront makes run later a b step
    → (member : FrontMemberStands client name takes makes run calls a.own moments sets)
    → FrontStands takes makes later b.own (member_turns client calls) → KeepsMoments b.own (member_turns client calls) moments
    → FrontMemberStands client name takes makes later calls b.own moments sets
stepped_stands client name takes makes run later a b step calls moments sets steps member stands kept =
    let more : (more : List BufferEntry) × (b.own ≡ a.own ++ more) = step_adds makes run later a b step steps in
    subst (λ (own : List BufferEntry). FrontMemberStands client name takes makes later calls own moments sets) (sym more.1)
    (step_stands client name takes makes run later calls a.own more.0 moments sets member
    (subst (λ (own : List BufferEntry). FrontStands takes makes later own (member_turns client calls)) more.1 stands)
    (subst (λ (own : List BufferEntry). KeepsMoments own (member_turns client calls) moments) more.1 kept))
