-- What a logger knows of its turns, behind one turn more.
use Rattle.std.specs.Prelude.{◌≡◌, ◌≢◌, ◌⊎◌, ℕ, true, false, List, [], ◌∷◌, Option, Some, None, Ok, refl}
use Rattle.std.proofs.Common.{ap, sym, subst, ◌∙◌, inl, inr, eq-eqb}
use Rattle.std.proofs.lemmas.Bool.{eqb-true, eqb-false}
use Rattle.daq_types.specs.declared.runs.ChannelEnd.{ChannelEnd}
use Rattle.daq_types.specs.declared.runs.Order.{Order}
use Rattle.daq_types.specs.declared.runs.Transition.{Transition}
use Rattle.daq_types.specs.declared.runs.Transition.TheVariants.{Start, Stop, Pause, Resume, StartAbort}
use Rattle.daq_types.specs.declared.runs.Why.{Why}
use Rattle.daq_types.specs.declared.runs.Why.TheVariants.{NotReady}
use Rattle.member_model.specs.RunEngines.{Answer}
use Rattle.transitions.specs.declared.answers.Answer.TheVariants.{Yes, No}
use Rattle.transitions.specs.declared.answers.Tally.TheVariants.{Plain, Channels}
use Rattle.member_model.specs.Turns.{MemberTurn, HasTurn, IsAcceptedStart, HasAnswer, NoneOpen, current_run, IsNextTurn, IsOfRun, IsNewStart, AreEngineTurns}
use Rattle.member_model.specs.LoggerKept.{IsStartAnswer}
use Rattle.member_model.proofs.TurnLaws.{HasTurnOf-more, HasTurnOf-earlier}
use Rattle.loggers.specs.declared.logged_run.LoggedRun.{LoggedRun}
use Rattle.loggers.specs.declared.logged_run.RunDumps.{RunDumps}
use Rattle.loggers.specs.declared.logged_run.RunPart.{RunPart}
use Rattle.loggers.specs.declared.logged_run.RunPart.TheVariants.{Refused, Started, Stopping}
use Rattle.loggers.specs.Turning.{no_dumps, start_dumps, is_run_on, is_started, is_of_start}
use Rattle.loggers.specs.FairAsks.{HasStart}
use Rattle.loggers.specs.LoggerStands.{logger_turn, HasEndTurn, IsPartTold, IsRunTold, IsInStarted, HasCurrentRun, IsNotCalledOff, IsStillGoing, HasRunOn, AreUnreadyInRuns, StopsTellEnds}

pub record TurnsKnown (run : Option LoggedRun) (dumps : RunDumps) (turns : List MemberTurn) : Type 0 where
  pub starts : (start : MemberTurn) → (answer : Answer) → HasTurn turns start → start.transition ≡ Start → start.answer ≡ Some answer → IsStartAnswer answer
  pub stops : AreEngineTurns turns → StopsTellEnds turns
  pub told : IsRunTold run turns dumps
  pub current : AreEngineTurns turns → HasCurrentRun run turns
  pub not_off : AreEngineTurns turns → IsNotCalledOff run turns
  pub going : AreEngineTurns turns → IsStillGoing run turns
  pub unready : AreEngineTurns turns → AreUnreadyInRuns turns

-- The run that is on.

-- the turn, with this transition in the place of its own, which it equals
as_is : (P : MemberTurn → Type 0) (t : MemberTurn) (transition : Transition) → t.transition ≡ transition → P (record t { transition = transition }) → P t
as_is P t transition is holds = subst (λ (x : Transition). P (record t { transition = x })) (sym is) holds

ends_by : (transition : Transition) (t : MemberTurn) (ts : List MemberTurn) (start : ℕ) → t.transition ≡ transition → IsNextTurn transition t.order.start ts → (current_run ts ≡ Some start → HasEndTurn ts start → ⊥)
    → current_run (record t { transition = transition } ∷ ts) ≡ Some start → HasEndTurn (t ∷ ts) start → ⊥
ends_by Start t ts start is next rest on has =
    let number : t.order.start ≡ start = cc (on) in
    elim has.stands as (λ w. ⊥) [
      | inl same ↦ elim has.ends as (λ w. ⊥) [
        | inl stop ↦ let e : t.transition ≡ has.turn.transition = ap (λ (u : MemberTurn). u.transition) same in cc (e, is, stop)
        | inr abort ↦ let e : t.transition ≡ has.turn.transition = ap (λ (u : MemberTurn). u.transition) same in cc (e, is, abort)
      ]
      | inr before ↦ next.1 has.turn before (has.of ∙ sym number)
    ]
ends_by Stop t ts start is next rest on has = absurd (cc (on))
ends_by StartAbort t ts start is next rest on has = absurd (cc (on))
ends_by Pause t ts start is next rest on has = elim has.stands as (λ w. ⊥) [
  | inl same ↦ elim has.ends as (λ w. ⊥) [
    | inl stop ↦ let e : t.transition ≡ has.turn.transition = ap (λ (u : MemberTurn). u.transition) same in cc (e, is, stop)
    | inr abort ↦ let e : t.transition ≡ has.turn.transition = ap (λ (u : MemberTurn). u.transition) same in cc (e, is, abort)
  ]
  | inr before ↦ rest on (record { turn = has.turn; stands = before; ends = has.ends; of = has.of })
]
ends_by Resume t ts start is next rest on has = elim has.stands as (λ w. ⊥) [
  | inl same ↦ elim has.ends as (λ w. ⊥) [
    | inl stop ↦ let e : t.transition ≡ has.turn.transition = ap (λ (u : MemberTurn). u.transition) same in cc (e, is, stop)
    | inr abort ↦ let e : t.transition ≡ has.turn.transition = ap (λ (u : MemberTurn). u.transition) same in cc (e, is, abort)
  ]
  | inr before ↦ rest on (record { turn = has.turn; stands = before; ends = has.ends; of = has.of })
]

-- while a run is on, no turn has ended it
pub no_end_turn : (turns : List MemberTurn) (start : ℕ) → AreEngineTurns turns → current_run turns ≡ Some start → HasEndTurn turns start → ⊥
no_end_turn [] start are on has = absurd has.stands
no_end_turn (t ∷ ts) start are on has = ends_by t.transition t ts start refl are.0 (no_end_turn ts start are.1) on has

-- a run of which there is a start is on, where another turn of it may come
pub of_current : (turns : List MemberTurn) (start : ℕ) → HasStart turns start → IsOfRun start turns → current_run turns ≡ Some start
of_current turns start begin of_run = elim of_run as (λ w. current_run turns ≡ Some start) [
  | inl on ↦ on
  | inr none ↦ absurd (none begin.0 begin.1.stands begin.1.is begin.1.of)
]

pub accepted_more : (t : MemberTurn) (turns : List MemberTurn) (start : ℕ) (begin : MemberTurn) → IsAcceptedStart turns start begin → IsAcceptedStart (t ∷ turns) start begin
accepted_more t turns start begin accepted = record { is_start = HasTurnOf-more t accepted.is_start; accepted = accepted.accepted }

accepted_earlier : (t : MemberTurn) (turns : List MemberTurn) (start : ℕ) (begin : MemberTurn) → t.transition ≢ Start → IsAcceptedStart (t ∷ turns) start begin → IsAcceptedStart turns start begin
accepted_earlier t turns start begin other accepted = record { is_start = HasTurnOf-earlier accepted.is_start other; accepted = accepted.accepted }

-- The run of the logger.

pub in_started : (run : Option LoggedRun) (start : ℕ) → IsInStarted run start → is_started run start ≡ true
in_started None start is = absurd is
in_started (Some r) start is = subst (λ (p : RunPart). is_started (Some (record r { part = p })) start ≡ true) (sym is.1) (eq-eqb r.start start is.0)

started_part : (part : RunPart) (r : LoggedRun) (start : ℕ) → r.part ≡ part → is_started (Some (record r { part = part })) start ≡ true → IsInStarted (Some r) start
started_part Refused r start is on = absurd (cc (on))
started_part Started r start is on = (eqb-true r.start start on, is)
started_part (Stopping time) r start is on = absurd (cc (on))

-- a run that goes on
pub started_run : (run : Option LoggedRun) (start : ℕ) → is_started run start ≡ true → (r : LoggedRun) × (run ≡ Some r) × IsInStarted (Some r) start
started_run None start on = absurd (cc (on))
started_run (Some r) start on = (r, refl, started_part r.part r start refl on)

-- Behind a turn that is answered, the same run.

part_left : (part : RunPart) (turns : List MemberTurn) (start : ℕ) (dumps : RunDumps) (t : MemberTurn) → HasAnswer t.answer → NoneOpen turns → IsPartTold part turns start dumps → IsPartTold part (t ∷ turns) start dumps
part_left Refused turns start dumps t answered none told = (answered, (told.1.0, HasTurnOf-more t told.1.1))
part_left Started turns start dumps t answered none told = (answered, (told.1.0, accepted_more t turns start told.1.0 told.1.1))
part_left (Stopping time) turns start dumps t answered none told = absurd (subst (λ (l : List MemberTurn). NoneOpen l) told.0.latest none)

run_left : (run : Option LoggedRun) (turns : List MemberTurn) (dumps : RunDumps) (t : MemberTurn) → HasAnswer t.answer → NoneOpen turns → IsRunTold run turns dumps → IsRunTold run (t ∷ turns) dumps
run_left None turns dumps t answered none told = answered
run_left (Some r) turns dumps t answered none told = part_left r.part turns r.start dumps t answered none told

-- Starts and stops.

starts_more : (t : MemberTurn) (turns : List MemberTurn) → (t.transition ≡ Start → (answer : Answer) → t.answer ≡ Some answer → IsStartAnswer answer)
    → ((start : MemberTurn) (answer : Answer) → HasTurn turns start → start.transition ≡ Start → start.answer ≡ Some answer → IsStartAnswer answer)
    → (start : MemberTurn) (answer : Answer) → HasTurn (t ∷ turns) start → start.transition ≡ Start → start.answer ≡ Some answer → IsStartAnswer answer
starts_more t turns here before start answer has is told = elim has as (λ w. IsStartAnswer answer) [
  | inl same ↦ here (ap (λ (u : MemberTurn). u.transition) same ∙ is) answer (ap (λ (u : MemberTurn). u.answer) same ∙ told)
  | inr old ↦ before start answer old is told
]

-- a start that comes now is none of an earlier turn
not_now : (t : MemberTurn) (turns : List MemberTurn) (u begin : MemberTurn) → AreEngineTurns (t ∷ turns) → HasTurn turns u → IsAcceptedStart (t ∷ turns) u.order.start begin → IsAcceptedStart turns u.order.start begin
not_now t turns u begin are has accepted = elim accepted.is_start.stands as (λ w. IsAcceptedStart turns u.order.start begin) [
  | inl same ↦
      let is : t.transition ≡ Start = ap (λ (v : MemberTurn). v.transition) same ∙ accepted.is_start.is in
      let new : IsNewStart t.order.start turns = subst (λ (x : Transition). IsNextTurn x t.order.start turns) is are.0 in
      absurd (new.1 u has (sym accepted.is_start.of ∙ sym (ap (λ (v : MemberTurn). v.order.start) same)))
  | inr before ↦ record { is_start = record { stands = before; is = accepted.is_start.is; of = accepted.is_start.of }; accepted = accepted.accepted }
]

stops_more : (t : MemberTurn) (turns : List MemberTurn) → AreEngineTurns (t ∷ turns)
    → (t.transition ≡ Stop → (begin : MemberTurn) → IsAcceptedStart (t ∷ turns) t.order.start begin → (answer : Answer) → t.answer ≡ Some answer → (ends : List ChannelEnd) × (answer ≡ Yes (Channels ends)))
    → StopsTellEnds turns → StopsTellEnds (t ∷ turns)
stops_more t turns are here before begin stop answer accepted has is told = elim has as (λ w. (ends : List ChannelEnd) × (answer ≡ Yes (Channels ends))) [
  | inl same ↦
      let now : IsAcceptedStart (t ∷ turns) t.order.start begin = subst (λ (n : ℕ). IsAcceptedStart (t ∷ turns) n begin) (sym (ap (λ (v : MemberTurn). v.order.start) same)) accepted in
      here (ap (λ (u : MemberTurn). u.transition) same ∙ is) begin now answer (ap (λ (u : MemberTurn). u.answer) same ∙ told)
  | inr old ↦ before begin stop answer (not_now t turns stop begin are old accepted) old is told
]

current_none : (run : Option LoggedRun) (turns : List MemberTurn) → current_run turns ≡ None → HasCurrentRun run turns
current_none run turns none start begin on accepted = absurd (let e : None ≡ Some start = sym none ∙ on in cc (e))

current_more : (run : Option LoggedRun) (t : MemberTurn) (turns : List MemberTurn) → t.transition ≢ Start → current_run (t ∷ turns) ≡ current_run turns → HasCurrentRun run turns → HasCurrentRun run (t ∷ turns)
current_more run t turns other same current start begin on accepted = current start begin (sym same ∙ on) (accepted_earlier t turns start begin other accepted)

-- an accepted start whose run may be stopped now is that of the logger's run
stop_in_run : (run : Option LoggedRun) (t : MemberTurn) (turns : List MemberTurn) (begin : MemberTurn) → t.transition ≢ Start → HasCurrentRun run turns → IsOfRun t.order.start turns → IsAcceptedStart (t ∷ turns) t.order.start begin → is_started run t.order.start ≡ true
stop_in_run run t turns begin other current of_run accepted =
    let before : IsAcceptedStart turns t.order.start begin = accepted_earlier t turns t.order.start begin other accepted in
    in_started run t.order.start (current t.order.start begin (of_current turns t.order.start (begin, before.is_start) of_run) before)

-- The run that is not called off.

off_none : (turns : List MemberTurn) → IsNotCalledOff None turns
off_none turns r u is = absurd (cc (is))

-- a turn more, which calls nothing off
off_more : (run : Option LoggedRun) (t : MemberTurn) (turns : List MemberTurn) → t.transition ≢ StartAbort → IsNotCalledOff run turns → IsNotCalledOff run (t ∷ turns)
off_more run t turns other before r u is has called = elim has as (λ w. u.order.start ≢ r.start) [
  | inl same ↦ absurd (other (ap (λ (v : MemberTurn). v.transition) same ∙ called))
  | inr old ↦ before r u is old called
]

-- a start-abort of another start
off_other : (run : Option LoggedRun) (t : MemberTurn) (turns : List MemberTurn) → is_of_start run t.order.start ≡ false → IsNotCalledOff run turns → IsNotCalledOff run (t ∷ turns)
off_other run t turns off before r u is has called = elim has as (λ w. u.order.start ≢ r.start) [
  | inl same ↦ λ number.
      let of : is_of_start (Some r) t.order.start ≡ false = subst (λ (x : Option LoggedRun). is_of_start x t.order.start ≡ false) is off in
      eqb-false r.start t.order.start of (sym (ap (λ (v : MemberTurn). v.order.start) same ∙ number))
  | inr old ↦ before r u is old called
]

-- the run of a start that comes now
off_new : (t : MemberTurn) (turns : List MemberTurn) (r : LoggedRun) → t.transition ≡ Start → AreEngineTurns (t ∷ turns) → r.start ≡ t.order.start → IsNotCalledOff (Some r) (t ∷ turns)
off_new t turns r starts are of x u is has called =
    let same_run : r ≡ x = cc (is) in
    let new : IsNewStart t.order.start turns = subst (λ (k : Transition). IsNextTurn k t.order.start turns) starts are.0 in
    elim has as (λ w. u.order.start ≢ x.start) [
      | inl same ↦ absurd (let e : Start ≡ StartAbort = sym starts ∙ (ap (λ (v : MemberTurn). v.transition) same ∙ called) in cc (e))
      | inr old ↦ λ number. new.1 u old (number ∙ (sym (ap (λ (y : LoggedRun). y.start) same_run) ∙ of))
    ]

-- the same start
off_same : (r s : LoggedRun) (turns : List MemberTurn) → r.start ≡ s.start → IsNotCalledOff (Some r) turns → IsNotCalledOff (Some s) turns
off_same r s turns same before x u is has called number =
    let same_run : s ≡ x = cc (is) in
    before r u refl has called (number ∙ (sym (ap (λ (y : LoggedRun). y.start) same_run) ∙ sym same))

-- The run that goes on.

going_none : (turns : List MemberTurn) → IsStillGoing None turns
going_none turns r is = absurd (cc (is))

-- a run that does not go on
going_not : (s : LoggedRun) (turns : List MemberTurn) → s.part ≢ Started → IsStillGoing (Some s) turns
going_not s turns other r is part has =
    let same : s ≡ r = cc (is) in
    other (ap (λ (x : LoggedRun). x.part) same ∙ part)

-- a turn more, which does not end that run
going_more : (run : Option LoggedRun) (t : MemberTurn) (turns : List MemberTurn) → ((t.transition ≡ Stop) ⊎ (t.transition ≡ StartAbort) → is_started run t.order.start ≡ true → ⊥) → IsStillGoing run turns → IsStillGoing run (t ∷ turns)
going_more run t turns other before r is part has = elim has.stands as (λ w. ⊥) [
  | inl same ↦
      let number : r.start ≡ t.order.start = sym (ap (λ (u : MemberTurn). u.order.start) same ∙ has.of) in
      let on : is_started run t.order.start ≡ true = subst (λ (x : Option LoggedRun). is_started x t.order.start ≡ true) (sym is) (in_started (Some r) t.order.start (number, part)) in
      other (elim has.ends as (λ w. (t.transition ≡ Stop) ⊎ (t.transition ≡ StartAbort)) [
        | inl stop ↦ inl (ap (λ (u : MemberTurn). u.transition) same ∙ stop)
        | inr abort ↦ inr (ap (λ (u : MemberTurn). u.transition) same ∙ abort)
      ]) on
  | inr old ↦ before r is part (record { turn = has.turn; stands = old; ends = has.ends; of = has.of })
]

-- neither a stop nor a start-abort
ends_none : (t : MemberTurn) (k : Transition) → t.transition ≡ k → k ≢ Stop → k ≢ StartAbort → (t.transition ≡ Stop) ⊎ (t.transition ≡ StartAbort) → ⊥
ends_none t k is stop abort ends = elim ends as (λ w. ⊥) [
  | inl e ↦ stop (sym is ∙ e)
  | inr e ↦ abort (sym is ∙ e)
]

-- the run of a start that comes now
going_new : (t : MemberTurn) (turns : List MemberTurn) (s : LoggedRun) → t.transition ≡ Start → AreEngineTurns (t ∷ turns) → s.start ≡ t.order.start → IsStillGoing (Some s) (t ∷ turns)
going_new t turns s starts are of r is part has =
    let same_run : s ≡ r = cc (is) in
    let new : IsNewStart t.order.start turns = subst (λ (k : Transition). IsNextTurn k t.order.start turns) starts are.0 in
    elim has.stands as (λ w. ⊥) [
      | inl same ↦ ends_none t Start starts (λ e. cc (e)) (λ e. cc (e)) (elim has.ends as (λ w. (t.transition ≡ Stop) ⊎ (t.transition ≡ StartAbort)) [
        | inl stop ↦ inl (ap (λ (u : MemberTurn). u.transition) same ∙ stop)
        | inr abort ↦ inr (ap (λ (u : MemberTurn). u.transition) same ∙ abort)
      ])
      | inr old ↦ new.1 has.turn old (has.of ∙ (sym (ap (λ (x : LoggedRun). x.start) same_run) ∙ of))
    ]

-- no such start
started_of_start : (run : Option LoggedRun) (start : ℕ) → is_of_start run start ≡ false → is_started run start ≡ true → ⊥
started_of_start None start off on = cc (on)
started_of_start (Some r) start off on = (let is : IsInStarted (Some r) start = started_part r.part r start refl on in eqb-false r.start start off is.0)

-- A start that finds a run on.

part_in_run : (part : RunPart) (r : LoggedRun) (turns : List MemberTurn) (dumps : RunDumps) → r.part ≡ part → is_run_on (Some (record r { part = part })) ≡ true → NoneOpen turns → IsPartTold part turns r.start dumps → IsStillGoing (Some r) turns → HasRunOn turns
part_in_run Refused r turns dumps is on none told going = absurd (cc (on))
part_in_run Started r turns dumps is on none told going = record { start = r.start; begin = told.1.0; is_start = told.1.1; going = going r refl is }
part_in_run (Stopping time) r turns dumps is on none told going = absurd (subst (λ (l : List MemberTurn). NoneOpen l) told.0.latest none)

in_run : (run : Option LoggedRun) (turns : List MemberTurn) (dumps : RunDumps) → is_run_on run ≡ true → NoneOpen turns → IsRunTold run turns dumps → IsStillGoing run turns → HasRunOn turns
in_run None turns dumps on none told going = absurd (cc (on))
in_run (Some r) turns dumps on none told going = part_in_run r.part r turns dumps refl on none told going

-- Each turn.

-- a start that is refused
pub refused_known : (run later : Option LoggedRun) (dumps later_dumps : RunDumps) (turns : List MemberTurn) (order : Order) (dump : Option (List ℕ)) (why : Why) → TurnsKnown run dumps turns
    → IsRunTold later (logger_turn Start order dump (Some (No why)) ∷ turns) later_dumps → (AreEngineTurns (logger_turn Start order dump (Some (No why)) ∷ turns) → IsNotCalledOff later (logger_turn Start order dump (Some (No why)) ∷ turns))
    → (AreEngineTurns (logger_turn Start order dump (Some (No why)) ∷ turns) → IsStillGoing later (logger_turn Start order dump (Some (No why)) ∷ turns)) → (AreEngineTurns turns → why ≡ NotReady → HasRunOn turns) → TurnsKnown later later_dumps (logger_turn Start order dump (Some (No why)) ∷ turns)
refused_known run later dumps later_dumps turns order dump why known told not_off going found =
    let t : MemberTurn = logger_turn Start order dump (Some (No why)) in
    record {
      starts = starts_more t turns (λ is answer e. let same : No why ≡ answer = cc (e) in subst (λ (a : Answer). IsStartAnswer a) same tt) known.starts;
      stops = λ are. stops_more t turns are (λ is. absurd (cc (is))) (known.stops are.1);
      told = told;
      current = λ are start begin on accepted.
          let number : order.start ≡ start = cc (on) in
          elim accepted.is_start.stands as (λ w. IsInStarted later start) [
            | inl same ↦ absurd (let e : Some (No why) ≡ Some (Yes Plain) = ap (λ (v : MemberTurn). v.answer) same ∙ accepted.accepted in cc (e))
            | inr before ↦ absurd (are.0.1 begin before (accepted.is_start.of ∙ sym number))
          ];
      not_off = not_off;
      going = going;
      unready = λ are. ((λ e. let same : why ≡ NotReady = cc (e) in found are.1 same), known.unready are.1);
    }

-- a start that is refused at once leaves the run
pub left_refused : (run : Option LoggedRun) (dumps : RunDumps) (turns : List MemberTurn) (order : Order) (dump : Option (List ℕ)) (why : Why) → NoneOpen turns → is_run_on run ≡ true → TurnsKnown run dumps turns
    → TurnsKnown run dumps (logger_turn Start order dump (Some (No why)) ∷ turns)
left_refused run dumps turns order dump why none on known =
    let t : MemberTurn = logger_turn Start order dump (Some (No why)) in
    refused_known run run dumps dumps turns order dump why known (run_left run turns dumps t tt none known.told) (λ are. off_more run t turns (λ s. cc (s)) (known.not_off are.1))
    (λ are. going_more run t turns (λ ends. absurd (ends_none t Start refl (λ e. cc (e)) (λ e. cc (e)) ends)) (known.going are.1)) (λ are is. in_run run turns dumps on none known.told (known.going are))

pub start_refused : (run : Option LoggedRun) (dumps : RunDumps) (begun : ℕ) (turns : List MemberTurn) (order : Order) (dump : Option (List ℕ)) (why : Why) → why ≢ NotReady → TurnsKnown run dumps turns
    → TurnsKnown (Some (record { start = order.start; begun = begun; part = Refused })) no_dumps (logger_turn Start order dump (Some (No why)) ∷ turns)
start_refused run dumps begun turns order dump why ready known =
    let t : MemberTurn = logger_turn Start order dump (Some (No why)) in
    let r : LoggedRun = record { start = order.start; begun = begun; part = Refused } in
    refused_known run (Some r) dumps no_dumps turns order dump why known (tt, (t, record { stands = inl refl; is = refl; of = refl })) (λ are. off_new t turns r refl are refl)
    (λ are. going_not r (t ∷ turns) (λ e. cc (e))) (λ are is. absurd (ready is))

-- the start turn itself
pub start_accepted : (turns : List MemberTurn) (order : Order) (dump : Option (List ℕ)) → IsAcceptedStart (logger_turn Start order dump (Some (Yes Plain)) ∷ turns) order.start (logger_turn Start order dump (Some (Yes Plain)))
start_accepted turns order dump = record { is_start = record { stands = inl refl; is = refl; of = refl }; accepted = refl }

pub start_known : (run : Option LoggedRun) (dumps : RunDumps) (begun : ℕ) (turns : List MemberTurn) (order : Order) (dump : Option (List ℕ)) → TurnsKnown run dumps turns
    → TurnsKnown (Some (record { start = order.start; begun = begun; part = Started })) (start_dumps dump (Ok tt)) (logger_turn Start order dump (Some (Yes Plain)) ∷ turns)
start_known run dumps begun turns order dump known =
    let t : MemberTurn = logger_turn Start order dump (Some (Yes Plain)) in
    record {
      starts = starts_more t turns (λ is answer e. let same : Yes Plain ≡ answer = cc (e) in subst (λ (a : Answer). IsStartAnswer a) same refl) known.starts;
      stops = λ are. stops_more t turns are (λ is. absurd (cc (is))) (known.stops are.1);
      told = (tt, (t, start_accepted turns order dump));
      current = λ are start begin on accepted. (let number : order.start ≡ start = cc (on) in number, refl);
      not_off = λ are. off_new t turns (record { start = order.start; begun = begun; part = Started }) refl are refl;
      going = λ are. going_new t turns (record { start = order.start; begun = begun; part = Started }) refl are refl;
      unready = λ are. ((λ e. absurd (cc (e))), known.unready are.1);
    }

-- a stop that waits
pub stop_known : (r : LoggedRun) (dumps : RunDumps) (turns : List MemberTurn) (order : Order) (dump : Option (List ℕ)) → IsInStarted (Some r) order.start → TurnsKnown (Some r) dumps turns
    → TurnsKnown (Some (record { start = order.start; begun = 0; part = Stopping order.time })) (record dumps { stop = dump }) (logger_turn Stop order dump None ∷ turns)
stop_known r dumps turns order dump on known =
    let t : MemberTurn = logger_turn Stop order dump None in
    let told : IsPartTold Started turns r.start dumps = subst (λ (p : RunPart). IsPartTold p turns r.start dumps) on.1 known.told in
    let accepted : IsAcceptedStart turns order.start told.1.0 = subst (λ (n : ℕ). IsAcceptedStart turns n told.1.0) on.0 told.1.1 in
    record {
      starts = starts_more t turns (λ is. absurd (cc (is))) known.starts;
      stops = λ are. stops_more t turns are (λ is begin now answer e. absurd (cc (e))) (known.stops are.1);
      told = (record { order = order; earlier = turns; latest = refl; of = refl; at = refl }, (told.1.0, accepted_more t turns order.start told.1.0 accepted));
      current = λ are. current_none (Some (record { start = order.start; begun = 0; part = Stopping order.time })) (t ∷ turns) refl;
      not_off = λ are.
          let later : LoggedRun = record { start = order.start; begun = 0; part = Stopping order.time } in
          off_more (Some later) t turns (λ s. cc (s)) (off_same r later turns on.0 (known.not_off are.1));
      going = λ are. going_not (record { start = order.start; begun = 0; part = Stopping order.time }) (t ∷ turns) (λ e. cc (e));
      unready = λ are. ((λ e. absurd (cc (e))), known.unready are.1);
    }

-- a turn that is answered plainly and leaves the run
pub left_stop : (run : Option LoggedRun) (dumps : RunDumps) (turns : List MemberTurn) (order : Order) (dump : Option (List ℕ)) → NoneOpen turns → is_started run order.start ≡ false → TurnsKnown run dumps turns
    → TurnsKnown run dumps (logger_turn Stop order dump (Some (Yes Plain)) ∷ turns)
left_stop run dumps turns order dump none off known =
    let t : MemberTurn = logger_turn Stop order dump (Some (Yes Plain)) in
    record {
      starts = starts_more t turns (λ is. absurd (cc (is))) known.starts;
      stops = λ are. stops_more t turns are
          (λ is begin now answer e. absurd (let on : is_started run order.start ≡ true = stop_in_run run t turns begin (λ s. cc (s)) (known.current are.1) are.0 now in cc (on, off))) (known.stops are.1);
      told = run_left run turns dumps t tt none known.told;
      current = λ are. current_none run (t ∷ turns) refl;
      not_off = λ are. off_more run t turns (λ s. cc (s)) (known.not_off are.1);
      going = λ are. going_more run t turns (λ ends on. cc (on, off)) (known.going are.1);
      unready = λ are. ((λ e. absurd (cc (e))), known.unready are.1);
    }

pub left_pause : (run : Option LoggedRun) (dumps : RunDumps) (turns : List MemberTurn) (order : Order) (dump : Option (List ℕ)) → NoneOpen turns → TurnsKnown run dumps turns → TurnsKnown run dumps (logger_turn Pause order dump (Some (Yes Plain)) ∷ turns)
left_pause run dumps turns order dump none known =
    let t : MemberTurn = logger_turn Pause order dump (Some (Yes Plain)) in
    record {
      starts = starts_more t turns (λ is. absurd (cc (is))) known.starts;
      stops = λ are. stops_more t turns are (λ is. absurd (cc (is))) (known.stops are.1);
      told = run_left run turns dumps t tt none known.told;
      current = λ are. current_more run t turns (λ s. cc (s)) refl (known.current are.1);
      not_off = λ are. off_more run t turns (λ s. cc (s)) (known.not_off are.1);
      going = λ are. going_more run t turns (λ ends. absurd (ends_none t Pause refl (λ e. cc (e)) (λ e. cc (e)) ends)) (known.going are.1);
      unready = λ are. ((λ e. absurd (cc (e))), known.unready are.1);
    }

pub left_resume : (run : Option LoggedRun) (dumps : RunDumps) (turns : List MemberTurn) (order : Order) (dump : Option (List ℕ)) → NoneOpen turns → TurnsKnown run dumps turns → TurnsKnown run dumps (logger_turn Resume order dump (Some (Yes Plain)) ∷ turns)
left_resume run dumps turns order dump none known =
    let t : MemberTurn = logger_turn Resume order dump (Some (Yes Plain)) in
    record {
      starts = starts_more t turns (λ is. absurd (cc (is))) known.starts;
      stops = λ are. stops_more t turns are (λ is. absurd (cc (is))) (known.stops are.1);
      told = run_left run turns dumps t tt none known.told;
      current = λ are. current_more run t turns (λ s. cc (s)) refl (known.current are.1);
      not_off = λ are. off_more run t turns (λ s. cc (s)) (known.not_off are.1);
      going = λ are. going_more run t turns (λ ends. absurd (ends_none t Resume refl (λ e. cc (e)) (λ e. cc (e)) ends)) (known.going are.1);
      unready = λ are. ((λ e. absurd (cc (e))), known.unready are.1);
    }

abort_known : (run later : Option LoggedRun) (dumps later_dumps : RunDumps) (turns : List MemberTurn) (order : Order) (dump : Option (List ℕ)) → TurnsKnown run dumps turns → IsRunTold later (logger_turn StartAbort order dump (Some (Yes Plain)) ∷ turns) later_dumps
    → (AreEngineTurns (logger_turn StartAbort order dump (Some (Yes Plain)) ∷ turns) → IsNotCalledOff later (logger_turn StartAbort order dump (Some (Yes Plain)) ∷ turns))
    → (AreEngineTurns (logger_turn StartAbort order dump (Some (Yes Plain)) ∷ turns) → IsStillGoing later (logger_turn StartAbort order dump (Some (Yes Plain)) ∷ turns)) → TurnsKnown later later_dumps (logger_turn StartAbort order dump (Some (Yes Plain)) ∷ turns)
abort_known run later dumps later_dumps turns order dump known told not_off going =
    let t : MemberTurn = logger_turn StartAbort order dump (Some (Yes Plain)) in
    record {
      starts = starts_more t turns (λ is. absurd (cc (is))) known.starts;
      stops = λ are. stops_more t turns are (λ is. absurd (cc (is))) (known.stops are.1);
      told = told;
      current = λ are. current_none later (t ∷ turns) refl;
      not_off = not_off;
      going = going;
      unready = λ are. ((λ e. absurd (cc (e))), known.unready are.1);
    }

pub left_abort : (run : Option LoggedRun) (dumps : RunDumps) (turns : List MemberTurn) (order : Order) (dump : Option (List ℕ)) → NoneOpen turns → is_of_start run order.start ≡ false → TurnsKnown run dumps turns
    → TurnsKnown run dumps (logger_turn StartAbort order dump (Some (Yes Plain)) ∷ turns)
left_abort run dumps turns order dump none off known =
    let t : MemberTurn = logger_turn StartAbort order dump (Some (Yes Plain)) in
    abort_known run run dumps dumps turns order dump known (run_left run turns dumps t tt none known.told) (λ are. off_other run t turns off (known.not_off are.1))
    (λ are. going_more run t turns (λ ends on. started_of_start run order.start off on) (known.going are.1))

-- the run is called off
pub off_known : (run : Option LoggedRun) (dumps : RunDumps) (turns : List MemberTurn) (order : Order) (dump : Option (List ℕ)) → TurnsKnown run dumps turns → TurnsKnown None no_dumps (logger_turn StartAbort order dump (Some (Yes Plain)) ∷ turns)
off_known run dumps turns order dump known = abort_known run None dumps no_dumps turns order dump known tt (λ are. off_none (logger_turn StartAbort order dump (Some (Yes Plain)) ∷ turns))
    (λ are. going_none (logger_turn StartAbort order dump (Some (Yes Plain)) ∷ turns))

-- The stop that waited is answered.

-- the turns, once the stop that waits has this answer
abbrev pub stop_answered : Order → (dump : Option (List ℕ)) → List ChannelEnd → List MemberTurn → List MemberTurn
stop_answered order dump ends earlier = logger_turn Stop order dump (Some (Yes (Channels ends))) ∷ earlier

-- a start among the turns, of which only the answer to the latest stop differs
pub across : (order : Order) (dump : Option (List ℕ)) (first second : Option Answer) (earlier : List MemberTurn) (start : ℕ) (begin : MemberTurn) → IsAcceptedStart (logger_turn Stop order dump first ∷ earlier) start begin → IsAcceptedStart (logger_turn Stop order dump second ∷ earlier) start begin
across order dump first second earlier start begin accepted =
    accepted_more (logger_turn Stop order dump second) earlier start begin (accepted_earlier (logger_turn Stop order dump first) earlier start begin (λ s. cc (s)) accepted)

pub finish_known : (run : Option LoggedRun) (dumps : RunDumps) (dump : Option (List ℕ)) (ends : List ChannelEnd) (order : Order) (earlier : List MemberTurn) → TurnsKnown run dumps (logger_turn Stop order dump None ∷ earlier) → TurnsKnown None no_dumps (stop_answered order dump ends earlier)
finish_known run dumps dump ends order earlier known =
    let before : MemberTurn = logger_turn Stop order dump None in
    let t : MemberTurn = logger_turn Stop order dump (Some (Yes (Channels ends))) in
    record {
      starts = starts_more t earlier (λ is. absurd (cc (is))) (λ start answer has is told. known.starts start answer (inr has) is told);
      stops = λ are begin stop answer accepted has is told. elim has as (λ w. (e : List ChannelEnd) × (answer ≡ Yes (Channels e))) [
        | inl same ↦ (ends, let e : Some (Yes (Channels ends)) ≡ Some answer = ap (λ (u : MemberTurn). u.answer) same ∙ told in cc (e))
        | inr old ↦ known.stops are begin stop answer (across order dump (Some (Yes (Channels ends))) None earlier stop.order.start begin accepted) (inr old) is told
      ];
      told = tt;
      current = λ are. current_none None (t ∷ earlier) refl;
      not_off = λ are. off_none (t ∷ earlier);
      going = λ are. going_none (t ∷ earlier);
      unready = λ are. ((λ e. absurd (cc (e))), (known.unready are).1);
    }
