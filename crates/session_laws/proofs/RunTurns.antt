-- The logger's turns of a run: it has one end; and a run that came about has one stop, which was answered.
use Rattle.std.specs.Prelude.{◌≡◌, ◌<◌, ℕ, zero, suc, List, [], ◌∷◌, length, slice_get, Option, Some, None, refl, ◌⊎◌}
use Rattle.std.proofs.Common.{ap, sym, subst, ◌∙◌, arith, inl, inr}
use Rattle.daq_types.specs.declared.runs.ChannelEnd.{ChannelEnd}
use Rattle.daq_types.specs.declared.runs.Transition.{Transition}
use Rattle.daq_types.specs.declared.runs.Transition.TheVariants.{Start, Stop, StartAbort}
use Rattle.buffer_core.specs.declared.entry.BufferEntry.{BufferEntry}
use Rattle.buffer_core.specs.Ports.{Access}
use Rattle.buffer_core.specs.Slots.{slot_at}
use Rattle.transitions.specs.declared.answers.Answer.TheVariants.{Yes}
use Rattle.transitions.specs.declared.answers.Tally.TheVariants.{Channels}
use Rattle.transitions.specs.EnginePoints.{tally_of}
use Rattle.member_model.specs.RunEngines.{Answer, Tally}
use Rattle.member_model.specs.Turns.{MemberTurn, HasTurn, IsNewStart, IsOfRun, IsNextTurn, AreEngineTurns}
use Rattle.member_model.specs.TurnCalls.{member_turns}
use Rattle.mid_logger.specs.declared.channel.Channel.{Channel}
use Rattle.mid_logger.specs.declared.stage.ChannelRun.{ChannelRun}
use Rattle.mid_logger.specs.declared.stage.ChannelStage.{ChannelStage}
use Rattle.mid_logger.specs.declared.stage.ChannelStage.TheVariants.{Idle, Writing, Draining, Drained, Broken}
use Rattle.mid_logger.specs.Channels.{channel_run}
use Rattle.loggers.specs.declared.logged_run.LoggedRun.{LoggedRun}
use Rattle.loggers.specs.declared.logged_run.RunPart.{RunPart}
use Rattle.loggers.specs.declared.logged_run.RunPart.TheVariants.{Refused, Started, Stopping}
use Rattle.loggers.specs.LoggerStands.{HasEndTurn, IsStageOf, IsStagePart, IsStartedStage, IsStoppingStage, IsRunTold, IsPartTold, IsStillGoing}
use Rattle.loggers.specs.LeftNames.{StandingHasStarted}
use Rattle.loggers.proofs.TurnsKnown.{no_end_turn}
use Rattle.history_laws.specs.BegunTurns.{HasTally}
use Rattle.history_laws.specs.CallerLaws.{AttachesGiveOnce}
use Rattle.history_laws.specs.EngineLaws.{MainHasTransition, RefusedAreCalledOff}
use Rattle.composition.specs.Sessions.{Session}
use Rattle.composition.specs.SessionRuns.{SessionRun, IsStoppedRun}
use Rattle.composition.proofs.FilesTogether.{yes_channels}
use Rattle.composition.proofs.SessionTurns.{EngineFacts, HasStartTally, StopTally, number_of, start_tally, stop_tally, last_tally, speaks}
use Rattle.session_laws.specs.ClosedSessions.{ClosedSession, logger_client, logger_caller, engine_calls, session_of}
use Rattle.session_laws.specs.MembersAtEnd.{MembersAtEnd}
use Rattle.session_laws.specs.EndLaws.{EndsKeep}
use Rattle.session_laws.proofs.KeptTogether.{names_own}
use Rattle.session_laws.proofs.LoggerEnd.{given_once}

-- Lists.

pub there_within : {X : Type 0} (xs : List X) (n : ℕ) → n < length xs → (x : X) × (slice_get xs n ≡ Some x)
there_within [] n within = absurd (omega (arith, within))
there_within (x ∷ xs) zero within = (x, refl)
there_within (x ∷ xs) (suc n) within = there_within xs n (omega (arith, within))

-- the laws of engines and of loggers, and that a closed session's members keep their contracts
pub record TurnLaws : Type 0 where
  pub main : MainHasTransition
  pub facts : EngineFacts
  pub calls_off : RefusedAreCalledOff
  pub started : StandingHasStarted
  pub keep : EndsKeep
  pub once : AttachesGiveOnce

-- A run has one end.

-- the latest turn is of this transition
next_turn : (t : MemberTurn) (ts : List MemberTurn) (k : Transition) → t.transition ≡ k → AreEngineTurns (t ∷ ts) → IsNextTurn k t.order.start ts
next_turn t ts k is are = subst (λ (x : Transition). IsNextTurn x t.order.start ts) is are.0

-- a turn of this transition, for the run with this start number
pub record Turned (turns : List MemberTurn) (transition : Transition) (start : ℕ) (t : MemberTurn) : Type 0 where
  pub stands : HasTurn turns t
  pub is : t.transition ≡ transition
  pub of : t.order.start ≡ start

-- where a run has a start, and another turn of it may come, none ended it yet
none_behind : (ts : List MemberTurn) (start : ℕ) (begin ended : MemberTurn) (k : Transition) → AreEngineTurns ts → IsOfRun start ts → Turned ts Start start begin → Turned ts k start ended → (k ≡ Stop) ⊎ (k ≡ StartAbort) → ⊥
none_behind ts start begin ended k are of_run begins ends kind = elim of_run as (λ w. ⊥) [
  | inl on ↦ no_end_turn ts start are on (record {
    turn = ended;
    stands = ends.stands;
    ends = elim kind as (λ w. (ended.transition ≡ Stop) ⊎ (ended.transition ≡ StartAbort)) [ inl stop ↦ inl (ends.is ∙ stop) | inr abort ↦ inr (ends.is ∙ abort) ];
    of = ends.of;
  })
  | inr none ↦ none begin begins.stands begins.is begins.of
]

-- the same of a list in front of which the latest turn ends the run
none_before : (t : MemberTurn) (ts : List MemberTurn) (start : ℕ) (begin ended : MemberTurn) (k : Transition) → AreEngineTurns (t ∷ ts) → (t.transition ≡ Stop) ⊎ (t.transition ≡ StartAbort) → t.order.start ≡ start → Turned ts Start start begin → Turned ts k start ended
    → (k ≡ Stop) ⊎ (k ≡ StartAbort) → ⊥
none_before t ts start begin ended k are last number begins ends kind = elim last as (λ w. ⊥) [
  | inl stop ↦ none_behind ts start begin ended k are.1 (subst (λ (n : ℕ). IsOfRun n ts) number (next_turn t ts Stop stop are)) begins ends kind
  | inr abort ↦ none_behind ts start begin ended k are.1 (subst (λ (n : ℕ). IsOfRun n ts) number (next_turn t ts StartAbort abort are)) begins ends kind
]

pub one_end : (ts : List MemberTurn) (start : ℕ) (begin stop off : MemberTurn) → AreEngineTurns ts → Turned ts Start start begin → Turned ts Stop start stop → Turned ts StartAbort start off → ⊥
one_end [] start begin stop off are begins ends aborts = absurd begins.stands
one_end (t ∷ ts) start begin stop off are begins ends aborts = elim begins.stands as (λ w. ⊥) [
  | inl same ↦ elim ends.stands as (λ w. ⊥) [
    | inl here ↦ (let e : Start ≡ Stop = sym begins.is ∙ (ap (λ (u : MemberTurn). u.transition) (sym same ∙ here) ∙ ends.is) in cc (e))
    | inr later ↦
        let new : IsNewStart t.order.start ts = next_turn t ts Start (ap (λ (u : MemberTurn). u.transition) same ∙ begins.is) are in
        new.1 stop later (ends.of ∙ sym (ap (λ (u : MemberTurn). u.order.start) same ∙ begins.of))
  ]
  | inr before ↦
      let first : Turned ts Start start begin = record { stands = before; is = begins.is; of = begins.of } in
      elim ends.stands as (λ w. ⊥) [
        | inl here ↦ elim aborts.stands as (λ w. ⊥) [
          | inl too ↦ (let e : Stop ≡ StartAbort = sym ends.is ∙ (ap (λ (u : MemberTurn). u.transition) (sym here ∙ too) ∙ aborts.is) in cc (e))
          | inr later ↦
              none_before t ts start begin off StartAbort are (inl (ap (λ (u : MemberTurn). u.transition) here ∙ ends.is)) (ap (λ (u : MemberTurn). u.order.start) here ∙ ends.of) first
              (record { stands = later; is = aborts.is; of = aborts.of }) (inr refl)
        ]
        | inr earlier ↦ elim aborts.stands as (λ w. ⊥) [
          | inl here ↦
              none_before t ts start begin stop Stop are (inr (ap (λ (u : MemberTurn). u.transition) here ∙ aborts.is)) (ap (λ (u : MemberTurn). u.order.start) here ∙ aborts.of) first
              (record { stands = earlier; is = ends.is; of = ends.of }) (inl refl)
          | inr later ↦ one_end ts start begin stop off are.1 first (record { stands = earlier; is = ends.is; of = ends.of }) (record { stands = later; is = aborts.is; of = aborts.of })
        ]
      ]
]

-- and it is stopped once
pub one_stop : (ts : List MemberTurn) (start : ℕ) (begin one two : MemberTurn) → AreEngineTurns ts → Turned ts Start start begin → Turned ts Stop start one → Turned ts Stop start two → one ≡ two
one_stop [] start begin one two are begins first second = absurd begins.stands
one_stop (t ∷ ts) start begin one two are begins first second = elim begins.stands as (λ w. one ≡ two) [
  | inl same ↦ elim first.stands as (λ w. one ≡ two) [
    | inl here ↦ absurd (let e : Start ≡ Stop = sym begins.is ∙ (ap (λ (u : MemberTurn). u.transition) (sym same ∙ here) ∙ first.is) in cc (e))
    | inr later ↦
        let new : IsNewStart t.order.start ts = next_turn t ts Start (ap (λ (u : MemberTurn). u.transition) same ∙ begins.is) are in
        absurd (new.1 one later (first.of ∙ sym (ap (λ (u : MemberTurn). u.order.start) same ∙ begins.of)))
  ]
  | inr before ↦
      let start_turn : Turned ts Start start begin = record { stands = before; is = begins.is; of = begins.of } in
      elim first.stands as (λ w. one ≡ two) [
        | inl here ↦ elim second.stands as (λ w. one ≡ two) [
          | inl too ↦ sym here ∙ too
          | inr later ↦ absurd (none_before t ts start begin two Stop are (inl (ap (λ (u : MemberTurn). u.transition) here ∙ first.is)) (ap (λ (u : MemberTurn). u.order.start) here ∙ first.of) start_turn
              (record { stands = later; is = second.is; of = second.of }) (inl refl))
        ]
        | inr earlier ↦ elim second.stands as (λ w. one ≡ two) [
          | inl here ↦ absurd (none_before t ts start begin one Stop are (inl (ap (λ (u : MemberTurn). u.transition) here ∙ second.is)) (ap (λ (u : MemberTurn). u.order.start) here ∙ second.of) start_turn
              (record { stands = earlier; is = first.is; of = first.of }) (inl refl))
          | inr later ↦ one_stop ts start begin one two are.1 start_turn (record { stands = earlier; is = first.is; of = first.of }) (record { stands = later; is = second.is; of = second.of })
        ]
      ]
]

-- A run that came about.

-- the turns of a run that came about: its start, which was accepted, and its stop, which was answered
pub record TurnsOf (turns : List MemberTurn) (start : ℕ) : Type 0 where
  pub begin : MemberTurn
  pub starts : Turned turns Start start begin
  pub tally : Tally
  pub accepted : begin.answer ≡ Some (Yes tally)
  pub stop : MemberTurn
  pub stops : Turned turns Stop start stop
  pub answer : Answer
  pub answered : stop.answer ≡ Some answer

-- a channel that has a run is not idle
not_idle : (stage : ChannelStage) (opened : ChannelRun) → channel_run stage ≡ Some opened → stage ≡ Idle → ⊥
not_idle stage opened is idle =
    let none : None ≡ Some opened = sym (ap channel_run idle) ∙ is in
    cc (none)

-- the run of a channel is that which the logger has
started_of : (start : ℕ) (stage : ChannelStage) (opened : ChannelRun) → channel_run stage ≡ Some opened → IsStartedStage start stage → opened.start ≡ start
started_of start (Writing run begun) opened is so = (let same : run ≡ opened = cc (is) in ap (λ (r : ChannelRun). r.start) (sym same) ∙ so)
started_of start (Broken run fallen) opened is so = (let same : run.opened ≡ opened = cc (is) in ap (λ (r : ChannelRun). r.start) (sym same) ∙ so.of)
started_of start stage opened is so = absurd so

stopping_of : (turns : List MemberTurn) (own : List BufferEntry) (start : ℕ) (stage : ChannelStage) (opened : ChannelRun) → channel_run stage ≡ Some opened → IsStoppingStage turns own start stage → opened.start ≡ start
stopping_of turns own start (Draining run) opened is so = (let same : run.opened ≡ opened = cc (is) in ap (λ (r : ChannelRun). r.start) (sym same) ∙ so.of)
stopping_of turns own start (Drained run) opened is so = (let same : run.opened ≡ opened = cc (is) in ap (λ (r : ChannelRun). r.start) (sym same) ∙ so.of)
stopping_of turns own start (Broken run fallen) opened is so = (let same : run.opened ≡ opened = cc (is) in ap (λ (r : ChannelRun). r.start) (sym same) ∙ so.of)
stopping_of turns own start stage opened is so = absurd so

module _ (laws : TurnLaws) (c : ClosedSession) (ends : MembersAtEnd c) where
  abbrev turns : List MemberTurn
  turns = member_turns (logger_client c) (engine_calls c (logger_caller c))

  abbrev its : Session
  its = session_of c ends.moments

  pub are_turns : AreEngineTurns turns
  are_turns = laws.facts.gives (logger_caller c) (logger_client c) c.engine ends.engine (speaks (logger_client c) c.engine (names_own c ends))

  pub turns_of_run : (run : SessionRun) → IsStoppedRun its run → TurnsOf turns run.start
  turns_of_run run came =
      let facts : EngineFacts = laws.facts in
      let n : ℕ = logger_client c in
      let keep = laws.keep c ends in
      let first : HasStartTally its run came n = start_tally facts its keep run came n keep.logger_registered.0 in
      let b = first.told in
      let is : b.turn.transition ≡ Start = b.completed refl in
      let told : HasTally n run.last_tallies = last_tally facts its keep run came n keep.logger_registered.1 in
      let s : StopTally its run came n told.1 = stop_tally facts its keep run came n told.0 told.1 told.2 in
      record {
        begin = b.turn;
        starts = record { stands = b.stands; is = is; of = number_of Start run.first run.start b.turn b.of_begin };
        tally = first.tally;
        accepted = b.answered ∙ ap (λ (a : Answer). Some a) (b.accepted is);
        stop = s.turn;
        stops = record { stands = s.stands; is = s.completed refl; of = number_of Stop run.last run.start s.turn s.of_begin };
        answer = s.answer;
        answered = s.answered;
      }

  -- a stop turn of the run is the one that a tally of the logger is of
  at_stop : (run : SessionRun) (came : IsStoppedRun its run) (tally : Tally) (s : StopTally its run came (logger_client c) tally) (stop : MemberTurn) → Turned turns Stop run.start stop → stop.answer ≡ Some s.answer
  at_stop run came tally s stop stops =
      let t : TurnsOf turns run.start = turns_of_run run came in
      let same : stop ≡ s.turn = one_stop turns run.start t.begin stop s.turn are_turns t.starts stops (record { stands = s.stands; is = s.completed refl; of = number_of Stop run.last run.start s.turn s.of_begin }) in
      ap (λ (u : MemberTurn). u.answer) same ∙ s.answered

  -- what the logger told of its channels in the end of the stop is what it answered to it
  pub told_is : (run : SessionRun) → IsStoppedRun its run → (index : ℕ) (told : List ChannelEnd) → slice_get run.last_tallies index ≡ Some (record { client = logger_client c; tally = Channels told }) → (stop : MemberTurn) → Turned turns Stop run.start stop → stop.answer ≡ Some (Yes (Channels told))
  told_is run came index told at stop stops =
      let s : StopTally its run came (logger_client c) (Channels told) = stop_tally laws.facts its (laws.keep c ends) run came (logger_client c) index (Channels told) at in
      at_stop run came (Channels told) s stop stops ∙ ap (λ (a : Answer). Some a) (yes_channels s.answer told s.tally_is)

  -- and what it answered stands there
  pub told_there : (run : SessionRun) → IsStoppedRun its run → (stop : MemberTurn) → Turned turns Stop run.start stop → (told : List ChannelEnd) → stop.answer ≡ Some (Yes (Channels told)) → (index : ℕ) × (slice_get run.last_tallies index ≡ Some (record { client = logger_client c; tally = Channels told }))
  told_there run came stop stops told answered =
      let n : ℕ = logger_client c in
      let keep = laws.keep c ends in
      let last : HasTally n run.last_tallies = last_tally laws.facts its keep run came n keep.logger_registered.1 in
      let s : StopTally its run came n last.1 = stop_tally laws.facts its keep run came n last.0 last.1 last.2 in
      let both : Some (Yes (Channels told)) ≡ Some s.answer = sym answered ∙ at_stop run came last.1 s stop stops in
      let is : Yes (Channels told) ≡ s.answer = cc (both) in
      let tally : last.1 ≡ Channels told = s.tally_is ∙ ap tally_of (sym is) in
      (last.0, subst (λ (x : Tally). slice_get run.last_tallies last.0 ≡ Some (record { client = n; tally = x })) tally last.2)

  -- no channel has the run any more
  pub never_open : (run : SessionRun) → IsStoppedRun its run → (n : ℕ) (ch : Channel) (opened : ChannelRun) → slot_at c.slots n ≡ Some ch → channel_run ch.stage ≡ Some opened → opened.start ≡ run.start → ⊥
  never_open run came n ch opened there is number =
      let holds = (ends.logger.stands (given_once laws.once c ends)).holds in
      let port = there_within ends.logger.ports ch.spec.buffer (holds.served n ch there) in
      by_run ends.logger.run port.0 (holds.stages n ch port.0 there port.1) holds.told (holds.going are_turns)
    where
      ended : TurnsOf turns run.start
      ended = turns_of_run run came

      by_part : (r : LoggedRun) (part : RunPart) → r.part ≡ part → (port : Access) → IsStagePart part turns port.own r.start ch.stage → IsPartTold part turns r.start ends.logger.dumps → (r.part ≡ Started → HasEndTurn turns r.start → ⊥) → ⊥
      by_part r Refused part port stage told going = not_idle ch.stage opened is stage
      by_part r Started part port stage told going =
          going part (record { turn = ended.stop; stands = ended.stops.stands; ends = inl ended.stops.is; of = ended.stops.of ∙ (sym number ∙ started_of r.start ch.stage opened is stage) })
      by_part r (Stopping time) part port stage told going =
          let waits = told.0 in
          let w : MemberTurn = record { transition = Stop; order = waits.order; dump = ends.logger.dumps.stop; answer = None } in
          let has : HasTurn turns w = subst (λ (l : List MemberTurn). HasTurn l w) (sym waits.latest) (inl refl) in
          let of : waits.order.start ≡ run.start = waits.of ∙ (sym (stopping_of turns port.own r.start ch.stage opened is stage) ∙ number) in
          let same : w ≡ ended.stop = one_stop turns run.start ended.begin w ended.stop are_turns ended.starts (record { stands = has; is = refl; of = of }) ended.stops in
          let both : None ≡ Some ended.answer = ap (λ (u : MemberTurn). u.answer) same ∙ ended.answered in
          cc (both)

      by_run : (o : Option LoggedRun) → (port : Access) → IsStageOf o turns port.own ch.stage → IsRunTold o turns ends.logger.dumps → IsStillGoing o turns → ⊥
      by_run None port stage told going = not_idle ch.stage opened is stage
      by_run (Some r) port stage told going = by_part r r.part refl port stage told (λ part over. going r refl part over)
