-- The logger of a closed session never refused a start as not ready; and its calls on a buffer are those that its port told it.
use Rattle.std.specs.Prelude.{◌≡◌, ℕ, List, [], ◌∷◌, slice_get, Option, Some, refl}
use Rattle.std.proofs.Common.{ap, sym, ◌∙◌, inl, inr}
use Rattle.daq_types.specs.Callers.{entries_by}
use Rattle.daq_types.specs.declared.runs.Transition.TheVariants.{Start, Stop, StartAbort}
use Rattle.daq_types.specs.declared.runs.Why.TheVariants.{NotReady}
use Rattle.buffer_core.specs.Ports.{Access}
use Rattle.transitions.specs.declared.answers.Answer.TheVariants.{No}
use Rattle.member_model.specs.Turns.{MemberTurn, HasTurn, AreEngineTurns}
use Rattle.member_model.specs.TurnCalls.{member_turns}
use Rattle.loggers.specs.LoggerStands.{HasRunOn, AreUnreadyInRuns}
use Rattle.history_laws.specs.BegunTurns.{IsOver, StartsComeLast, IsAlwaysCalled}
use Rattle.history_laws.specs.EngineLaws.{RunsAreOver}
use Rattle.composition.proofs.SessionTurns.{speaks}
use Rattle.session_laws.specs.ClosedSessions.{ClosedBuffer, ClosedSession, logger_client, logger_caller, history_in, engine_calls, calls_on_buffer}
use Rattle.session_laws.specs.MembersAtEnd.{IsAccessTo, MembersAtEnd}
use Rattle.session_laws.proofs.KeptTogether.{names_own}
use Rattle.session_laws.proofs.LoggerEnd.{BothAt, Both, Neither, given_once}
use Rattle.session_laws.proofs.MainFirst.{logger_called}
use Rattle.session_laws.proofs.RunTurns.{TurnLaws}

-- Not ready.

-- a start that finds a run on does not come
never_in_run : (ts : List MemberTurn) (t : MemberTurn) → AreUnreadyInRuns ts → StartsComeLast ts → HasTurn ts t → t.transition ≡ Start → t.answer ≡ Some (No NotReady) → ⊥
never_in_run [] t unready last has starts answered = has
never_in_run (u ∷ us) t unready last has starts answered = elim has as (λ w. ⊥) [
  | inl same ↦
      let run : HasRunOn us = unready.0 (ap (λ (x : MemberTurn). x.answer) same ∙ answered) in
      let first = run.is_start.is_start in
      let over : IsOver us run.begin.order.start = (last.0 (ap (λ (x : MemberTurn). x.transition) same ∙ starts)).over run.begin first.stands first.is in
      run.going (record { turn = over.turn; stands = over.stands; ends = over.ends; of = over.of ∙ first.of })
  | inr old ↦ never_in_run us t unready.1 last.1 old starts answered
]

-- the logger was registered before all transitions, for each end of a run
pub always_called : (c : ClosedSession) → MembersAtEnd c → IsAlwaysCalled c.engine (logger_client c)
always_called c ends earlier later caller begun sheet start whole =
    (logger_called c ends Stop 800 refl (λ client. []) earlier later caller begun sheet start whole, logger_called c ends StartAbort 800 refl (λ client. []) earlier later caller begun sheet start whole)

pub never_unready : TurnLaws → RunsAreOver → (c : ClosedSession) (ends : MembersAtEnd c) (turn : MemberTurn) → HasTurn (member_turns (logger_client c) (engine_calls c (logger_caller c))) turn → turn.transition ≡ Start → turn.answer ≡ Some (No NotReady) → ⊥
never_unready laws over c ends turn has starts answered =
    let n : ℕ = logger_client c in
    let turns : List MemberTurn = member_turns n (engine_calls c (logger_caller c)) in
    let are : AreEngineTurns turns = laws.facts.gives (logger_caller c) n c.engine ends.engine (speaks n c.engine (names_own c ends)) in
    let last : StartsComeLast turns = over (logger_caller c) n c.engine ends.engine (speaks n c.engine (names_own c ends)) (always_called c ends) in
    let unready : AreUnreadyInRuns turns = (ends.logger.stands (given_once laws.once c ends)).holds.unready are in
    never_in_run turns turn unready last has starts answered

-- Buffers.

pub own_by : (c : ClosedSession) (ends : MembersAtEnd c) (buffer : ℕ) (a : Access) → slice_get ends.logger.ports buffer ≡ Some a → BothAt ends.logger.ports c.buffers buffer → calls_on_buffer c (logger_caller c) buffer ≡ a.own
own_by c ends buffer a at (Both x b at_x at_b) =
    let acc : IsAccessTo (logger_caller c) b a = ends.logger.access buffer a b at at_b in
    ap (λ (o : Option ClosedBuffer). entries_by (logger_caller c) (history_in o)) at_b ∙ (acc.part.own ∙ sym acc.own)
own_by c ends buffer a at (Neither none nor) = absurd (cc (none, at))
