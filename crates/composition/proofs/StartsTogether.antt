-- Why front-ends refuse a start, and what is known where none did.
use Rattle.std.specs.Prelude.{◌≡◌, ℕ, Bool, true, false, if◌then◌else◌, ◌∷◌, ◌++◌, refl}
use Rattle.std.proofs.Common.{ap, sym, ◌∙◌, subst}
use Rattle.daq_types.specs.Callers.{caller_of_client}
use Rattle.daq_types.specs.declared.runs.Order.{Order}
use Rattle.daq_types.specs.declared.runs.RunState.{RunState}
use Rattle.daq_types.specs.declared.runs.RunState.TheVariants.{Stopped}
use Rattle.daq_types.specs.declared.runs.StartOutcome.TheVariants.{Completed}
use Rattle.daq_types.specs.declared.runs.Transition.TheVariants.{Start}
use Rattle.daq_types.specs.declared.runs.Why.{Why}
use Rattle.daq_types.specs.declared.runs.Why.TheVariants.{NotReady}
use Rattle.transitions.specs.declared.answers.Answer.TheVariants.{Yes, No}
use Rattle.transitions.specs.declared.answers.Tally.TheVariants.{Plain}
use Rattle.transitions.specs.declared.replies.Progress.TheVariants.{Done}
use Rattle.transitions.specs.declared.entry.EngineEntry.TheVariants.{Check}
use Rattle.transitions.specs.EngineCalls.{order_for}
use Rattle.transitions.specs.EnginePoints.{engine_past, state_at}
use Rattle.transitions.specs.GivenTurns.{SpeaksFor}
use Rattle.member_model.specs.RunEngines.{Sheet, Answer, Tally, EngineHistory}
use Rattle.member_model.specs.Turns.{MemberTurn, HasTurn}
use Rattle.history_laws.specs.BegunTurns.{IsOfBegin, IsRefusedTurn, IsTallyOfTurn, HasTally}
use Rattle.history_laws.specs.EngineLaws.{StartsFromStopped, TalliesAreAnswers, RefusalsAreAnswers, CalledAreTold}
use Rattle.composition.specs.Sessions.{Session, turns_of, MembersKeep}
use Rattle.composition.specs.CompositionLaws.{FrontsRefuse, FrontsTakePart}
use Rattle.composition.proofs.SessionTurns.{speaks}

-- A turn of a start has the order of a begin from the stopped state.
order_is : StartsFromStopped → (s : Session) → MembersKeep s → (client : ℕ) (from : RunState) (sheet : Sheet) (start : ℕ) (turn : MemberTurn) → HasTurn (turns_of s client) turn → turn.transition ≡ Start → IsOfBegin from Start sheet start turn → turn.order ≡ order_for sheet start Stopped
order_is law s keep client from sheet start turn stands starts of =
    let alone : SpeaksFor (caller_of_client client) client s.engine = speaks client s.engine keep.own_clients in
    let stopped : turn.order.from ≡ Stopped = law (caller_of_client client) client s.engine keep.engine_legal alone turn stands starts in
    let came : from ≡ Stopped = sym (ap (λ (o : Order). o.from) of.order) ∙ stopped in
    of.order ∙ ap (order_for sheet start) came

refused_so : (takes : Bool) (why : Why) → ◌≡◌ {A = Answer} (No why) (if takes then Yes Plain else No NotReady) → (why ≡ NotReady) × (takes ≡ false)
refused_so true why is = absurd (cc (is))
refused_so false why is = (cc (is), refl)

taken_so : (takes : Bool) (tally : Tally) → Yes tally ≡ (if takes then Yes Plain else No NotReady) → takes ≡ true
taken_so true tally is = refl
taken_so false tally is = absurd (cc (is))

pub fronts_refuse : StartsFromStopped → RefusalsAreAnswers → (s : Session) → MembersKeep s → FrontsRefuse s
fronts_refuse from law s keep f has sheet start why tallies made =
    let alone : SpeaksFor (caller_of_client f.client) f.client s.engine = speaks f.client s.engine keep.own_clients in
    let came : RunState = state_at (engine_past made.earlier) in
    let r : IsRefusedTurn (turns_of s f.client) came sheet start why = law (caller_of_client f.client) f.client s.engine keep.engine_legal alone sheet start why tallies made in
    let order : r.turn.order ≡ order_for sheet start Stopped = order_is from s keep f.client came sheet start r.turn r.stands r.starts r.of_begin in
    let answer : ◌≡◌ {A = Answer} (No why) (if f.takes r.turn.order then Yes Plain else No NotReady) = (keep.fronts_keep f has).starts r.turn (No why) r.stands r.starts r.answered in
    refused_so (f.takes (order_for sheet start Stopped)) why (subst (λ (o : Order). ◌≡◌ {A = Answer} (No why) (if f.takes o then Yes Plain else No NotReady)) order answer)

pub fronts_take : StartsFromStopped → TalliesAreAnswers → CalledAreTold → (s : Session) → MembersKeep s → FrontsTakePart s
fronts_take from law told s keep sheet start tallies made f has =
    let alone : SpeaksFor (caller_of_client f.client) f.client s.engine = speaks f.client s.engine keep.own_clients in
    let came : RunState = state_at (engine_past made.earlier) in
    let rest : EngineHistory = made.between ++ (made.closer, Check (Done Completed) tallies) ∷ made.later in
    let tally : HasTally f.client tallies = told f.client s.engine keep.engine_legal Start sheet start tallies made ((keep.fronts_registered f has).0 made.earlier rest made.opener Start sheet start made.whole) in
    let t : IsTallyOfTurn s.engine f.client (turns_of s f.client) came Start sheet start Completed tally.1 =
    law (caller_of_client f.client) f.client s.engine keep.engine_legal alone Start sheet start Completed tallies made tally.0 tally.1 tally.2 in
    let starts : t.turn.transition ≡ Start = t.completed refl in
    let order : t.turn.order ≡ order_for sheet start Stopped = order_is from s keep f.client came sheet start t.turn t.stands starts t.of_begin in
    let answer : t.answer ≡ (if f.takes t.turn.order then Yes Plain else No NotReady) = (keep.fronts_keep f has).starts t.turn t.answer t.stands starts t.answered in
    let plain : Yes tally.1 ≡ (if f.takes (order_for sheet start Stopped) then Yes Plain else No NotReady) =
    sym (t.accepted starts) ∙ subst (λ (o : Order). t.answer ≡ (if f.takes o then Yes Plain else No NotReady)) order answer in
    taken_so (f.takes (order_for sheet start Stopped)) tally.1 plain
