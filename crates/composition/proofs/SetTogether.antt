-- What front-ends set in the database, by the engine's history and the buffers'.
use Rattle.std.specs.Prelude.{◌≡◌, ℕ, List, [], ◌∷◌, length, drop, Some, refl}
use Rattle.std.proofs.Common.{ap, sym, ◌∙◌, subst}
use Rattle.daq_types.specs.declared.events.Event.{Event}
use Rattle.daq_types.specs.declared.runs.Transition.{Transition}
use Rattle.daq_types.specs.declared.runs.Transition.TheVariants.{Stop}
use Rattle.buffer_core.specs.declared.entry.BufferEntry.{BufferEntry}
use Rattle.member_model.specs.RunEngines.{Answer}
use Rattle.transitions.specs.declared.answers.Answer.TheVariants.{Yes}
use Rattle.transitions.specs.declared.answers.Tally.TheVariants.{Front}
use Rattle.member_model.specs.Turns.{MemberTurn, HasAnswer, AreEngineTurns}
use Rattle.member_model.specs.Moments.{HasMoment}
use Rattle.member_model.specs.SentCalls.{SendsNotIn, EachCall}
use Rattle.member_model.proofs.MomentLaws.{moment_of, all_sent_by}
use Rattle.front_ends.specs.FrontKept.{IsFrontTally, KeepsFront, KeepsMoments, SentAtPauses}
use Rattle.composition.specs.SentSets.{sent_by_moment, numbers_at}
use Rattle.composition.specs.Sessions.{Session, MembersKeep, turns_of, buffer_calls, database_calls}
use Rattle.composition.specs.CompositionLaws.{FrontsSet, StopsSet, PausesSet}
use Rattle.composition.proofs.SessionTurns.{EngineFacts, are_turns, StopTally, number_of, stop_tally}
use Rattle.composition.proofs.SentTogether.{yes_front}
use Rattle.composition.proofs.SetsStand.{turn_set, moment_of_span}

pub fronts_set : EngineFacts → (s : Session) → MembersKeep s → FrontsSet s
fronts_set laws s keep f has = keep.fronts_set f has (are_turns laws s keep f.client)

pub stops_set : EngineFacts → (s : Session) → MembersKeep s → StopsSet s
stops_set laws s keep r run f has sent ended tells =
    let own : List BufferEntry = buffer_calls s f.buffer f.client in
    let turns : List MemberTurn = turns_of s f.client in
    let keeps : KeepsFront f.takes f.makes own turns = keep.fronts_keep f has in
    let moments : KeepsMoments own turns f.moments = keep.fronts_moments f has in
    let are : AreEngineTurns turns = are_turns laws s keep f.client in
    let t : StopTally s r run f.client (Front sent ended) = stop_tally laws s keep r run f.client tells.0 (Front sent ended) tells.1 in
    let stops : t.turn.transition ≡ Stop = t.completed refl in
    let answered : t.turn.answer ≡ Some (Yes (Front sent ended)) = t.answered ∙ ap (λ (a : Answer). Some a) (yes_front t.answer sent ended t.tally_is) in
    let tally : IsFrontTally own turns t.turn.order sent ended = keeps.tallies are t.turn sent ended t.stands stops answered in
    let at : (moment : ℕ) × HasMoment turns f.moments t.turn moment = moment_of turns f.moments (length own) t.turn moments.are t.stands in
    let answer : HasAnswer t.turn.answer = subst HasAnswer (sym answered) tt in
    let ends : EachCall (SendsNotIn t.turn.order.start) (drop at.0 own) = moments.ends are t.turn at.0 at.1 stops answer in
    let by_then : ℕ = sent_by_moment own t.turn.order.start at.0 in
    let number : by_then ≡ sent = ap (λ (es : List Event). length es) (all_sent_by own t.turn.order.start at.0 ends) ∙ tally.number in
    let numbers : numbers_at t.turn.transition by_then ≡ sent ∷ [] = ap (λ (k : Transition). numbers_at k by_then) stops ∙ ap (λ (n : ℕ). n ∷ []) number in
    record {
      turn = t.turn;
      moment = at.0;
      has = at.1;
      is = stops;
      of = number_of Stop r.last r.start t.turn t.of_begin;
      number = number;
      set = turn_set f.name own turns f.moments (database_calls s f.client) t.turn at.0 sent answer at.1 numbers (fronts_set laws s keep f has);
    }

pub pauses_set : EngineFacts → SentAtPauses → (s : Session) → MembersKeep s → PausesSet s
pauses_set laws sent s keep f has t moment until span pause answered =
    let own : List BufferEntry = buffer_calls s f.buffer f.client in
    let turns : List MemberTurn = turns_of s f.client in
    let by_then : ℕ = sent_by_moment own t.order.start moment in
    record {
      number = ap (λ (es : List Event). length es) (sent own turns f.moments (keep.fronts_moments f has) t moment until span pause answered);
      set = turn_set f.name own turns f.moments (database_calls s f.client) t moment by_then answered (moment_of_span turns f.moments (length own) t moment until span)
          (ap (λ (k : Transition). numbers_at k by_then) pause) (fronts_set laws s keep f has);
    }
