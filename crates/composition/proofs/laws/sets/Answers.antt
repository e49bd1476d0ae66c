use Rattle.composition.proofs.SessionTurns.{EngineFacts}
use Rattle.composition.proofs.SetTogether.{fronts_set, stops_set, pauses_set}
use Rattle.composition.proofs.laws.sets.Goals as goal

pub returns : goal.returns
returns c =
    let laws : EngineFacts = record {
      gives = c.gives_turns.ensures;
      begun = c.turns_begun.ensures.begun;
      from = c.turns_begun.ensures.starts;
      tallies = c.tallies_answered.ensures.tallies;
      told = c.called_told.ensures;
      rise = c.start_numbers_rise.ensures;
    } in
    record { set = fronts_set laws; stop = stops_set laws; pause = pauses_set laws c.sent_at_pauses.ensures }
