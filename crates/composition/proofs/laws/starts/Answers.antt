use Rattle.composition.proofs.StartsTogether.{fronts_refuse, fronts_take}
use Rattle.composition.proofs.laws.starts.Goals as goal

pub returns : goal.returns
returns c = record {
  refused = fronts_refuse c.turns_begun.ensures.starts c.tallies_answered.ensures.refusals;
  taken = fronts_take c.turns_begun.ensures.starts c.tallies_answered.ensures.tallies c.called_told.ensures;
}
