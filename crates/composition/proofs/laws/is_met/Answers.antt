use Rattle.composition.proofs.Sampled.{sample_keeps, sample_stopped, sample_told}
use Rattle.composition.proofs.laws.is_met.Goals as goal

pub returns : goal.returns
returns c = record { session = sample_keeps; run = sample_stopped; channel = sample_told }
