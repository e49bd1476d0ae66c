use Rattle.std.specs.Prelude.{refl}
use Rattle.composition.proofs.PausedSampled.{paused_keeps, paused_stopped, paused_told}
use Rattle.composition.proofs.laws.is_met_paused.Goals as goal

pub returns : goal.returns
returns c = record { session = paused_keeps; run = paused_stopped; first = paused_told 0 refl; second = paused_told 1 refl }
