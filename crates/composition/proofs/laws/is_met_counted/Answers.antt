use Rattle.buffer_core.specs.Samples.{sample_event}
use Rattle.composition.proofs.CountedSampled.{counted_keeps, counted_stopped, saw_run}
use Rattle.composition.proofs.laws.is_met_counted.Goals as goal

pub returns : goal.returns
returns c = record { session = counted_keeps; run = counted_stopped; through = saw_run sample_event }
