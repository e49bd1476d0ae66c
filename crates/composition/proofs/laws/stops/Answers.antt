use Rattle.std.specs.Prelude.{◌≢◌}
use Rattle.daq_types.specs.declared.runs.Transition.TheVariants.{Start, Stop}
use Rattle.composition.proofs.laws.stops.Goals as goal

stop_no_start : Stop ≢ Start
stop_no_start same = cc (same)

pub returns : goal.returns
returns c s keep sheet start outcome tallies has = c.tallies_answered.ensures.completed s.engine keep.engine_legal Stop sheet start outcome tallies has stop_no_start
