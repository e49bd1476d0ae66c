use Rattle.history_laws.proofs.Sampled.{none_is_legal, none_unsent, other_runs, other_unsent, empty_part, no_silent_part}
use Rattle.history_laws.proofs.SampledEnds.{other_is_legal, refuser_alone, not_ended}
use Rattle.history_laws.proofs.callers.needs_runs.Goals as goal

pub returns : goal.returns
returns c =
    record {
      sends = (none_is_legal, none_unsent);
      legal = (other_runs, other_unsent);
      silent = (empty_part, no_silent_part);
      alone = (other_is_legal, not_ended);
      gate = (refuser_alone, not_ended);
    }
