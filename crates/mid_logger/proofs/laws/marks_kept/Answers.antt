use Rattle.mid_logger.proofs.MarkSteps.{begun_kept, ended_kept}
use Rattle.mid_logger.proofs.laws.marks_kept.Goals as goal

pub returns : goal.returns
returns c = record { begun = begun_kept; ended = ended_kept }
