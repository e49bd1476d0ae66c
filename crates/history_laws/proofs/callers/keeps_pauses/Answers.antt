use Rattle.history_laws.proofs.PausesKept.{pauses_are_set, resumes_are_set, pauses_are_kept}
use Rattle.history_laws.proofs.callers.keeps_pauses.Goals as goal

pub returns : goal.returns
returns c = record { pauses = pauses_are_set; resumes = resumes_are_set; kept = pauses_are_kept c.of_buffers.ensures }
