use Rattle.history_laws.proofs.EndedRuns.{begun_is_ended, sender_makes_no_mark}
use Rattle.history_laws.proofs.callers.ends_runs.Goals as goal

pub returns : goal.returns
returns c = record { ended = begun_is_ended; senders = sender_makes_no_mark }
