use Rattle.history_laws.proofs.Sending.{sender_has_own, sender_sends_in_runs, silent_sends_in_runs, members_fit}
use Rattle.history_laws.proofs.callers.fits_members.Goals as goal

pub returns : goal.returns
returns c = record { own = sender_has_own; sends = sender_sends_in_runs; silent = silent_sends_in_runs; all = members_fit }
