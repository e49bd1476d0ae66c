use Rattle.session_runs.proofs.Fits.{more_fit, opening_fits, records_fit, registered_none}
use Rattle.session_runs.proofs.laws.runs_fit.Goals as goal

pub returns : goal.returns
returns c = record { opening = opening_fits; registered = registered_none; more = more_fit; records = records_fit }
