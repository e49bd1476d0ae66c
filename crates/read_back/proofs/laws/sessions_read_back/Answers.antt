use Rattle.read_back.proofs.Told.{session_back}
use Rattle.read_back.proofs.laws.sessions_read_back.Goals as goal

pub returns : goal.returns
returns g c = session_back _ _ c.reports_read_back.ensures
