use Rattle.read_back.proofs.Told.{reports_back}
use Rattle.read_back.proofs.laws.reports_read_back.Goals as goal

pub returns : goal.returns
returns c = reports_back c.files_read_back.ensures
