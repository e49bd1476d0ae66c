use Rattle.read_back.proofs.FilesBack.{files_back}
use Rattle.read_back.proofs.laws.files_read_back.Goals as goal

pub returns : goal.returns
returns c = files_back c.analysis_printed.ensures
