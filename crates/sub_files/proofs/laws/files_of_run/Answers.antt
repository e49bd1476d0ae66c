use Rattle.sub_files.proofs.FilesOfRun.{files_of_run}
use Rattle.sub_files.proofs.laws.files_of_run.Goals as goal

pub returns : goal.returns
returns c = files_of_run
