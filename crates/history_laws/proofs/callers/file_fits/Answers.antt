use Rattle.history_laws.proofs.FileSizes.{run_file_fits}
use Rattle.history_laws.proofs.callers.file_fits.Goals as goal

pub returns : goal.returns
returns c = run_file_fits c.of_buffers.ensures
