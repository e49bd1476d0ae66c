use Rattle.std.proofs.Common.{sym, refl}
use Rattle.daq_std.proofs.InUse.{removes_told, same_told}
use Rattle.daq_std.proofs.files.StdFilesFiles.remove.Goals as goal

pub returns-in-Ok-clause-removed : goal.returns-in-Ok-clause-removed
returns-in-Ok-clause-removed g c = rw (sym c.self.view_is) (removes_told _ _ _ _ _ c.in-Ok.ensures.done)

pub returns-in-Err-clause-kept : goal.returns-in-Err-clause-kept
returns-in-Err-clause-kept g c = rw (sym c.self.view_is) (same_told _ _ _ _ _ refl c.in-Err.ensures.not_done)
