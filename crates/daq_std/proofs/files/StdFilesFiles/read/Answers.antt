use Rattle.std.proofs.Common.{sym}
use Rattle.daq_std.proofs.InUse.{read_same_told, reads_told, uses_keeps}
use Rattle.daq_std.proofs.files.StdFilesFiles.read.Goals as goal

pub invariant_of-self : goal.invariant_of-self
invariant_of-self g c = uses_keeps c.args.file c.self.invariant c.read.ensures.uses

pub invariant_of-self-in-Err : goal.invariant_of-self-in-Err
invariant_of-self-in-Err g c = uses_keeps c.args.file c.self.invariant c.read.ensures.uses

pub returns-in-Ok-clause-bytes : goal.returns-in-Ok-clause-bytes
returns-in-Ok-clause-bytes g c = rw (sym c.self.view_is) (reads_told _ _ _ _ _ c.read.ensures.uses.changes _ (rw (sym c.self.view_is) at c.requires))

pub returns-in-Err-clause-kept : goal.returns-in-Err-clause-kept
returns-in-Err-clause-kept g c = rw (sym c.self.view_is) (read_same_told _ _ _ _ _ c.read.ensures.uses.changes (rw (sym c.self.view_is) at c.requires))
