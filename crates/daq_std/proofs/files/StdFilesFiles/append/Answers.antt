use Rattle.std.proofs.Common.{sym}
use Rattle.daq_std.proofs.InUse.{extends_part_told, extends_told, uses_keeps}
use Rattle.daq_std.proofs.files.StdFilesFiles.append.Goals as goal

pub invariant_of-self : goal.invariant_of-self
invariant_of-self g c = uses_keeps c.args.file c.self.invariant c.append.ensures.uses

pub invariant_of-self-in-Err : goal.invariant_of-self-in-Err
invariant_of-self-in-Err g c = uses_keeps c.args.file c.self.invariant c.append.ensures.uses

pub returns-in-Ok-clause-written : goal.returns-in-Ok-clause-written
returns-in-Ok-clause-written g c = rw (sym c.self.view_is) (extends_told _ _ _ _ _ c.append.ensures.uses.changes _ (rw (sym c.self.view_is) at c.requires) c.in-Ok.ensures.given)

pub returns-in-Err-clause-part : goal.returns-in-Err-clause-part
returns-in-Err-clause-part g c = rw (sym c.self.view_is) (extends_part_told _ _ _ _ _ c.append.ensures.uses.changes _ (rw (sym c.self.view_is) at c.requires) c.in-Err.ensures.part)
