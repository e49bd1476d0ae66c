use Rattle.std.proofs.Common.{sym}
use Rattle.daq_std.proofs.InUse.{ends_told, frees_keeps, leaves_keeps}
use Rattle.daq_std.proofs.files.StdFilesFiles.close.Goals as goal

pub invariant_of-self-in-Reading : goal.invariant_of-self-in-Reading
invariant_of-self-in-Reading g c = leaves_keeps c.args.file (frees_keeps c.args.file c.self.invariant c.assign.ensures.changed c.assign.ensures.counted.count) c.release.ensures c.assign.ensures.changed.usage_is

pub returns-in-Reading-clause-read : goal.returns-in-Reading-clause-read
returns-in-Reading-clause-read g c = λ _. rw (sym c.self.view_is) (ends_told _ _ _ _ _ _ c.release.ensures.changes c.assign.ensures.changed)
