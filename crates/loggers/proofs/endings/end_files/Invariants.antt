-- So far the files of the channels with lower numbers are ended.
use Rattle.std.proofs.Common.{◌≡◌, length}
use Rattle.loggers.specs.Moments.{InTurn, HaveFilesOpen}
use Rattle.loggers.specs.Finishing.{EndsSlotAt, ends_idle}
use Rattle.loggers.proofs.endings.end_files.Given as goal

abbrev pub invariant-loop-number : goal.invariant-loop-number
invariant-loop-number g l = record {
  ends : InTurn (λ number. EndsSlotAt l.time l.dump number) l.number
      (record { slots = l.fn.slots; files = g.F.Files.told l.fn.files; told = ends_idle })
      (record { slots = l.slots; files = g.F.Files.told l.files; told = l.ends });
  files : HaveFilesOpen l.slots (g.F.Files.told l.files).seen;
  many : length l.slots ≡ length l.fn.slots;
}
