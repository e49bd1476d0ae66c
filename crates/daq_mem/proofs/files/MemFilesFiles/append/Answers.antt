use Rattle.std.proofs.Common.{arith}
use Rattle.daq_mem.proofs.FileSteps.{none_appended, same_slots, writing_inside}
use Rattle.daq_io.proofs.SeenLaws.{Same-refl}
use Rattle.daq_mem.proofs.files.MemFilesFiles.append.Goals as goal

pub returns-then-is_next-clause-part : goal.returns-then-is_next-clause-part
returns-then-is_next-clause-part c = none_appended c.args.file c.args.bytes.now c.requires (Same-refl _)

pub more-requires : goal.more-requires
more-requires c = omega (arith, writing_inside c.args.self.now.numbers.uses.items c.args.file c.requires, c.args.self.now.given_by_number)

pub returns-clause-part : goal.returns-clause-part
returns-clause-part c = none_appended c.args.file c.args.bytes.now c.requires (same_slots _ _ c.args.self.now.numbers.uses.items _ _ _ c.if-append.ensures.kept)
