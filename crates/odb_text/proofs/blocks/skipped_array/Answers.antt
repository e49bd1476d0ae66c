use Rattle.std.specs.Str.Lines.{lines}
use Rattle.odb_text.proofs.Written.{skipped_array, skipped_fault}
use Rattle.odb_text.proofs.blocks.skipped_array.Goals as goal

pub returns-in-Err-clause-fault : goal.returns-in-Err-clause-fault
returns-in-Err-clause-fault c =
    skipped_fault c.args.head.now.links c.args._dir.now c.args.head.now.line.now c.args.head.now.name c.args.head.now.tid c.args.head.now.rest.now c.args.count c.in-Err.at (lines c.args.head.now.behind.now)
    c.requires.key c.requires.skipped c.requires.array c.requires.many c.in-Err.ensures.fault

pub returns-in-Ok-clause-block : goal.returns-in-Ok-clause-block
returns-in-Ok-clause-block c =
    skipped_array c.args.head.now.links c.args._dir.now c.args.head.now.line.now c.args.head.now.name c.args.head.now.tid c.args.head.now.rest.now c.args.count (lines c.args.head.now.behind.now) (lines c.in-Ok.rest.now)
    c.requires.key c.requires.skipped c.requires.array c.requires.many c.in-Ok.ensures.skipped
