use Rattle.std.proofs.Common.{◌∷◌}
use Rattle.std.specs.Str.Lines.{lines}
use Rattle.odb_text.specs.LineForms.{IsDirLine}
use Rattle.odb_text.proofs.DumpItems.{at_some, at_none}
use Rattle.odb_text.proofs.Beginnings.{begins_no_key}
use Rattle.odb_text.proofs.Written.{bad_line, make_block, block_begun}
use Rattle.odb_text.proofs.blocks.read_block.Goals as goal

pub returns-in-Ok-Some-clause-block : goal.returns-in-Ok-Some-clause-block
returns-in-Ok-Some-clause-block c =
    make_block c.args.links c.args.dir.now c.args.line.now c.in-Ok-Some.path (lines c.args.behind.now) (at_some (IsDirLine c.args.line.now) c.in-Ok-Some.field-0 c.in-Ok-Some.path c.in-Ok-Some.field-0-is c.in-Ok-Some.ensures.some)

pub returns-in-None-clause-fault : goal.returns-in-None-clause-fault
returns-in-None-clause-fault c =
    bad_line c.args.links c.args.dir.now c.args.line.now (lines c.args.behind.now)
    (begins_no_key c.args.links c.args.dir.now c.args.line.now c.in-None.ensures.none c.requires (at_none c.in-Ok-None.field-0 c.in-Ok-None.field-0-is c.in-Ok-None.ensures.none))

pub returns-in-Err-clause-fault : goal.returns-in-Err-clause-fault
returns-in-Err-clause-fault c =
    let there = c.in-Err.ensures.memory in
    block_begun c.args.links c.args.dir.now (c.args.line.now ∷ lines c.args.behind.now) _ _ _ (make_block c.args.links c.args.dir.now c.args.line.now there.0 (lines c.args.behind.now) there.1)
