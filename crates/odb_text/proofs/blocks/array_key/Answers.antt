use Rattle.std.proofs.Common.{◌+◌, ◌∷◌, sym, subst}
use Rattle.std.proofs.lemmas.Result.{err_from_is_err_and}
use Rattle.std.specs.Str.Lines.{lines}
use Rattle.odb_text.specs.Blocks.{IsBlockFault}
use Rattle.odb_text.proofs.Written.{array_value, array_block, array_fault, block_at, block_begun}
use Rattle.odb_text.proofs.blocks.array_key.Goals as goal

pub key_value-value-requires-clause-value : goal.key_value-value-requires-clause-value
key_value-value-requires-clause-value c =
    array_value c.args.dir.now c.args.head.now.line.now c.args.head.now.name c.args.head.now.tid c.args.count (lines c.args.head.now.behind.now) c.in-Ok.read.items.items c.in-Ok.read.size (lines c.in-Ok.read.rest.now)
    c.requires.head c.requires.many c.in-Ok.ensures.read

pub returns-in-Err-clause-fault : goal.returns-in-Err-clause-fault
returns-in-Err-clause-fault c =
    subst (IsBlockFault c.args.head.now.links c.args.dir.now (c.args.head.now.line.now ∷ lines c.args.head.now.behind.now)) (sym c.items_fault.ensures)
    (array_fault c.args.head.now.links c.args.dir.now c.args.head.now.line.now c.args.head.now.name c.args.head.now.tid c.args.count (lines c.args.head.now.behind.now) c.in-Err.fault c.requires.head c.requires.many c.in-Err.ensures.fault)

pub returns-in_ok-path-in-Ok-clause-block : goal.returns-in_ok-path-in-Ok-clause-block
returns-in_ok-path-in-Ok-clause-block c =
    block_at c.args.head.now.links c.args.dir.now (c.args.head.now.line.now ∷ lines c.args.head.now.behind.now) (lines c.in-Ok.read.rest.now) (c.args.count + 1) _ c.in_ok-path-in-Ok.path _ c.key_value-value.result
    (sym c.in_ok-path-in-Ok.ensures) (sym c.key_value-value.ensures)
    (array_block c.args.head.now.links c.args.dir.now c.args.head.now.line.now c.args.head.now.name c.args.head.now.tid c.args.count (lines c.args.head.now.behind.now) c.in-Ok.read.items.items c.in-Ok.read.size (lines c.in-Ok.read.rest.now)
    c.requires.head c.requires.many c.in-Ok.ensures.read)

pub returns-in_err-path-in-Ok-clause-fault : goal.returns-in_err-path-in-Ok-clause-fault
returns-in_err-path-in-Ok-clause-fault c =
    let p = err_from_is_err_and c.from_residual.result c.from_residual.ensures.1 in
    rw (p.1, p.2) (block_begun c.args.head.now.links c.args.dir.now (c.args.head.now.line.now ∷ lines c.args.head.now.behind.now) _ _ _
    (array_block c.args.head.now.links c.args.dir.now c.args.head.now.line.now c.args.head.now.name c.args.head.now.tid c.args.count (lines c.args.head.now.behind.now) c.in-Ok.read.items.items c.in-Ok.read.size (lines c.in-Ok.read.rest.now)
    c.requires.head c.requires.many c.in-Ok.ensures.read))
