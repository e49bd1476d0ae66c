use Rattle.std.proofs.Common.{◌∷◌, sym, subst}
use Rattle.std.proofs.lemmas.Result.{err_from_is_err_and}
use Rattle.std.specs.Str.Lines.{lines}
use Rattle.odb_text.specs.Blocks.{IsBlockFault}
use Rattle.odb_text.proofs.Written.{single_block, single_fault, block_at, block_rest, block_begun}
use Rattle.odb_text.proofs.blocks.single_key.Goals as goal

pub returns-in-Err-clause-fault : goal.returns-in-Err-clause-fault
returns-in-Err-clause-fault c =
    subst (IsBlockFault c.args.head.now.links c.args.dir.now (c.args.head.now.line.now ∷ lines c.args.head.now.behind.now)) (sym c.items_fault.ensures)
    (single_fault c.args.head.now.links c.args.dir.now c.args.head.now.line.now c.args.head.now.name c.args.head.now.tid c.args.head.now.rest.now c.args.text.now (lines c.args.head.now.behind.now) c.in-Err.fault
    c.requires.key c.requires.kept c.requires.single c.requires.no_pass c.requires.no_dir c.in-Err.ensures.fault)

pub returns-in_ok-path-in-Ok-clause-block : goal.returns-in_ok-path-in-Ok-clause-block
returns-in_ok-path-in-Ok-clause-block c =
    block_rest c.args.head.now.links c.args.dir.now (c.args.head.now.line.now ∷ lines c.args.head.now.behind.now) _ c.args.head.now.behind.now c.in-Ok.read.rest.now 1 (sym c.in-Ok.ensures.rest)
    (block_at c.args.head.now.links c.args.dir.now (c.args.head.now.line.now ∷ lines c.args.head.now.behind.now) (lines c.args.head.now.behind.now) 1 _ c.in_ok-path-in-Ok.path _ c.key_value-value.result
    (sym c.in_ok-path-in-Ok.ensures) (sym c.key_value-value.ensures)
    (single_block c.args.head.now.links c.args.dir.now c.args.head.now.line.now c.args.head.now.name c.args.head.now.tid c.args.head.now.rest.now c.args.text.now (lines c.args.head.now.behind.now) c.in-Ok.read.items.items c.in-Ok.read.size
    c.requires.key c.requires.kept c.requires.single c.in-Ok.ensures.read))

pub returns-in_err-path-in-Ok-clause-fault : goal.returns-in_err-path-in-Ok-clause-fault
returns-in_err-path-in-Ok-clause-fault c =
    let p = err_from_is_err_and c.from_residual.result c.from_residual.ensures.1 in
    rw (p.1, p.2) (block_begun c.args.head.now.links c.args.dir.now (c.args.head.now.line.now ∷ lines c.args.head.now.behind.now) _ _ _
    (single_block c.args.head.now.links c.args.dir.now c.args.head.now.line.now c.args.head.now.name c.args.head.now.tid c.args.head.now.rest.now c.args.text.now (lines c.args.head.now.behind.now) c.in-Ok.read.items.items c.in-Ok.read.size
    c.requires.key c.requires.kept c.requires.single c.in-Ok.ensures.read))
