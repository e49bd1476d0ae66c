use Rattle.std.proofs.Common.{◌∷◌, sym}
use Rattle.std.proofs.lemmas.Result.{err_from_is_err_and}
use Rattle.std.specs.Str.Lines.{lines}
use Rattle.odb_text.proofs.Written.{block_at, block_begun}
use Rattle.odb_text.proofs.LinkKeys.{read_is, link_block, link_wide}
use Rattle.odb_text.proofs.blocks.link_block.Goals as goal

pub returns-in-None-clause-fault : goal.returns-in-None-clause-fault
returns-in-None-clause-fault c =
    link_wide c.args.head.now.links c.args.dir.now c.args.head.now.line.now c.args.head.now.name c.args.link (lines c.args.head.now.behind.now) c.requires.kept c.requires.read c.in-None.is

pub link_value-requires : goal.link_value-requires
link_value-requires c = read_is c.args.dir.now c.args.head.now.line.now c.args.head.now.name c.args.link c.requires.read

pub returns-in_ok-value-in-Some-clause-block : goal.returns-in_ok-value-in-Some-clause-block
returns-in_ok-value-in-Some-clause-block c =
    block_at c.args.head.now.links c.args.dir.now (c.args.head.now.line.now ∷ lines c.args.head.now.behind.now) (lines c.args.head.now.behind.now) 1 _ c.in_ok-path-in-Some.path _ c.in_ok-value-in-Some.value
    (sym c.in_ok-path-in-Some.ensures) (sym c.in_ok-value-in-Some.ensures)
    (link_block c.args.head.now.links c.args.dir.now c.args.head.now.line.now c.args.head.now.name c.args.link (lines c.args.head.now.behind.now) c.in-Some.field-0 c.requires.kept c.requires.read c.in-Some.is)

pub returns-in_err-path-in-Some-clause-fault : goal.returns-in_err-path-in-Some-clause-fault
returns-in_err-path-in-Some-clause-fault c =
    let p = err_from_is_err_and c.from_residual.result c.from_residual.ensures.1 in
    rw (p.1, p.2) (block_begun c.args.head.now.links c.args.dir.now (c.args.head.now.line.now ∷ lines c.args.head.now.behind.now) _ _ _
    (link_block c.args.head.now.links c.args.dir.now c.args.head.now.line.now c.args.head.now.name c.args.link (lines c.args.head.now.behind.now) c.in-Some.field-0 c.requires.kept c.requires.read c.in-Some.is))

pub returns-in_err-value-in-Some-clause-fault : goal.returns-in_err-value-in-Some-clause-fault
returns-in_err-value-in-Some-clause-fault c =
    let p = err_from_is_err_and c.from_residual-in_err-value-in-Some.result c.from_residual-in_err-value-in-Some.ensures.1 in
    rw (p.1, p.2) (block_begun c.args.head.now.links c.args.dir.now (c.args.head.now.line.now ∷ lines c.args.head.now.behind.now) _ _ _
    (link_block c.args.head.now.links c.args.dir.now c.args.head.now.line.now c.args.head.now.name c.args.link (lines c.args.head.now.behind.now) c.in-Some.field-0 c.requires.kept c.requires.read c.in-Some.is))
