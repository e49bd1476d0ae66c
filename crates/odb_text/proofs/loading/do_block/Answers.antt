use Rattle.std.proofs.Common.{ℕ, List, ◌∷◌, length, sym, subst, arith}
use Rattle.std.specs.Str.Lines.{lines}
use Rattle.odb_text.specs.Blocks.{IsBlock}
use Rattle.odb_text.specs.Loads.{IsTextFaultAt, place_at}
use Rattle.odb_text.proofs.Loads.{near_fault, broken_fault}
use Rattle.odb_text.proofs.loading.do_block.Goals as goal

pub broken_at-requires : goal.broken_at-requires
broken_at-requires g c =
    let at = c.args.at.now in
    near_fault c.args.links at.line (length at.rest.now) at.loaded at.dir (c.args.line.now ∷ lines c.args.behind.now) c.in-Err.fault c.requires.room c.in-Err.ensures.fault

pub returns-in-Err-clause-fault : goal.returns-in-Err-clause-fault
returns-in-Err-clause-fault g c =
    let at = c.args.at.now in
    subst (IsTextFaultAt c.args.links (place_at at.rest.now at.line at.dir at.loaded) (g.D.Database.rows c.args.database.now)) (sym c.broken_at.ensures)
    (broken_fault c.args.links at.rest.now at.line at.dir at.loaded (g.D.Database.rows c.args.database.now) (c.args.line.now ∷ lines c.args.behind.now) c.in-Err.fault c.requires.first c.in-Err.ensures.fault)

pub do_step-requires-clause-block : goal.do_step-requires-clause-block
do_step-requires-clause-block g c =
    let block = c.in-Ok.block in
    subst (λ (ls : List (List ℕ)). IsBlock c.args.links c.args.at.now.dir ls block.act (lines block.rest.now) block.lines) (sym c.requires.first) c.in-Ok.ensures.block

pub do_step-requires-clause-shorter : goal.do_step-requires-clause-shorter
do_step-requires-clause-shorter g c = omega (arith, c.in-Ok.ensures.shorter, c.requires.less)
