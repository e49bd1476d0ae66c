use Rattle.std.proofs.Common.{ℕ, List, ◌∷◌, length, sym, subst}
use Rattle.std.specs.Str.Lines.{lines}
use Rattle.odb_tree.specs.Rows.{Rows}
use Rattle.odb_text.specs.Loads.{IsTextFaultAt, place_at}
use Rattle.odb_text.proofs.Loads.{near_fault, broken_fault, wanting_at}
use Rattle.odb_text.proofs.loading.refused_first.Goals as goal

pub broken_at-requires : goal.broken_at-requires
broken_at-requires c =
    let at = c.args.at.now in
    near_fault c.args.links at.line (length at.rest.now) at.loaded at.dir (c.args.line.now ∷ lines c.args.behind.now) c.in-Err.fault c.requires.room c.in-Err.ensures.fault

pub returns-in-Err : goal.returns-in-Err
returns-in-Err c = λ (s : Rows).
    let at = c.args.at.now in
    subst (IsTextFaultAt c.args.links (place_at at.rest.now at.line at.dir at.loaded) s) (sym c.broken_at.ensures)
    (broken_fault c.args.links at.rest.now at.line at.dir at.loaded s (c.args.line.now ∷ lines c.args.behind.now) c.in-Err.fault c.requires.first c.in-Err.ensures.fault)

pub returns-in-Ok : goal.returns-in-Ok
returns-in-Ok c = λ (s : Rows).
    let at = c.args.at.now in
    let block = c.in-Ok._block in
    wanting_at c.args.links at.rest.now at.line at.dir at.loaded s (c.args.line.now ∷ lines c.args.behind.now) (lines block.rest.now) block.act block.lines c.requires.first c.in-Ok.ensures.block
