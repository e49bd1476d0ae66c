use Rattle.odb_tree.proofs.Changing.{stored, kept}
use Rattle.odb_tree.proofs.changes.replace_at.Goals as goal

pub returns-in-Some : goal.returns-in-Some
returns-in-Some c =
    stored c.args.rows.now.items c.as_slice.result.now c.args.names.now (λ _. c.args.value) c.place_at.result c.in-Some.place c.index_mut.result.now c.replace_row.new.row
    c.as_slice.ensures.value c.place_at.ensures.place c.in-Some.is c.index_mut.ensures.value c.replace_row.ensures

pub returns-in_default : goal.returns-in_default
returns-in_default c =
    kept c.args.rows.now.items c.as_slice.result.now c.args.names.now (λ _. c.args.value) c.place_at.result c.as_slice.ensures.value c.place_at.ensures.place c.in_default.not-Some
