use Rattle.odb_value.specs.ValueChanges.{resized}
use Rattle.odb_tree.proofs.Changing.{stored, found_at, kept}
use Rattle.odb_tree.proofs.changes.resize_at.Goals as goal

pub resize_row-requires-clause-kept : goal.resize_row-requires-clause-kept
resize_row-requires-clause-kept c =
    c.requires.kept c.index_mut.result.now (found_at c.args.rows.now.items c.as_slice.result.now c.args.names.now c.place_at.result c.in-Some.place c.index_mut.result.now c.as_slice.ensures.value c.place_at.ensures.place c.in-Some.is c.index_mut.ensures.value)

pub returns-in_ok-resize_row-clause-ok : goal.returns-in_ok-resize_row-clause-ok
returns-in_ok-resize_row-clause-ok c =
    stored c.args.rows.now.items c.as_slice.result.now c.args.names.now (λ v. resized v c.args.len) c.place_at.result c.in-Some.place c.index_mut.result.now c.resize_row.new.row
    c.as_slice.ensures.value c.place_at.ensures.place c.in-Some.is c.index_mut.ensures.value c.in_ok-resize_row.ensures.ok

pub returns-in_default-clause-ok : goal.returns-in_default-clause-ok
returns-in_default-clause-ok c =
    kept c.args.rows.now.items c.as_slice.result.now c.args.names.now (λ v. resized v c.args.len) c.place_at.result c.as_slice.ensures.value c.place_at.ensures.place c.in_default.not-Some
