use Rattle.odb_value.specs.ValueChanges.{put_in}
use Rattle.odb_tree.proofs.Changing.{stored, found_at, kept}
use Rattle.odb_tree.proofs.changes.put_at.Goals as goal

pub put_row-requires : goal.put_row-requires
put_row-requires c =
    c.requires c.index_mut.result.now (found_at c.args.rows.now.items c.as_slice.result.now c.args.names.now c.place_at.result c.in-Some.place c.index_mut.result.now c.as_slice.ensures.value c.place_at.ensures.place c.in-Some.is c.index_mut.ensures.value)

pub returns-in-Some : goal.returns-in-Some
returns-in-Some c =
    stored c.args.rows.now.items c.as_slice.result.now c.args.names.now (λ v. put_in v c.args.index c.args.item) c.place_at.result c.in-Some.place c.index_mut.result.now c.put_row.new.row
    c.as_slice.ensures.value c.place_at.ensures.place c.in-Some.is c.index_mut.ensures.value c.put_row.ensures

pub returns-in_default : goal.returns-in_default
returns-in_default c =
    kept c.args.rows.now.items c.as_slice.result.now c.args.names.now (λ v. put_in v c.args.index c.args.item) c.place_at.result c.as_slice.ensures.value c.place_at.ensures.place c.in_default.not-Some
