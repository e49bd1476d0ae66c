use Rattle.std.proofs.Common.{Option, arith}
use Rattle.std.specs.Option.{option_map}
use Rattle.odb_tree.specs.Rows.{Rows}
use Rattle.odb_tree.specs.declared.notes.Watch.{Watch}
use Rattle.odb_tree.specs.Noting.{changes_from, noted_all}
use Rattle.odb_watch.proofs.NotesKept.{all_next}
use Rattle.odb_watch.proofs.keeping.note_items.Goals as goal

pub loop-i-preserved : goal.loop-i-preserved
loop-i-preserved g c =
    let s : Rows = g.D.Database.rows c.args.database.now in
    let f : Option Watch → Option Watch = option_map (λ (k : Watch). noted_all k (changes_from s c.args.row c.args.first c.args.count)) in
    all_next f c.args.slots.now.items c.loop-i.slots.items c.loop-i.i c.index_mut.result.now c.note_in.new.slot
    (omega (arith, c.args.slots.now.ok.0)) c.loop-i.invariant c.index_mut.ensures.value c.note_in.ensures
