use Rattle.std.proofs.Common.{◌+◌, sym, ap, ◌∙◌}
use Rattle.odb_tree.specs.declared.notes.Note.{Note}
use Rattle.odb_tree.specs.declared.notes.Watch.{Watch}
use Rattle.odb_tree.specs.Noting.{with_note}
use Rattle.odb_watch.proofs.NotesKept.{notes_next}
use Rattle.odb_watch.proofs.keeping.keep_items.Goals as goal

pub loop-i-preserved : goal.loop-i-preserved
loop-i-preserved c =
    let note : Note = record { row = c.args.row; index = c.args.first + c.loop-i.i } in
    c.keep.ensures ∙ (ap (λ (k : Watch). with_note k note) c.loop-i.invariant ∙ sym (notes_next c.args.watch.now c.args.row c.args.first c.loop-i.i))
