use Rattle.std.proofs.Common.{Option, Some, sym, ap, ◌∙◌}
use Rattle.std.specs.Option.{option_map}
use Rattle.odb_tree.specs.Rows.{Rows}
use Rattle.odb_tree.specs.declared.notes.Watch.{Watch}
use Rattle.odb_tree.specs.Noting.{changes_from, noted_all}
use Rattle.odb_watch.proofs.NotesKept.{notes_apart, notes_kept}
use Rattle.odb_watch.proofs.keeping.note_in.Goals as goal

pub returns-then-is_below : goal.returns-then-is_below
returns-then-is_below g c =
    let s : Rows = g.D.Database.rows c.args.database.now in
    let f : Watch → Watch = λ (k : Watch). noted_all k (changes_from s c.args.row c.args.first c.args.count) in
    ap (λ (k : Watch). let o : Option Watch = Some k in o)
    (c.keep_items.ensures ∙ sym (notes_kept s c.args.row c.args.first c.args.count c.in-Some.watch (sym c.is_below.ensures ∙ c.if-is_below.true)))
    ∙ ap (option_map f) (sym c.in-Some.is)

pub returns-else-is_below : goal.returns-else-is_below
returns-else-is_below g c =
    let s : Rows = g.D.Database.rows c.args.database.now in
    let f : Watch → Watch = λ (k : Watch). noted_all k (changes_from s c.args.row c.args.first c.args.count) in
    ap (λ (k : Watch). let o : Option Watch = Some k in o)
    (sym (notes_apart s c.args.row c.args.first c.args.count c.in-Some.watch (sym c.is_below.ensures ∙ c.if-is_below.false)))
    ∙ ap (option_map f) (sym c.in-Some.is)
