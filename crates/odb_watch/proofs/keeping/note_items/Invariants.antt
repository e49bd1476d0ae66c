use Rattle.std.proofs.Common.{◌≡◌, ◌++◌, map, take, drop}
use Rattle.std.specs.Option.{option_map}
use Rattle.odb_tree.specs.declared.notes.Watch.{Watch}
use Rattle.odb_tree.specs.Noting.{changes_from, noted_all}
use Rattle.odb_watch.proofs.keeping.note_items.Given as goal

abbrev pub invariant-loop-i : goal.invariant-loop-i
invariant-loop-i g l =
    let f = option_map (λ (watch : Watch). noted_all watch (changes_from (g.D.Database.rows l.database) l.row l.first l.count)) in
    l.slots.items ≡ map f (take l.i l.initial.slots.items) ++ drop l.i l.initial.slots.items
