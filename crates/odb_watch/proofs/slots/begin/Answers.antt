use Rattle.std.proofs.Common.{List, [], ◌∷◌, ◌++◌, slice_set, Option, Some, sym, ap, ◌∙◌, arith}
use Rattle.odb_tree.specs.declared.notes.Note.{Note}
use Rattle.odb_tree.specs.declared.notes.Watch.{Watch}
use Rattle.odb_watch.specs.Slots.{new_watch}
use Rattle.odb_watch.proofs.WatchSlots.{with_slot-inside, with_slot-behind}
use Rattle.odb_watch.proofs.slots.begin.Goals as goal

pub returns-then-free-len-clause-slots : goal.returns-then-free-len-clause-slots
returns-then-free-len-clause-slots c =
    let slots : List (Option Watch) = c.args.slots.now.items in
    ap (λ (ns : List Note). slice_set slots c.free_slot-free.result (Some (record { row = c.args.row; notes = ns; lost = 0 }))) c.in_ok-notes.ensures
    ∙ sym (with_slot-inside slots c.free_slot-free.result (Some (new_watch c.args.row)) (omega (arith, c.args.slots.now.ok.0)))

pub returns-clause-slots : goal.returns-clause-slots
returns-clause-slots c =
    let slots : List (Option Watch) = c.args.slots.now.items in
    c.in_ok-push.ensures.items
    ∙ (ap (λ (ns : List Note). slots ++ Some (record { row = c.args.row; notes = ns; lost = 0 }) ∷ []) c.in_ok-notes.ensures
    ∙ sym (with_slot-behind slots c.free_slot-free.result (Some (new_watch c.args.row)) (omega (arith, c.args.slots.now.ok.0))))
