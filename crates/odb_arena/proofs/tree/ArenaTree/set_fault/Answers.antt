use Rattle.std.proofs.Common.{◌≤◌, ◌+◌, ◌-◌, ℕ, Option, length, sym, subst, ap, ◌∙◌}
use Rattle.std.specs.Option.{option_map}
use Rattle.odb_value.specs.ValueChanges.{size_with_item}
use Rattle.odb_tree.specs.declared.refusals.What.{What}
use Rattle.odb_tree.specs.declared.refusals.OdbRefusal.TheVariants.{Limit}
use Rattle.odb_tree.specs.Rows.{total_of}
use Rattle.odb_tree.specs.Limits.{passed}
use Rattle.odb_tree.proofs.FaultLemmas.{had_some, set_is, set_fault_is}
use Rattle.odb_arena.proofs.tree.ArenaTree.set_fault.Goals as goal

pub change_fault-requires-clause-had : goal.change_fault-requires-clause-had
change_fault-requires-clause-had c = subst (λ (n : ℕ). n ≤ total_of c.args.self.now.rows) (sym c.bytes_of.ensures.value) (had_some c.args.self.now.rows c.args.names.now c.args.value.now c.requires)

pub returns : goal.returns
returns c =
    set_fault_is c.args.self.now c.args.names.now c.args.value.now c.args.index c.args.item.now c.tid.result c.tid-2.result (length c.items-len.result.now) c.type_fault.result c.index_fault.result c.change_fault.result
    c.type_fault.ensures c.tid.ensures.tid c.tid-2.ensures.tid c.in_default.not-Some
    c.index_fault.ensures (ap (λ items. length items) c.items-len.ensures.items) c.in_default-index_fault.not-Some
    (c.change_fault.ensures
    ∙ (ap (λ (own : Option What). option_map Limit (passed own (length c.args.self.now.rows) (total_of c.args.self.now.rows - c.bytes_of.result + c.bytes_with-bytes.result) c.args.self.now.next)) c.text_fault.ensures
    ∙ set_is c.args.self.now c.args.names.now c.args.value.now c.args.index c.args.item.now c.bytes_of.result c.bytes_with-bytes.result (length c.items-len.result.now) c.raised_size.result c.requires c.tid.ensures.held
    c.bytes_of.ensures.value (ap (λ items. length items) c.items-len.ensures.items) (λ none. c.raised_size.ensures none ∙ ap (λ (n : ℕ). size_with_item n c.args.item.now) c.size.ensures) c.bytes_with-bytes.ensures.bytes))
