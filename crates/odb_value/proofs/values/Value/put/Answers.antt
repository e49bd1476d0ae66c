use Rattle.std.proofs.Common.{◌∙◌, ap, ℕ, List, inl, sym, subst}
use Rattle.daq_types.specs.declared.types.Tid.{Tid}
use Rattle.odb_value.specs.declared.items.Item.{Item}
use Rattle.odb_value.specs.Items.{IsItem}
use Rattle.odb_value.specs.Values.{IsValue}
use Rattle.odb_value.specs.ValueChanges.{size_with_item}
use Rattle.odb_value.specs.ValueInside.{held_of}
use Rattle.odb_value.proofs.ValueKept.{is_value-put}
use Rattle.odb_value.proofs.LinksKept.{value_of_item}
use Rattle.odb_value.proofs.values.Value.put.Goals as goal

pub invariant_of-self : goal.invariant_of-self
invariant_of-self c =
    let held = held_of c.self.inside in
    let same = c.requires.of_type ∙ sym (ap (λ v. v.tid) c.self.view_is) in
    let of_type = subst (λ (tid : Tid). IsItem tid c.args.item) same c.tid.ensures.is_item in
    let value = value_of_item held c.args.item same c.self.invariant in
    let put = is_value-put held c.args.index c.args.item of_type c.requires.short value in
    inl (subst (λ (size : ℕ). IsValue (record { tid = held.tid; size = size; items = c.set.new.self })) (sym c.raised_size-self-inside.ensures)
    (subst (λ (items : List Item). IsValue (record { tid = held.tid; size = size_with_item held.size c.args.item; items = items })) (sym c.set.ensures) put))
