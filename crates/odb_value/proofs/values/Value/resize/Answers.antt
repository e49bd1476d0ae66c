use Rattle.std.proofs.Common.{◌≡◌, ℕ, ◌-◌, List, ◌++◌, length, take, inl, sym, ap, ◌∙◌, subst}
use Rattle.std.specs.Prelude.{IsTrue, replicate}
use Rattle.daq_types.specs.declared.types.Tid.{Tid}
use Rattle.odb_value.specs.declared.items.Item.{Item}
use Rattle.odb_value.specs.Items.{is_kept}
use Rattle.odb_value.specs.Values.{HeldValue, IsValue}
use Rattle.odb_value.specs.ValueChanges.{default_item, resized}
use Rattle.odb_value.specs.ValueInside.{held_of}
use Rattle.odb_value.proofs.ValueKept.{is_value-resized}
use Rattle.odb_value.proofs.LinksKept.{value_of_kept}
use Rattle.odb_value.proofs.values.Value.resize.Goals as goal

pub new_items-requires : goal.new_items-requires
new_items-requires c = subst (λ (v : HeldValue). IsTrue (is_kept v.tid)) (sym c.self.view_is) c.requires.kept

pub invariant_of-self-2 : goal.invariant_of-self-2
invariant_of-self-2 c =
    let count : c.saturating_sub.result ≡ c.args.len - length c.self.inside.items =
    c.saturating_sub.ensures ∙ ap (λ (n : ℕ). c.args.len - n) c.len.ensures in
    let more : c.in_ok-more.more ≡ replicate (c.args.len - length c.self.inside.items) (default_item c.self.inside.tid) =
    c.in_ok-more.ensures ∙ ap (λ (n : ℕ). replicate n (default_item c.self.inside.tid)) count in
    let items : c.truncate.new.self ≡ (resized (held_of c.self.inside) c.args.len).items =
    c.truncate.ensures ∙ ap (take c.args.len) (c.in_ok-append.ensures.appended ∙ ap (λ (l : List Item). c.self.inside.items ++ l) more) in
    let kept = subst (λ (v : HeldValue). IsTrue (is_kept v.tid)) (sym c.self.view_is) c.requires.kept in
    let value = value_of_kept (held_of c.self.inside) kept c.self.invariant in
    inl (subst (λ (l : List Item). IsValue (record { tid = c.self.inside.tid; size = c.self.inside.size; items = l })) (sym items)
    (is_value-resized (held_of c.self.inside) c.args.len c.requires.some c.requires.many value))
