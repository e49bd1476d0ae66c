-- What a value and a link have in common, and values that are no links.
use Rattle.std.proofs.Common.{◌≡◌, ◌≤◌, ◌+◌, ◌^◌, Bool, true, false, List, [], ◌∷◌, length, ◌⊎◌, inl, inr, ap, subst, arith}
use Rattle.std.specs.Prelude.{IsTrue}
use Rattle.daq_types.specs.declared.types.Tid.{Tid}
use Rattle.odb_value.specs.declared.items.Item.{Item}
use Rattle.odb_value.specs.Items.{tid_of, is_kept}
use Rattle.odb_value.specs.Values.{HeldValue, IsValue, items_limit}
use Rattle.odb_value.specs.LinkValues.{IsValueOrLink}
use Rattle.odb_value.proofs.ValueKept.{is_kept-item}

not_kept_is_true : false ≡ true → ⊥
not_kept_is_true e = cc

pub value_of_kept : (v : HeldValue) → IsTrue (is_kept v.tid) → IsValueOrLink v → IsValue v
value_of_kept v kept (inl h) = h
value_of_kept v kept (inr l) = absurd (not_kept_is_true (subst (λ (t : Tid). IsTrue (is_kept t)) l.of_type kept))

pub value_of_item : (v : HeldValue) (item : Item) → tid_of item ≡ v.tid → IsValueOrLink v → IsValue v
value_of_item v item same = value_of_kept v (subst (λ (t : Tid). IsTrue (is_kept t)) same (is_kept-item item))

-- A value and a link have some items, and not too many.
pub some_held : (v : HeldValue) → IsValueOrLink v → 1 ≤ length v.items
some_held v (inl h) = h.some
some_held v (inr l) = rw (ap (λ (items : List Item). length items) l.one) (omega arith)

pub few_held : (v : HeldValue) → IsValueOrLink v → length v.items ≤ items_limit
few_held v (inl h) = h.many
few_held v (inr l) = rw (ap (λ (items : List Item). length items) l.one) (omega arith)
