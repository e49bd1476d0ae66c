-- What is known where a call is not refused.
use Rattle.std.proofs.Common.{◌≡◌, ℕ, ◌<◌, false, cond, List, [], ◌∷◌, length, Option, Some, None, refl, sym, ap, ◌∙◌, subst, arith}
use Rattle.std.specs.Option.{option_or, is_some}
use Rattle.odb_value.specs.Paths.{IsPath}
use Rattle.odb_value.specs.Values.{HeldValue}
use Rattle.odb_value.specs.LinkValues.{IsValueOrLink}
use Rattle.odb_tree.specs.declared.rows.Row.{Row}
use Rattle.odb_tree.specs.declared.rows.NewKey.{NewKey}
use Rattle.odb_tree.specs.declared.refusals.OdbRefusal.{OdbRefusal}
use Rattle.odb_tree.specs.Rows.{Rows, row_at}
use Rattle.odb_tree.specs.Lookups.{obstacle_to_new}
use Rattle.odb_tree.specs.Limits.{limit_fault}
use Rattle.odb_tree.specs.Calls.{exists_fault, kept_fault, items_fault, create_fault, after_create, new_value, set_all_fault, value_fault, directory_fault}
use Rattle.odb_tree.specs.Databases.{IsDatabase}
use Rattle.odb_tree.proofs.Limited.{or_none_left, or_none_right}
use Rattle.odb_tree.proofs.Sound.{database_created, unlinked_key, database_made}
use Rattle.odb_arena.specs.Growth.{CanMake}

is_free : (rows : List Row) (p : List (List ℕ)) → exists_fault rows p ≡ None → (0 < length p) × (row_at rows p ≡ None)
is_free rows [] h = absurd (cc)
is_free rows (name ∷ names) h = (omega arith, absent (row_at rows (name ∷ names)) _ h)
  where
    absent : (o : Option Row) (x : OdbRefusal) → cond (is_some o) (Some x) None ≡ None → o ≡ None
    absent None x k = refl
    absent (Some r) x k = absurd (cc)

-- a row may be made where `create` is not refused
pub can_create : (s : Rows) (p : List (List ℕ)) (kind : NewKey) (r : Option OdbRefusal) (value : Option HeldValue) → s.links ≡ false → IsDatabase s → IsPath p → r ≡ create_fault s p kind → r ≡ None
    → value ≡ new_value kind
    → CanMake s p value
can_create s p kind r value unlinked h path is none same =
    let whole : create_fault s p kind ≡ None = sym is ∙ none in
    let there : option_or (exists_fault s.rows p) (option_or (kept_fault s.links kind) (limit_fault (items_fault kind) (after_create s p kind))) ≡ None = or_none_right (obstacle_to_new s.rows p) _ whole in
    let free = is_free s.rows p (or_none_left (exists_fault s.rows p) _ there) in
    subst (CanMake s p) (sym same) (record {
      some = free.0;
      clear = or_none_left (obstacle_to_new s.rows p) _ whole;
      free = free.1;
      database = database_created s p kind r h path (unlinked_key s p kind r unlinked is none) is none;
    })

named : (rows : List Row) (p : List (List ℕ)) → value_fault rows p ≡ None → 0 < length p
named rows [] h = absurd (cc)
named rows (name ∷ names) h = omega arith

-- and where `set_all` is not, and nothing is there
pub can_set_all : (s : Rows) (p : List (List ℕ)) (v given : HeldValue) (r : Option OdbRefusal) → IsDatabase s → IsPath p → IsValueOrLink v → r ≡ set_all_fault s p v → r ≡ None → row_at s.rows p ≡ None → given ≡ v
    → CanMake s p (Some given)
can_set_all s p v given r h path held is none free same =
    let whole : set_all_fault s p v ≡ None = sym is ∙ none in record {
      some = named s.rows p (or_none_left (value_fault s.rows p) _ (or_none_right (obstacle_to_new s.rows p) _ whole));
      clear = or_none_left (obstacle_to_new s.rows p) _ whole;
      free = free;
      database = database_made s p v given r h path held is none free same;
    }

-- where `set_all` is not refused and a row is there, that is a key
pub key_there : (s : Rows) (p : List (List ℕ)) (v : HeldValue) (r : Option OdbRefusal) (row : Row) → r ≡ set_all_fault s p v → r ≡ None → row_at s.rows p ≡ Some row → (w : HeldValue) × (row.value ≡ Some w)
key_there s p v r row is none there =
    let whole : set_all_fault s p v ≡ None = sym is ∙ none in
    found s.rows p (or_none_left (value_fault s.rows p) _ (or_none_right (obstacle_to_new s.rows p) _ whole)) there
  where
    kept : (o : Option HeldValue) (x : OdbRefusal) → cond (is_some o) None (Some x) ≡ None → (w : HeldValue) × (o ≡ Some w)
    kept None x h = absurd (cc)
    kept (Some w) x h = (w, refl)

    found : (rows : List Row) (p : List (List ℕ)) → value_fault rows p ≡ None → row_at rows p ≡ Some row → (w : HeldValue) × (row.value ≡ Some w)
    found rows [] h e = absurd (cc)
    found rows (name ∷ names) h e = kept row.value _ (sym (ap directory_fault e) ∙ h)
