-- What is known after the faults of a call were ruled out.
use Rattle.std.proofs.Common.{◌≡◌, ℕ, ◌<◌, ◌≤◌, Bool, true, false, cond, not, ◌==◌, if◌then◌else◌, eqb, ltb, List, [], ◌∷◌, length, Option, Some, None, Ok, refl, sym, ap, ◌∙◌, subst, arith}
use Rattle.std.specs.Option.{option_or}
use Rattle.std.specs.List.{filter}
use Rattle.std.proofs.lemmas.List.Sums.{sum_by-cons}
use Rattle.std.proofs.lemmas.Bool.Decides.{nat_tests}
use Rattle.daq_types.specs.declared.types.Tid.{Tid}
use Rattle.daq_types.specs.declared.types.Tid.TheVariants as tid
use Rattle.daq_types.specs.Tids.{tid_code}
use Rattle.odb_value.specs.Paths.{is_front}
use Rattle.odb_value.specs.declared.items.Item.{Item}
use Rattle.odb_value.specs.declared.items.Item.TheVariants.{Text}
use Rattle.odb_value.specs.Items.{tid_of}
use Rattle.odb_value.specs.ItemTexts.{text_limit}
use Rattle.odb_value.specs.Values.{HeldValue, IsShorter, size_limit}
use Rattle.odb_tree.specs.declared.rows.Row.{Row}
use Rattle.odb_tree.specs.declared.rows.NewKey.{NewKey}
use Rattle.odb_tree.specs.declared.refusals.OdbRefusal.{OdbRefusal}
use Rattle.odb_tree.specs.declared.refusals.OdbRefusal.TheVariants.{TypeMismatch, BadIndex}
use Rattle.odb_tree.specs.declared.refusals.What.TheVariants.{Size}
use Rattle.odb_tree.specs.Rows.{Rows, row_at, bytes_of_row, total_of, rows_outside}
use Rattle.odb_tree.specs.Limits.{IsWithin, text_fault, limit_fault}
use Rattle.odb_tree.specs.Lookups.{obstacle_to, obstacle_to_new, found_row, key_of, key_or_refusal, seek_key}
use Rattle.odb_tree.specs.Changes.{CanPut, IsKeyAt}
use Rattle.odb_tree.specs.Calls.{set_fault, set_all_fault, after_set, after_set_all, type_fault, index_fault, value_fault, tid_fault, link_fault, put_fault, there_fault, own_fault, create_fault, exists_fault, kept_fault, items_fault, after_create}
use Rattle.odb_tree.proofs.Limited.{or_none_left, or_none_right, own_none, within}

-- create

pub create_within : (s : Rows) (p : List (List ℕ)) (kind : NewKey) (r : Option OdbRefusal) → r ≡ create_fault s p kind → r ≡ None → IsWithin (after_create s p kind)
create_within s p kind r is none =
    let whole : create_fault s p kind ≡ None = sym is ∙ none in
    let there : option_or (exists_fault s.rows p) (option_or (kept_fault s.links kind) (limit_fault (items_fault kind) (after_create s p kind))) ≡ None = or_none_right (obstacle_to_new s.rows p) _ whole in
    let kept : option_or (kept_fault s.links kind) (limit_fault (items_fault kind) (after_create s p kind)) ≡ None = or_none_right (exists_fault s.rows p) _ there in
    within (items_fault kind) (after_create s p kind) (or_none_right (kept_fault s.links kind) _ kept)

-- delete

-- no more rows, and no more bytes
record IsLess (less rows : List Row) : Type 0 where
  count : length less ≤ length rows
  bytes : total_of less ≤ total_of rows

kept_or_not : (t : Bool) (r : Row) (less rows : List Row) → IsLess less rows → IsLess (cond t (r ∷ less) less) (r ∷ rows)
kept_or_not true r less rows h = record { count = omega (arith, h.count); bytes = omega (arith, sum_by-cons bytes_of_row r less, sum_by-cons bytes_of_row r rows, h.bytes) }
kept_or_not false r less rows h = record { count = omega (arith, h.count); bytes = omega (arith, sum_by-cons bytes_of_row r rows, h.bytes) }

filter_less : (test : Row → Bool) (rows : List Row) → IsLess (filter test rows) rows
filter_less test [] = record { count = omega arith; bytes = omega arith }
filter_less test (r ∷ rs) = kept_or_not (test r) r (filter test rs) rs (filter_less test rs)

pub outside_within : (s : Rows) (p : List (List ℕ)) (left : List Row) → left ≡ rows_outside s.rows p → IsWithin s → IsWithin (record s { rows = left })
outside_within s p left is h =
    let less : IsLess left s.rows = subst (λ (rows : List Row). IsLess rows s.rows) (sym is) (filter_less (λ (r : Row). not (is_front p r.path)) s.rows) in
    record { rows = omega (arith, less.count, h.rows); total = omega (arith, less.bytes, h.total); next = h.next }

-- looking up a key

value_from : (number : ℕ) (o : Option HeldValue) (n : ℕ) (v : HeldValue) → key_of number o ≡ Ok (n, v) → o ≡ Some v
value_from number None n v h = absurd (cc)
value_from number (Some w) n v h =
    let pair : (number, w) ≡ (n, v) = cc in
    ap (λ (p : ℕ × HeldValue). Some p.1) pair

key_from : (o : Option OdbRefusal) (r : Option Row) (n : ℕ) (v : HeldValue) → key_or_refusal (found_row o r) ≡ Ok (n, v) → (row : Row) × (r ≡ Some row) × (row.value ≡ Some v)
key_from (Some refusal) r n v h = absurd (cc)
key_from None None n v h = absurd (cc)
key_from None (Some row) n v h = (row, refl, value_from row.number row.value n v h)

key_is : (rows : List Row) (p : List (List ℕ)) (n : ℕ) (v : HeldValue) → seek_key rows p ≡ Ok (n, v) → IsKeyAt rows p v
key_is rows [] n v h = absurd (cc)
key_is rows (name ∷ names) n v h =
    let found = key_from (obstacle_to rows (name ∷ names)) (row_at rows (name ∷ names)) n v h in
    record { row = found.0; there = found.1; value = found.2 }

pub sought_key : (s : Rows) (seen : List Row) (p : List (List ℕ)) (n : ℕ) (v : HeldValue) → seen ≡ s.rows → seek_key seen p ≡ Ok (n, v) → IsKeyAt s.rows p v
sought_key s seen p n v is h = subst (λ (rows : List Row). IsKeyAt rows p v) is (key_is seen p n v h)

-- set

tid_with : ℕ → Tid
tid_with n =
    if n == 1 then tid.UInt8 else (if n == 2 then tid.Int8 else (if n == 3 then tid.Char else (if n == 4 then tid.UInt16
    else (if n == 5 then tid.Int16 else (if n == 6 then tid.UInt32 else (if n == 7 then tid.Int32 else (if n == 8 then tid.Bool
    else (if n == 9 then tid.Float else (if n == 10 then tid.Double else (if n == 11 then tid.BitField else (if n == 12 then tid.Text
    else (if n == 13 then tid.Array else (if n == 14 then tid.Struct else (if n == 15 then tid.Key else (if n == 16 then tid.Link
    else (if n == 17 then tid.Int64 else tid.UInt64))))))))))))))))

tid_back : (t : Tid) → tid_with (tid_code t) ≡ t
unfolding tid_with
tid_back tid.UInt8 = refl
tid_back tid.Int8 = refl
tid_back tid.Char = refl
tid_back tid.UInt16 = refl
tid_back tid.Int16 = refl
tid_back tid.UInt32 = refl
tid_back tid.Int32 = refl
tid_back tid.Bool = refl
tid_back tid.Float = refl
tid_back tid.Double = refl
tid_back tid.BitField = refl
tid_back tid.Text = refl
tid_back tid.Array = refl
tid_back tid.Struct = refl
tid_back tid.Key = refl
tid_back tid.Link = refl
tid_back tid.Int64 = refl
tid_back tid.UInt64 = refl

same_tid : (a b : Tid) → tid_code a ≡ tid_code b → a ≡ b
same_tid a b h = sym (tid_back a) ∙ (ap tid_with h ∙ tid_back b)

unless_not : {X : Type 0} (t : Bool) (x : X) → cond t None (Some x) ≡ None → t ≡ true
unless_not true x h = refl
unless_not false x h = absurd (cc)

if_not : {X : Type 0} (t : Bool) (x : X) → cond t (Some x) None ≡ None → t ≡ false
if_not true x h = absurd (cc)
if_not false x h = refl

pub types_agree : (have given : Tid) → type_fault have given ≡ None → given ≡ have
types_agree have given h = sym (same_tid have given (grind (arith, nat_tests, unless_not (eqb (tid_code have) (tid_code given)) (TypeMismatch have) h)))

index_inside : (len index : ℕ) → index_fault len index ≡ None → index < len
index_inside len index h = grind (arith, nat_tests, unless_not (ltb index len) (BadIndex len) h)

short_text : (bytes : List ℕ) → text_fault (Text bytes) ≡ None → length bytes < size_limit
short_text bytes h = grind (arith, nat_tests, if_not (ltb text_limit (length bytes)) Size h)

short_item : (item : Item) → text_fault item ≡ None → IsShorter size_limit item
short_item (Text bytes) h = short_text bytes h
short_item _ h = tt

pub can_put : (s : Rows) (p : List (List ℕ)) (index : ℕ) (item : Item) (v : HeldValue) (r : Option OdbRefusal) → r ≡ set_fault s p index item v → r ≡ None → CanPut v index item
can_put s p index item v r is none =
    let whole : set_fault s p index item v ≡ None = sym is ∙ none in
    let rest : option_or (index_fault (length v.items) index) (limit_fault (text_fault item) (after_set s p index item)) ≡ None = or_none_right (type_fault v.tid (tid_of item)) _ whole in
    let limits : limit_fault (text_fault item) (after_set s p index item) ≡ None = or_none_right (index_fault (length v.items) index) _ rest in
    record {
      inside = index_inside (length v.items) index (or_none_left (index_fault (length v.items) index) _ rest);
      of_type = types_agree v.tid (tid_of item) (or_none_left (type_fault v.tid (tid_of item)) _ whole);
      short = short_item item (own_none (text_fault item) (after_set s p index item) limits);
    }

pub set_within : (s : Rows) (p : List (List ℕ)) (index : ℕ) (item : Item) (v : HeldValue) (r : Option OdbRefusal) → r ≡ set_fault s p index item v → r ≡ None → IsWithin (after_set s p index item)
set_within s p index item v r is none =
    let whole : set_fault s p index item v ≡ None = sym is ∙ none in
    let rest : option_or (index_fault (length v.items) index) (limit_fault (text_fault item) (after_set s p index item)) ≡ None = or_none_right (type_fault v.tid (tid_of item)) _ whole in
    within (text_fault item) (after_set s p index item) (or_none_right (index_fault (length v.items) index) _ rest)

-- two rows found at one path are one
pub can_put_there : (rows : List Row) (p : List (List ℕ)) (index : ℕ) (item given : Item) (v : HeldValue) → IsKeyAt rows p v → CanPut v index item → given ≡ item
    → (row : Row) → row_at rows p ≡ Some row → (w : HeldValue) → row.value ≡ Some w → CanPut w index given
can_put_there rows p index item given v at h is row there w held =
    let one : at.row ≡ row = same_some at.row row (sym at.there ∙ there) in
    let value : v ≡ w = same_some v w (sym at.value ∙ (ap (λ (x : Row). x.value) one ∙ held)) in
    subst (λ (x : HeldValue). CanPut x index given) value (subst (λ (i : Item). CanPut v index i) (sym is) h)
  where
    same_some : {X : Type 0} (x y : X) → Some x ≡ Some y → x ≡ y
    same_some x y e = cc

-- set_all

pub set_all_within : (s : Rows) (p : List (List ℕ)) (v : HeldValue) (r : Option OdbRefusal) → r ≡ set_all_fault s p v → r ≡ None → IsWithin (after_set_all s p v)
set_all_within s p v r is none =
    let whole : set_all_fault s p v ≡ None = sym is ∙ none in
    within (own_fault v) (after_set_all s p v)
    (or_none_right (there_fault v.tid (row_at s.rows p)) _ (or_none_right (tid_fault v.tid) _ (or_none_right (value_fault s.rows p) _ (or_none_right (obstacle_to_new s.rows p) _ whole))))

pub put_within : (s : Rows) (p : List (List ℕ)) (v : HeldValue) → put_fault s p v ≡ None → IsWithin (after_set_all s p v)
put_within s p v whole =
    within (own_fault v) (after_set_all s p v)
    (or_none_right (there_fault v.tid (row_at s.rows p)) _ (or_none_right (link_fault s.links v.tid) _ (or_none_right (value_fault s.rows p) _ (or_none_right (obstacle_to_new s.rows p) _ whole))))
