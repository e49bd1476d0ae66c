-- A value that is changed is one again.
use Rattle.std.proofs.Common.{◌≡◌, ℕ, ◌-◌, ◌≤◌, ◌++◌, length, get_or, refl, sym, subst, arith, length-append, length-take, rules}
use Rattle.std.specs.Prelude.{All, IsTrue, false, replicate}
use Rattle.std.proofs.lemmas.List.{length-replicate, length-set}
use Rattle.std.proofs.lemmas.List.Elements.{All-take, All-append, All-replicate, All-set}
use Rattle.daq_types.specs.declared.types.Tid.{Tid}
use Rattle.odb_value.specs.declared.items.Item.{Item}
use Rattle.odb_value.specs.declared.items.Item.TheVariants.{UInt8, Int8, Char, UInt16, Int16, UInt32, Int32, Bool as Truth, Text, Int64, UInt64}
use Rattle.odb_value.specs.Items.{tid_of, is_kept, IsItem}
use Rattle.odb_value.specs.Values.{HeldValue, IsValue, IsShorter, IsSizeOf, items_limit, size_limit}
use Rattle.odb_value.specs.ValueChanges.{default_item, resized, size_with_item, put_in}

-- Every item is of a type that is kept.
pub is_kept-item : (item : Item) → IsTrue (is_kept (tid_of item))
is_kept-item (UInt8 n) = refl
is_kept-item (Int8 z) = refl
is_kept-item (Char b) = refl
is_kept-item (UInt16 n) = refl
is_kept-item (Int16 z) = refl
is_kept-item (UInt32 n) = refl
is_kept-item (Int32 z) = refl
is_kept-item (Truth t) = refl
is_kept-item (Text bytes) = refl
is_kept-item (Int64 z) = refl
is_kept-item (UInt64 n) = refl

-- the first item of a value
abbrev first_of : HeldValue → Item
first_of v = get_or v.items 0 (Truth false)

pub is_kept-value : (v : HeldValue) → IsValue v → IsTrue (is_kept v.tid)
is_kept-value v h = subst (λ (t : Tid). IsTrue (is_kept t)) (h.of_type 0 (Truth false) (omega (arith, h.some))).tid (is_kept-item (first_of v))

-- A default item is one of its type, and is as short as any.
default_of_item : (item : Item) → IsItem (tid_of item) (default_item (tid_of item))
default_of_item (UInt8 n) = record { tid = refl; sound = search rules }
default_of_item (Int8 z) = record { tid = refl; sound = search rules }
default_of_item (Char b) = record { tid = refl; sound = refl }
default_of_item (UInt16 n) = record { tid = refl; sound = search rules }
default_of_item (Int16 z) = record { tid = refl; sound = search rules }
default_of_item (UInt32 n) = record { tid = refl; sound = search rules }
default_of_item (Int32 z) = record { tid = refl; sound = search rules }
default_of_item (Truth t) = record { tid = refl; sound = tt }
default_of_item (Text bytes) = record { tid = refl; sound = search rules }
default_of_item (Int64 z) = record { tid = refl; sound = search rules }
default_of_item (UInt64 n) = record { tid = refl; sound = search rules }

default_shorter : (size : ℕ) (item : Item) → IsShorter size item → IsShorter size (default_item (tid_of item))
default_shorter size (UInt8 n) h = tt
default_shorter size (Int8 z) h = tt
default_shorter size (Char b) h = tt
default_shorter size (UInt16 n) h = tt
default_shorter size (Int16 z) h = tt
default_shorter size (UInt32 n) h = tt
default_shorter size (Int32 z) h = tt
default_shorter size (Truth t) h = tt
default_shorter size (Text bytes) h = omega (arith, h)
default_shorter size (Int64 z) h = tt
default_shorter size (UInt64 n) h = tt

default_of_value : (v : HeldValue) → IsValue v → IsItem v.tid (default_item v.tid)
default_of_value v h = subst (λ (t : Tid). IsItem t (default_item t)) (h.of_type 0 (Truth false) (omega (arith, h.some))).tid (default_of_item (first_of v))

default_shorter_in : (v : HeldValue) → IsValue v → IsShorter v.size (default_item v.tid)
default_shorter_in v h =
    subst (λ (t : Tid). IsShorter v.size (default_item t)) (h.of_type 0 (Truth false) (omega (arith, h.some))).tid
    (default_shorter v.size (first_of v) (h.shorter 0 (Truth false) (omega (arith, h.some))))

length-resized : (v : HeldValue) (len : ℕ) → length (resized v len).items ≡ len
length-resized v len =
    omega (
      arith,
      length-take len (v.items ++ replicate (len - length v.items) (default_item v.tid)),
      length-append v.items (replicate (len - length v.items) (default_item v.tid)),
      length-replicate (len - length v.items) (default_item v.tid),
    )

resized_all : (P : Item → Type 0) (v : HeldValue) (len : ℕ) → All P v.items → P (default_item v.tid) → All P (resized v len).items
resized_all P v len h d =
    All-take P len (v.items ++ replicate (len - length v.items) (default_item v.tid))
    (All-append P v.items (replicate (len - length v.items) (default_item v.tid)) h (All-replicate P (len - length v.items) (default_item v.tid) d))

pub is_value-resized : (v : HeldValue) (len : ℕ) → 1 ≤ len → len ≤ items_limit → IsValue v → IsValue (resized v len)
is_value-resized v len some many h = record {
  some = omega (arith, length-resized v len, some);
  many = omega (arith, length-resized v len, many);
  of_type = resized_all (IsItem v.tid) v len h.of_type (default_of_value v h);
  size = h.size;
  shorter = resized_all (IsShorter v.size) v len h.shorter (default_shorter_in v h);
}

-- A size that rises with an item is still one of its type, and above the item's text.
size_with_item-kept : (size : ℕ) (item : Item) → IsSizeOf (tid_of item) size → IsShorter size_limit item
    → IsSizeOf (tid_of item) (size_with_item size item) × IsShorter (size_with_item size item) item × (size ≤ size_with_item size item)
size_with_item-kept size (UInt8 n) s h = (s, tt, omega arith)
size_with_item-kept size (Int8 z) s h = (s, tt, omega arith)
size_with_item-kept size (Char b) s h = (s, tt, omega arith)
size_with_item-kept size (UInt16 n) s h = (s, tt, omega arith)
size_with_item-kept size (Int16 z) s h = (s, tt, omega arith)
size_with_item-kept size (UInt32 n) s h = (s, tt, omega arith)
size_with_item-kept size (Int32 z) s h = (s, tt, omega arith)
size_with_item-kept size (Truth t) s h = (s, tt, omega arith)
size_with_item-kept size (Text bytes) s h = (omega (arith, s, h), omega arith, omega arith)
size_with_item-kept size (Int64 z) s h = (s, tt, omega arith)
size_with_item-kept size (UInt64 n) s h = (s, tt, omega arith)

shorter_than_more : (size more : ℕ) (item : Item) → size ≤ more → IsShorter size item → IsShorter more item
shorter_than_more size more (UInt8 n) _ h = tt
shorter_than_more size more (Int8 z) _ h = tt
shorter_than_more size more (Char b) _ h = tt
shorter_than_more size more (UInt16 n) _ h = tt
shorter_than_more size more (Int16 z) _ h = tt
shorter_than_more size more (UInt32 n) _ h = tt
shorter_than_more size more (Int32 z) _ h = tt
shorter_than_more size more (Truth t) _ h = tt
shorter_than_more size more (Text bytes) more_is h = omega (arith, more_is, h)
shorter_than_more size more (Int64 z) _ h = tt
shorter_than_more size more (UInt64 n) _ h = tt

pub is_value-put : (v : HeldValue) (index : ℕ) (item : Item) → IsItem v.tid item → IsShorter size_limit item → IsValue v → IsValue (put_in v index item)
is_value-put v index item of_type short h =
    let sized = size_with_item-kept v.size item (subst (λ (t : Tid). IsSizeOf t v.size) (sym of_type.tid) h.size) short in
    record {
      some = omega (arith, length-set v.items index item, h.some);
      many = omega (arith, length-set v.items index item, h.many);
      of_type = All-set (IsItem v.tid) v.items index item of_type h.of_type;
      size = subst (λ (t : Tid). IsSizeOf t (size_with_item v.size item)) of_type.tid sized.0;
      shorter = All-set (IsShorter (size_with_item v.size item)) v.items index item sized.1
          (λ k d inside. shorter_than_more v.size (size_with_item v.size item) (get_or v.items k d) sized.2 (h.shorter k d inside));
    }
