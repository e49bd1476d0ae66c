-- What holds of each row, also after a call.
use Rattle.std.proofs.Common.{◌≡◌, ℕ, ◌+◌, ◌-◌, ◌<◌, ◌≤◌, Bool, true, false, cond, List, [], ◌∷◌, ◌++◌, length, Option, Some, None, refl, sym, ap, ◌∙◌, subst, arith, rules}
use Rattle.std.proofs.lemmas.Bool.Decides.{nat_tests}
use Rattle.odb_tree.specs.Limits.{len_fault}
use Rattle.std.specs.Prelude.{All, IfSome, IsTrue, max}
use Rattle.std.proofs.lemmas.List.{length-replicate, length-set}
use Rattle.std.proofs.lemmas.List.Elements.{All-nil, All-cons, All-head, All-tail, All-append, All-push, All-take, All-drop, All-set, All-weaker, All-replicate}
use Rattle.daq_types.specs.declared.types.Tid.{Tid}
use Rattle.daq_types.specs.declared.types.Tid.TheVariants as tid
use Rattle.daq_types.specs.Names.{IsName}
use Rattle.odb_value.specs.Paths.{depth_limit, IsPath, same_path}
use Rattle.odb_value.specs.declared.items.Item.{Item}
use Rattle.odb_value.specs.declared.items.Item.TheVariants.{Text}
use Rattle.odb_value.specs.Items.{tid_of, is_kept, IsSound, IsItem}
use Rattle.odb_value.specs.Values.{HeldValue, IsValue, IsSizeOf, IsShorter, size_limit, items_limit}
use Rattle.odb_value.specs.ValueChanges.{size_with_item, put_in, default_item, default_size, new_held, resized}
use Rattle.odb_value.proofs.ValueKept.{is_value-resized}
use Rattle.odb_tree.specs.declared.rows.Row.{Row}
use Rattle.odb_tree.specs.Rows.{Rows, row_at, change_row, change_at}
use Rattle.odb_tree.specs.Making.{Way, further, go_on, way_to, last_of, new_row, no_way}
use Rattle.odb_tree.specs.Lookups.{parent_of}
use Rattle.odb_tree.specs.Places.{made_for}
use Rattle.odb_tree.specs.Changes.{CanPut}
use Rattle.odb_tree.specs.Trees.{AreShort}
use Rattle.odb_tree.specs.Databases.{IsHeld, IsRow}

-- changed rows

step : (P : Row → Type 0) (t : Bool) (r : Row) (rs : List Row) (p : List (List ℕ)) (f : HeldValue → HeldValue) → All P (r ∷ rs)
    → ((x : Row) → cond t (Some r) (row_at rs p) ≡ Some x → P x → P (change_row f x)) → (t ≡ false → All P (change_at rs p f))
    → All P (cond t (change_row f r ∷ rs) (r ∷ change_at rs p f))
step P true r rs p f h new rest = All-cons P (change_row f r) rs (new r refl (All-head P r rs h)) (All-tail P r rs h)
step P false r rs p f h new rest = All-cons P r (change_at rs p f) (All-head P r rs h) (rest refl)

-- what holds of all rows holds of them after a change of the one at a path, if it holds of that one then
pub all_changed : (P : Row → Type 0) (rows : List Row) (p : List (List ℕ)) (f : HeldValue → HeldValue) → All P rows → ((x : Row) → row_at rows p ≡ Some x → P x → P (change_row f x))
    → All P (change_at rows p f)
all_changed P [] p f h new = All-nil P
all_changed P (r ∷ rs) p f h new =
    step P (same_path r.path p) r rs p f h new
    (λ e. all_changed P rs p f (All-tail P r rs h) (λ x k. new x (ap (λ (t : Bool). cond t (Some r) (row_at rs p)) e ∙ k)))

-- paths

pub short_rows : (links : Bool) (rows : List Row) → All (IsRow links) rows → AreShort depth_limit rows
short_rows links [] h = tt
short_rows links (r ∷ rs) h = ((All-head (IsRow links) r rs h).path.short, short_rows links rs (All-tail (IsRow links) r rs h))

-- a row whose names are by the rule, and which holds something if it is a key; how many names it has is said apart
record IsNamed (links : Bool) (r : Row) : Type 0 where
  names : All IsName r.path
  value : IfSome r.value (IsHeld links)

named_rows : (links : Bool) (rows : List Row) → All (IsRow links) rows → All (IsNamed links) rows
named_rows links rows h = All-weaker (IsRow links) (IsNamed links) (λ r k. record { names = k.path.names; value = k.value }) rows h

rows_named : (links : Bool) (rows : List Row) → All (IsNamed links) rows → AreShort depth_limit rows → All (IsRow links) rows
rows_named links [] h short = All-nil (IsRow links)
rows_named links (r ∷ rs) h short =
    let here = All-head (IsNamed links) r rs h in
    All-cons (IsRow links) r rs (record { path = record { short = short.0; names = here.names }; value = here.value }) (rows_named links rs (All-tail (IsNamed links) r rs h) short.1)

record IsNamedWay (links : Bool) (way : Way) : Type 0 where
  path : All IsName way.path
  dirs : All (IsNamed links) way.dirs

at_head : (P : Row → Type 0) (t : Bool) (x r : Row) (o : Option Row) → cond t (Some x) o ≡ Some r → P x → (o ≡ Some r → P r) → P r
at_head P true x r o e h rest = let same : x ≡ r = cc in subst P same h
at_head P false x r o e h rest = rest e

-- what holds of all rows holds of the one at a path
pub row_has : (P : Row → Type 0) (rows : List Row) (p : List (List ℕ)) (r : Row) → All P rows → row_at rows p ≡ Some r → P r
row_has P [] p r h e = absurd (cc)
row_has P (x ∷ xs) p r h e = at_head P (same_path x.path p) x r (row_at xs p) e (All-head P x xs h) (λ k. row_has P xs p r (All-tail P x xs h) k)

further_named : (links : Bool) (rows : List Row) (next : ℕ) (name : List ℕ) (way : Way) (p : List (List ℕ)) (o : Option Row) → All (IsNamed links) rows → row_at rows p ≡ o → IsName name
    → IsNamedWay links way → IsNamedWay links (further next name way o)
further_named links rows next name way p None h e is k =
    let path : All IsName (way.path ++ name ∷ []) = All-push IsName way.path name k.path is in record {
      path = path;
      dirs = All-push (IsNamed links) way.dirs (record { number = next + length way.dirs; path = way.path ++ name ∷ []; value = None }) k.dirs (record { names = path; value = tt });
    }
further_named links rows next name way p (Some r) h e is k = record { path = (row_has (IsNamed links) rows p r h e).names; dirs = k.dirs }

go_named : (links : Bool) (rows : List Row) (next : ℕ) (reached names : List (List ℕ)) (way : Way) → All (IsNamed links) rows → All IsName names → IsNamedWay links way
    → IsNamedWay links (go_on rows next reached names way)
go_named links rows next reached [] way h are k = k
go_named links rows next reached (name ∷ names) way h are k =
    go_named links rows next (reached ++ name ∷ []) names (further next name way (row_at rows (reached ++ name ∷ []))) h (All-tail IsName name names are)
    (further_named links rows next name way (reached ++ name ∷ []) (row_at rows (reached ++ name ∷ [])) h refl (All-head IsName name names are) k)

-- the rows that a call makes
pub made_rows : (s : Rows) (p : List (List ℕ)) (value : Option HeldValue) → All (IsRow s.links) s.rows → IsPath p → IfSome value (IsHeld s.links) → AreShort depth_limit (made_for s p value)
    → All (IsRow s.links) (made_for s p value)
made_rows s p value h path is short =
    let way = go_named s.links s.rows s.next [] (parent_of p) no_way (named_rows s.links s.rows h) (All-take IsName (length p - 1) p path.names) (record { path = All-nil IsName; dirs = All-nil (IsNamed s.links) }) in
    rows_named s.links (made_for s p value)
    (All-push (IsNamed s.links) (way_to s p).dirs (new_row s p value) way.dirs
    (record { names = All-append IsName (way_to s p).path (last_of p) way.path (All-drop IsName (length p - 1) p path.names); value = is })) short

-- values

size_raised : (item : Item) (type : Tid) (size : ℕ) → tid_of item ≡ type → IsShorter size_limit item → IsSizeOf type size → IsSizeOf type (size_with_item size item)
size_raised (Text bytes) type size same short h =
    subst (λ (t : Tid). IsSizeOf t (max size (length bytes + 1))) same (largest size (length bytes + 1) (subst (λ (t : Tid). IsSizeOf t size) (sym same) h) (omega (arith, short)))
  where
    largest : (a b : ℕ) → a ≤ size_limit → b ≤ size_limit → max a b ≤ size_limit
    largest a b h k = grind (arith, h, k)
size_raised _ type size same short h = h

shorter_than_more : (item : Item) (size more : ℕ) → size ≤ more → IsShorter size item → IsShorter more item
shorter_than_more (Text bytes) size more l h = omega (arith, l, h)
shorter_than_more _ size more l h = tt

still_shorter : (size : ℕ) (item other : Item) → IsShorter size other → IsShorter (size_with_item size item) other
still_shorter size (Text bytes) other h = shorter_than_more other size (max size (length bytes + 1)) (left size (length bytes + 1)) h
  where
    left : (a b : ℕ) → a ≤ max a b
    left a b = grind arith
still_shorter size _ other h = h

own_shorter : (size : ℕ) (item : Item) → IsShorter (size_with_item size item) item
own_shorter size (Text bytes) = right size (length bytes)
  where
    right : (a n : ℕ) → n < max a (n + 1)
    right a n = grind arith
own_shorter size _ = tt

-- with an item put in
pub value_put : (v : HeldValue) (index : ℕ) (item : Item) → IsValue v → CanPut v index item → IsSound item → IsValue (put_in v index item)
value_put v index item h can sound = record {
  some = omega (arith, length-set v.items index item, h.some);
  many = omega (arith, length-set v.items index item, h.many);
  of_type = All-set (IsItem v.tid) v.items index item (record { tid = can.of_type; sound = sound }) h.of_type;
  size = size_raised item v.tid v.size can.of_type can.short h.size;
  shorter = All-set (IsShorter (size_with_item v.size item)) v.items index item (own_shorter v.size item)
      (All-weaker (IsShorter v.size) (IsShorter (size_with_item v.size item)) (λ x k. still_shorter v.size item x k) v.items h.shorter);
}

size_new : (type : Tid) → IsSizeOf type (default_size type)
size_new tid.Text = omega arith
size_new _ = refl

shorter_new : (type : Tid) → IsShorter (default_size type) (default_item type)
shorter_new tid.Text = omega arith
shorter_new _ = tt

item_new : (type : Tid) → IsTrue (is_kept type) → IsItem type (default_item type)
item_new tid.UInt8 h = record { tid = refl; sound = search rules }
item_new tid.Int8 h = record { tid = refl; sound = search rules }
item_new tid.Char h = record { tid = refl; sound = refl }
item_new tid.UInt16 h = record { tid = refl; sound = search rules }
item_new tid.Int16 h = record { tid = refl; sound = search rules }
item_new tid.UInt32 h = record { tid = refl; sound = search rules }
item_new tid.Int32 h = record { tid = refl; sound = search rules }
item_new tid.Bool h = record { tid = refl; sound = tt }
item_new tid.Text h = record { tid = refl; sound = search rules }
item_new tid.Int64 h = record { tid = refl; sound = search rules }
item_new tid.UInt64 h = record { tid = refl; sound = search rules }
item_new _ h = absurd (cc)

len_some : (len : ℕ) → len_fault len ≡ None → 1 ≤ len
len_some len h = grind (arith, nat_tests)

len_few : (len : ℕ) → len_fault len ≡ None → len ≤ items_limit
len_few len h = grind (arith, nat_tests)

-- a new value
pub value_new : (type : Tid) (len : ℕ) → IsTrue (is_kept type) → len_fault len ≡ None → IsValue (new_held type len)
value_new type len kept fits = record {
  some = omega (arith, length-replicate len (default_item type), len_some len fits);
  many = omega (arith, length-replicate len (default_item type), len_few len fits);
  of_type = All-replicate (IsItem type) len (default_item type) (item_new type kept);
  size = size_new type;
  shorter = All-replicate (IsShorter (default_size type)) len (default_item type) (shorter_new type);
}

-- a value with more items, or fewer
pub value_resized : (v : HeldValue) (len : ℕ) → len_fault len ≡ None → IsValue v → IsValue (resized v len)
value_resized v len fits h = is_value-resized v len (len_some len fits) (len_few len fits) h
