-- A dump has few bytes: each row adds at most 1,028 and 13 times the bytes of its value.
use Rattle.std.proofs.Common.{◌≡◌, ℕ, zero, suc, ◌+◌, ◌-◌, ◌*◌, ◌^◌, ◌<◌, ◌≤◌, Bool, true, false, not, cond, ◌==◌, List, [], ◌∷◌, ◌++◌, length, All, Option, Some, None, IfSome, sum_by, inl, inr, refl, sym, ap, subst, arith, length-append}
use Rattle.std.specs.Option.{is_some}
use Rattle.std.specs.List.{filter, flat_map}
use Rattle.std.specs.Fmt.{decimal}
use Rattle.std.proofs.lemmas.Fmt.{length-decimal-le, length_signed_le}
use Rattle.std.proofs.lemmas.List.Sums.{sum_by-append, sum_by-cons}
use Rattle.std.proofs.lemmas.List.Sorted.{sum_by-IsPermutation}
use Rattle.std.proofs.lemmas.Bool.Decides.{nat_tests}
use Rattle.std.proofs.Math.Nat.{suc-mul}
use Rattle.daq_types.specs.declared.types.Tid.{Tid}
use Rattle.daq_types.specs.declared.types.Tid.TheVariants as tid
use Rattle.daq_types.specs.Tids.{tid_name}
use Rattle.daq_types.specs.Names.{IsName}
use Rattle.odb_value.specs.Paths.{depth_limit, is_front, IsPath}
use Rattle.odb_value.specs.declared.items.Item.{Item}
use Rattle.odb_value.specs.declared.items.Item.TheVariants.{UInt8, Int8, Char, UInt16, Int16, UInt32, Int32, Bool as Truth, Text, Int64, UInt64}
use Rattle.odb_value.specs.Items.{tid_of, IsSound, IsItem}
use Rattle.odb_value.specs.Values.{HeldValue, IsValue, IsSizeOf, IsShorter, items_limit}
use Rattle.odb_value.specs.ItemTexts.{item_text, char_text, truth_text}
use Rattle.odb_value.specs.KeyTexts.{bracketed, front_number, item_alone, item_line, item_lines, items_text, key_text}
use Rattle.odb_tree.specs.declared.rows.Row.{Row}
use Rattle.odb_tree.specs.Rows.{Rows, is_key, is_kind, is_child, is_listed, keys_in, dirs_in, bytes_of, bytes_in, bytes_of_row}
use Rattle.odb_tree.specs.Calls.{last_name}
use Rattle.odb_tree.specs.Walks.{walk_below, walk}
use Rattle.odb_tree.proofs.WalkLaws.{and_left, and_right}
use Rattle.odb_tree.specs.Trees.{AreShort}
use Rattle.odb_value.specs.LinkValues.{IsLink}
use Rattle.odb_tree.specs.Databases.{IsHeld, IsRow, IsDatabase}
use Rattle.odb_tree.proofs.EachRow.{short_rows}
use Rattle.odb_tree.proofs.Whole.{has_rows}
use Rattle.odb_value.specs.PathText.{path_text}
use Rattle.odb_text.specs.Dumps.{dir_line, value_text, row_text, keys_text, section_text, section_with, root_text, dirs_text, dump_text, dump_limit}

-- Items.

front_small : (size index : ℕ) (item : Item) → index < 10 ^ 5 → size < 10 ^ 5 → front_number size index item < 10 ^ 5
front_small size index (UInt8 n) h k = h
front_small size index (Int8 z) h k = h
front_small size index (Char b) h k = h
front_small size index (UInt16 n) h k = h
front_small size index (Int16 z) h k = h
front_small size index (UInt32 n) h k = h
front_small size index (Int32 z) h k = h
front_small size index (Truth t) h k = h
front_small size index (Text bytes) h k = k
front_small size index (Int64 z) h k = h
front_small size index (UInt64 n) h k = h

-- the text of an item, with 9 bytes around it, is at most 13 times as long as the item
char_small : (b : ℕ) → length (char_text b) ≤ 1
char_small b = elim (b == 0) as (λ (t : Bool). length (cond t [] (b ∷ [])) ≤ 1) [ true ↦ omega arith | false ↦ omega arith ]

truth_small : (t : Bool) → length (truth_text t) ≤ 1
truth_small true = omega arith
truth_small false = omega arith

item_small : (size : ℕ) (item : Item) → IsSizeOf (tid_of item) size → IsSound item → IsShorter size item → length (item_text item) + 9 ≤ 13 * size
item_small size (UInt8 n) e h s = omega (arith, e, length-decimal-le 3 n (omega arith) (omega (arith, h)) (omega (arith, h)))
item_small size (Int8 z) e h s = omega (arith, e, length_signed_le 3 z (omega (arith, h.sfits)) (omega (arith, h.sfits)))
item_small size (Char b) e h s = omega (arith, e, char_small b)
item_small size (UInt16 n) e h s = omega (arith, e, length-decimal-le 5 n (omega arith) (omega (arith, h)) (omega (arith, h)))
item_small size (Int16 z) e h s = omega (arith, e, length_signed_le 5 z (omega (arith, h.sfits)) (omega (arith, h.sfits)))
item_small size (UInt32 n) e h s = omega (arith, e, length-decimal-le 10 n (omega arith) (omega (arith, h)) (omega (arith, h)))
item_small size (Int32 z) e h s = omega (arith, e, length_signed_le 10 z (omega (arith, h.sfits)) (omega (arith, h.sfits)))
item_small size (Truth t) e h s = omega (arith, e, truth_small t)
item_small size (Text bytes) e h s = omega (arith, s)
item_small size (Int64 z) e h s = omega (arith, e, length_signed_le 19 z (omega (arith, h.sfits)) (omega (arith, h.sfits)))
item_small size (UInt64 n) e h s = omega (arith, e, length-decimal-le 20 n (omega arith) (omega (arith, h)) h)

-- an item size is small
size_small : (type : Tid) (size : ℕ) → IsSizeOf type size → size ≤ 1024
size_small tid.UInt8 size e = omega (arith, e)
size_small tid.Int8 size e = omega (arith, e)
size_small tid.Char size e = omega (arith, e)
size_small tid.UInt16 size e = omega (arith, e)
size_small tid.Int16 size e = omega (arith, e)
size_small tid.UInt32 size e = omega (arith, e)
size_small tid.Int32 size e = omega (arith, e)
size_small tid.Bool size e = omega (arith, e)
size_small tid.Float size e = omega (arith, e)
size_small tid.Double size e = omega (arith, e)
size_small tid.BitField size e = omega (arith, e)
size_small tid.Text size e = e
size_small tid.Array size e = omega (arith, e)
size_small tid.Struct size e = omega (arith, e)
size_small tid.Key size e = omega (arith, e)
size_small tid.Link size e = omega (arith, e)
size_small tid.Int64 size e = omega (arith, e)
size_small tid.UInt64 size e = omega (arith, e)

name_small : (type : Tid) → length (tid_name type) ≤ 8
name_small tid.UInt8 = omega arith
name_small tid.Int8 = omega arith
name_small tid.Char = omega arith
name_small tid.UInt16 = omega arith
name_small tid.Int16 = omega arith
name_small tid.UInt32 = omega arith
name_small tid.Int32 = omega arith
name_small tid.Bool = omega arith
name_small tid.Float = omega arith
name_small tid.Double = omega arith
name_small tid.BitField = omega arith
name_small tid.Text = omega arith
name_small tid.Array = omega arith
name_small tid.Struct = omega arith
name_small tid.Key = omega arith
name_small tid.Link = omega arith
name_small tid.Int64 = omega arith
name_small tid.UInt64 = omega arith

bracketed_long : (n : ℕ) (text : List ℕ) → length (bracketed n text) ≡ length (decimal n) + length text + 3
bracketed_long n text = omega (arith, length-append (decimal n) (93 ∷ 32 ∷ text))

-- an item of a type, with a size of that type
item_fits : (type : Tid) (size : ℕ) (item : Item) → IsSizeOf type size → IsItem type item → IsShorter size item → length (item_text item) + 9 ≤ 13 * size
item_fits type size item e h s = item_small size item (subst (λ (t : Tid). IsSizeOf t size) (sym h.tid) e) h.sound s

line_small : (type : Tid) (size index : ℕ) (item : Item) → index < 10 ^ 5 → IsSizeOf type size → IsItem type item → IsShorter size item → length (item_line size index item) ≤ 13 * size
line_small type size index item near e h s =
    let n : ℕ = front_number size index item in
    let below : n < 10 ^ 5 = front_small size index item near (omega (arith, size_small type size e)) in
    omega (arith, bracketed_long n (item_text item ++ 10 ∷ []), length-append (item_text item) (10 ∷ []), length-decimal-le 5 n (omega arith) below (omega (arith, below)), item_fits type size item e h s)

-- facts of each item
abbrev pub AllFit : Tid → ℕ → List Item → Type 0
AllFit type size [] = Unit {0}
AllFit type size (x ∷ xs) = IsItem type x × IsShorter size x × AllFit type size xs

all_fit : (type : Tid) (size : ℕ) (xs : List Item) → All (IsItem type) xs → All (IsShorter size) xs → AllFit type size xs
all_fit type size [] h k = tt
all_fit type size (x ∷ xs) h k = (h 0 x (omega arith), k 0 x (omega arith), all_fit type size xs (λ i d l. h (suc i) d (omega (arith, l))) (λ i d l. k (suc i) d (omega (arith, l))))

lines_small : (type : Tid) (size index : ℕ) (xs : List Item) → index + length xs ≤ 10 ^ 5 → IsSizeOf type size → AllFit type size xs → length (item_lines size index xs) ≤ 13 * (length xs * size)
lines_small type size index [] near e h = omega arith
lines_small type size index (x ∷ xs) near e h =
    omega (
      arith,
      length-append (item_line size index x) (item_lines size (index + 1) xs),
      line_small type size index x (omega (arith, near)) e h.0 h.1,
      lines_small type size (index + 1) xs (omega (arith, near)) e h.2,
      suc-mul (length xs) size,
    )

alone_small : (size : ℕ) (item : Item) → size ≤ 1024 → length (item_alone size item) ≤ length (item_text item) + 7
alone_small size (UInt8 n) h = omega arith
alone_small size (Int8 z) h = omega arith
alone_small size (Char b) h = omega arith
alone_small size (UInt16 n) h = omega arith
alone_small size (Int16 z) h = omega arith
alone_small size (UInt32 n) h = omega arith
alone_small size (Int32 z) h = omega arith
alone_small size (Truth t) h = omega arith
alone_small size (Text bytes) h = omega (arith, bracketed_long size bytes, length-decimal-le 4 size (omega arith) (omega (arith, h)) (omega (arith, h)))
alone_small size (Int64 z) h = omega arith
alone_small size (UInt64 n) h = omega arith

items_small : (type : Tid) (size : ℕ) (xs : List Item) → length xs ≤ items_limit → IsSizeOf type size → AllFit type size xs → length (items_text size xs) ≤ 100 + 13 * (length xs * size)
items_small type size [] many e h = omega (arith, length-append (decimal 0) (93 ∷ 32 ∷ 58 ∷ 10 ∷ []), length-decimal-le 5 0 (omega arith) (omega arith) (omega arith))
items_small type size (x ∷ []) many e h =
    omega (arith, length-append (item_alone size x) (10 ∷ []), alone_small size x (size_small type size e), item_fits type size x e h.0 h.1, suc-mul 0 size)
items_small type size (x ∷ y ∷ ys) many e h =
    let xs : List Item = x ∷ y ∷ ys in
    omega (
      arith,
      length-append (decimal (length xs)) (93 ∷ 32 ∷ 58 ∷ 10 ∷ item_lines size 0 xs),
      length-decimal-le 5 (length xs) (omega arith) (omega (arith, many)) (omega (arith, many)),
      lines_small type size 0 xs (omega (arith, many)) e h,
    )

key_small : (name : List ℕ) (v : HeldValue) → length name ≤ 31 → IsValue v → length (key_text name v) ≤ 1028 + 13 * bytes_of v
key_small name v short h =
    omega (
      arith,
      length-append name (32 ∷ 61 ∷ 32 ∷ (tid_name v.tid ++ items_text v.size v.items)),
      length-append (tid_name v.tid) (items_text v.size v.items),
      name_small v.tid,
      items_small v.tid v.size v.items h.many h.size (all_fit v.tid v.size v.items h.of_type h.shorter),
      short,
    )

-- a link's line is that of a STRING
link_small : (name : List ℕ) (v : HeldValue) → length name ≤ 31 → IsLink v → length (key_text name v) ≤ 1028 + 13 * bytes_of v
link_small name v short h =
    let wide : v.size ≤ 1024 = omega (arith, h.size, h.short) in
    omega (
      arith,
      length-append name (32 ∷ 61 ∷ 32 ∷ (tid_name v.tid ++ items_text v.size v.items)),
      length-append (tid_name v.tid) (items_text v.size v.items),
      name_small v.tid,
      ap (λ (items : List Item). length (items_text v.size items)) h.one,
      ap (λ (items : List Item). length items * v.size) h.one,
      length-append (item_alone v.size (Text h.text)) (10 ∷ []),
      alone_small v.size (Text h.text) wide,
      suc-mul 0 v.size,
      h.size,
      short,
    )

held_small : (links : Bool) (name : List ℕ) (v : HeldValue) → length name ≤ 31 → IsHeld links v → length (key_text name v) ≤ 1028 + 13 * bytes_of v
held_small false name v short h = key_small name v short h
held_small true name v short (inl h) = key_small name v short h
held_small true name v short (inr h) = link_small name v short h

-- Paths.

abbrev pub AllNames : List (List ℕ) → Type 0
AllNames [] = Unit {0}
AllNames (n ∷ ns) = (length n ≤ 31) × AllNames ns

all_names : (p : List (List ℕ)) → All IsName p → AllNames p
all_names [] h = tt
all_names (n ∷ ns) h = ((h 0 n (omega arith)).short, all_names ns (λ i d l. h (suc i) d (omega (arith, l))))

names_small : (p : List (List ℕ)) → AllNames p → length (flat_map (λ (n : List ℕ). 47 ∷ n) p) ≤ 32 * length p
names_small [] h = omega arith
names_small (n ∷ ns) h = omega (arith, length-append n (flat_map (λ (m : List ℕ). 47 ∷ m) ns), names_small ns h.1, h.0)

path_small : (p : List (List ℕ)) → IsPath p → length (path_text p) ≤ 1024
path_small [] h = omega arith
path_small (n ∷ ns) h = omega (arith, names_small (n ∷ ns) (all_names (n ∷ ns) h.names), h.short)

last_small : (p : List (List ℕ)) → IsPath p → length (last_name p) ≤ 31
last_small [] h = omega arith
last_small (n ∷ ns) h = (h.names (length (n ∷ ns) - 1) [] (omega arith)).short

line_long : (p : List (List ℕ)) → length (dir_line p) ≡ length (path_text p) + 3
line_long p = omega (arith, length-append (path_text p) (93 ∷ 10 ∷ []))

-- Rows.

-- what a row adds to a dump: the lines of a key, or a directory's line and an empty one
abbrev pub cost_of : List (List ℕ) → Option HeldValue → ℕ
cost_of p None = length (dir_line p) + 1
cost_of p (Some v) = length (key_text (last_name p) v)

abbrev pub row_cost : Row → ℕ
row_cost r = cost_of r.path r.value

cost_small : (links : Bool) (p : List (List ℕ)) (o : Option HeldValue) → IsPath p → IfSome o (IsHeld links) → cost_of p o ≤ 1028 + 13 * bytes_in o
cost_small links p None h k = omega (arith, line_long p, path_small p h)
cost_small links p (Some v) h k = held_small links (last_name p) v (last_small p h) k

costs_small : (links : Bool) (rows : List Row) → All (IsRow links) rows → sum_by row_cost rows ≤ 1028 * length rows + 13 * sum_by bytes_of_row rows
costs_small links [] h = omega arith
costs_small links (r ∷ rs) h =
    let here = h 0 r (omega arith) in
    omega (arith, sum_by-cons row_cost r rs, sum_by-cons bytes_of_row r rs, cost_small links r.path r.value here.path here.value, costs_small links rs (λ i d l. h (suc i) d (omega (arith, l))))

-- The dump adds up what the rows of the walk add.

abbrev pub AllListed : (keys : Bool) → List (List ℕ) → List Row → Type 0
AllListed keys p [] = Unit {0}
AllListed keys p (r ∷ rs) = (is_listed keys p r ≡ true) × AllListed keys p rs

filter_listed : (keys : Bool) (p : List (List ℕ)) (rows : List Row) → AllListed keys p (filter (is_listed keys p) rows)
filter_listed keys p [] = tt
filter_listed keys p (r ∷ rs) = cases (is_listed keys p r) refl (filter_listed keys p rs)
  where
    cases : (t : Bool) → is_listed keys p r ≡ t → AllListed keys p (filter (is_listed keys p) rs) → AllListed keys p (cond t (r ∷ filter (is_listed keys p) rs) (filter (is_listed keys p) rs))
    cases true h rest = (h, rest)
    cases false h rest = rest

key_cost : (p : List (List ℕ)) (o : Option HeldValue) → is_some o ≡ true → length (value_text (last_name p) o) ≡ cost_of p o
key_cost p None h = absurd (cc)
key_cost p (Some v) h = refl

dir_cost : (p : List (List ℕ)) (o : Option HeldValue) → not (is_some o) ≡ true → cost_of p o ≡ length (dir_line p) + 1
dir_cost p None h = refl
dir_cost p (Some v) h = absurd (cc)

keys_cost : (p : List (List ℕ)) (rs : List Row) → AllListed true p rs → length (keys_text rs) ≡ sum_by row_cost rs
keys_cost p [] h = refl
keys_cost p (r ∷ rs) h =
    omega (arith, length-append (row_text r) (keys_text rs), sum_by-cons row_cost r rs, keys_cost p rs h.1, key_cost r.path r.value (and_left (is_key r) (is_child p r.path) h.0))

listed_long : (keys : Bool) (p : List (List ℕ)) (r : Row) → is_listed keys p r ≡ true → length r.path ≡ length p + 1
listed_long keys p r h = grind (arith, nat_tests, and_left (length r.path == length p + 1) (is_front p r.path) (and_right (is_kind keys r) (is_child p r.path) h))

short_filter : (test : Row → Bool) (n : ℕ) (xs : List Row) → AreShort n xs → AreShort n (filter test xs)
short_filter test n [] h = tt
short_filter test n (x ∷ xs) h = kept (test x) (filter test xs) h.0 (short_filter test n xs h.1)
  where
    kept : (t : Bool) (ys : List Row) → length x.path ≤ n → AreShort n ys → AreShort n (cond t (x ∷ ys) ys)
    kept true ys k l = (k, l)
    kept false ys k l = l

-- in a directory of 32 names nothing stands
none_deep : (keys : Bool) (p : List (List ℕ)) (rs : List Row) → AllListed keys p rs → AreShort depth_limit rs → depth_limit ≤ length p → rs ≡ []
none_deep keys p [] h short deep = refl
none_deep keys p (r ∷ rs) h short deep = absurd (omega (arith, listed_long keys p r h.0, short.0, deep))

section_long : (rows : List Row) (p : List (List ℕ)) → length (section_text rows p) ≡ length (dir_line p) + (length (keys_text (keys_in rows p)) + 1)
section_long rows p = omega (arith, length-append (dir_line p) (keys_text (keys_in rows p) ++ 10 ∷ []), length-append (keys_text (keys_in rows p)) (10 ∷ []))

dirs_cost : (n : ℕ) (rows : List Row) (p : List (List ℕ)) (ds : List Row) → AllListed false p ds
    → ((d : Row) → is_listed false p d ≡ true → length (keys_text (keys_in rows d.path)) + length (dirs_text n rows d.path) ≡ sum_by row_cost (walk_below n rows d.path))
    → length (flat_map (λ (d : Row). section_text rows d.path ++ dirs_text n rows d.path) ds) ≡ sum_by row_cost (flat_map (λ (d : Row). d ∷ walk_below n rows d.path) ds)
dirs_cost n rows p [] h ih = refl
dirs_cost n rows p (d ∷ ds) h ih =
    let text : Row → List ℕ = λ (x : Row). section_text rows x.path ++ dirs_text n rows x.path in
    let below : Row → List Row = λ (x : Row). x ∷ walk_below n rows x.path in
    omega (
      arith,
      length-append (section_text rows d.path ++ dirs_text n rows d.path) (flat_map text ds),
      length-append (section_text rows d.path) (dirs_text n rows d.path),
      section_long rows d.path,
      sum_by-append row_cost (d ∷ walk_below n rows d.path) (flat_map below ds),
      sum_by-cons row_cost d (walk_below n rows d.path),
      ih d h.0,
      dir_cost d.path d.value (and_left (not (is_key d)) (is_child p d.path) h.0),
      dirs_cost n rows p ds h.1 ih,
    )

below_cost : (n : ℕ) (rows : List Row) (p : List (List ℕ)) → AreShort depth_limit rows → depth_limit ≤ length p + n
    → length (keys_text (keys_in rows p)) + length (dirs_text n rows p) ≡ sum_by row_cost (walk_below n rows p)
unfolding dirs_text walk_below
below_cost zero rows p short deep =
    ap (λ (l : List Row). length (keys_text l) + 0) (none_deep true p (keys_in rows p) (filter_listed true p rows) (short_filter (is_listed true p) depth_limit rows short) (omega (arith, deep)))
below_cost (suc n) rows p short deep =
    omega (
      arith,
      keys_cost p (keys_in rows p) (filter_listed true p rows),
      dirs_cost n rows p (dirs_in rows p) (filter_listed false p rows) (λ d listed. below_cost n rows d.path short (omega (arith, listed_long false p d listed, deep))),
      sum_by-append row_cost (keys_in rows p) (flat_map (λ (d : Row). d ∷ walk_below n rows d.path) (dirs_in rows p)),
    )

root_long : (rows : List Row) (keys : List Row) → keys ≡ keys_in rows [] → length (section_with rows keys) ≤ 5 + length (keys_text keys)
root_long rows [] e = omega arith
root_long rows (r ∷ rs) e = omega (arith, section_long rows [], ap (λ (l : List Row). length (keys_text l)) e)

pub dump_small : (s : Rows) → IsDatabase s → length (dump_text s) ≤ dump_limit
unfolding walk
dump_small s h =
    let short = short_rows s.links s.rows h.rows in
    omega (
      arith,
      length-append (root_text s.rows) (dirs_text depth_limit s.rows []),
      root_long s.rows (keys_in s.rows []) refl,
      below_cost depth_limit s.rows [] short (omega arith),
      sum_by-IsPermutation row_cost (walk_below depth_limit s.rows []) s.rows (has_rows s h.tree short),
      costs_small s.links s.rows h.rows,
      h.within.rows,
      h.within.total,
    )
