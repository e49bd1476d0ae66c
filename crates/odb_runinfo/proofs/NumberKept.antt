-- What each call keeps of the run number.
use Rattle.std.specs.Prelude.{◌≡◌, ℕ, zero, suc, ◌-◌, Bool, true, false, not, ◌&&◌, ◌==◌, cond, ◌⊎◌, List, [], ◌∷◌, ◌++◌, length, map, take, replicate, slice_set, Option, Some, None, Result, Ok, Err, codes, ℤ, pos, refl}
use Rattle.std.specs.Option.{option_map}
use Rattle.std.specs.Char.{to_ascii_lowercase}
use Rattle.std.specs.Prelude.{◌≤◌, All}
use Rattle.std.proofs.lemmas.List.Elements.{All-head}
use Rattle.std.proofs.Common.{ap, ◌∙◌, sym, inl, inr, Decides, arith}
use Rattle.std.proofs.lemmas.Bool.{false≢true}
use Rattle.std.proofs.lemmas.Slice.Eq.{slice_eq-Decides}
use Rattle.std.proofs.lemmas.Bool.Decides.{Decides-eqb}
use Rattle.daq_types.specs.declared.types.Tid.{Tid}
use Rattle.daq_types.specs.declared.types.Tid.TheVariants as tid
use Rattle.odb_value.specs.Paths.{same_name, is_front, same_path}
use Rattle.odb_value.specs.declared.items.Item.{Item}
use Rattle.odb_value.specs.declared.items.Item.TheVariants.{Int32}
use Rattle.odb_value.specs.Items.{tid_of, is_kept, IsItem}
use Rattle.odb_value.specs.Values.{HeldValue}
use Rattle.odb_value.specs.LinkValues.{IsValueOrLink, is_link_type}
use Rattle.odb_value.proofs.LinksKept.{value_of_kept}
use Rattle.odb_value.specs.ValueChanges.{default_item, put_in, resized}
use Rattle.odb_tree.specs.declared.rows.Row.{Row}
use Rattle.odb_tree.specs.declared.refusals.OdbRefusal.{OdbRefusal}
use Rattle.odb_tree.specs.declared.entry.DatabaseEntry.{DatabaseEntry}
use Rattle.odb_tree.specs.declared.entry.DatabaseEntry.TheVariants.{Create, Set, SetAll, Get, Find, ListDir, Delete, Resize, PathOf}
use Rattle.odb_tree.specs.Rows.{Rows, row_at, change_row, change_at, rows_outside}
use Rattle.odb_tree.specs.Lookups.{obstacle_to_new, seek_key}
use Rattle.odb_tree.specs.Limits.{len_fault, limit_fault}
use Rattle.odb_tree.specs.Calls.{after_create, after_set, after_set_all, resize_reply, IsRowsReply, after_resize, after_set_all_at, get_reply, number_at, replace_fault, resize_reply_to, rows_after, set_all_fault, set_all_reply, set_fault, set_reply, set_reply_to, there_fault, tid_fault, value_fault, GivesTaking, link_fault, put_fault, put_reply, after_put}
use Rattle.odb_tree.specs.Changes.{IsKeyAt}
use Rattle.odb_tree.specs.Histories.{IsLegalRows, rows_replay}
use Rattle.odb_tree.specs.Databases.{IsSoundCall}
use Rattle.odb_tree.proofs.Limited.{or_none_left, or_none_right, own_none}
use Rattle.odb_tree.proofs.CallLemmas.{can_put, sought_key, types_agree}
use Rattle.odb_tree.specs.Links.{Met, first_link, follow, lead, links_limit, resolved, meets_link, through, led_to}
use Rattle.odb_tree.proofs.Sound.{ok_none}
use Rattle.odb_tree.proofs.Led.{item_gives}
use Rattle.odb_runinfo.specs.declared.keys.RunKey.TheVariants.{RunNumber}
use Rattle.odb_runinfo.specs.RunKeys.{key_path, key_row, opened_rows}
use Rattle.odb_runinfo.specs.RunSets.{have_of, number_in}
use Rattle.odb_runinfo.specs.RunNumberKept.{run_directory, HoldsNumber, HasRunNumber, StandsApart, SparesRuninfo, AllSpareRuninfo}

and_left : (a b : Bool) → a && b ≡ true → a ≡ true
and_left true b h = refl
and_left false b h = h

and_right : (a b : Bool) → a && b ≡ true → b ≡ true
and_right true b h = h
and_right false b h = absurd (cc)

names_decide : (a b : List ℕ) → Decides (same_name a b) (map to_ascii_lowercase a ≡ map to_ascii_lowercase b)
names_decide a b = slice_eq-Decides Decides-eqb (map to_ascii_lowercase a) (map to_ascii_lowercase b) (same_name a b) refl

name_trans : (a b c : List ℕ) → same_name a b ≡ true → same_name b c ≡ true → same_name a c ≡ true
name_trans a b c h k = let ab = names_decide a b in let bc = names_decide b c in let ac = names_decide a c in ac.1 (ab.0 h ∙ bc.0 k)

other_name : (t : Bool) (n a c : List ℕ) → same_name n a ≡ t → same_name n c ≡ false → same_name a c ≡ true → t ≡ false
other_name true n a c is away same = absurd (false≢true (sym away ∙ name_trans n a c is same))
other_name false n a c is away same = refl

apart : (q names path : List (List ℕ)) → StandsApart q → same_path path (codes "Runinfo" ∷ names) ≡ true → is_front q path ≡ false
apart [] names path away same = absurd away
apart (n ∷ q) names [] away same = refl
apart (n ∷ q) names (a ∷ path) away same =
    let front : is_front (a ∷ path) (codes "Runinfo" ∷ names) ≡ true = and_right (length (a ∷ path) == length (codes "Runinfo" ∷ names)) (is_front (a ∷ path) (codes "Runinfo" ∷ names)) same in
    let first : same_name a (codes "Runinfo") ≡ true = and_left (same_name a (codes "Runinfo")) (is_front path names) front in
    ap (λ (t : Bool). t && is_front q path) (other_name (same_name n a) n a (codes "Runinfo") refl away first)

-- Rows that stay.

append_step : (b : Bool) (x r : Row) (there after : Option Row) → cond b (Some x) there ≡ Some r → (there ≡ Some r → after ≡ Some r) → cond b (Some x) after ≡ Some r
append_step true x r there after e rest = e
append_step false x r there after e rest = rest e

append_keeps : (rows more : List Row) (p : List (List ℕ)) (r : Row) → row_at rows p ≡ Some r → row_at (rows ++ more) p ≡ Some r
append_keeps [] more p r e = absurd (cc)
append_keeps (x ∷ xs) more p r e = append_step (same_path x.path p) x r (row_at xs p) (row_at (xs ++ more) p) e (append_keeps xs more p r)

outside_step : (b a : Bool) (x r : Row) (xs ys : List Row) (p : List (List ℕ)) → same_path x.path p ≡ b → (b ≡ true → a ≡ false) → cond b (Some x) (row_at xs p) ≡ Some r
    → (row_at xs p ≡ Some r → row_at ys p ≡ Some r) → row_at (cond (not a) (x ∷ ys) ys) p ≡ Some r
outside_step true true x r xs ys p is away e rest = absurd (false≢true (sym (away refl)))
outside_step true false x r xs ys p is away e rest = ap (λ (t : Bool). cond t (Some x) (row_at ys p)) is ∙ e
outside_step false true x r xs ys p is away e rest = rest e
outside_step false false x r xs ys p is away e rest = ap (λ (t : Bool). cond t (Some x) (row_at ys p)) is ∙ rest e

outside_keeps : (rows : List Row) (q p : List (List ℕ)) (r : Row) → ((path : List (List ℕ)) → same_path path p ≡ true → is_front q path ≡ false) → row_at rows p ≡ Some r → row_at (rows_outside rows q) p ≡ Some r
outside_keeps [] q p r away e = absurd (cc)
outside_keeps (x ∷ xs) q p r away e =
    outside_step (same_path x.path p) (is_front q x.path) x r xs (rows_outside xs q) p refl (away x.path) e (outside_keeps xs q p r away)

-- the row at a path is the same, or, if it is that of the change too, changed
abbrev IsOrChanged : (rows after : List Row) (q p : List (List ℕ)) (f : HeldValue → HeldValue) (r : Row) → Type 0
IsOrChanged rows after q p f r = (row_at after p ≡ Some r) ⊎ ((row_at rows q ≡ Some r) × (row_at after p ≡ Some (change_row f r)))

change_step : (a b : Bool) (x r : Row) (xs ys : List Row) (q p : List (List ℕ)) (f : HeldValue → HeldValue) → same_path x.path q ≡ a → same_path x.path p ≡ b → cond b (Some x) (row_at xs p) ≡ Some r
    → (row_at xs p ≡ Some r → IsOrChanged xs ys q p f r) → IsOrChanged (x ∷ xs) (cond a (change_row f x ∷ xs) (x ∷ ys)) q p f r
change_step true true x r xs ys q p f at is e rest = inr (
  ap (λ (t : Bool). cond t (Some x) (row_at xs q)) at ∙ e,
  ap (λ (t : Bool). cond t (Some (change_row f x)) (row_at xs p)) is ∙ ap (option_map (change_row f)) e,
)
change_step true false x r xs ys q p f at is e rest = inl (ap (λ (t : Bool). cond t (Some (change_row f x)) (row_at xs p)) is ∙ e)
change_step false true x r xs ys q p f at is e rest = inl (ap (λ (t : Bool). cond t (Some x) (row_at ys p)) is ∙ e)
change_step false false x r xs ys q p f at is e rest =
    elim (rest e) [
      | inl h ↦ inl (ap (λ (t : Bool). cond t (Some x) (row_at ys p)) is ∙ h)
      | inr h ↦ inr (ap (λ (t : Bool). cond t (Some x) (row_at xs q)) at ∙ h.0, ap (λ (t : Bool). cond t (Some x) (row_at ys p)) is ∙ h.1)
    ]

change_keeps : (rows : List Row) (q p : List (List ℕ)) (f : HeldValue → HeldValue) (r : Row) → row_at rows p ≡ Some r → IsOrChanged rows (change_at rows q f) q p f r
change_keeps [] q p f r e = absurd (cc)
change_keeps (x ∷ xs) q p f r e = change_step (same_path x.path q) (same_path x.path p) x r xs (change_at xs q f) q p f refl refl e (change_keeps xs q p f r)

-- What each call keeps.

appended : (rows more : List Row) → HasRunNumber rows → HasRunNumber (rows ++ more)
appended rows more has = record {
  dir = has.dir;
  dir_at = append_keeps rows more run_directory has.dir has.dir_at;
  no_value = has.no_value;
  key = has.key;
  key_at = append_keeps rows more (key_path RunNumber) has.key has.key_at;
  held = has.held;
  value = has.value;
  number = has.number;
}

outside : (rows : List Row) (q : List (List ℕ)) → StandsApart q → HasRunNumber rows → HasRunNumber (rows_outside rows q)
outside rows q away has = record {
  dir = has.dir;
  dir_at = outside_keeps rows q run_directory has.dir (λ path same. apart q [] path away same) has.dir_at;
  no_value = has.no_value;
  key = has.key;
  key_at = outside_keeps rows q (key_path RunNumber) has.key (λ path same. apart q (codes "Run number" ∷ []) path away same) has.key_at;
  held = has.held;
  value = has.value;
  number = has.number;
}

-- a row of a directory, and one of a key with a number
abbrev HasDirectory : List Row → Type 0
HasDirectory rows = (d : Row) × (row_at rows run_directory ≡ Some d) × (d.value ≡ None)

abbrev HasKey : List Row → Type 0
HasKey rows = (k : Row) × (v : HeldValue) × (row_at rows (key_path RunNumber) ≡ Some k) × (k.value ≡ Some v) × HoldsNumber v

changed_directory : (rows after : List Row) (q : List (List ℕ)) (f : HeldValue → HeldValue) (d : Row) → d.value ≡ None → IsOrChanged rows after q run_directory f d → HasDirectory after
changed_directory rows after q f d none (inl h) = (d, h, none)
changed_directory rows after q f d none (inr h) = (change_row f d, h.1, ap (option_map f) none)

-- the change keeps a number at its path
abbrev KeepsNumber : List Row → (q : List (List ℕ)) → (HeldValue → HeldValue) → Type 0
KeepsNumber rows q f = (v : HeldValue) → IsKeyAt rows q v → HoldsNumber v → HoldsNumber (f v)

changed_key : (rows after : List Row) (q : List (List ℕ)) (f : HeldValue → HeldValue) → KeepsNumber rows q f → (k : Row) (v : HeldValue) → k.value ≡ Some v → HoldsNumber v
    → IsOrChanged rows after q (key_path RunNumber) f k → HasKey after
changed_key rows after q f keeps k v value number (inl h) = (k, v, h, value, number)
changed_key rows after q f keeps k v value number (inr h) =
    (change_row f k, f v, h.1, ap (option_map f) value, keeps v (record { row = k; there = h.0; value = value }) number)

changed : (rows : List Row) (q : List (List ℕ)) (f : HeldValue → HeldValue) → KeepsNumber rows q f → HasRunNumber rows → HasRunNumber (change_at rows q f)
changed rows q f keeps has =
    let after = change_at rows q f in
    let d = changed_directory rows after q f has.dir has.no_value (change_keeps rows q run_directory f has.dir has.dir_at) in
    let k = changed_key rows after q f keeps has.key has.held has.value has.number (change_keeps rows q (key_path RunNumber) f has.key has.key_at) in
    record { dir = d.0; dir_at = d.1; no_value = d.2; key = k.0; key_at = k.2; held = k.1; value = k.3; number = k.4 }

-- A set that is answered puts an item of the key's type.

one_value : (rows : List Row) (q : List (List ℕ)) (v w : HeldValue) → IsKeyAt rows q v → IsKeyAt rows q w → v ≡ w
one_value rows q v w a b =
    let found = a.there in
    let again = b.there in
    let one = a.value in
    let other = b.value in
    let row : a.row ≡ b.row = cc in
    cc

set_type : (s : Rows) (q : List (List ℕ)) (index : ℕ) (item : Item) (n : ℕ) (v : HeldValue) (sought : Result (ℕ × HeldValue) OdbRefusal) → seek_key s.rows q ≡ sought
    → set_reply_to s q index item sought ≡ Ok n → IsKeyAt s.rows q v → tid_of item ≡ v.tid
set_type s q index item n v (Err why) is e at = absurd (cc)
set_type s q index item n v (Ok (m, w)) is e at =
    let put = can_put s q index item w (set_fault s q index item w) refl (ok_none (set_fault s q index item w) m n e) in
    put.of_type ∙ ap (λ (h : HeldValue). h.tid) (one_value s.rows q w v (sought_key s s.rows q m w refl is) at)

number_item : (item : Item) → tid_of item ≡ tid.Int32 → (z : ℤ) × (item ≡ Int32 z)
number_item (Int32 z) h = (z, refl)
number_item _ h = absurd (cc)

set_first : (index : ℕ) (first z : ℤ) (more : List Item) → (k : ℤ) × (l : List Item) × (slice_set (Int32 first ∷ more) index (Int32 z) ≡ Int32 k ∷ l)
set_first zero first z more = (z, more, refl)
set_first (suc index) first z more = (first, slice_set more index (Int32 z), refl)

put_number : (v : HeldValue) (index : ℕ) (item : Item) → tid_of item ≡ v.tid → HoldsNumber v → HoldsNumber (put_in v index item)
put_number v index item same number =
    let is = number_item item (same ∙ number.type) in
    let set = set_first index number.first is.0 number.more in
    record {
      type = number.type;
      first = set.0;
      more = set.1;
      items = ap (λ (l : List Item). slice_set l index item) number.items ∙ (ap (λ (i : Item). slice_set (Int32 number.first ∷ number.more) index i) is.1 ∙ set.2);
    }

-- A resize that is answered leaves an item 0.

resize_fits : (s : Rows) (q : List (List ℕ)) (len n : ℕ) (sought : Result (ℕ × HeldValue) OdbRefusal) → resize_reply_to s q len sought ≡ Ok n → len_fault len ≡ None
resize_fits s q len n (Err why) e = absurd (cc)
resize_fits s q len n (Ok (m, w)) e = own_none (len_fault len) (after_resize s q len) (ok_none (limit_fault (len_fault len) (after_resize s q len)) m n e)

resized_number : (v : HeldValue) (len : ℕ) → len_fault len ≡ None → HoldsNumber v → HoldsNumber (resized v len)
resized_number v zero fits number = absurd (cc)
resized_number v (suc len) fits number =
    let new = replicate (suc len - length v.items) (default_item v.tid) in
    record { type = number.type; first = number.first; more = take len (number.more ++ new); items = ap (λ (l : List Item). take (suc len) (l ++ new)) number.items }

-- A value that replaces it is of its type, and has an item 0.

same_type : (s : Rows) (q : List (List ℕ)) (v w : HeldValue) (n : ℕ) → set_all_reply s q v ≡ Ok n → IsKeyAt s.rows q w → v.tid ≡ w.tid
same_type s q v w n e at =
    let whole : set_all_fault s q v ≡ None = ok_none (set_all_fault s q v) (number_at s q (row_at s.rows q)) n e in
    let there : there_fault v.tid (row_at s.rows q) ≡ None =
    or_none_left (there_fault v.tid (row_at s.rows q)) _ (or_none_right (tid_fault v.tid) _ (or_none_right (value_fault s.rows q) _ (or_none_right (obstacle_to_new s.rows q) _ whole))) in
    types_agree w.tid v.tid (sym (ap (there_fault v.tid) at.there ∙ ap (replace_fault v.tid) at.value) ∙ there)

number_first : (type : Tid) (items : List Item) → 1 ≤ length items → All (IsItem type) items → type ≡ tid.Int32 → (z : ℤ) × (more : List Item) × (items ≡ Int32 z ∷ more)
number_first type [] some are same = absurd (omega (arith, some))
number_first type (item ∷ items) some are same =
    let is = number_item item ((All-head (IsItem type) item items are).tid ∙ same) in
    (is.0, items, ap (λ (i : Item). i ∷ items) is.1)

value_number : (v w : HeldValue) → IsValueOrLink v → v.tid ≡ w.tid → HoldsNumber w → HoldsNumber v
value_number v w held same number =
    let type : v.tid ≡ tid.Int32 = same ∙ number.type in
    let value = value_of_kept v (ap is_kept type) held in
    let first = number_first v.tid v.items value.some value.of_type type in
    record { type = type; first = first.0; more = first.1; items = first.2 }

replaced : (s : Rows) (q : List (List ℕ)) (v : HeldValue) (o : Option Row) → ((w : HeldValue) → IsKeyAt s.rows q w → v.tid ≡ w.tid) → IsValueOrLink v → HasRunNumber s.rows
    → HasRunNumber (after_set_all_at s q v o).rows
replaced s q v None same held has = appended s.rows _ has
replaced s q v (Some r) same held has = changed s.rows q (λ _. v) (λ w at. value_number v w held (same w at)) has

pub number_put : (s : Rows) (p : List (List ℕ)) (v : HeldValue) (reply : Result ℕ OdbRefusal) → IsValueOrLink v → GivesTaking (is_link_type v.tid) reply (put_reply s p v) → HasRunNumber s.rows → HasRunNumber (after_put s p v reply).rows
number_put s p v (Ok n) held gives has = replaced s p v (row_at s.rows p) same held has
  where
    same : (w : HeldValue) → IsKeyAt s.rows p w → v.tid ≡ w.tid
    same w at =
        let whole : put_fault s p v ≡ None = ok_none (put_fault s p v) (number_at s p (row_at s.rows p)) n gives in
        let there : there_fault v.tid (row_at s.rows p) ≡ None =
        or_none_left (there_fault v.tid (row_at s.rows p)) _ (or_none_right (link_fault s.links v.tid) _ (or_none_right (value_fault s.rows p) _ (or_none_right (obstacle_to_new s.rows p) _ whole))) in
        types_agree w.tid v.tid (sym (ap (there_fault v.tid) at.there ∙ ap (replace_fault v.tid) at.value) ∙ there)
number_put s p v (Err why) held gives has = has

-- The calls.

number_kept : (s : Rows) (e : DatabaseEntry) → IsSoundCall e → IsRowsReply s e → SparesRuninfo e → HasRunNumber s.rows → HasRunNumber (rows_after s e).rows
number_kept s (Create p kind (Ok n)) sound reply spares has = at (resolved s p false)
  where
    at : (r : Result (List (List ℕ)) OdbRefusal) → HasRunNumber (led_to s r (λ q. after_create s q kind)).rows
    at (Err why) = has
    at (Ok q) = appended s.rows _ has
number_kept s (Create p kind (Err why)) sound reply spares has = has
number_kept s (Set p index item (Ok n)) sound reply spares has =
    at (resolved s p true) (item_gives (meets_link s p true) (tid_of item) n (through (resolved s p true) (λ q. set_reply s q index item)) reply)
  where
    at : (r : Result (List (List ℕ)) OdbRefusal) → through r (λ q. set_reply s q index item) ≡ Ok n → HasRunNumber (led_to s r (λ q. after_set s q index item)).rows
    at (Err why) given = has
    at (Ok q) given = changed s.rows q (λ (v : HeldValue). put_in v index item) (λ v at. put_number v index item (set_type s q index item n v (seek_key s.rows q) refl given at)) has
number_kept s (Set p index item (Err why)) sound reply spares has = has
number_kept s (SetAll p v (Ok n)) sound reply spares has = at (resolved s p true) reply
  where
    at : (r : Result (List (List ℕ)) OdbRefusal) → through r (λ q. set_all_reply s q v) ≡ Ok n → HasRunNumber (led_to s r (λ q. after_set_all s q v)).rows
    at (Err why) given = has
    at (Ok q) given = replaced s q v (row_at s.rows q) (λ w at. same_type s q v w n given at) sound.1 has
number_kept s (SetAll p v (Err why)) sound reply spares has = has
number_kept s (Get p answer) sound reply spares has = has
number_kept s (Find p answer) sound reply spares has = has
number_kept s (ListDir p answer) sound reply spares has = has
number_kept s (Delete p (Ok n)) sound reply spares has = outside s.rows p spares has
number_kept s (Delete p (Err why)) sound reply spares has = has
number_kept s (Resize p len (Ok n)) sound reply spares has = at (resolved s p true) reply
  where
    at : (r : Result (List (List ℕ)) OdbRefusal) → through r (λ q. resize_reply s q len) ≡ Ok n → HasRunNumber (led_to s r (λ q. after_resize s q len)).rows
    at (Err why) given = has
    at (Ok q) given = changed s.rows q (λ (v : HeldValue). resized v len) (λ v at. resized_number v len (resize_fits s q len n (seek_key s.rows q) given)) has
number_kept s (Resize p len (Err why)) sound reply spares has = has
number_kept s (PathOf row answer) sound reply spares has = has

pub number_stays : (s : Rows) (h : List (ℕ × DatabaseEntry)) → IsLegalRows s h → AllSpareRuninfo h → HasRunNumber s.rows → HasRunNumber (rows_replay s h).rows
number_stays s [] legal spares has = has
number_stays s (e ∷ es) legal spares has = number_stays (rows_after s e.1) es legal.1 spares.1 (number_kept s e.1 legal.0.sound legal.0.reply spares.0 has)

-- no link is met on the way to it
unmet : (s : Rows) (last : Bool) → HasRunNumber s.rows → first_link s.rows last [] (key_path RunNumber) ≡ None
unmet s last has = rw has.dir_at (rw has.no_value (rw has.key_at (rw has.value (rw has.number.type refl))))

pub number_way : (s : Rows) (last : Bool) → HasRunNumber s.rows → resolved s (key_path RunNumber) last ≡ Ok (key_path RunNumber)
number_way s last has = either s.links
  where
    either : (b : Bool) → cond b (lead links_limit s.rows last 0 (key_path RunNumber)) (Ok (key_path RunNumber)) ≡ Ok (key_path RunNumber)
    either true = ap (λ (o : Option Met). follow (lead 15 s.rows last 1) 0 (key_path RunNumber) o) (unmet s last has)
    either false = refl

there : (s : Rows) (has : HasRunNumber s.rows) → get_reply s (key_path RunNumber) ≡ Ok has.held
there s has = rw has.dir_at (rw has.no_value (rw has.key_at (rw has.value refl)))

-- so a `get` of the run number gives it
pub number_given : (s : Rows) (has : HasRunNumber s.rows) → through (resolved s (key_path RunNumber) true) (λ q. get_reply s q) ≡ Ok has.held
number_given s has = ap (λ (r : Result (List (List ℕ)) OdbRefusal). through r (λ q. get_reply s q)) (number_way s true has) ∙ there s has

-- and a start reads it
pub number_read : (s : Rows) (has : HasRunNumber s.rows) → have_of (through (resolved s (key_path RunNumber) true) (λ q. get_reply s q)) ≡ has.number.first
number_read s has = ap have_of (number_given s has) ∙ ap number_in has.number.items

-- a session opens with it
pub number_opens : (links : Bool) → HasRunNumber (opened_rows links).rows
number_opens links = record {
  dir = record { number = 1; path = run_directory; value = None };
  dir_at = refl;
  no_value = refl;
  key = key_row 3 RunNumber (Int32 (pos 0));
  key_at = refl;
  held = record { tid = tid.Int32; size = 4; items = Int32 (pos 0) ∷ [] };
  value = refl;
  number = record { type = refl; first = pos 0; more = []; items = refl };
}
