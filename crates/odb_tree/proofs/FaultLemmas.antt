-- The faults of calls, from what the code finds.
use Rattle.std.proofs.Common.{◌≡◌, ℕ, ◌+◌, ◌-◌, ◌*◌, ◌≤◌, ◌^◌, Bool, false, cond, eqb, List, [], ◌∷◌, ◌++◌, length, replicate, Option, Some, None, ◌⊎◌, inl, inr, refl, sym, ap, ◌∙◌, subst, arith}
use Rattle.std.specs.Prelude.{All, IsTrue}
use Rattle.std.specs.Option.{option_or, option_map, is_some}
use Rattle.std.proofs.lemmas.Bool.Decides.{nat_tests}
use Rattle.std.proofs.lemmas.List.Elements.{All-head, All-tail}
use Rattle.std.proofs.lemmas.List.{length-append, length-take, length-replicate, length-set}
use Rattle.daq_types.specs.declared.types.Tid.{Tid}
use Rattle.odb_value.specs.declared.items.Item.{Item}
use Rattle.odb_value.specs.declared.items.Item.TheVariants.{Text}
use Rattle.odb_value.specs.Items.{tid_of, is_kept, IsItem}
use Rattle.odb_value.specs.ItemTexts.{text_limit}
use Rattle.odb_value.specs.Values.{HeldValue, IsSizeOf, IsShorter, items_limit}
use Rattle.odb_value.specs.LinkValues.{IsValueOrLink}
use Rattle.odb_value.proofs.LinksKept.{some_held, few_held}
use Rattle.odb_value.specs.ValueChanges.{put_in, resized, size_with_item, default_item}
use Rattle.odb_tree.specs.declared.rows.Row.{Row}
use Rattle.odb_tree.specs.declared.rows.NewKey.{NewKey}
use Rattle.odb_tree.specs.declared.refusals.OdbRefusal.{OdbRefusal}
use Rattle.odb_tree.specs.declared.refusals.OdbRefusal.TheVariants.{Limit, NotKept, NotValue}
use Rattle.odb_tree.specs.declared.refusals.What.{What}
use Rattle.odb_tree.specs.Rows.{Rows, row_at, change_at, bytes_of, bytes_in, total_of}
use Rattle.odb_tree.specs.Limits.{IsWithin, passed, len_fault, text_fault, texts_fault, limit_fault}
use Rattle.odb_tree.specs.Lookups.{parent_of, obstacle_to_new}
use Rattle.odb_tree.specs.Making.{created, missing_from}
use Rattle.odb_tree.specs.Changes.{IsKeyAt}
use Rattle.odb_tree.specs.Calls.{set_fault, set_all_fault, after_set, after_set_all, after_resize, after_set_all_at, type_fault, index_fault, value_fault, directory_fault, tid_fault, there_fault, replace_fault, own_fault, create_fault, exists_fault, kept_fault, items_fault, after_create}
use Rattle.odb_tree.proofs.Limited.{new_counts, change_counts, fault_same}

-- of an `option_or` whose first is nothing the second is left
pub or_next : {X : Type 0} (a o r : Option X) → ((x : X) → a ≡ Some x → ⊥) → r ≡ o → r ≡ option_or a o
or_next None o r h k = k
or_next (Some x) o r h k = absurd (h x refl)

-- new rows

pub new_fits : (s : Rows) (p : List (List ℕ)) (value : Option HeldValue) (seen : List Row) (names : List (List ℕ)) → seen ≡ s.rows → names ≡ parent_of p
    → IsWithin (created s p value) → s.next + missing_from seen [] names ≤ 2 ^ 32
new_fits s p value seen names e f h =
    let same : missing_from seen [] names ≡ missing_from s.rows [] (parent_of p) = ap (λ (xs : List Row). missing_from xs [] names) e ∙ ap (missing_from s.rows []) f in
    let counts = new_counts s p value in
    omega (arith, same, counts.next, h.next)

pub new_fault_is : (s : Rows) (p : List (List ℕ)) (own : Option What) (bytes count missing total : ℕ) (value : Option HeldValue) (seen : List Row) (names : List (List ℕ))
    → seen ≡ s.rows → names ≡ parent_of p → missing ≡ missing_from seen [] names → count ≡ length seen → total ≡ total_of seen → (own ≡ None → bytes_in value ≡ bytes)
    → option_map Limit (passed own (count + missing + 1) (total + bytes) (s.next + missing + 1)) ≡ limit_fault own (created s p value)
new_fault_is s p own bytes count missing total value seen names e f m k t h =
    let counts = new_counts s p value in
    let same : missing ≡ missing_from s.rows [] (parent_of p) = m ∙ (ap (λ (xs : List Row). missing_from xs [] names) e ∙ ap (missing_from s.rows []) f) in
    let long : count ≡ length s.rows = k ∙ ap (λ (xs : List Row). length xs) e in
    let whole : total ≡ total_of s.rows = t ∙ ap total_of e in
    let rows_are : count + missing + 1 ≡ length (created s p value).rows = omega (arith, counts.rows, same, long) in
    let next_is : s.next + missing + 1 ≡ (created s p value).next = omega (arith, counts.next, same) in
    fault_same own (count + missing + 1) (total + bytes) (total_of (created s p value).rows) (s.next + missing + 1) (λ none. omega (arith, h none, counts.total, whole))
    ∙ (ap (λ (n : ℕ). option_map Limit (passed own n (total_of (created s p value).rows) (s.next + missing + 1))) rows_are
    ∙ ap (λ (n : ℕ). option_map Limit (passed own (length (created s p value).rows) (total_of (created s p value).rows) n)) next_is)

-- changed values

pub had_some : (rows : List Row) (p : List (List ℕ)) (v : HeldValue) → IsKeyAt rows p v → bytes_of v ≤ total_of rows
had_some rows p v h = let counts = change_counts rows p h.row v (λ (x : HeldValue). x) h.there h.value in counts.had

pub change_is : (s : Rows) (p : List (List ℕ)) (v : HeldValue) (f : HeldValue → HeldValue) (own : Option What) (had bytes : ℕ) → IsKeyAt s.rows p v → had ≡ bytes_of v → (own ≡ None → bytes ≡ bytes_of (f v))
    → option_map Limit (passed own (length s.rows) (total_of s.rows - had + bytes) s.next) ≡ limit_fault own (record s { rows = change_at s.rows p f })
change_is s p v f own had bytes h k e =
    let counts = change_counts s.rows p h.row v f h.there h.value in
    fault_same own (length s.rows) (total_of s.rows - had + bytes) (total_of (change_at s.rows p f)) s.next (λ none. omega (arith, e none, k, counts.total))
    ∙ ap (λ (n : ℕ). option_map Limit (passed own n (total_of (change_at s.rows p f)) s.next)) (sym counts.count)

resized_long : (v : HeldValue) (len : ℕ) → length (resized v len).items ≡ len
resized_long v len = omega (arith, length-take len (v.items ++ replicate (len - length v.items) (default_item v.tid)), length-append v.items (replicate (len - length v.items) (default_item v.tid)), length-replicate (len - length v.items) (default_item v.tid))

pub resize_is : (s : Rows) (p : List (List ℕ)) (v : HeldValue) (len had bytes size : ℕ) → IsKeyAt s.rows p v → had ≡ bytes_of v → size ≡ v.size → (len_fault len ≡ None → bytes ≡ len * size)
    → option_map Limit (passed (len_fault len) (length s.rows) (total_of s.rows - had + bytes) s.next) ≡ limit_fault (len_fault len) (after_resize s p len)
resize_is s p v len had bytes size h k e b =
    change_is s p v (λ (x : HeldValue). resized x len) (len_fault len) had bytes h k
    (λ none. b none ∙ (ap (λ (n : ℕ). len * n) e ∙ ap (λ (n : ℕ). n * v.size) (sym (resized_long v len))))

len_right : (n : ℕ) → 1 ≤ n → n ≤ items_limit → len_fault n ≡ None
len_right n some many = grind arith

pub set_is : (s : Rows) (p : List (List ℕ)) (v : HeldValue) (index : ℕ) (item : Item) (had bytes len size : ℕ) → IsKeyAt s.rows p v → IsValueOrLink v → had ≡ bytes_of v → len ≡ length v.items
    → (text_fault item ≡ None → size ≡ size_with_item v.size item) → (len_fault len ≡ None → bytes ≡ len * size)
    → option_map Limit (passed (text_fault item) (length s.rows) (total_of s.rows - had + bytes) s.next) ≡ limit_fault (text_fault item) (after_set s p index item)
set_is s p v index item had bytes len size h value k e r b =
    let right : len_fault len ≡ None = len_right len (omega (arith, e, some_held v value)) (omega (arith, e, few_held v value)) in
    change_is s p v (λ (x : HeldValue). put_in x index item) (text_fault item) had bytes h k
    (λ none. b right ∙ (ap (λ (n : ℕ). len * n) (r none) ∙ ap (λ (n : ℕ). n * size_with_item v.size item) (e ∙ sym (length-set v.items index item))))

-- set_all

named_value : (rows : List Row) (p : List (List ℕ)) → eqb (length p) 0 ≡ false → value_fault rows p ≡ directory_fault (row_at rows p)
named_value rows [] h = absurd (cc)
named_value rows (name ∷ names) h = refl

of_kept : (type : Tid) → IsTrue (is_kept type) → tid_fault type ≡ None
of_kept type h = ap (λ (t : Bool). cond t None (Some (NotKept type))) h

not_long : (bytes : List ℕ) → length bytes ≤ text_limit → text_fault (Text bytes) ≡ None
not_long bytes h = grind (arith, nat_tests, h)

-- a text of a value is not too long
short_text : (type : Tid) (size : ℕ) (item : Item) → IsSizeOf type size → IsItem type item → IsShorter size item → text_fault item ≡ None
short_text type size (Text bytes) fits is short = not_long bytes (omega (arith, subst (λ (t : Tid). IsSizeOf t size) (sym is.tid) fits, short))
short_text type size _ fits is short = refl

short_texts : (type : Tid) (size : ℕ) (items : List Item) → IsSizeOf type size → All (IsItem type) items → All (IsShorter size) items → texts_fault items ≡ None
short_texts type size [] fits are short = refl
short_texts type size (item ∷ items) fits are short =
    rw (short_text type size item fits (All-head (IsItem type) item items are) (All-head (IsShorter size) item items short))
    (short_texts type size items fits (All-tail (IsItem type) item items are) (All-tail (IsShorter size) item items short))

-- of a value, and of a link, nothing is wrong with the items
own_right : (v : HeldValue) → IsValueOrLink v → own_fault v ≡ None
own_right v (inl h) = rw (len_right (length v.items) h.some h.many) (short_texts v.tid v.size v.items h.size h.of_type h.shorter)
own_right v (inr l) = rw (l.one, not_long l.text l.short) refl

all_clear : (a b c type : Option OdbRefusal) (own : Option What) (after s : Rows) → a ≡ None → c ≡ type → own ≡ None → after ≡ s
    → option_or a (option_or b (option_or c (limit_fault own after))) ≡ option_or b (option_or type (limit_fault None s))
all_clear a b c type own after s ea ec eo es = rw (ea, ec, eo, es) refl

or_assoc : {X : Type 0} (a b c : Option X) → option_or (option_or a b) c ≡ option_or a (option_or b c)
or_assoc None b c = refl
or_assoc (Some x) b c = refl

-- a new key
pub set_all_new : (s : Rows) (p : List (List ℕ)) (v : HeldValue) (obstacle r : Option OdbRefusal) → eqb (length p) 0 ≡ false → row_at s.rows p ≡ None → IsValueOrLink v
    → obstacle ≡ obstacle_to_new s.rows p → ((x : OdbRefusal) → obstacle ≡ Some x → ⊥) → r ≡ option_or (tid_fault v.tid) (limit_fault None (created s p (Some v))) → r ≡ set_all_fault s p v
set_all_new s p v obstacle r named missing sound is free fault =
    let rest : Option OdbRefusal = option_or (tid_fault v.tid) (limit_fault None (created s p (Some v))) in
    or_next obstacle rest r free fault
    ∙ (ap (λ (o : Option OdbRefusal). option_or o rest) is
    ∙ ap (λ (o : Option OdbRefusal). option_or (obstacle_to_new s.rows p) o)
    (sym (all_clear (value_fault s.rows p) (tid_fault v.tid) (there_fault v.tid (row_at s.rows p)) None (own_fault v) (after_set_all s p v) (created s p (Some v))
    (named_value s.rows p named ∙ ap directory_fault missing) (ap (there_fault v.tid) missing) (own_right v sound) (ap (after_set_all_at s p v) missing))))

no_directory : (row : Row) (v : HeldValue) → row.value ≡ Some v → directory_fault (Some row) ≡ None
no_directory row v h = ap (λ (o : Option HeldValue). cond (is_some o) None (Some NotValue)) h

-- a key that is there
pub set_all_there : (s : Rows) (p : List (List ℕ)) (v had : HeldValue) (row : Row) (obstacle type r : Option OdbRefusal) → eqb (length p) 0 ≡ false → row_at s.rows p ≡ Some row → row.value ≡ Some had
    → IsValueOrLink v → obstacle ≡ obstacle_to_new s.rows p → ((x : OdbRefusal) → obstacle ≡ Some x → ⊥) → type ≡ option_or (tid_fault v.tid) (type_fault had.tid v.tid)
    → r ≡ option_or type (limit_fault None (record s { rows = change_at s.rows p (λ _. v) })) → r ≡ set_all_fault s p v
set_all_there s p v had row obstacle type r named there held sound is free type_is fault =
    let after : Rows = record s { rows = change_at s.rows p (λ _. v) } in
    or_next obstacle (option_or type (limit_fault None after)) r free fault
    ∙ (ap (λ (o : Option OdbRefusal). option_or o (option_or type (limit_fault None after))) is
    ∙ ap (λ (o : Option OdbRefusal). option_or (obstacle_to_new s.rows p) o)
    (ap (λ (o : Option OdbRefusal). option_or o (limit_fault None after)) type_is ∙ (or_assoc (tid_fault v.tid) (type_fault had.tid v.tid) (limit_fault None after)
    ∙ sym (all_clear (value_fault s.rows p) (tid_fault v.tid) (there_fault v.tid (row_at s.rows p)) (type_fault had.tid v.tid) (own_fault v) (after_set_all s p v) after
    (named_value s.rows p named ∙ (ap directory_fault there ∙ no_directory row had held))
    (ap (there_fault v.tid) there ∙ ap (replace_fault v.tid) held) (own_right v sound) (ap (after_set_all_at s p v) there)))))

-- create

pub create_is : (s : Rows) (p : List (List ℕ)) (kind : NewKey) (obstacle there kept r : Option OdbRefusal)
    → obstacle ≡ obstacle_to_new s.rows p → ((x : OdbRefusal) → obstacle ≡ Some x → ⊥) → there ≡ exists_fault s.rows p → ((x : OdbRefusal) → there ≡ Some x → ⊥)
    → kept ≡ kept_fault s.links kind → ((x : OdbRefusal) → kept ≡ Some x → ⊥) → r ≡ limit_fault (items_fault kind) (after_create s p kind) → r ≡ create_fault s p kind
create_is s p kind obstacle there kept r is free there_is new kept_is known fault =
    let limits : Option OdbRefusal = limit_fault (items_fault kind) (after_create s p kind) in
    or_next obstacle (option_or there (option_or kept limits)) r free (or_next there (option_or kept limits) r new (or_next kept limits r known fault))
    ∙ (ap (λ (o : Option OdbRefusal). option_or o (option_or there (option_or kept limits))) is
    ∙ (ap (λ (o : Option OdbRefusal). option_or (obstacle_to_new s.rows p) (option_or o (option_or kept limits))) there_is
    ∙ ap (λ (o : Option OdbRefusal). option_or (obstacle_to_new s.rows p) (option_or (exists_fault s.rows p) (option_or o limits))) kept_is))

-- set

pub set_fault_is : (s : Rows) (p : List (List ℕ)) (v : HeldValue) (index : ℕ) (item : Item) (have given : Tid) (len : ℕ) (type there r : Option OdbRefusal)
    → type ≡ type_fault have given → have ≡ v.tid → given ≡ tid_of item → ((x : OdbRefusal) → type ≡ Some x → ⊥)
    → there ≡ index_fault len index → len ≡ length v.items → ((x : OdbRefusal) → there ≡ Some x → ⊥)
    → r ≡ limit_fault (text_fault item) (after_set s p index item) → r ≡ set_fault s p index item v
set_fault_is s p v index item have given len type there r type_is have_is given_is same there_is len_is inside fault =
    let limits : Option OdbRefusal = limit_fault (text_fault item) (after_set s p index item) in
    or_next type (option_or there limits) r same (or_next there limits r inside fault)
    ∙ (ap (λ (o : Option OdbRefusal). option_or o (option_or there limits)) (type_is ∙ (ap (λ (t : Tid). type_fault t given) have_is ∙ ap (type_fault v.tid) given_is))
    ∙ ap (λ (o : Option OdbRefusal). option_or (type_fault v.tid (tid_of item)) (option_or o limits)) (there_is ∙ ap (λ (n : ℕ). index_fault n index) len_is))

pub key_at : (s : Rows) (seen : List Row) (p : List (List ℕ)) (row : Row) (v : HeldValue) → seen ≡ s.rows → row_at seen p ≡ Some row → row.value ≡ Some v → IsKeyAt s.rows p v
key_at s seen p row v is there value = record { row = row; there = subst (λ (rows : List Row). row_at rows p ≡ Some row) is there; value = value }
