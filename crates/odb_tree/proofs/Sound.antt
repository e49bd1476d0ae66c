-- Each call keeps a database one.
use Rattle.std.proofs.Common.{◌≡◌, ℕ, Bool, true, false, not, cond, List, [], ◌∷◌, length, Option, Some, None, Result, Ok, Err, ltb, inl, inr, refl, sym, ap, ◌∙◌, subst, arith}
use Rattle.std.specs.Prelude.{All, IfSome, IsTrue}
use Rattle.std.proofs.lemmas.Bool.Decides.{nat_tests}
use Rattle.std.specs.Option.{option_or, option_map}
use Rattle.std.proofs.lemmas.List.Elements.{All-nil, All-append, All-filter}
use Rattle.daq_types.specs.declared.types.Tid.{Tid}
use Rattle.daq_types.specs.declared.types.Tid.TheVariants as tid
use Rattle.odb_value.specs.Paths.{depth_limit, IsPath, is_front}
use Rattle.odb_value.specs.declared.items.Item.{Item}
use Rattle.odb_value.specs.declared.items.Item.TheVariants.{UInt8, Int8, Char, UInt16, Int16, UInt32, Int32, Bool as Truth, Text, Int64, UInt64}
use Rattle.odb_value.specs.PathText.{path_text}
use Rattle.odb_value.specs.ItemTexts.{text_limit}
use Rattle.odb_value.proofs.PathAgain.{path_again}
use Rattle.odb_value.specs.Items.{tid_of, is_kept, IsSound}
use Rattle.odb_value.specs.Values.{HeldValue, IsValue}
use Rattle.odb_value.specs.ValueChanges.{new_held, put_in, resized}
use Rattle.odb_tree.specs.declared.rows.Row.{Row}
use Rattle.odb_tree.specs.declared.rows.NewKey.{NewKey}
use Rattle.odb_tree.specs.declared.rows.NewKey.TheVariants.{Dir, Keys, Link}
use Rattle.odb_tree.specs.declared.refusals.OdbRefusal.{OdbRefusal}
use Rattle.odb_tree.specs.declared.refusals.OdbRefusal.TheVariants.{NotKept}
use Rattle.odb_tree.specs.declared.refusals.What.{What}
use Rattle.odb_tree.specs.declared.refusals.What.TheVariants.{Size}
use Rattle.odb_tree.specs.declared.entry.DatabaseEntry.{DatabaseEntry}
use Rattle.odb_tree.specs.declared.entry.DatabaseEntry.TheVariants.{Create, Set, SetAll, Get, Find, ListDir, Delete, Resize, PathOf}
use Rattle.odb_tree.specs.Rows.{Rows, no_rows, row_at, change_row, change_at, rows_outside}
use Rattle.odb_tree.specs.Lookups.{obstacle_to_new, seek_key, absent_fault}
use Rattle.odb_tree.specs.Limits.{IsWithin, len_fault, limit_fault}
use Rattle.odb_tree.specs.Changes.{IsKeyAt, CanPut}
use Rattle.odb_tree.specs.Places.{made_for}
use Rattle.odb_value.specs.LinkValues.{IsLink, IsValueOrLink, is_link_type, link_to}
use Rattle.odb_value.proofs.LinksKept.{value_of_kept}
use Rattle.odb_tree.specs.Links.{is_link_value, first_link}
use Rattle.odb_tree.specs.Trees.{AreNew, AreShort}
use Rattle.odb_tree.specs.Calls.{GivesTaking, GivesItem, IsReplyThere, rows_there, IsRowsReply, rows_after, tid_fault, value_fault, set_all_reply, put_fault, put_reply, after_put, resize_reply, reply_or, create_fault, exists_fault, kept_fault, items_fault, new_value, after_create, set_fault, set_reply, set_reply_to, after_set, set_all_fault, after_set_all, after_set_all_at, number_at, after_resize, resize_reply_to, count_gone}
use Rattle.odb_tree.specs.Making.{new_number, created}
use Rattle.odb_tree.specs.Histories.{IsLegalRows, rows_replay}
use Rattle.odb_tree.specs.Databases.{IsHeld, IsRow, IsDatabase, IsSoundKey, IsSoundCall}
use Rattle.odb_tree.proofs.Limited.{or_none_left, or_none_right, own_none, within}
use Rattle.odb_tree.proofs.CallLemmas.{create_within, outside_within, sought_key, can_put, can_put_there, set_within, set_all_within, put_within}
use Rattle.odb_tree.proofs.Kept.{tree_there, tree_begins, tree_set_all_at, short_more, create_makes, set_all_makes, put_makes}
use Rattle.odb_tree.proofs.Led.{none_at_end, item_gives, MeetsNone, led, lifted}
use Rattle.odb_tree.proofs.EachRow.{all_changed, made_rows, value_put, value_new, value_resized}

-- replies

pub ok_none : (o : Option OdbRefusal) (number n : ℕ) → reply_or o number ≡ Ok n → o ≡ None
ok_none None number n h = refl
ok_none (Some refusal) number n h = absurd (cc)

-- the key that an accepted `set` or `resize` changes
record IsSet (s : Rows) (p : List (List ℕ)) (index : ℕ) (item : Item) : Type 0 where
  value : HeldValue
  at : IsKeyAt s.rows p value
  fits : set_fault s p index item value ≡ None

set_key : (s : Rows) (p : List (List ℕ)) (index : ℕ) (item : Item) (n : ℕ) (sought : Result (ℕ × HeldValue) OdbRefusal) → seek_key s.rows p ≡ sought → set_reply_to s p index item sought ≡ Ok n
    → IsSet s p index item
set_key s p index item n (Err why) is h = absurd (cc)
set_key s p index item n (Ok (m, v)) is h = record { value = v; at = sought_key s s.rows p m v refl is; fits = ok_none (set_fault s p index item v) m n h }

resize_fits : (s : Rows) (p : List (List ℕ)) (len n : ℕ) (sought : Result (ℕ × HeldValue) OdbRefusal) → resize_reply_to s p len sought ≡ Ok n → limit_fault (len_fault len) (after_resize s p len) ≡ None
resize_fits s p len n (Err why) h = absurd (cc)
resize_fits s p len n (Ok (m, v)) h = ok_none (limit_fault (len_fault len) (after_resize s p len)) m n h

-- each row

none_mapped : (links : Bool) (f : HeldValue → HeldValue) (o : Option HeldValue) → IfSome o (IsHeld links) → ((v : HeldValue) → o ≡ Some v → IsHeld links v → IsHeld links (f v))
    → IfSome (option_map f o) (IsHeld links)
none_mapped links f None h new = tt
none_mapped links f (Some v) h new = new v refl h

row_changed : (links : Bool) (r : Row) (f : HeldValue → HeldValue) → IsRow links r → ((v : HeldValue) → r.value ≡ Some v → IsHeld links v → IsHeld links (f v)) → IsRow links (change_row f r)
row_changed links r f h new = record { path = h.path; value = none_mapped links f r.value h.value new }

pub held_value : (links : Bool) (v : HeldValue) → IsValue v → IsHeld links v
held_value true v h = inl h
held_value false v h = h

no_item_links : (item : Item) → is_link_type (tid_of item) ≡ false
no_item_links (UInt8 n) = refl
no_item_links (Int8 z) = refl
no_item_links (Char b) = refl
no_item_links (UInt16 n) = refl
no_item_links (Int16 z) = refl
no_item_links (UInt32 n) = refl
no_item_links (Int32 z) = refl
no_item_links (Truth t) = refl
no_item_links (Text bytes) = refl
no_item_links (Int64 z) = refl
no_item_links (UInt64 n) = refl

link_typed : (v : HeldValue) → IsLink v → is_link_type v.tid ≡ true
link_typed v h = ap is_link_type h.of_type

not_both : (b : Bool) → b ≡ true → b ≡ false → ⊥
not_both true h k = cc
not_both false h k = cc

-- an item is put into no link
held_put : (links : Bool) (v : HeldValue) (index : ℕ) (item : Item) → IsHeld links v → CanPut v index item → IsSound item → IsHeld links (put_in v index item)
held_put false v index item h can sound = value_put v index item h can sound
held_put true v index item (inl h) can sound = inl (value_put v index item h can sound)
held_put true v index item (inr h) can sound =
    absurd (not_both (is_link_type v.tid) (link_typed v h) (ap is_link_type (sym can.of_type) ∙ no_item_links item))

held_resized : (links : Bool) (v : HeldValue) (len : ℕ) → len_fault len ≡ None → IsHeld links v → (links ≡ true → is_link_type v.tid ≡ false) → IsHeld links (resized v len)
held_resized false v len fits h none = value_resized v len fits h
held_resized true v len fits (inl h) none = inl (value_resized v len fits h)
held_resized true v len fits (inr h) none = absurd (not_both (is_link_type v.tid) (link_typed v h) (none refl))

tid_kept : (t : Bool) (x : OdbRefusal) → cond t None (Some x) ≡ None → IsTrue t
tid_kept true x h = refl
tid_kept false x h = absurd (cc)

new_link : (links : Bool) (target : List (List ℕ)) → IsPath target → kept_fault links (Link target) ≡ None → items_fault (Link target) ≡ None → IsHeld links (link_to target)
new_link true target path kept fits = inr (record {
  of_type = refl;
  text = path_text target;
  one = refl;
  target = target;
  path = path;
  reads = path_again target path;
  short = grind (arith, nat_tests, not_long (ltb text_limit (length (path_text target))) Size fits);
  size = refl;
})
  where
    not_long : (t : Bool) (x : What) → cond t (Some x) None ≡ None → t ≡ false
    not_long true x h = absurd (cc)
    not_long false x h = refl
new_link false target path kept fits = absurd (cc)

new_value_is : (links : Bool) (kind : NewKey) → IsSoundKey kind → kept_fault links kind ≡ None → items_fault kind ≡ None → IfSome (new_value kind) (IsHeld links)
new_value_is links Dir sound kept fits = tt
new_value_is links (Keys type len) sound kept fits = held_value links (new_held type len) (value_new type len (tid_kept (is_kept type) (NotKept type) kept) fits)
new_value_is links (Link target) sound kept fits = new_link links target sound kept fits

create_value : (s : Rows) (p : List (List ℕ)) (kind : NewKey) → IsSoundKey kind → create_fault s p kind ≡ None → IfSome (new_value kind) (IsHeld s.links)
create_value s p kind sound h =
    let rest : option_or (kept_fault s.links kind) (limit_fault (items_fault kind) (after_create s p kind)) ≡ None =
    or_none_right (exists_fault s.rows p) _ (or_none_right (obstacle_to_new s.rows p) _ h) in
    new_value_is s.links kind sound (or_none_left (kept_fault s.links kind) _ rest) (own_none (items_fault kind) (after_create s p kind) (or_none_right (kept_fault s.links kind) _ rest))

rows_set_all : (s : Rows) (p : List (List ℕ)) (v : HeldValue) (o : Option Row) → row_at s.rows p ≡ o → All (IsRow s.links) s.rows → IsPath p → IsHeld s.links v
    → (row_at s.rows p ≡ None → AreNew s (made_for s p (Some v)) × AreShort (length p) (made_for s p (Some v))) → All (IsRow s.links) (after_set_all_at s p v o).rows
rows_set_all s p v None e h path value makes =
    All-append (IsRow s.links) s.rows (made_for s p (Some v)) h
    (made_rows s p (Some v) h path value (short_more (length p) depth_limit (made_for s p (Some v)) path.short (makes e).1))
rows_set_all s p v (Some r) e h path value makes = all_changed (IsRow s.links) s.rows p (λ _. v) h (λ x at k. row_changed s.links x (λ _. v) k (λ _ _ _. value))

-- what `set_all` writes is a value, since a link is refused
set_all_value : (s : Rows) (p : List (List ℕ)) (v : HeldValue) (n : ℕ) → IsValueOrLink v → set_all_reply s p v ≡ Ok n → IsValue v
set_all_value s p v n h reply =
    let none : set_all_fault s p v ≡ None = ok_none (set_all_fault s p v) (number_at s p (row_at s.rows p)) n reply in
    let rest = or_none_right (value_fault s.rows p) _ (or_none_right (obstacle_to_new s.rows p) _ none) in
    value_of_kept v (tid_kept (is_kept v.tid) (NotKept v.tid) (or_none_left (tid_fault v.tid) _ rest)) h

rows_set : (s : Rows) (p : List (List ℕ)) (index : ℕ) (item : Item) → All (IsRow s.links) s.rows → IsSound item → IsSet s p index item → All (IsRow s.links) (after_set s p index item).rows
rows_set s p index item h sound set =
    all_changed (IsRow s.links) s.rows p (λ v. put_in v index item) h
    (λ x at k. row_changed s.links x (λ v. put_in v index item) k
    (λ v is w. held_put s.links v index item w
    (can_put_there s.rows p index item item set.value set.at (can_put s p index item set.value (set_fault s p index item set.value) refl set.fits) refl x at v is) sound))

-- the key that a step of `resize` changes is no link's
resize_free : (s : Rows) (p : List (List ℕ)) (n : ℕ) (r : Row) (v : HeldValue) (len : ℕ) → resize_reply s p len ≡ Ok n → (s.links ≡ true → first_link s.rows true [] p ≡ None) → row_at s.rows p ≡ Some r
    → r.value ≡ Some v → s.links ≡ true → is_link_type v.tid ≡ false
resize_free s [] n r v len reply free there value kept = absurd (cc)
resize_free s (name ∷ names) n r v len reply free there value kept =
    subst (λ (o : Option HeldValue). is_link_value o ≡ false) value (none_at_end s.rows [] (name ∷ names) r (free kept) (λ e. absurd (cc)) there)

each_row : (s : Rows) (entry : DatabaseEntry) → IsDatabase s → IsSoundCall entry → IsReplyThere s entry → MeetsNone s entry → All (IsRow s.links) (rows_there s entry).rows
each_row s (Create p kind (Ok n)) h call reply free =
    All-append (IsRow s.links) s.rows (made_for s p (new_value kind)) h.rows
    (made_rows s p (new_value kind) h.rows call.0 (create_value s p kind call.1 (ok_none (create_fault s p kind) (new_number s p) n reply))
    (short_more (length p) depth_limit (made_for s p (new_value kind)) call.0.short (create_makes s p kind n reply).1))
each_row s (Create p kind (Err why)) h call reply free = h.rows
each_row s (Set p index item (Ok n)) h call reply free =
    rows_set s p index item h.rows call.1 (set_key s p index item n (seek_key s.rows p) refl (item_gives false (tid_of item) n (set_reply s p index item) reply))
each_row s (Set p index item (Err why)) h call reply free = h.rows
each_row s (SetAll p v (Ok n)) h call reply free =
    rows_set_all s p v (row_at s.rows p) refl h.rows call.0 (held_value s.links v (set_all_value s p v n call.1 reply)) (set_all_makes s p v n reply)
each_row s (SetAll p v (Err why)) h call reply free = h.rows
each_row s (Get p reply) h call is free = h.rows
each_row s (Find p reply) h call is free = h.rows
each_row s (ListDir p reply) h call is free = h.rows
each_row s (Delete p (Ok n)) h call reply free = All-filter (λ (r : Row). not (is_front p r.path)) (IsRow s.links) s.rows h.rows
each_row s (Delete p (Err why)) h call reply free = h.rows
each_row s (Resize p len (Ok n)) h call reply free =
    let fits : len_fault len ≡ None = own_none (len_fault len) (after_resize s p len) (resize_fits s p len n (seek_key s.rows p) reply) in
    all_changed (IsRow s.links) s.rows p (λ v. resized v len) h.rows
    (λ x at k. row_changed s.links x (λ v. resized v len) k (λ v is w. held_resized s.links v len fits w (resize_free s p n x v len reply free at is)))
each_row s (Resize p len (Err why)) h call reply free = h.rows
each_row s (PathOf row reply) h call is free = h.rows

-- limits

within_there : (s : Rows) (entry : DatabaseEntry) → IsWithin s → IsReplyThere s entry → IsWithin (rows_there s entry)
within_there s (Create p kind (Ok n)) h reply = create_within s p kind (create_fault s p kind) refl (ok_none (create_fault s p kind) (new_number s p) n reply)
within_there s (Create p kind (Err why)) h reply = h
within_there s (Set p index item (Ok n)) h reply =
    let set = set_key s p index item n (seek_key s.rows p) refl (item_gives false (tid_of item) n (set_reply s p index item) reply) in
    set_within s p index item set.value (set_fault s p index item set.value) refl set.fits
within_there s (Set p index item (Err why)) h reply = h
within_there s (SetAll p v (Ok n)) h reply = set_all_within s p v (set_all_fault s p v) refl (ok_none (set_all_fault s p v) (number_at s p (row_at s.rows p)) n reply)
within_there s (SetAll p v (Err why)) h reply = h
within_there s (Get p reply) h is = h
within_there s (Find p reply) h is = h
within_there s (ListDir p reply) h is = h
within_there s (Delete p (Ok n)) h reply = outside_within s p _ refl h
within_there s (Delete p (Err why)) h reply = h
within_there s (Resize p len (Ok n)) h reply = within (len_fault len) (after_resize s p len) (resize_fits s p len n (seek_key s.rows p) reply)
within_there s (Resize p len (Err why)) h reply = h
within_there s (PathOf row reply) h is = h

same_links_at : (s : Rows) (p : List (List ℕ)) (v : HeldValue) (o : Option Row) → (after_set_all_at s p v o).links ≡ s.links
same_links_at s p v None = refl
same_links_at s p v (Some r) = refl

-- no call changes whether links are kept
links_there : (s : Rows) (entry : DatabaseEntry) → (rows_there s entry).links ≡ s.links
links_there s (Create p kind (Ok n)) = refl
links_there s (Create p kind (Err why)) = refl
links_there s (Set p index item (Ok n)) = refl
links_there s (Set p index item (Err why)) = refl
links_there s (SetAll p v (Ok n)) = same_links_at s p v (row_at s.rows p)
links_there s (SetAll p v (Err why)) = refl
links_there s (Get p reply) = refl
links_there s (Find p reply) = refl
links_there s (ListDir p reply) = refl
links_there s (Delete p (Ok n)) = refl
links_there s (Delete p (Err why)) = refl
links_there s (Resize p len (Ok n)) = refl
links_there s (Resize p len (Err why)) = refl
links_there s (PathOf row reply) = refl

pub links_after : (s : Rows) (entry : DatabaseEntry) → IsRowsReply s entry → (rows_after s entry).links ≡ s.links
links_after s entry reply = lifted (λ (t : Rows). t.links ≡ s.links) s entry refl (λ step k. links_there s step) reply

pub links_replayed : (s : Rows) (history : List (ℕ × DatabaseEntry)) → IsLegalRows s history → (rows_replay s history).links ≡ s.links
links_replayed s [] legal = refl
links_replayed s (e ∷ es) legal = links_replayed (rows_after s e.1) es legal.1 ∙ links_after s e.1 legal.0.reply

-- each step at a path keeps a database
database_there : (s : Rows) (entry : DatabaseEntry) → IsDatabase s → IsSoundCall entry → IsReplyThere s entry → MeetsNone s entry → IsDatabase (rows_there s entry)
database_there s entry h call reply free =
    let t : Rows = rows_there s entry in record {
      tree = tree_there s entry h.tree reply;
      rows = subst (λ (links : Bool). All (IsRow links) t.rows) (sym (links_there s entry)) (each_row s entry h call reply free);
      within = within_there s entry h.within reply;
    }

-- so each call keeps one
pub database_after : (s : Rows) (entry : DatabaseEntry) → IsDatabase s → IsSoundCall entry → IsRowsReply s entry → IsDatabase (rows_after s entry)
database_after s entry h call reply = elim (led s entry reply) [
  | inl w ↦ subst IsDatabase (sym w) h
  | inr w ↦ subst IsDatabase (sym w.after) (database_there s w.step h (w.sound call h.rows) w.reply w.free)
]

-- and so does a legal history
pub database_replayed : (s : Rows) (history : List (ℕ × DatabaseEntry)) → IsDatabase s → IsLegalRows s history → IsDatabase (rows_replay s history)
database_replayed s [] h legal = h
database_replayed s (e ∷ es) h legal = database_replayed (rows_after s e.1) es (database_after s e.1 h legal.0.sound legal.0.reply) legal.1

pub links_put : (s : Rows) (p : List (List ℕ)) (v : HeldValue) (reply : Result ℕ OdbRefusal) → (after_put s p v reply).links ≡ s.links
links_put s p v (Ok n) = same_links_at s p v (row_at s.rows p)
links_put s p v (Err why) = refl

-- an accepted `put` keeps a database
pub database_put : (s : Rows) (p : List (List ℕ)) (v : HeldValue) (reply : Result ℕ OdbRefusal) → IsDatabase s → IsPath p → IsHeld s.links v → GivesTaking (is_link_type v.tid) reply (put_reply s p v) → IsDatabase (after_put s p v reply)
database_put s p v (Err why) h path held reply = h
database_put s p v (Ok n) h path held reply =
    let none : put_fault s p v ≡ None = ok_none (put_fault s p v) (number_at s p (row_at s.rows p)) n reply in
    let makes = put_makes s p v none in record {
      tree = tree_set_all_at s p v (row_at s.rows p) refl h.tree makes;
      rows = links_same (row_at s.rows p) (rows_set_all s p v (row_at s.rows p) refl h.rows path held makes);
      within = put_within s p v none;
    }
  where
    links_same : (o : Option Row) → All (IsRow s.links) (after_set_all_at s p v o).rows → All (IsRow (after_set_all_at s p v o).links) (after_set_all_at s p v o).rows
    links_same None k = k
    links_same (Some r) k = k

pub database_begins : IsDatabase no_rows
database_begins = record { tree = tree_begins; rows = All-nil (IsRow false); within = record { rows = omega arith; total = omega arith; next = omega arith } }

-- as the code comes to the calls: the database with the rows that it leaves

reply_none : (o : Option OdbRefusal) (number : ℕ) → o ≡ None → reply_or o number ≡ Ok number
reply_none o number h = ap (λ (r : Option OdbRefusal). reply_or r number) h

with_left : (s : Rows) (left rows : List Row) → left ≡ rows → IsDatabase (record s { rows = rows }) → IsDatabase (record s { rows = left })
with_left s left rows is h = subst (λ (l : List Row). IsDatabase (record s { rows = l })) (sym is) h

pub database_created : (s : Rows) (p : List (List ℕ)) (kind : NewKey) (r : Option OdbRefusal) → IsDatabase s → IsPath p → IsSoundKey kind → r ≡ create_fault s p kind → r ≡ None → IsDatabase (after_create s p kind)
database_created s p kind r h path sound is none =
    database_there s (Create p kind (Ok (new_number s p))) h (path, sound) (reply_none (create_fault s p kind) (new_number s p) (sym is ∙ none)) tt

-- a database without links makes none
pub unlinked_key : (s : Rows) (p : List (List ℕ)) (kind : NewKey) (r : Option OdbRefusal) → s.links ≡ false → r ≡ create_fault s p kind → r ≡ None → IsSoundKey kind
unlinked_key s p kind r unlinked is none =
    let rest : option_or (kept_fault s.links kind) (limit_fault (items_fault kind) (after_create s p kind)) ≡ None =
    or_none_right (exists_fault s.rows p) _ (or_none_right (obstacle_to_new s.rows p) _ (sym is ∙ none)) in
    no_link_made kind (subst (λ (links : Bool). kept_fault links kind ≡ None) unlinked (or_none_left (kept_fault s.links kind) _ rest))
  where
    no_link_made : (k : NewKey) → kept_fault false k ≡ None → IsSoundKey k
    no_link_made Dir h = tt
    no_link_made (Keys type len) h = tt
    no_link_made (Link target) h = absurd (cc)

-- the reply of `set` from what the code finds

pub item_given : (type : Tid) (given reply : Result ℕ OdbRefusal) → reply ≡ given → GivesItem false type given reply
item_given tid.Text (Ok n) reply h = h
item_given tid.Text (Err refusal) reply h = (λ _. h, λ _. h)
item_given _ given reply h = sym h

pub set_replied : (s : Rows) (p : List (List ℕ)) (index : ℕ) (item : Item) (n : ℕ) (v : HeldValue) (r : Option OdbRefusal) → seek_key s.rows p ≡ Ok (n, v) → r ≡ set_fault s p index item v → r ≡ None
    → set_reply s p index item ≡ Ok n
set_replied s p index item n v r key is none = ap (set_reply_to s p index item) key ∙ reply_none (set_fault s p index item v) n (sym is ∙ none)

pub set_refused : (s : Rows) (p : List (List ℕ)) (index : ℕ) (item : Item) (n : ℕ) (v : HeldValue) (r : Option OdbRefusal) (refusal : OdbRefusal) → seek_key s.rows p ≡ Ok (n, v) → r ≡ set_fault s p index item v
    → r ≡ Some refusal → set_reply s p index item ≡ Err refusal
set_refused s p index item n v r refusal key is some = ap (set_reply_to s p index item) key ∙ ap (λ (o : Option OdbRefusal). reply_or o n) (sym is ∙ some)

pub set_left : (s : Rows) (p : List (List ℕ)) (index : ℕ) (item given : Item) (left : List Row) → given ≡ item → left ≡ change_at s.rows p (λ w. put_in w index given)
    → record s { rows = left } ≡ after_set s p index item
set_left s p index item given left same changed =
    ap (λ (rows : List Row). record s { rows = rows }) (changed ∙ ap (λ (i : Item). change_at s.rows p (λ w. put_in w index i)) same)

pub database_set : (s : Rows) (p : List (List ℕ)) (index : ℕ) (item given : Item) (n : ℕ) (v : HeldValue) (r : Option OdbRefusal) (left : List Row) → IsDatabase s → IsPath p → IsSound item
    → seek_key s.rows p ≡ Ok (n, v) → r ≡ set_fault s p index item v → r ≡ None → given ≡ item → left ≡ change_at s.rows p (λ w. put_in w index given)
    → IsDatabase (record s { rows = left })
database_set s p index item given n v r left h path sound key is none same changed =
    subst IsDatabase (sym (set_left s p index item given left same changed))
    (database_there s (Set p index item (Ok n)) h (path, sound) (item_given (tid_of item) (Ok n) (set_reply s p index item) (set_replied s p index item n v r key is none)) tt)

pub database_set_all : (s : Rows) (p : List (List ℕ)) (v : HeldValue) (r : Option OdbRefusal) → IsDatabase s → IsPath p → IsValueOrLink v → r ≡ set_all_fault s p v → r ≡ None → IsDatabase (after_set_all s p v)
database_set_all s p v r h path value is none =
    database_there s (SetAll p v (Ok (number_at s p (row_at s.rows p)))) h (path, value) (reply_none (set_all_fault s p v) (number_at s p (row_at s.rows p)) (sym is ∙ none)) tt

pub database_replaced : (s : Rows) (p : List (List ℕ)) (v given : HeldValue) (row : Row) (r : Option OdbRefusal) (left : List Row) → IsDatabase s → IsPath p → IsValueOrLink v → r ≡ set_all_fault s p v → r ≡ None
    → row_at s.rows p ≡ Some row → given ≡ v → left ≡ change_at s.rows p (λ _. given) → IsDatabase (record s { rows = left })
database_replaced s p v given row r left h path value is none there same changed =
    with_left s left (change_at s.rows p (λ _. v)) (changed ∙ ap (λ (w : HeldValue). change_at s.rows p (λ _. w)) same)
    (subst (λ (o : Option Row). IsDatabase (after_set_all_at s p v o)) there (database_set_all s p v r h path value is none))

pub database_made : (s : Rows) (p : List (List ℕ)) (v given : HeldValue) (r : Option OdbRefusal) → IsDatabase s → IsPath p → IsValueOrLink v → r ≡ set_all_fault s p v → r ≡ None
    → row_at s.rows p ≡ None → given ≡ v → IsDatabase (created s p (Some given))
database_made s p v given r h path value is none free same =
    subst (λ (w : HeldValue). IsDatabase (created s p (Some w))) (sym same)
    (subst (λ (o : Option Row). IsDatabase (after_set_all_at s p v o)) free (database_set_all s p v r h path value is none))

pub database_outside : (s : Rows) (p : List (List ℕ)) (left : List Row) → IsDatabase s → IsPath p → absent_fault s.rows p ≡ None → left ≡ rows_outside s.rows p → IsDatabase (record s { rows = left })
database_outside s p left h path there is =
    with_left s left (rows_outside s.rows p) is
    (database_there s (Delete p (Ok (count_gone s p))) h path (sym (reply_none (absent_fault s.rows p) (count_gone s p) there)) tt)

pub database_resized : (s : Rows) (p : List (List ℕ)) (len n : ℕ) (v : HeldValue) (r : Option OdbRefusal) (left : List Row) → s.links ≡ false → IsDatabase s → IsPath p → seek_key s.rows p ≡ Ok (n, v)
    → r ≡ limit_fault (len_fault len) (after_resize s p len) → r ≡ None → left ≡ change_at s.rows p (λ w. resized w len) → IsDatabase (record s { rows = left })
database_resized s p len n v r left unlinked h path key is none changed =
    with_left s left (change_at s.rows p (λ w. resized w len)) changed
    (database_there s (Resize p len (Ok n)) h path
    (ap (resize_reply_to s p len) key ∙ reply_none (limit_fault (len_fault len) (after_resize s p len)) n (sym is ∙ none))
    (λ kept. absurd (not_both s.links kept unlinked)))
