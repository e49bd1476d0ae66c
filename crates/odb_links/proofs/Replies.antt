-- At a path that is no link's each call gives the reply of the database below, and leaves its rows with the same links.
use Rattle.std.proofs.Common.{◌≡◌, ℕ, ◌+◌, ◌≤◌, Bool, true, false, not, List, [], ◌∷◌, ◌++◌, length, map, Option, Some, None, Result, Ok, Err, refl, sym, ap, ◌∙◌, subst, arith}
use Rattle.std.specs.Prelude.{All}
use Rattle.std.specs.Option.{option_or, option_map, is_some}
use Rattle.std.proofs.lemmas.List.{length-map}
use Rattle.std.proofs.lemmas.List.Elements.{All-append, All-push, All-filter, All-weaker}
use Rattle.daq_types.specs.declared.types.Tid.TheVariants as tid
use Rattle.odb_value.specs.Paths.{is_front}
use Rattle.odb_value.specs.declared.items.Item.{Item}
use Rattle.odb_value.specs.Items.{tid_of}
use Rattle.odb_value.specs.Values.{HeldValue}
use Rattle.odb_value.specs.ValueChanges.{put_in, resized}
use Rattle.odb_tree.specs.declared.rows.Row.{Row}
use Rattle.odb_tree.specs.declared.rows.NewKey.{NewKey}
use Rattle.odb_tree.specs.declared.rows.NewKey.TheVariants.{Dir, Keys, Link as new_link}
use Rattle.odb_tree.specs.declared.children.Child.{Child}
use Rattle.odb_tree.specs.declared.refusals.OdbRefusal.{OdbRefusal}
use Rattle.odb_tree.specs.declared.refusals.What.{What}
use Rattle.odb_tree.specs.Rows.{Rows, row_at, change_row, change_at, rows_outside}
use Rattle.odb_tree.specs.Limits.{text_fault, len_fault, limit_fault}
use Rattle.odb_tree.specs.Lookups.{parent_of, obstacle_to, obstacle_to_new, found_row, key_or_refusal, seek_key, dir_fault, absent_fault}
use Rattle.odb_tree.specs.Making.{Way, way_to, new_row, new_number, created}
use Rattle.odb_tree.specs.Links.{is_link, is_link_value, resolved}
use Rattle.odb_tree.specs.Calls.{reply_or, exists_fault, kept_fault, items_fault, new_value, after_create, create_fault, create_reply, type_fault, index_fault, after_set, set_reply_to, set_reply, after_set_all_at, after_set_all, directory_fault, value_fault, tid_fault, there_fault, own_fault, number_at, set_all_reply, after_resize, resize_reply_to, resize_reply, value_reply, get_reply, find_reply, children_or, list_reply, path_with, is_row_below, after_delete, count_gone, delete_reply}
use Rattle.odb_tree.proofs.EachRow.{row_has, all_changed}
use Rattle.odb_tree.proofs.Led.{none_at_end, resolved_freed}
use Rattle.odb_tree.proofs.WalkLaws.{true_false}
use Rattle.odb_links.specs.declared.links.Link.{Link}
use Rattle.odb_links.specs.Seen.{link_numbered, is_linked, typed, as_seen, seen, LinksRise, IsRight, AreLinks}
use Rattle.odb_links.specs.Writing.{IsFreeOfLinks}
use Rattle.odb_links.proofs.Retyped.{row_mapped, obstacle_mapped, dir_fault_mapped, absent_mapped, number_found_mapped, exists_mapped, outside_mapped, children_mapped, limit_mapped, path_mapped, below_mapped, change_mapped}
use Rattle.odb_links.proofs.Above.{root_free}
use Rattle.odb_links.proofs.Marked.{seen_retypes, seen_plain, seen_linked, unlinked_above, order_longer, not_linked, no_link_at, right_plain, right_at, way_seen, created_seen, made_above}

linked_is_link : (links : List Link) (r : Row) → IsRight links r → is_linked links r.number ≡ true → is_link (as_seen links r) ≡ true
linked_is_link links r right linked = at (link_numbered links r.number) refl linked
  where
    of_value : (o : Option HeldValue) (v : HeldValue) → o ≡ Some v → is_link_value (option_map (typed tid.Link) o) ≡ true
    of_value None v e = absurd (cc)
    of_value (Some w) v e = refl

    at : (o : Option Link) → link_numbered links r.number ≡ o → is_some o ≡ true → is_link (as_seen links r) ≡ true
    at None e t = absurd (cc)
    at (Some l) e t =
        let text = right_at links r l right e in
        ap is_link (seen_linked links r linked) ∙ of_value r.value text.held text.value

tested : (t : Bool) → (t ≡ true → ⊥) → t ≡ false
tested true h = absurd (h refl)
tested false h = refl

-- no link stands at the end of a path after its links
pub free_after : (links : List Link) (s : Rows) (p q : List (List ℕ)) → AreLinks links s → resolved (seen links s) p true ≡ Ok q → IsFreeOfLinks links s q
free_after links s p q h e r there =
    tested (is_linked links r.number) (λ linked.
    true_false (is_link (as_seen links r)) (linked_is_link links r (row_has (IsRight links) s.rows q r h.right there) linked)
    (none_at_end (seen links s).rows [] q (as_seen links r) (resolved_freed (seen links s) p q true refl e)
    (λ root. root_free s r h.database.tree (subst (λ (x : List (List ℕ)). row_at s.rows x ≡ Some r) root there))
    (row_mapped (as_seen links) (seen_retypes links) s.rows q ∙ ap (option_map (as_seen links)) there)))

same_row : (links : List Link) (s : Rows) (q : List (List ℕ)) → IsFreeOfLinks links s q → row_at (seen links s).rows q ≡ row_at s.rows q
same_row links s q free = row_mapped (as_seen links) (seen_retypes links) s.rows q ∙ at (row_at s.rows q) refl
  where
    at : (o : Option Row) → row_at s.rows q ≡ o → option_map (as_seen links) o ≡ o
    at None e = refl
    at (Some r) e = ap (λ (x : Row). Some x) (seen_plain links r (free r e))

same_key : (links : List Link) (s : Rows) (q : List (List ℕ)) → IsFreeOfLinks links s q → seek_key (seen links s).rows q ≡ seek_key s.rows q
same_key links s [] free = refl
same_key links s (name ∷ names) free =
    ap (λ (o : Option Row). key_or_refusal (found_row (obstacle_to (seen links s).rows (name ∷ names)) o)) (same_row links s (name ∷ names) free)
    ∙ ap (λ (o : Option OdbRefusal). key_or_refusal (found_row o (row_at s.rows (name ∷ names)))) (obstacle_mapped (as_seen links) (seen_retypes links) _ s.rows [] (parent_of (name ∷ names)))

same_limit : (links : List Link) (own : Option What) (a b : Rows) → a ≡ seen links b → limit_fault own a ≡ limit_fault own b
same_limit links own a b e = limit_mapped (as_seen links) (seen_retypes links) own a b (ap (λ (t : Rows). t.rows) e) (ap (λ (t : Rows). t.next) e)

same_new_number : (links : List Link) (s : Rows) (q : List (List ℕ)) → new_number (seen links s) q ≡ new_number s q
same_new_number links s q = ap (λ (w : Way). s.next + length w.dirs) (way_seen links s q)

-- new rows

-- a row with a new number is no link's
pub created_plain : (links : List Link) (s : Rows) (q : List (List ℕ)) (value : Option HeldValue) → LinksRise 1 links s.next → created (seen links s) q value ≡ seen links (created s q value)
created_plain links s q value order =
    created_seen links links s q value value refl
    (seen_plain links (new_row s q value) (not_linked links (new_number s q) (unlinked_above 1 links s.next (new_number s q) order (omega arith)).0))

abbrev pub IsNoLink : NewKey → Type 0
IsNoLink kind = (target : List (List ℕ)) → kind ≡ new_link target → ⊥

same_kept : (kind : NewKey) → IsNoLink kind → kept_fault true kind ≡ kept_fault false kind
same_kept Dir h = refl
same_kept (Keys type len) h = refl
same_kept (new_link target) h = absurd (h target refl)

pub create_same : (links : List Link) (s : Rows) (q : List (List ℕ)) (kind : NewKey) → AreLinks links s → IsNoLink kind → create_reply (seen links s) q kind ≡ create_reply s q kind
create_same links s q kind h plain =
    let f : Row → Row = as_seen links in
    let obstacle = obstacle_mapped f (seen_retypes links) None s.rows [] (parent_of q) in
    let exists = exists_mapped f (seen_retypes links) s.rows q in
    let kept : kept_fault true kind ≡ kept_fault s.links kind = same_kept kind plain ∙ ap (λ (b : Bool). kept_fault b kind) (sym h.plain) in
    let limit = same_limit links (items_fault kind) (after_create (seen links s) q kind) (after_create s q kind) (created_plain links s q (new_value kind) h.order) in
    let fault : create_fault (seen links s) q kind ≡ create_fault s q kind =
    ap (λ (o : Option OdbRefusal). option_or o (option_or (exists_fault (map f s.rows) q) (option_or (kept_fault true kind) (limit_fault (items_fault kind) (after_create (seen links s) q kind))))) obstacle
    ∙ (ap (λ (o : Option OdbRefusal). option_or (obstacle_to_new s.rows q) (option_or o (option_or (kept_fault true kind) (limit_fault (items_fault kind) (after_create (seen links s) q kind))))) exists
    ∙ (ap (λ (o : Option OdbRefusal). option_or (obstacle_to_new s.rows q) (option_or (exists_fault s.rows q) (option_or o (limit_fault (items_fault kind) (after_create (seen links s) q kind))))) kept
    ∙ ap (λ (o : Option OdbRefusal). option_or (obstacle_to_new s.rows q) (option_or (exists_fault s.rows q) (option_or (kept_fault s.links kind) o))) limit)) in
    ap (λ (o : Option OdbRefusal). reply_or o (new_number (seen links s) q)) fault ∙ ap (reply_or (create_fault s q kind)) (same_new_number links s q)

-- changed values

pub changed_plain : (links : List Link) (s : Rows) (q : List (List ℕ)) (g : HeldValue → HeldValue) → IsFreeOfLinks links s q → change_at (seen links s).rows q g ≡ map (as_seen links) (change_at s.rows q g)
changed_plain links s q g free =
    change_mapped (as_seen links) (seen_retypes links) g g s.rows q
    (λ r there. ap (change_row g) (seen_plain links r (free r there)) ∙ sym (seen_plain links (change_row g r) (free r there)))

as_rows : (links : List Link) (s : Rows) (xs ys : List Row) → xs ≡ map (as_seen links) ys → (let a : Rows = record (seen links s) { rows = xs } in a ≡ seen links (record s { rows = ys }))
as_rows links s xs ys e = ap (λ (l : List Row). (let a : Rows = record { rows = l; next = s.next; links = true } in a)) e

pub set_leaves : (links : List Link) (s : Rows) (q : List (List ℕ)) (index : ℕ) (item : Item) → IsFreeOfLinks links s q → after_set (seen links s) q index item ≡ seen links (after_set s q index item)
set_leaves links s q index item free = as_rows links s _ _ (changed_plain links s q (λ v. put_in v index item) free)

pub set_same : (links : List Link) (s : Rows) (q : List (List ℕ)) (index : ℕ) (item : Item) → IsFreeOfLinks links s q → set_reply (seen links s) q index item ≡ set_reply s q index item
set_same links s q index item free = ap (set_reply_to (seen links s) q index item) (same_key links s q free) ∙ at (seek_key s.rows q)
  where
    at : (r : Result (ℕ × HeldValue) OdbRefusal) → set_reply_to (seen links s) q index item r ≡ set_reply_to s q index item r
    at (Err why) = refl
    at (Ok key) =
        ap (λ (o : Option OdbRefusal). reply_or (option_or (type_fault key.1.tid (tid_of item)) (option_or (index_fault (length key.1.items) index) o)) key.0)
        (same_limit links (text_fault item) (after_set (seen links s) q index item) (after_set s q index item) (set_leaves links s q index item free))

pub resize_leaves : (links : List Link) (s : Rows) (q : List (List ℕ)) (len : ℕ) → IsFreeOfLinks links s q → after_resize (seen links s) q len ≡ seen links (after_resize s q len)
resize_leaves links s q len free = as_rows links s _ _ (changed_plain links s q (λ v. resized v len) free)

pub resize_same : (links : List Link) (s : Rows) (q : List (List ℕ)) (len : ℕ) → IsFreeOfLinks links s q → resize_reply (seen links s) q len ≡ resize_reply s q len
resize_same links s q len free = ap (resize_reply_to (seen links s) q len) (same_key links s q free) ∙ at (seek_key s.rows q)
  where
    at : (r : Result (ℕ × HeldValue) OdbRefusal) → resize_reply_to (seen links s) q len r ≡ resize_reply_to s q len r
    at (Err why) = refl
    at (Ok key) =
        ap (λ (o : Option OdbRefusal). reply_or o key.0) (same_limit links (len_fault len) (after_resize (seen links s) q len) (after_resize s q len) (resize_leaves links s q len free))

pub set_all_leaves : (links : List Link) (s : Rows) (q : List (List ℕ)) (v : HeldValue) → LinksRise 1 links s.next → IsFreeOfLinks links s q → after_set_all (seen links s) q v ≡ seen links (after_set_all s q v)
set_all_leaves links s q v order free = ap (after_set_all_at (seen links s) q v) (same_row links s q free) ∙ at (row_at s.rows q)
  where
    at : (o : Option Row) → after_set_all_at (seen links s) q v o ≡ seen links (after_set_all_at s q v o)
    at None = created_plain links s q (Some v) order
    at (Some r) = as_rows links s _ _ (changed_plain links s q (λ _. v) free)

value_same : (links : List Link) (s : Rows) (q : List (List ℕ)) → IsFreeOfLinks links s q → value_fault (seen links s).rows q ≡ value_fault s.rows q
value_same links s [] free = refl
value_same links s (name ∷ names) free = ap directory_fault (same_row links s (name ∷ names) free)

pub number_same : (links : List Link) (s : Rows) (q : List (List ℕ)) → IsFreeOfLinks links s q → number_at (seen links s) q (row_at (seen links s).rows q) ≡ number_at s q (row_at s.rows q)
number_same links s q free = ap (number_at (seen links s) q) (same_row links s q free) ∙ at (row_at s.rows q)
  where
    at : (o : Option Row) → number_at (seen links s) q o ≡ number_at s q o
    at None = same_new_number links s q
    at (Some r) = refl

-- with any refusal of types
pub write_same : (links : List Link) (s : Rows) (q : List (List ℕ)) (v : HeldValue) (refused : Option OdbRefusal) → LinksRise 1 links s.next → IsFreeOfLinks links s q
    → reply_or (option_or (obstacle_to_new (seen links s).rows q) (option_or (value_fault (seen links s).rows q) (option_or refused (option_or (there_fault v.tid (row_at (seen links s).rows q)) (limit_fault (own_fault v) (after_set_all (seen links s) q v))))))
    (number_at (seen links s) q (row_at (seen links s).rows q))
    ≡ reply_or (option_or (obstacle_to_new s.rows q) (option_or (value_fault s.rows q) (option_or refused (option_or (there_fault v.tid (row_at s.rows q)) (limit_fault (own_fault v) (after_set_all s q v)))))) (number_at s q (row_at s.rows q))
write_same links s q v refused order free =
    let obstacle : obstacle_to_new (seen links s).rows q ≡ obstacle_to_new s.rows q = obstacle_mapped (as_seen links) (seen_retypes links) None s.rows [] (parent_of q) in
    rw (obstacle, value_same links s q free, number_same links s q free, same_limit links (own_fault v) (after_set_all (seen links s) q v) (after_set_all s q v) (set_all_leaves links s q v order free), same_row links s q free) refl

pub set_all_same : (links : List Link) (s : Rows) (q : List (List ℕ)) (v : HeldValue) → LinksRise 1 links s.next → IsFreeOfLinks links s q → set_all_reply (seen links s) q v ≡ set_all_reply s q v
set_all_same links s q v order free = write_same links s q v (tid_fault v.tid) order free

-- look-ups

pub get_same : (links : List Link) (s : Rows) (q : List (List ℕ)) → IsFreeOfLinks links s q → get_reply (seen links s) q ≡ get_reply s q
get_same links s q free = ap value_reply (same_key links s q free)

pub find_same : (links : List Link) (s : Rows) (q : List (List ℕ)) → find_reply (seen links s) q ≡ find_reply s q
find_same links s [] = refl
find_same links s (name ∷ names) = number_found_mapped (as_seen links) (seen_retypes links) s.rows (name ∷ names)

pub list_same : (links : List Link) (s : Rows) (q : List (List ℕ)) → list_reply (seen links s) q ≡ list_reply s q
list_same links s q = ap (children_or (seen links s).rows q) (dir_fault_mapped (as_seen links) (seen_retypes links) s.rows q) ∙ at (dir_fault s.rows q)
  where
    at : (o : Option OdbRefusal) → children_or (seen links s).rows q o ≡ children_or s.rows q o
    at None = ap (λ (l : List Child). Ok l) (children_mapped (as_seen links) (seen_retypes links) s.rows q)
    at (Some why) = refl

pub below_same : (links : List Link) (s : Rows) (row above : ℕ) → is_row_below (seen links s) row above ≡ is_row_below s row above
below_same links s row above = below_mapped (as_seen links) (seen_retypes links) s.rows row above

pub path_same : (links : List Link) (s : Rows) (row : ℕ) → path_with (seen links s).rows row ≡ path_with s.rows row
path_same links s row = path_mapped (as_seen links) (seen_retypes links) s.rows row

pub delete_leaves : (links : List Link) (s : Rows) (p : List (List ℕ)) → after_delete (seen links s) p ≡ seen links (after_delete s p)
delete_leaves links s p = as_rows links s _ _ (outside_mapped (as_seen links) (seen_retypes links) s.rows p)

pub delete_same : (links : List Link) (s : Rows) (p : List (List ℕ)) → delete_reply (seen links s) p ≡ delete_reply s p
delete_same links s p =
    let gone : count_gone (seen links s) p ≡ count_gone s p =
    omega (arith, length-map s.rows (as_seen links), ap (λ (l : List Row). length l) (outside_mapped (as_seen links) (seen_retypes links) s.rows p), length-map (rows_outside s.rows p) (as_seen links)) in
    ap (λ (o : Option OdbRefusal). reply_or o (count_gone (seen links s) p)) (absent_mapped (as_seen links) (seen_retypes links) s.rows p) ∙ ap (reply_or (absent_fault s.rows p)) gone

-- links stay

-- rows made have new numbers
right_made : (links : List Link) (s : Rows) (q : List (List ℕ)) (value : Option HeldValue) → LinksRise 1 links s.next → All (IsRight links) s.rows → All (IsRight links) (created s q value).rows
right_made links s q value order right =
    All-append (IsRight links) s.rows ((way_to s q).dirs ++ new_row s q value ∷ []) right
    (All-push (IsRight links) (way_to s q).dirs (new_row s q value)
    (All-weaker (λ (r : Row). s.next ≤ r.number) (IsRight links) (λ r l. right_plain links r (unlinked_above 1 links s.next r.number order l).0) (way_to s q).dirs (made_above s q))
    (right_plain links (new_row s q value) (unlinked_above 1 links s.next (new_number s q) order (omega arith)).0))

pub right_created : (links : List Link) (s : Rows) (q : List (List ℕ)) (value : Option HeldValue) → LinksRise 1 links s.next → All (IsRight links) s.rows
    → LinksRise 1 links (created s q value).next × All (IsRight links) (created s q value).rows
right_created links s q value order right = (order_longer 1 links s.next (created s q value).next order (omega arith), right_made links s q value order right)

pub right_changed : (links : List Link) (s : Rows) (q : List (List ℕ)) (g : HeldValue → HeldValue) → IsFreeOfLinks links s q → All (IsRight links) s.rows → All (IsRight links) (change_at s.rows q g)
right_changed links s q g free right = all_changed (IsRight links) s.rows q g right (λ x there k. right_plain links (change_row g x) (no_link_at links x.number (free x there)))

pub right_outside : (links : List Link) (s : Rows) (p : List (List ℕ)) → All (IsRight links) s.rows → All (IsRight links) (rows_outside s.rows p)
right_outside links s p right = All-filter (λ (r : Row). not (is_front p r.path)) (IsRight links) s.rows right
