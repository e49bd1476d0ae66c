-- Each call keeps the rows those of a tree.
use Rattle.std.proofs.Common.{◌≡◌, ℕ, ◌+◌, ◌-◌, ◌<◌, ◌≤◌, Bool, true, false, cond, List, [], ◌∷◌, ◌++◌, length, get_or, take, Option, Some, None, Ok, Err, inl, inr, refl, sym, ap, ◌∙◌, subst, arith, append_assoc, append-nil, length-append}
use Rattle.std.specs.Option.{option_or, is_some}
use Rattle.std.proofs.lemmas.List.{drop_more, take_more, drop_all, take_all}
use Rattle.odb_value.specs.Paths.{same_path}
use Rattle.odb_value.specs.Values.{HeldValue}
use Rattle.odb_value.specs.ValueChanges.{put_in, resized}
use Rattle.odb_tree.specs.declared.rows.Row.{Row}
use Rattle.odb_tree.specs.declared.rows.NewKey.{NewKey}
use Rattle.odb_tree.specs.declared.refusals.OdbRefusal.{OdbRefusal}
use Rattle.odb_tree.specs.declared.entry.DatabaseEntry.{DatabaseEntry}
use Rattle.odb_tree.specs.declared.entry.DatabaseEntry.TheVariants.{Create, Set, SetAll, Get, Find, ListDir, Delete, Resize, PathOf}
use Rattle.odb_tree.specs.Rows.{Rows, no_rows, is_key, row_at}
use Rattle.odb_tree.specs.Lookups.{parent_of, obstacle_at, obstacle_from, obstacle_to_new}
use Rattle.odb_tree.specs.Making.{Way, last_of, further, go_on, no_way, way_to, new_number, new_row, created}
use Rattle.odb_tree.specs.Limits.{limit_fault}
use Rattle.odb_tree.specs.Calls.{IsReplyThere, rows_there, IsRowsReply, rows_after, reply_or, exists_fault, kept_fault, items_fault, create_fault, create_reply, after_create, value_fault, put_fault, set_all_fault, set_all_reply, after_set_all_at, number_at, new_value}
use Rattle.odb_tree.specs.Histories.{IsLegalRows, rows_replay}
use Rattle.odb_tree.proofs.WalkLaws.{not_true}
use Rattle.odb_tree.specs.WalkLaws.{NoneAt}
use Rattle.odb_tree.specs.Trees.{HasDir, IsDir, IsTree, with_rows, IsNewRow, AreNew, AreShort}
use Rattle.odb_tree.specs.Places.{made_for}
use Rattle.odb_tree.proofs.Led.{lifted}
use Rattle.odb_tree.proofs.Limited.{or_none_left, or_none_right}
use Rattle.odb_tree.proofs.Trees.{same_long, same_sym, same_add, none_append, none_same, none_there, is_dir_append, tree_with, tree_outside, tree_changed, with_more, same_rows}

short_push : (n : ℕ) (rows : List Row) (new : Row) → AreShort n rows → length new.path ≤ n → AreShort n (rows ++ new ∷ [])
short_push n [] new h k = (k, tt)
short_push n (r ∷ rs) new h k = (h.0, short_push n rs new h.1 k)

pub short_more : (n m : ℕ) (rows : List Row) → n ≤ m → AreShort n rows → AreShort m rows
short_more n m [] l h = tt
short_more n m (r ∷ rs) l h = (omega (arith, l, h.0), short_more n m rs l h.1)

short_none : (n : ℕ) (p : List (List ℕ)) (rows : List Row) → AreShort n rows → n < length p → NoneAt p rows
unfolding NoneAt
short_none n p [] h l = tt
short_none n p (r ∷ rs) h l =
    (not_true (same_path r.path p) (λ e. absurd (omega (arith, same_long r.path p e, h.0, l))), short_none n p rs h.1 l)

-- one row more at the end
new_push : (s : Rows) (made : List Row) (new : Row) → AreNew s made → IsNewRow (with_rows s made) new → AreNew s (made ++ new ∷ [])
new_push s [] new h k = (subst (λ (t : Rows). IsNewRow t new) (same_rows s (s.rows ++ []) s.rows (s.next + 0) s.next (append-nil s.rows) (omega arith)) k, tt)
new_push s (r ∷ rs) new h k = (h.0, new_push (with_rows s (r ∷ [])) rs new h.1 (subst (λ (t : Rows). IsNewRow t new) (sym (with_more s r rs)) k))

-- The way has come to this path: its directories may be made one after the other, and the path is there then.
record IsOnWay (s : Rows) (reached : List (List ℕ)) (way : Way) : Type 0 where
  made : AreNew s way.dirs
  there : IsDir (s.rows ++ way.dirs) way.path
  same : same_path way.path reached ≡ true
  short : AreShort (length reached) way.dirs

-- a row that is found is there, at the path
pub found_there : (rows : List Row) (p : List (List ℕ)) (r : Row) → row_at rows p ≡ Some r → is_key r ≡ false → HasDir rows r.path × (same_path r.path p ≡ true)
found_there [] p r h dir = absurd (cc)
found_there (x ∷ xs) p r h dir = cases (same_path x.path p) refl h (λ k. found_there xs p r k dir)
  where
    cases : (t : Bool) → same_path x.path p ≡ t → cond t (Some x) (row_at xs p) ≡ Some r → (row_at xs p ≡ Some r → HasDir xs r.path × (same_path r.path p ≡ true))
        → HasDir (x ∷ xs) r.path × (same_path r.path p ≡ true)
    cases true e k ih =
        let one : x ≡ r = cc in (
          record { front = []; dir = r; back = xs; there = ap (λ (z : Row). z ∷ xs) one; path = refl; kind = dir },
          subst (λ (z : Row). same_path z.path p ≡ true) one e,
        )
    cases false e k ih =
        let rest = ih k in
        let has = rest.0 in
        (record { front = x ∷ has.front; dir = has.dir; back = has.back; there = ap (λ (l : List Row). x ∷ l) has.there; path = has.path; kind = has.kind }, rest.1)

push_long : (p : List (List ℕ)) (name : List ℕ) → length (p ++ name ∷ []) ≡ length p + 1
push_long p name = omega (arith, length-append p (name ∷ []))

-- a new row behind the way
new_here : (s : Rows) (reached : List (List ℕ)) (name : List ℕ) (way : Way) (value : Option HeldValue) → IsOnWay s reached way → row_at s.rows (reached ++ name ∷ []) ≡ None
    → IsNewRow (with_rows s way.dirs) (record { number = s.next + length way.dirs; path = way.path ++ name ∷ []; value = value })
new_here s reached name way value h free = record {
  placed = record { parent = way.path; name = name; path = refl; there = h.there };
  free = none_append (way.path ++ name ∷ []) s.rows way.dirs
      (none_same (reached ++ name ∷ []) (way.path ++ name ∷ []) s.rows (same_sym (way.path ++ name ∷ []) (reached ++ name ∷ []) (same_add way.path reached (name ∷ []) h.same)) (none_there s.rows (reached ++ name ∷ []) free))
      (short_none (length reached) (way.path ++ name ∷ []) way.dirs h.short (omega (arith, push_long way.path name, same_long way.path reached h.same)));
  number = refl;
}

-- one name further
way_further : (s : Rows) (reached : List (List ℕ)) (name : List ℕ) (way : Way) (o : Option Row) → row_at s.rows (reached ++ name ∷ []) ≡ o → obstacle_at None o ≡ None
    → IsOnWay s reached way → IsOnWay s (reached ++ name ∷ []) (further s.next name way o)
way_further s reached name way None e clear h =
    let new : Row = record { number = s.next + length way.dirs; path = way.path ++ name ∷ []; value = None } in record {
      made = new_push s way.dirs new h.made (new_here s reached name way None h e);
      there = inr (record { front = s.rows ++ way.dirs; dir = new; back = []; there = sym (append_assoc s.rows way.dirs (new ∷ [])); path = refl; kind = refl });
      same = same_add way.path reached (name ∷ []) h.same;
      short = short_push (length (reached ++ name ∷ [])) way.dirs new (short_more (length reached) (length (reached ++ name ∷ [])) way.dirs (omega (arith, push_long reached name)) h.short)
          (omega (arith, push_long way.path name, push_long reached name, same_long way.path reached h.same));
    }
way_further s reached name way (Some r) e clear h =
    let found = found_there s.rows (reached ++ name ∷ []) r e (no_key (is_key r) _ clear) in record {
      made = h.made;
      there = is_dir_append s.rows way.dirs r.path (inr found.0);
      same = found.1;
      short = short_more (length reached) (length (reached ++ name ∷ [])) way.dirs (omega (arith, push_long reached name)) h.short;
    }
  where
    no_key : (t : Bool) (x : OdbRefusal) → cond t (Some x) None ≡ None → t ≡ false
    no_key true x k = absurd (cc)
    no_key false x k = refl

way_on : (s : Rows) (reached names : List (List ℕ)) (way : Way) → obstacle_from None s.rows reached names ≡ None → IsOnWay s reached way
    → IsOnWay s (reached ++ names) (go_on s.rows s.next reached names way)
way_on s reached [] way clear h = subst (λ (p : List (List ℕ)). IsOnWay s p way) (sym (append-nil reached)) h
way_on s reached (name ∷ names) way clear h =
    let o : Option Row = row_at s.rows (reached ++ name ∷ []) in
    subst (λ (p : List (List ℕ)). IsOnWay s p (go_on s.rows s.next (reached ++ name ∷ []) names (further s.next name way o))) (append_assoc reached (name ∷ []) names)
    (way_on s (reached ++ name ∷ []) names (further s.next name way o) (or_none_right (obstacle_at None o) (obstacle_from None s.rows (reached ++ name ∷ []) names) clear)
    (way_further s reached name way o refl (or_none_left (obstacle_at None o) (obstacle_from None s.rows (reached ++ name ∷ []) names) clear) h))

on_no_way : (s : Rows) → IsOnWay s [] no_way
on_no_way s = record { made = tt; there = inl refl; same = refl; short = tt }

on_way : (s : Rows) (p : List (List ℕ)) → obstacle_to_new s.rows p ≡ None → IsOnWay s (parent_of p) (way_to s p)
on_way s p clear = way_on s [] (parent_of p) no_way clear (on_no_way s)

-- a path that is not the root's is that of its directory and its last name
record HasLast (p : List (List ℕ)) : Type 0 where
  name : List ℕ
  last : last_of p ≡ name ∷ []
  whole : p ≡ parent_of p ++ name ∷ []

has_last : (p : List (List ℕ)) → 0 < length p → HasLast p
has_last p h =
    let i : ℕ = length p - 1 in
    let name : List ℕ = get_or p i [] in
    let at : i + 1 ≡ length p = omega (arith, h) in record {
      name = name;
      last = drop_more p i [] (omega (arith, h)) ∙ ap (λ (l : List (List ℕ)). name ∷ l) (drop_all (i + 1) p (omega (arith, at)));
      whole = sym (take_all_of (i + 1) p at) ∙ take_more p i [] (omega (arith, h));
    }
  where
    take_all_of : (n : ℕ) (q : List (List ℕ)) → n ≡ length q → take n q ≡ q
    take_all_of n q e = take_all n q (omega (arith, e))

pub created_with : (s : Rows) (p : List (List ℕ)) (value : Option HeldValue) → created s p value ≡ with_rows s (made_for s p value)
created_with s p value =
    same_rows s (s.rows ++ made_for s p value) (s.rows ++ made_for s p value) (new_number s p + 1) (s.next + length (made_for s p value)) refl
    (omega (arith, length-append (way_to s p).dirs (new_row s p value ∷ [])))

pub made_new : (s : Rows) (p : List (List ℕ)) (value : Option HeldValue) → 0 < length p → obstacle_to_new s.rows p ≡ None → row_at s.rows p ≡ None → AreNew s (made_for s p value)
made_new s p value some clear free =
    let last = has_last p some in
    let way = on_way s p clear in
    new_push s (way_to s p).dirs (new_row s p value) way.made
    (subst (λ (l : List (List ℕ)). IsNewRow (with_rows s (way_to s p).dirs) (record { number = s.next + length (way_to s p).dirs; path = (way_to s p).path ++ l; value = value })) (sym last.last)
    (new_here s (parent_of p) last.name (way_to s p) value way (subst (λ (q : List (List ℕ)). row_at s.rows q ≡ None) last.whole free)))

-- they have no more names than the path
pub made_short : (s : Rows) (p : List (List ℕ)) (value : Option HeldValue) → 0 < length p → obstacle_to_new s.rows p ≡ None → AreShort (length p) (made_for s p value)
made_short s p value some clear =
    let last = has_last p some in
    let way = on_way s p clear in
    let long : length p ≡ length (parent_of p) + 1 = ap (λ (q : List (List ℕ)). length q) last.whole ∙ push_long (parent_of p) last.name in
    short_push (length p) (way_to s p).dirs (new_row s p value) (short_more (length (parent_of p)) (length p) (way_to s p).dirs (omega (arith, long)) way.short)
    (subst (λ (l : List (List ℕ)). length ((way_to s p).path ++ l) ≤ length p) (sym last.last)
    (omega (arith, push_long (way_to s p).path last.name, same_long (way_to s p).path (parent_of p) way.same, long)))

tree_created : (s : Rows) (p : List (List ℕ)) (value : Option HeldValue) → IsTree s → AreNew s (made_for s p value) → IsTree (created s p value)
tree_created s p value h k = subst IsTree (sym (created_with s p value)) (tree_with s (made_for s p value) h k)

-- replies

pub ok_none : (o : Option OdbRefusal) (number n : ℕ) → reply_or o number ≡ Ok n → o ≡ None
ok_none None number n h = refl
ok_none (Some refusal) number n h = absurd (cc)

-- nothing is there
record IsFree (rows : List Row) (p : List (List ℕ)) : Type 0 where
  some : 0 < length p
  free : row_at rows p ≡ None

not_there : (rows : List Row) (p : List (List ℕ)) → exists_fault rows p ≡ None → IsFree rows p
not_there rows [] h = absurd (cc)
not_there rows (name ∷ names) h = record { some = omega arith; free = absent (row_at rows (name ∷ names)) _ h }
  where
    absent : (o : Option Row) (x : OdbRefusal) → cond (is_some o) (Some x) None ≡ None → o ≡ None
    absent None x k = refl
    absent (Some r) x k = absurd (cc)

-- what an accepted `create` makes
pub create_makes : (s : Rows) (p : List (List ℕ)) (kind : NewKey) (n : ℕ) → create_reply s p kind ≡ Ok n
    → AreNew s (made_for s p (new_value kind)) × AreShort (length p) (made_for s p (new_value kind))
create_makes s p kind n h =
    let whole : create_fault s p kind ≡ None = ok_none (create_fault s p kind) (new_number s p) n h in
    let there : option_or (exists_fault s.rows p) (option_or (kept_fault s.links kind) (limit_fault (items_fault kind) (after_create s p kind))) ≡ None = or_none_right (obstacle_to_new s.rows p) _ whole in
    let free = not_there s.rows p (or_none_left (exists_fault s.rows p) _ there) in
    let clear : obstacle_to_new s.rows p ≡ None = or_none_left (obstacle_to_new s.rows p) _ whole in
    (made_new s p (new_value kind) free.some clear free.free, made_short s p (new_value kind) free.some clear)

not_root : (rows : List Row) (p : List (List ℕ)) → value_fault rows p ≡ None → 0 < length p
not_root rows [] h = absurd (cc)
not_root rows (name ∷ names) h = omega arith

-- what an accepted `set_all` of a path without a row makes
pub set_all_makes : (s : Rows) (p : List (List ℕ)) (v : HeldValue) (n : ℕ) → set_all_reply s p v ≡ Ok n → row_at s.rows p ≡ None
    → AreNew s (made_for s p (Some v)) × AreShort (length p) (made_for s p (Some v))
set_all_makes s p v n h free =
    let whole : set_all_fault s p v ≡ None = ok_none (set_all_fault s p v) (number_at s p (row_at s.rows p)) n h in
    let rest = or_none_right (obstacle_to_new s.rows p) _ whole in
    let clear : obstacle_to_new s.rows p ≡ None = or_none_left (obstacle_to_new s.rows p) _ whole in
    let some : 0 < length p = not_root s.rows p (or_none_left (value_fault s.rows p) _ rest) in
    (made_new s p (Some v) some clear free, made_short s p (Some v) some clear)

-- what an accepted `put` of a path without a row makes
pub put_makes : (s : Rows) (p : List (List ℕ)) (v : HeldValue) → put_fault s p v ≡ None → row_at s.rows p ≡ None → AreNew s (made_for s p (Some v)) × AreShort (length p) (made_for s p (Some v))
put_makes s p v whole free =
    let rest = or_none_right (obstacle_to_new s.rows p) _ whole in
    let clear : obstacle_to_new s.rows p ≡ None = or_none_left (obstacle_to_new s.rows p) _ whole in
    let some : 0 < length p = not_root s.rows p (or_none_left (value_fault s.rows p) _ rest) in
    (made_new s p (Some v) some clear free, made_short s p (Some v) some clear)

pub tree_set_all_at : (s : Rows) (p : List (List ℕ)) (v : HeldValue) (o : Option Row) → row_at s.rows p ≡ o → IsTree s
    → (row_at s.rows p ≡ None → AreNew s (made_for s p (Some v)) × AreShort (length p) (made_for s p (Some v))) → IsTree (after_set_all_at s p v o)
tree_set_all_at s p v None e h makes = tree_created s p (Some v) h (makes e).0
tree_set_all_at s p v (Some r) e h makes = tree_changed s p (λ _. v) h

-- each step at a path keeps a tree
pub tree_there : (s : Rows) (entry : DatabaseEntry) → IsTree s → IsReplyThere s entry → IsTree (rows_there s entry)
tree_there s (Create p kind (Ok n)) h k = tree_created s p (new_value kind) h (create_makes s p kind n k).0
tree_there s (Create p kind (Err refusal)) h k = h
tree_there s (Set p index item (Ok n)) h k = tree_changed s p (λ v. put_in v index item) h
tree_there s (Set p index item (Err refusal)) h k = h
tree_there s (SetAll p v (Ok n)) h k = tree_set_all_at s p v (row_at s.rows p) refl h (set_all_makes s p v n k)
tree_there s (SetAll p v (Err refusal)) h k = h
tree_there s (Get p reply) h k = h
tree_there s (Find p reply) h k = h
tree_there s (ListDir p reply) h k = h
tree_there s (Delete p (Ok n)) h k = tree_outside s p h
tree_there s (Delete p (Err refusal)) h k = h
tree_there s (Resize p len (Ok n)) h k = tree_changed s p (λ v. resized v len) h
tree_there s (Resize p len (Err refusal)) h k = h
tree_there s (PathOf row reply) h k = h

-- so each call keeps one
pub tree_after : (s : Rows) (entry : DatabaseEntry) → IsTree s → IsRowsReply s entry → IsTree (rows_after s entry)
tree_after s entry h reply = lifted IsTree s entry h (λ step k. tree_there s step h k) reply

-- a legal history keeps a tree
pub tree_replayed : (s : Rows) (history : List (ℕ × DatabaseEntry)) → IsTree s → IsLegalRows s history → IsTree (rows_replay s history)
tree_replayed s [] h k = h
tree_replayed s (e ∷ es) h k = tree_replayed (rows_after s e.1) es (tree_after s e.1 h k.0.reply) k.1

pub tree_begins : IsTree no_rows
tree_begins = record { placed = tt; apart = tt; numbered = omega arith }
