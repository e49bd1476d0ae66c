-- Laws of the walk: where new rows stand, and that all other rows keep their places.
use Rattle.std.specs.Prelude.{◌≡◌, ℕ, zero, suc, ◌+◌, Bool, true, false, not, ◌&&◌, ◌==◌, cond, List, [], ◌∷◌, ◌++◌, length, map, Option, Some, None}
use Rattle.std.proofs.Common.{refl, sym, ap, ◌∙◌, Decides}
use Rattle.std.specs.List.{filter, flat_map}
use Rattle.std.specs.Option.{is_some, option_map}
use Rattle.std.specs.Char.{to_ascii_lowercase}
use Rattle.std.proofs.lemmas.List.{append_assoc, append-nil}
use Rattle.std.proofs.lemmas.Slice.Eq.{slice_eq-Decides}
use Rattle.std.proofs.lemmas.Bool.Decides.{Decides-eqb}
use Rattle.odb_value.specs.Paths.{same_name, is_front, same_path}
use Rattle.odb_value.specs.Values.{HeldValue}
use Rattle.odb_tree.specs.declared.rows.Row.{Row}
use Rattle.odb_tree.specs.Rows.{is_key, is_kind, is_child, is_listed, keys_in, dirs_in, rows_outside, change_row, change_at}
use Rattle.odb_tree.specs.Walks.{walk_below, changed_at}
use Rattle.odb_tree.specs.WalkLaws.{NoneAbove, below_dirs, NoneAt, OneAt}

-- paths

pub and_left : (a b : Bool) → a && b ≡ true → a ≡ true
and_left true b h = refl
and_left false b h = h

pub and_right : (a b : Bool) → a && b ≡ true → b ≡ true
and_right true b h = h
and_right false b h = absurd (cc)

pub both : (a b : Bool) → a ≡ true → b ≡ true → a && b ≡ true
both a b h k = ap (λ (t : Bool). t && b) h ∙ k

pub names_decide : (a b : List ℕ) → Decides (same_name a b) (map to_ascii_lowercase a ≡ map to_ascii_lowercase b)
names_decide a b = slice_eq-Decides Decides-eqb (map to_ascii_lowercase a) (map to_ascii_lowercase b) (same_name a b) refl

pub name_trans : (a b c : List ℕ) → same_name a b ≡ true → same_name b c ≡ true → same_name a c ≡ true
name_trans a b c h k = let ab = names_decide a b in let bc = names_decide b c in let ac = names_decide a c in ac.1 (ab.0 h ∙ bc.0 k)

-- a directory above one above a path is above the path
pub front_trans : (p q r : List (List ℕ)) → is_front p q ≡ true → is_front q r ≡ true → is_front p r ≡ true
front_trans [] q r h k = refl
front_trans (a ∷ p) [] r h k = absurd (cc)
front_trans (a ∷ p) (b ∷ q) [] h k = absurd (cc)
front_trans (a ∷ p) (b ∷ q) (c ∷ r) h k =
    both (same_name a c) (is_front p r)
    (name_trans a b c (and_left (same_name a b) (is_front p q) h) (and_left (same_name b c) (is_front q r) k))
    (front_trans p q r (and_right (same_name a b) (is_front p q) h) (and_right (same_name b c) (is_front q r) k))

listed_below : (keys : Bool) (p : List (List ℕ)) (r : Row) → is_listed keys p r ≡ true → is_front p r.path ≡ true
listed_below keys p r h = and_right (length r.path == length p + 1) (is_front p r.path) (and_right (is_kind keys r) (is_child p r.path) h)

pub and_false : (a : Bool) → a && false ≡ false
and_false true = refl
and_false false = refl

-- a row that is not below a directory is not listed there
pub not_listed : (keys : Bool) (p : List (List ℕ)) (r : Row) → is_front p r.path ≡ false → is_listed keys p r ≡ false
not_listed keys p r h =
    ap (λ (t : Bool). is_kind keys r && ((length r.path == length p + 1) && t)) h
    ∙ (ap (λ (t : Bool). is_kind keys r && t) (and_false (length r.path == length p + 1)) ∙ and_false (is_kind keys r))

-- lists

pub filter_append : {X : Type 0} (t : X → Bool) (xs ys : List X) → filter t (xs ++ ys) ≡ filter t xs ++ filter t ys
filter_append t [] ys = refl
filter_append t (x ∷ xs) ys = added (t x) x (filter t xs) (filter t ys) (filter t (xs ++ ys)) (filter_append t xs ys)
  where
    added : {X : Type 0} (b : Bool) (x : X) (us vs ws : List X) → ws ≡ us ++ vs → cond b (x ∷ ws) ws ≡ cond b (x ∷ us) us ++ vs
    added true x us vs ws e = ap (λ l. x ∷ l) e
    added false x us vs ws e = e

pub filter_one : {X : Type 0} (t : X → Bool) (x : X) → t x ≡ true → filter t (x ∷ []) ≡ x ∷ []
filter_one t x h = ap (λ (b : Bool). cond b (x ∷ []) []) h

pub filter_none : {X : Type 0} (t : X → Bool) (x : X) → t x ≡ false → filter t (x ∷ []) ≡ []
filter_none t x h = ap (λ (b : Bool). cond b (x ∷ []) []) h

filter_swap : {X : Type 0} (a b : X → Bool) (xs : List X) → filter a (filter b xs) ≡ filter b (filter a xs)
filter_swap a b [] = refl
filter_swap a b (x ∷ xs) = swapped a b x xs (a x) (b x) refl refl (filter_swap a b xs)
  where
    swapped : {X : Type 0} (a b : X → Bool) (x : X) (xs : List X) (s t : Bool) → a x ≡ s → b x ≡ t → filter a (filter b xs) ≡ filter b (filter a xs)
        → filter a (cond t (x ∷ filter b xs) (filter b xs)) ≡ filter b (cond s (x ∷ filter a xs) (filter a xs))
    swapped a b x xs true true e f h =
        ap (λ (v : Bool). cond v (x ∷ filter a (filter b xs)) (filter a (filter b xs))) e
        ∙ (ap (λ l. x ∷ l) h ∙ sym (ap (λ (v : Bool). cond v (x ∷ filter b (filter a xs)) (filter b (filter a xs))) f))
    swapped a b x xs true false e f h = h ∙ sym (ap (λ (v : Bool). cond v (x ∷ filter b (filter a xs)) (filter b (filter a xs))) f)
    swapped a b x xs false true e f h = ap (λ (v : Bool). cond v (x ∷ filter a (filter b xs)) (filter a (filter b xs))) e ∙ h
    swapped a b x xs false false e f h = h

-- rows that all lie below a directory
unfoldable pub AllBelow : List (List ℕ) → List Row → Type 0
AllBelow p [] = Unit {0}
AllBelow p (r ∷ rs) = (is_front p r.path ≡ true) × AllBelow p rs

pub all_listed : (keys : Bool) (p : List (List ℕ)) (rows : List Row) → AllBelow p (filter (is_listed keys p) rows)
unfolding AllBelow
all_listed keys p [] = tt
all_listed keys p (r ∷ rs) = taken (is_listed keys p r) p r (filter (is_listed keys p) rs) (listed_below keys p r) (all_listed keys p rs)
  where
    taken : (t : Bool) (p : List (List ℕ)) (r : Row) (rs : List Row) → (t ≡ true → is_front p r.path ≡ true) → AllBelow p rs → AllBelow p (cond t (r ∷ rs) rs)
    taken true p r rs h k = (h refl, k)
    taken false p r rs h k = k

pub not_true : (t : Bool) → (t ≡ true → ⊥) → t ≡ false
not_true true h = absurd (h refl)
not_true false h = refl

pub true_false : (t : Bool) → t ≡ true → t ≡ false → ⊥
true_false true h k = cc
true_false false h k = cc

-- a directory in one that is not above a path is not above it either
apart : (p q r : List (List ℕ)) → is_front p r ≡ false → is_front p q ≡ true → is_front q r ≡ false
apart p q r h k = not_true (is_front q r) (λ e. true_false (is_front p r) (front_trans p q r k e) h)

-- new rows

pub same_listed : (keys : Bool) (rows : List Row) (new : Row) (p : List (List ℕ)) → is_front p new.path ≡ false
    → filter (is_listed keys p) (rows ++ new ∷ []) ≡ filter (is_listed keys p) rows
same_listed keys rows new p h =
    filter_append (is_listed keys p) rows (new ∷ [])
    ∙ (ap (λ (l : List Row). filter (is_listed keys p) rows ++ l) (filter_none (is_listed keys p) new (not_listed keys p new h))
    ∙ append-nil (filter (is_listed keys p) rows))

same_below : (f g : Row → List Row) (new : Row) (p : List (List ℕ)) (ds : List Row) → is_front p new.path ≡ false → AllBelow p ds
    → ((d : Row) → is_front d.path new.path ≡ false → f d ≡ g d) → flat_map f ds ≡ flat_map g ds
unfolding AllBelow
same_below f g new p [] h all ih = refl
same_below f g new p (d ∷ ds) h all ih =
    ap (λ (l : List Row). l ++ flat_map f ds) (ih d (apart p d.path new.path h all.0))
    ∙ ap (λ (l : List Row). g d ++ l) (same_below f g new p ds h all.1 ih)

-- in a directory that is not above the new row the walk stays as it was
pub walk_elsewhere : (depth : ℕ) (rows : List Row) (new : Row) (p : List (List ℕ)) → is_front p new.path ≡ false
    → walk_below depth (rows ++ new ∷ []) p ≡ walk_below depth rows p
unfolding walk_below
walk_elsewhere zero rows new p h = refl
walk_elsewhere (suc depth) rows new p h =
    let before : Row → List Row = (λ (d : Row). d ∷ walk_below depth rows d.path) in
    let after : Row → List Row = (λ (d : Row). d ∷ walk_below depth (rows ++ new ∷ []) d.path) in
    ap (λ (l : List Row). l ++ flat_map after (filter (is_listed false p) (rows ++ new ∷ []))) (same_listed true rows new p h)
    ∙ (ap (λ (l : List Row). filter (is_listed true p) rows ++ flat_map after l) (same_listed false rows new p h)
    ∙ ap (λ (l : List Row). filter (is_listed true p) rows ++ l)
    (same_below after before new p (filter (is_listed false p) rows) h (all_listed false p rows) (λ d k. ap (λ (l : List Row). d ∷ l) (walk_elsewhere depth rows new d.path k))))

pub same_beside : (f g : Row → List Row) (new : Row) (ds : List Row) → NoneAbove new.path ds → ((d : Row) → is_front d.path new.path ≡ false → f d ≡ g d) → flat_map f ds ≡ flat_map g ds
unfolding NoneAbove
same_beside f g new [] none ih = refl
same_beside f g new (d ∷ ds) none ih =
    ap (λ (l : List Row). l ++ flat_map f ds) (ih d none.0) ∙ ap (λ (l : List Row). g d ++ l) (same_beside f g new ds none.1 ih)

-- what the kind of a row says: it is listed as one kind alone
other_kind : (p : List (List ℕ)) (r : Row) → is_listed true p r ≡ true → is_listed false p r ≡ false
other_kind p r h = unlisted (is_key r) (is_child p r.path) (and_left (is_key r) (is_child p r.path) h)
  where
    unlisted : (k c : Bool) → k ≡ true → not k && c ≡ false
    unlisted true c e = refl
    unlisted false c e = absurd (cc)

other_kind_too : (p : List (List ℕ)) (r : Row) → is_listed false p r ≡ true → is_listed true p r ≡ false
other_kind_too p r h = unlisted (is_key r) (is_child p r.path) (and_left (not (is_key r)) (is_child p r.path) h)
  where
    unlisted : (k c : Bool) → not k ≡ true → k && c ≡ false
    unlisted true c e = absurd (cc)
    unlisted false c e = refl

listed_more : (keys : Bool) (rows : List Row) (new : Row) (p : List (List ℕ)) → is_listed keys p new ≡ true
    → filter (is_listed keys p) (rows ++ new ∷ []) ≡ filter (is_listed keys p) rows ++ new ∷ []
listed_more keys rows new p h = filter_append (is_listed keys p) rows (new ∷ []) ∙ ap (λ (l : List Row). filter (is_listed keys p) rows ++ l) (filter_one (is_listed keys p) new h)

pub listed_same : (keys : Bool) (rows : List Row) (new : Row) (p : List (List ℕ)) → is_listed keys p new ≡ false
    → filter (is_listed keys p) (rows ++ new ∷ []) ≡ filter (is_listed keys p) rows
listed_same keys rows new p h =
    filter_append (is_listed keys p) rows (new ∷ []) ∙ (ap (λ (l : List Row). filter (is_listed keys p) rows ++ l) (filter_none (is_listed keys p) new h) ∙ append-nil (filter (is_listed keys p) rows))

-- a directory is its keys and what its directories have
pub walk_is : (depth : ℕ) (rows : List Row) (p : List (List ℕ)) → walk_below (suc depth) rows p ≡ keys_in rows p ++ below_dirs depth rows p
unfolding walk_below below_dirs
walk_is depth rows p = refl

-- a new key stands behind the keys of its directory
pub walk_new_key : (depth : ℕ) (rows : List Row) (new : Row) (p : List (List ℕ)) → is_listed true p new ≡ true → NoneAbove new.path (dirs_in rows p)
    → walk_below (suc depth) (rows ++ new ∷ []) p ≡ keys_in rows p ++ new ∷ below_dirs depth rows p
unfolding walk_below below_dirs
walk_new_key depth rows new p h none =
    let before : Row → List Row = (λ (d : Row). d ∷ walk_below depth rows d.path) in
    let after : Row → List Row = (λ (d : Row). d ∷ walk_below depth (rows ++ new ∷ []) d.path) in
    ap (λ (l : List Row). l ++ flat_map after (filter (is_listed false p) (rows ++ new ∷ []))) (listed_more true rows new p h)
    ∙ (ap (λ (l : List Row). (filter (is_listed true p) rows ++ new ∷ []) ++ flat_map after l) (listed_same false rows new p (other_kind p new h))
    ∙ (ap (λ (l : List Row). (filter (is_listed true p) rows ++ new ∷ []) ++ l)
    (same_beside after before new (filter (is_listed false p) rows) none (λ d k. ap (λ (l : List Row). d ∷ l) (walk_elsewhere depth rows new d.path k)))
    ∙ append_assoc (filter (is_listed true p) rows) (new ∷ []) (flat_map before (filter (is_listed false p) rows))))

pub flat_map_append : (f : Row → List Row) (xs ys : List Row) → flat_map f (xs ++ ys) ≡ flat_map f xs ++ flat_map f ys
flat_map_append f [] ys = refl
flat_map_append f (x ∷ xs) ys = ap (λ (l : List Row). f x ++ l) (flat_map_append f xs ys) ∙ sym (append_assoc (f x) (flat_map f xs) (flat_map f ys))

-- a new directory, with nothing below it, stands behind everything below its parent
pub walk_new_dir : (depth : ℕ) (rows : List Row) (new : Row) (p : List (List ℕ)) → is_listed false p new ≡ true → NoneAbove new.path (dirs_in rows p)
    → walk_below depth (rows ++ new ∷ []) new.path ≡ []
    → walk_below (suc depth) (rows ++ new ∷ []) p ≡ walk_below (suc depth) rows p ++ new ∷ []
unfolding walk_below
walk_new_dir depth rows new p h none empty =
    let before : Row → List Row = (λ (d : Row). d ∷ walk_below depth rows d.path) in
    let after : Row → List Row = (λ (d : Row). d ∷ walk_below depth (rows ++ new ∷ []) d.path) in
    let dirs : List Row = filter (is_listed false p) rows in
    ap (λ (l : List Row). l ++ flat_map after (filter (is_listed false p) (rows ++ new ∷ []))) (listed_same true rows new p (other_kind_too p new h))
    ∙ (ap (λ (l : List Row). filter (is_listed true p) rows ++ flat_map after l) (listed_more false rows new p h)
    ∙ (ap (λ (l : List Row). filter (is_listed true p) rows ++ l) (flat_map_append after dirs (new ∷ []))
    ∙ (ap (λ (l : List Row). filter (is_listed true p) rows ++ (l ++ ((new ∷ walk_below depth (rows ++ new ∷ []) new.path) ++ [])))
    (same_beside after before new dirs none (λ d k. ap (λ (l : List Row). d ∷ l) (walk_elsewhere depth rows new d.path k)))
    ∙ (ap (λ (l : List Row). filter (is_listed true p) rows ++ (flat_map before dirs ++ ((new ∷ l) ++ []))) empty
    ∙ sym (append_assoc (filter (is_listed true p) rows) (flat_map before dirs) (new ∷ []))))))

-- removed rows

below_append : (p : List (List ℕ)) (xs ys : List Row) → AllBelow p xs → AllBelow p ys → AllBelow p (xs ++ ys)
unfolding AllBelow
below_append p [] ys h k = k
below_append p (x ∷ xs) ys h k = (h.0, below_append p xs ys h.1 k)

below_trans : (p q : List (List ℕ)) (xs : List Row) → is_front p q ≡ true → AllBelow q xs → AllBelow p xs
unfolding AllBelow
below_trans p q [] h k = tt
below_trans p q (x ∷ xs) h k = (front_trans p q x.path h k.0, below_trans p q xs h k.1)

flat_below : (f : Row → List Row) (p : List (List ℕ)) (ds : List Row) → AllBelow p ds → ((d : Row) → is_front p d.path ≡ true → AllBelow p (f d)) → AllBelow p (flat_map f ds)
unfolding AllBelow
flat_below f p [] all ih = tt
flat_below f p (d ∷ ds) all ih = below_append p (f d) (flat_map f ds) (ih d all.0) (flat_below f p ds all.1 ih)

cons_below : (p : List (List ℕ)) (d : Row) (xs : List Row) → is_front p d.path ≡ true → AllBelow p xs → AllBelow p (d ∷ xs)
unfolding AllBelow
cons_below p d xs h k = (h, k)

-- what the walk meets in a directory lies below it
walk_lies_below : (depth : ℕ) (rows : List Row) (p : List (List ℕ)) → AllBelow p (walk_below depth rows p)
unfolding walk_below AllBelow
walk_lies_below zero rows p = tt
walk_lies_below (suc depth) rows p =
    below_append p (filter (is_listed true p) rows) (flat_map (λ (d : Row). d ∷ walk_below depth rows d.path) (filter (is_listed false p) rows)) (all_listed true p rows)
    (flat_below (λ (d : Row). d ∷ walk_below depth rows d.path) p (filter (is_listed false p) rows) (all_listed false p rows)
    (λ d h. cons_below p d (walk_below depth rows d.path) h (below_trans p d.path (walk_below depth rows d.path) h (walk_lies_below depth rows d.path))))

none_stay : (q : List (List ℕ)) (xs : List Row) → AllBelow q xs → filter (λ (r : Row). not (is_front q r.path)) xs ≡ []
unfolding AllBelow
none_stay q [] h = refl
none_stay q (x ∷ xs) h =
    ap (λ (t : Bool). cond (not t) (x ∷ filter (λ (r : Row). not (is_front q r.path)) xs) (filter (λ (r : Row). not (is_front q r.path)) xs)) h.0 ∙ none_stay q xs h.1

-- a directory that goes takes along what is below it, and another keeps what stays below it
dir_outside : (depth : ℕ) (rows : List Row) (q : List (List ℕ)) (d : Row) (t : Bool) (rest : List Row) → is_front q d.path ≡ t
    → walk_below depth (filter (λ (r : Row). not (is_front q r.path)) rows) d.path ≡ filter (λ (r : Row). not (is_front q r.path)) (walk_below depth rows d.path)
    → flat_map (λ (e : Row). e ∷ walk_below depth (filter (λ (r : Row). not (is_front q r.path)) rows) e.path) (cond (not t) (d ∷ []) [])
    ≡ filter (λ (r : Row). not (is_front q r.path)) (d ∷ walk_below depth rows d.path)
dir_outside depth rows q d true rest h ih =
    sym (ap (λ (t : Bool). cond (not t) (d ∷ filter (λ (r : Row). not (is_front q r.path)) (walk_below depth rows d.path)) (filter (λ (r : Row). not (is_front q r.path)) (walk_below depth rows d.path))) h
    ∙ none_stay q (walk_below depth rows d.path) (below_trans q d.path (walk_below depth rows d.path) h (walk_lies_below depth rows d.path)))
dir_outside depth rows q d false rest h ih =
    append-nil (d ∷ walk_below depth (filter (λ (r : Row). not (is_front q r.path)) rows) d.path)
    ∙ (ap (λ (l : List Row). d ∷ l) ih
    ∙ sym (ap (λ (t : Bool). cond (not t) (d ∷ filter (λ (r : Row). not (is_front q r.path)) (walk_below depth rows d.path)) (filter (λ (r : Row). not (is_front q r.path)) (walk_below depth rows d.path))) h))

split_filter : (t : Row → Bool) (d : Row) (ds : List Row) → filter t (d ∷ ds) ≡ cond (t d) (d ∷ []) [] ++ filter t ds
split_filter t d ds = cases (t d) d (filter t ds)
  where
    cases : (b : Bool) (d : Row) (xs : List Row) → cond b (d ∷ xs) xs ≡ cond b (d ∷ []) [] ++ xs
    cases true d xs = refl
    cases false d xs = refl

dirs_outside : (depth : ℕ) (rows : List Row) (q : List (List ℕ)) (ds : List Row)
    → ((p : List (List ℕ)) → walk_below depth (filter (λ (r : Row). not (is_front q r.path)) rows) p ≡ filter (λ (r : Row). not (is_front q r.path)) (walk_below depth rows p))
    → flat_map (λ (e : Row). e ∷ walk_below depth (filter (λ (r : Row). not (is_front q r.path)) rows) e.path) (filter (λ (r : Row). not (is_front q r.path)) ds)
    ≡ filter (λ (r : Row). not (is_front q r.path)) (flat_map (λ (d : Row). d ∷ walk_below depth rows d.path) ds)
dirs_outside depth rows q [] ih = refl
dirs_outside depth rows q (d ∷ ds) ih =
    let stays : Row → Bool = (λ (r : Row). not (is_front q r.path)) in
    let before : Row → List Row = (λ (e : Row). e ∷ walk_below depth rows e.path) in
    let after : Row → List Row = (λ (e : Row). e ∷ walk_below depth (filter stays rows) e.path) in
    ap (flat_map after) (split_filter stays d ds)
    ∙ (flat_map_append after (cond (stays d) (d ∷ []) []) (filter stays ds)
    ∙ (ap (λ (l : List Row). l ++ flat_map after (filter stays ds)) (dir_outside depth rows q d (is_front q d.path) ds refl (ih d.path))
    ∙ (ap (λ (l : List Row). filter stays (d ∷ walk_below depth rows d.path) ++ l) (dirs_outside depth rows q ds ih)
    ∙ sym (filter_append stays (d ∷ walk_below depth rows d.path) (flat_map before ds)))))

-- the rows that stay keep their places
pub walk_outside : (depth : ℕ) (rows : List Row) (q p : List (List ℕ)) → walk_below depth (rows_outside rows q) p ≡ rows_outside (walk_below depth rows p) q
unfolding walk_below
walk_outside zero rows q p = refl
walk_outside (suc depth) rows q p =
    let stays : Row → Bool = (λ (r : Row). not (is_front q r.path)) in
    let before : Row → List Row = (λ (d : Row). d ∷ walk_below depth rows d.path) in
    let after : Row → List Row = (λ (d : Row). d ∷ walk_below depth (filter stays rows) d.path) in
    ap (λ (l : List Row). l ++ flat_map after (filter (is_listed false p) (filter stays rows))) (filter_swap (is_listed true p) stays rows)
    ∙ (ap (λ (l : List Row). filter stays (filter (is_listed true p) rows) ++ flat_map after l) (filter_swap (is_listed false p) stays rows)
    ∙ (ap (λ (l : List Row). filter stays (filter (is_listed true p) rows) ++ l) (dirs_outside depth rows q (filter (is_listed false p) rows) (walk_outside depth rows q))
    ∙ sym (filter_append stays (filter (is_listed true p) rows) (flat_map before (filter (is_listed false p) rows)))))

-- changed rows

pub map_append : (h : Row → Row) (xs ys : List Row) → map h (xs ++ ys) ≡ map h xs ++ map h ys
map_append h [] ys = refl
map_append h (x ∷ xs) ys = ap (λ (l : List Row). h x ∷ l) (map_append h xs ys)

filter_map : (t : Row → Bool) (h : Row → Row) (xs : List Row) → ((r : Row) → t (h r) ≡ t r) → filter t (map h xs) ≡ map h (filter t xs)
filter_map t h [] e = refl
filter_map t h (x ∷ xs) e =
    ap (λ (b : Bool). cond b (h x ∷ filter t (map h xs)) (filter t (map h xs))) (e x) ∙ mapped (t x) h x (filter t (map h xs)) (filter t xs) (filter_map t h xs e)
  where
    mapped : (b : Bool) (h : Row → Row) (x : Row) (us vs : List Row) → us ≡ map h vs → cond b (h x ∷ us) us ≡ map h (cond b (x ∷ vs) vs)
    mapped true h x us vs k = ap (λ (l : List Row). h x ∷ l) k
    mapped false h x us vs k = k

-- a change that keeps the path and the kind of each row
pub record KeepsKind (h : Row → Row) : Type 0 where
  pub path : (r : Row) → (h r).path ≡ r.path
  pub kind : (r : Row) → is_key (h r) ≡ is_key r

same_kind : (h : Row → Row) → KeepsKind h → (keys : Bool) (p : List (List ℕ)) (r : Row) → is_listed keys p (h r) ≡ is_listed keys p r
same_kind h k true p r = ap (λ (t : Bool). t && is_child p (h r).path) (k.kind r) ∙ ap (λ (q : List (List ℕ)). is_key r && is_child p q) (k.path r)
same_kind h k false p r = ap (λ (t : Bool). not t && is_child p (h r).path) (k.kind r) ∙ ap (λ (q : List (List ℕ)). not (is_key r) && is_child p q) (k.path r)

dirs_mapped : (f g : Row → List Row) (h : Row → Row) (ds : List Row) → ((d : Row) → f (h d) ≡ map h (g d)) → flat_map f (map h ds) ≡ map h (flat_map g ds)
dirs_mapped f g h [] e = refl
dirs_mapped f g h (d ∷ ds) e =
    ap (λ (l : List Row). l ++ flat_map f (map h ds)) (e d) ∙ (ap (λ (l : List Row). map h (g d) ++ l) (dirs_mapped f g h ds e) ∙ sym (map_append h (g d) (flat_map g ds)))

pub walk_mapped : (h : Row → Row) → KeepsKind h → (depth : ℕ) (rows : List Row) (p : List (List ℕ)) → walk_below depth (map h rows) p ≡ map h (walk_below depth rows p)
unfolding walk_below
walk_mapped h k zero rows p = refl
walk_mapped h k (suc depth) rows p =
    let before : Row → List Row = (λ (d : Row). d ∷ walk_below depth rows d.path) in
    let after : Row → List Row = (λ (d : Row). d ∷ walk_below depth (map h rows) d.path) in
    ap (λ (l : List Row). l ++ flat_map after (filter (is_listed false p) (map h rows))) (filter_map (is_listed true p) h rows (same_kind h k true p))
    ∙ (ap (λ (l : List Row). map h (filter (is_listed true p) rows) ++ flat_map after l) (filter_map (is_listed false p) h rows (same_kind h k false p))
    ∙ (ap (λ (l : List Row). map h (filter (is_listed true p) rows) ++ l)
    (dirs_mapped after before h (filter (is_listed false p) rows) (λ d. ap (λ (q : List (List ℕ)). h d ∷ walk_below depth (map h rows) q) (k.path d) ∙ ap (λ (l : List Row). h d ∷ l) (walk_mapped h k depth rows d.path)))
    ∙ sym (map_append h (filter (is_listed true p) rows) (flat_map before (filter (is_listed false p) rows)))))

stays_none : (p : List (List ℕ)) (f : HeldValue → HeldValue) (rows : List Row) → NoneAt p rows → map (changed_at p f) rows ≡ rows
unfolding NoneAt
stays_none p f [] h = refl
stays_none p f (r ∷ rs) h =
    ap (λ (t : Bool). cond t (change_row f r) r ∷ map (changed_at p f) rs) h.0 ∙ ap (λ (l : List Row). r ∷ l) (stays_none p f rs h.1)

one_changed : (p : List (List ℕ)) (f : HeldValue → HeldValue) (r : Row) (rs : List Row) (t : Bool) → same_path r.path p ≡ t → (same_path r.path p ≡ true → NoneAt p rs) → change_at rs p f ≡ map (changed_at p f) rs
    → cond t (change_row f r ∷ rs) (r ∷ change_at rs p f) ≡ cond t (change_row f r) r ∷ map (changed_at p f) rs
one_changed p f r rs true e h k = ap (λ (l : List Row). change_row f r ∷ l) (sym (stays_none p f rs (h e)))
one_changed p f r rs false e h k = ap (λ (l : List Row). r ∷ l) k

pub change_is_map : (p : List (List ℕ)) (f : HeldValue → HeldValue) (rows : List Row) → OneAt p rows → change_at rows p f ≡ map (changed_at p f) rows
unfolding OneAt
change_is_map p f [] h = refl
change_is_map p f (r ∷ rs) h = one_changed p f r rs (same_path r.path p) refl h.0 (change_is_map p f rs h.1)

pub value_kept : (f : HeldValue → HeldValue) (o : Option HeldValue) → is_some (option_map f o) ≡ is_some o
value_kept f None = refl
value_kept f (Some v) = refl

pub changed_keeps : (p : List (List ℕ)) (f : HeldValue → HeldValue) → KeepsKind (changed_at p f)
changed_keeps p f = record { path = (λ r. kept_path (same_path r.path p) r); kind = (λ r. kept_kind (same_path r.path p) r) }
  where
    kept_path : (t : Bool) (r : Row) → (cond t (change_row f r) r).path ≡ r.path
    kept_path true r = refl
    kept_path false r = refl

    kept_kind : (t : Bool) (r : Row) → is_key (cond t (change_row f r) r) ≡ is_key r
    kept_kind true r = value_kept f r.value
    kept_kind false r = refl

-- a row that is changed keeps its place, and so do all others
pub walk_changed : (depth : ℕ) (rows : List Row) (p : List (List ℕ)) (f : HeldValue → HeldValue) (q : List (List ℕ)) → OneAt p rows
    → walk_below depth (change_at rows p f) q ≡ map (changed_at p f) (walk_below depth rows q)
walk_changed depth rows p f q h =
    ap (λ (rs : List Row). walk_below depth rs q) (change_is_map p f rows h) ∙ walk_mapped (changed_at p f) (changed_keeps p f) depth rows q
