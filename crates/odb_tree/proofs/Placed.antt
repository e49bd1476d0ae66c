-- The place of a new row in the walk.
use Rattle.std.proofs.Common.{◌≡◌, ℕ, zero, suc, ◌+◌, ◌-◌, ◌<◌, ◌≤◌, Bool, true, false, not, cond, ◌==◌, List, [], ◌∷◌, ◌++◌, length, Some, None, inl, inr, Ok, refl, sym, ap, ◌∙◌, subst, arith, eq-or-lt_of_le, append_assoc, append-nil, length-append}
use Rattle.std.specs.List.{filter, flat_map}
use Rattle.std.proofs.lemmas.Bool.Decides.{nat_tests}
use Rattle.odb_value.specs.Paths.{depth_limit, same_name, is_front, same_path}
use Rattle.odb_tree.specs.declared.rows.Row.{Row}
use Rattle.odb_value.specs.Values.{HeldValue}
use Rattle.odb_tree.specs.declared.rows.NewKey.{NewKey}
use Rattle.odb_tree.specs.Calls.{create_reply, after_create, new_value, set_all_reply, after_set_all, after_set_all_at, put_fault, put_reply, number_at}
use Rattle.odb_tree.specs.Rows.{Rows, row_at, is_key, is_kind, is_child, is_listed, keys_in, dirs_in}
use Rattle.odb_tree.specs.Walks.{walk_below, walk}
use Rattle.odb_tree.proofs.WalkLaws.{and_left, and_right, both, name_trans, front_trans, not_true, true_false, not_listed, listed_same, walk_elsewhere, same_beside, flat_map_append, walk_is, walk_new_key, walk_new_dir}
use Rattle.odb_tree.specs.WalkLaws.{below_dirs, NoneAt, NoneAbove}
use Rattle.odb_tree.specs.Trees.{HasDir, IsDir, IsPlaced, ArePlaced, AreApart, IsTree, with_rows, IsNewRow, AreNew, AreShort}
use Rattle.odb_tree.specs.Places.{BeginsAt, stands_behind, IsInserted, AreInserted, made_for}
use Rattle.odb_tree.proofs.Trees.{front_more, front_short, front_within, long_same, same_front, same_refl, other_sym, is_dir_append, filter_at, tree_more, name_sym}
use Rattle.odb_tree.proofs.Kept.{ok_none, short_more, create_makes, set_all_makes, put_makes, created_with}

-- two paths of one length that are both above a path are the same
fronts_agree : (p q r : List (List ℕ)) → length p ≡ length q → is_front p r ≡ true → is_front q r ≡ true → is_front p q ≡ true
fronts_agree [] q r long h k = refl
fronts_agree (a ∷ p) [] r long h k = absurd (omega (arith, long))
fronts_agree (a ∷ p) (b ∷ q) [] long h k = absurd (cc)
fronts_agree (a ∷ p) (b ∷ q) (c ∷ r) long h k =
    both (same_name a b) (is_front p q)
    (name_trans a c b (and_left (same_name a c) (is_front p r) h) (name_sym b c (and_left (same_name b c) (is_front q r) k)))
    (fronts_agree p q r (omega (arith, long)) (and_right (same_name a c) (is_front p r) h) (and_right (same_name b c) (is_front q r) k))

listed_long : (keys : Bool) (p : List (List ℕ)) (r : Row) → is_listed keys p r ≡ true → length r.path ≡ length p + 1
listed_long keys p r h =
    grind (arith, nat_tests, and_left (length r.path == length p + 1) (is_front p r.path) (and_right (is_kind keys r) (is_child p r.path) h))

unlisted_long : (keys : Bool) (p : List (List ℕ)) (r : Row) → (length r.path ≡ length p + 1 → ⊥) → is_listed keys p r ≡ false
unlisted_long keys p r h = not_true (is_listed keys p r) (λ e. h (listed_long keys p r e))

listed_here : (keys : Bool) (p : List (List ℕ)) (r : Row) → is_kind keys r ≡ true → length r.path ≡ length p + 1 → is_front p r.path ≡ true → is_listed keys p r ≡ true
listed_here keys p r kind long front =
    both (is_kind keys r) (is_child p r.path) kind (both (length r.path == length p + 1) (is_front p r.path) (grind (arith, nat_tests, long)) front)

-- of the directories beside one that is above a path none is above it
none_above : (keys : Bool) (q d new : List (List ℕ)) (rows : List Row) → NoneAt d rows → is_front d new ≡ true → length d ≡ length q + 1 → NoneAbove new (filter (is_listed keys q) rows)
unfolding NoneAt NoneAbove
none_above keys q d new [] none front long = tt
none_above keys q d new (r ∷ rs) none front long =
    kept (is_listed keys q r) (filter (is_listed keys q) rs) refl (none_above keys q d new rs none.1 front long)
  where
    kept : (t : Bool) (xs : List Row) → is_listed keys q r ≡ t → NoneAbove new xs → NoneAbove new (cond t (r ∷ xs) xs)
    kept true xs e h =
        let same : length r.path ≡ length d = omega (arith, listed_long keys q r e, long) in
        (not_true (is_front r.path new) (λ k. true_false (same_path r.path d) (long_same r.path d same (fronts_agree r.path d new same k front)) none.0), h)
    kept false xs e h = h

-- rows on both sides of one
pub none_around : (front : List Row) (d : Row) (back : List Row) → AreApart (front ++ d ∷ back) → NoneAt d.path front × NoneAt d.path back
unfolding NoneAt
none_around [] d back h = (tt, h.0)
none_around (r ∷ rs) d back h = let rest = none_around rs d back h.1 in ((other_sym d.path r.path (at rs d back h.0), rest.0), rest.1)
  where
    at : (xs : List Row) (d : Row) (back : List Row) → NoneAt r.path (xs ++ d ∷ back) → same_path d.path r.path ≡ false
    at [] d back k = k.0
    at (x ∷ xs) d back k = at xs d back k.1

placed_at : (before front : List Row) (d : Row) (back : List Row) → ArePlaced before (front ++ d ∷ back) → IsPlaced (before ++ front) d.path
placed_at before [] d back h = subst (λ (l : List Row). IsPlaced l d.path) (sym (append-nil before)) h.0
placed_at before (r ∷ rs) d back h = subst (λ (l : List Row). IsPlaced l d.path) (append_assoc before (r ∷ []) rs) (placed_at (before ++ r ∷ []) rs d back h.1)

-- What is in a directory begins behind this front, and ends before this rest, of the walk of these rows and of more.
record IsPart (depth left : ℕ) (rows more : List Row) (q : List (List ℕ)) : Type 0 where
  front : List Row
  rest : List Row
  begins : BeginsAt front q
  before : walk_below depth rows [] ≡ front ++ (walk_below left rows q ++ rest)
  after : walk_below depth more [] ≡ front ++ (walk_below left more q ++ rest)

regroup : (f k a : List Row) (d : Row) (w b r : List Row) → f ++ ((k ++ (a ++ ((d ∷ w) ++ b))) ++ r) ≡ (f ++ (k ++ (a ++ d ∷ []))) ++ (w ++ (b ++ r))
regroup [] [] [] d w b r = ap (λ (l : List Row). d ∷ l) (append_assoc w b r)
regroup [] [] (x ∷ a) d w b r = ap (λ (l : List Row). x ∷ l) (regroup [] [] a d w b r)
regroup [] (x ∷ k) a d w b r = ap (λ (l : List Row). x ∷ l) (regroup [] k a d w b r)
regroup (x ∷ f) k a d w b r = ap (λ (l : List Row). x ∷ l) (regroup f k a d w b r)

-- a directory in its parent
record IsInParent (left : ℕ) (rows more : List Row) (q' q : List (List ℕ)) : Type 0 where
  keys : List Row
  front : List Row
  dir : Row
  back : List Row
  path : dir.path ≡ q
  kind : is_key dir ≡ false
  before : walk_below (suc left) rows q' ≡ keys ++ (front ++ ((dir ∷ walk_below left rows q) ++ back))
  after : walk_below (suc left) more q' ≡ keys ++ (front ++ ((dir ∷ walk_below left more q) ++ back))

split_dirs : (f : Row → List Row) (xs : List Row) (d : Row) (ys : List Row) → flat_map f (xs ++ d ∷ ys) ≡ flat_map f xs ++ (f d ++ flat_map f ys)
split_dirs f xs d ys = flat_map_append f xs (d ∷ ys)

in_parent : (left : ℕ) (rows : List Row) (new : Row) (q' q : List (List ℕ)) (has : HasDir rows q) → AreApart rows → length q ≡ length q' + 1 → is_front q' q ≡ true
    → is_front q new.path ≡ true → length q < length new.path → IsInParent left rows (rows ++ new ∷ []) q' q
unfolding walk_below
in_parent left rows new q' q has apart long above front short =
    let around = none_around has.front has.dir has.back (subst AreApart has.there apart) in
    let more : List Row = rows ++ new ∷ [] in
    let before : Row → List Row = (λ (d : Row). d ∷ walk_below left rows d.path) in
    let after : Row → List Row = (λ (d : Row). d ∷ walk_below left more d.path) in
    let fronts : List Row = filter (is_listed false q') has.front in
    let backs : List Row = filter (is_listed false q') has.back in
    let dir_front : is_front has.dir.path new.path ≡ true = subst (λ (p : List (List ℕ)). is_front p new.path ≡ true) (sym has.path) front in
    let dir_long : length has.dir.path ≡ length q' + 1 = ap (λ (p : List (List ℕ)). length p) has.path ∙ long in
    let dirs : filter (is_listed false q') rows ≡ fronts ++ has.dir ∷ backs =
    ap (filter (is_listed false q')) has.there
    ∙ filter_at (is_listed false q') has.front has.dir has.back (listed_here false q' has.dir (ap not has.kind) dir_long (subst (λ (p : List (List ℕ)). is_front q' p ≡ true) (sym has.path) above)) in
    let beside : (keys : Bool) → filter (is_listed keys q') more ≡ filter (is_listed keys q') rows =
    (λ keys. listed_same keys rows new q' (unlisted_long keys q' new (λ e. absurd (omega (arith, e, long, short))))) in
    let same : (d : Row) → is_front d.path new.path ≡ false → after d ≡ before d = (λ d k. ap (λ (l : List Row). d ∷ l) (walk_elsewhere left rows new d.path k)) in
    record {
      keys = filter (is_listed true q') rows;
      front = flat_map before fronts;
      dir = has.dir;
      back = flat_map before backs;
      path = has.path;
      kind = has.kind;
      before = ap (λ (l : List Row). filter (is_listed true q') rows ++ flat_map before l) dirs
          ∙ (ap (λ (l : List Row). filter (is_listed true q') rows ++ l) (split_dirs before fronts has.dir backs)
          ∙ ap (λ (p : List (List ℕ)). filter (is_listed true q') rows ++ (flat_map before fronts ++ ((has.dir ∷ walk_below left rows p) ++ flat_map before backs))) has.path);
      after = ap (λ (l : List Row). l ++ flat_map after (filter (is_listed false q') more)) (beside true)
          ∙ (ap (λ (l : List Row). filter (is_listed true q') rows ++ flat_map after l) (beside false ∙ dirs)
          ∙ (ap (λ (l : List Row). filter (is_listed true q') rows ++ l) (split_dirs after fronts has.dir backs)
          ∙ (ap (λ (l : List Row). filter (is_listed true q') rows ++ (l ++ (after has.dir ++ flat_map after backs)))
          (same_beside after before new fronts (none_above false q' has.dir.path new.path has.front around.0 dir_front dir_long) same)
          ∙ (ap (λ (l : List Row). filter (is_listed true q') rows ++ (flat_map before fronts ++ (after has.dir ++ l)))
          (same_beside after before new backs (none_above false q' has.dir.path new.path has.back around.1 dir_front dir_long) same)
          ∙ ap (λ (p : List (List ℕ)). filter (is_listed true q') rows ++ (flat_map before fronts ++ ((has.dir ∷ walk_below left more p) ++ flat_map before backs))) has.path))));
    }

one_deeper : (depth left : ℕ) (rows more : List Row) (q' q : List (List ℕ)) → IsPart depth (suc left) rows more q' → IsInParent left rows more q' q → IsPart depth left rows more q
one_deeper depth left rows more q' q part child = record {
  front = part.front ++ (child.keys ++ (child.front ++ child.dir ∷ []));
  rest = child.back ++ part.rest;
  begins = inr (record {
    earlier = part.front ++ (child.keys ++ child.front);
    dir = child.dir;
    last = ends part.front child.keys child.front child.dir;
    path = child.path;
    kind = child.kind;
  });
  before = part.before ∙ (ap (λ (l : List Row). part.front ++ (l ++ part.rest)) child.before
      ∙ regroup part.front child.keys child.front child.dir (walk_below left rows q) child.back part.rest);
  after = part.after ∙ (ap (λ (l : List Row). part.front ++ (l ++ part.rest)) child.after
      ∙ regroup part.front child.keys child.front child.dir (walk_below left more q) child.back part.rest);
}
  where
    ends : (f k a : List Row) (d : Row) → f ++ (k ++ (a ++ d ∷ [])) ≡ (f ++ (k ++ a)) ++ d ∷ []
    ends f k a d = sym (append_assoc f (k ++ a) (d ∷ []) ∙ ap (λ (l : List Row). f ++ l) (append_assoc k a (d ∷ [])))

empty_path : (p : List (List ℕ)) → length p ≡ 0 → p ≡ []
empty_path [] h = refl
empty_path (a ∷ p) h = absurd (omega (arith, h))

-- the part of a directory above a new row
part_of : (count left depth : ℕ) (rows : List Row) (new : Row) (q : List (List ℕ)) → ArePlaced [] rows → AreApart rows → IsDir rows q → length q ≡ count → left + count ≡ depth
    → is_front q new.path ≡ true → length q < length new.path → IsPart depth left rows (rows ++ new ∷ []) q
part_of zero left depth rows new q placed apart there long total front short =
    let root : q ≡ [] = empty_path q long in
    let same : left ≡ depth = omega (arith, total) in
    subst (λ (p : List (List ℕ)). IsPart depth left rows (rows ++ new ∷ []) p) (sym root) (subst (λ (n : ℕ). IsPart n left rows (rows ++ new ∷ []) []) same (record {
      front = [];
      rest = [];
      begins = inl (refl, refl);
      before = sym (append-nil (walk_below left rows []));
      after = sym (append-nil (walk_below left (rows ++ new ∷ []) []));
    }))
part_of (suc count) left depth rows new q placed apart (inl root) long total front short = absurd (omega (arith, long, ap (λ (p : List (List ℕ)). length p) root))
part_of (suc count) left depth rows new q placed apart (inr has) long total front short =
    let at : IsPlaced has.front has.dir.path = placed_at [] has.front has.dir has.back (subst (ArePlaced []) has.there placed) in
    let path : q ≡ at.parent ++ at.name ∷ [] = sym has.path ∙ at.path in
    let longer : length q ≡ length at.parent + 1 = ap (λ (p : List (List ℕ)). length p) path ∙ omega (arith, length-append at.parent (at.name ∷ [])) in
    let above : is_front at.parent q ≡ true = subst (λ (p : List (List ℕ)). is_front at.parent p ≡ true) (sym path) (front_more at.parent (at.name ∷ [])) in
    let there : IsDir rows at.parent = subst (λ (l : List Row). IsDir l at.parent) (sym has.there) (is_dir_append has.front (has.dir ∷ has.back) at.parent at.there) in
    one_deeper depth left rows (rows ++ new ∷ []) at.parent q
    (part_of count (suc left) depth rows new at.parent placed apart there (omega (arith, long, longer)) (omega (arith, total)) (front_trans at.parent q new.path above front) (omega (arith, longer, short)))
    (in_parent left rows new at.parent q has apart longer above front short)

-- nothing is below a path at which nothing is

NoneBelow : List (List ℕ) → List Row → Type 0
NoneBelow p [] = Unit {0}
NoneBelow p (r ∷ rs) = (is_front p r.path ≡ false) × NoneBelow p rs

below_push : (p : List (List ℕ)) (rows : List Row) (r : Row) → NoneBelow p rows → is_front p r.path ≡ false → NoneBelow p (rows ++ r ∷ [])
unfolding NoneBelow
below_push p [] r h k = (k, tt)
below_push p (x ∷ xs) r h k = (h.0, below_push p xs r h.1 k)

below_at : (p : List (List ℕ)) (front : List Row) (d : Row) (back : List Row) → NoneBelow p (front ++ d ∷ back) → is_front p d.path ≡ false
unfolding NoneBelow
below_at p [] d back h = h.0
below_at p (x ∷ xs) d back h = below_at p xs d back h.1

not_below_dir : (p : List (List ℕ)) (before : List Row) (q : List (List ℕ)) → 0 < length p → NoneBelow p before → IsDir before q → is_front p q ≡ false
not_below_dir p before q some none (inl root) =
    not_true (is_front p q) (λ e. absurd (omega (arith, some, front_short p q e, ap (λ (t : List (List ℕ)). length t) root)))
not_below_dir p before q some none (inr has) =
    subst (λ (t : List (List ℕ)). is_front p t ≡ false) has.path (below_at p has.front has.dir has.back (subst (NoneBelow p) has.there none))

not_below : (p : List (List ℕ)) (before : List Row) (q : List (List ℕ)) → 0 < length p → NoneBelow p before → IsPlaced before q → same_path q p ≡ false → is_front p q ≡ false
not_below p before q some none at other =
    let long : length q ≡ length at.parent + 1 = ap (λ (t : List (List ℕ)). length t) at.path ∙ omega (arith, length-append at.parent (at.name ∷ [])) in
    let apart : is_front p at.parent ≡ false = not_below_dir p before at.parent some none at.there in
    not_true (is_front p q) (λ e. elim (eq-or-lt_of_le (front_short p q e)) [
      | inl same ↦ true_false (same_path p q) (long_same p q same e) (other_sym q p other)
      | inr less ↦ true_false (is_front p at.parent) (front_within p at.parent (at.name ∷ []) (subst (λ (t : List (List ℕ)). is_front p t ≡ true) at.path e) (omega (arith, less, long))) apart
    ])

none_below : (p : List (List ℕ)) (before rows : List Row) → 0 < length p → NoneBelow p before → ArePlaced before rows → NoneAt p rows → NoneBelow p rows
unfolding NoneBelow NoneAt
none_below p before [] some none placed free = tt
none_below p before (r ∷ rs) some none placed free =
    let here : is_front p r.path ≡ false = not_below p before r.path some none placed.0 free.0 in
    (here, none_below p (before ++ r ∷ []) rs some (below_push p before r none here) placed.1 free.1)

-- nothing is in a directory where nothing is below it
none_listed : (keys : Bool) (p : List (List ℕ)) (rows : List Row) → NoneBelow p rows → filter (is_listed keys p) rows ≡ []
unfolding NoneBelow
none_listed keys p [] h = refl
none_listed keys p (r ∷ rs) h =
    ap (λ (t : Bool). cond t (r ∷ filter (is_listed keys p) rs) (filter (is_listed keys p) rs)) (not_listed keys p r h.0) ∙ none_listed keys p rs h.1

empty_below : (depth : ℕ) (rows : List Row) (new : Row) → NoneBelow new.path rows → walk_below depth (rows ++ new ∷ []) new.path ≡ []
unfolding walk_below
empty_below zero rows new h = refl
empty_below (suc depth) rows new h =
    let none : (keys : Bool) → filter (is_listed keys new.path) (rows ++ new ∷ []) ≡ [] =
    (λ keys. listed_same keys rows new new.path (unlisted_long keys new.path new (λ e. absurd (omega (arith, e)))) ∙ none_listed keys new.path rows h) in
    ap (λ (l : List Row). l ++ flat_map (λ (d : Row). d ∷ walk_below depth (rows ++ new ∷ []) d.path) (filter (is_listed false new.path) (rows ++ new ∷ []))) (none true)
    ∙ ap (flat_map (λ (d : Row). d ∷ walk_below depth (rows ++ new ∷ []) d.path)) (none false)

-- the new row in its part

keys_then : (f k b r : List Row) → f ++ ((k ++ b) ++ r) ≡ f ++ (k ++ (b ++ r))
keys_then f k b r = ap (λ (l : List Row). f ++ l) (append_assoc k b r)

listed_new : (keys : Bool) (new : Row) (p : List (List ℕ)) (name : List ℕ) → new.path ≡ p ++ name ∷ [] → is_kind keys new ≡ true → is_listed keys p new ≡ true
listed_new keys new p name path kind =
    listed_here keys p new kind (ap (λ (t : List (List ℕ)). length t) path ∙ omega (arith, length-append p (name ∷ [])))
    (subst (λ (t : List (List ℕ)). is_front p t ≡ true) (sym path) (front_more p (name ∷ [])))

none_new : (s : Rows) (new : Row) (p : List (List ℕ)) (name : List ℕ) → new.path ≡ p ++ name ∷ [] → NoneAt new.path s.rows → NoneAbove new.path (dirs_in s.rows p)
none_new s new p name path free =
    none_above false p new.path new.path s.rows free (same_front new.path new.path (same_refl new.path)) (ap (λ (t : List (List ℕ)). length t) path ∙ omega (arith, length-append p (name ∷ [])))

some_names : (q p : List (List ℕ)) (name : List ℕ) → q ≡ p ++ name ∷ [] → 0 < length q
some_names q p name path = omega (arith, ap (λ (t : List (List ℕ)). length t) path, length-append p (name ∷ []))

insert_at : (k : Bool) (s : Rows) (new : Row) (left : ℕ) (at : IsPlaced s.rows new.path) → is_key new ≡ k → ArePlaced [] s.rows → NoneAt new.path s.rows → suc left ≡ depth_limit - length at.parent
    → IsPart depth_limit (suc left) s.rows (s.rows ++ new ∷ []) at.parent → IsInserted s new
unfolding walk below_dirs NoneBelow
insert_at true s new left at kind tree free total part =
    let listed : is_listed true at.parent new ≡ true = listed_new true new at.parent at.name at.path kind in record {
      parent = at.parent;
      name = at.name;
      path = at.path;
      front = part.front;
      rest = below_dirs left s.rows at.parent ++ part.rest;
      begins = part.begins;
      before = part.before ∙ (ap (λ (l : List Row). part.front ++ (l ++ part.rest)) (walk_is left s.rows at.parent)
          ∙ (keys_then part.front (keys_in s.rows at.parent) (below_dirs left s.rows at.parent) part.rest
          ∙ ap (λ (t : Bool). part.front ++ (stands_behind t s.rows at.parent ++ (below_dirs left s.rows at.parent ++ part.rest))) (sym kind)));
      after = part.after ∙ (ap (λ (l : List Row). part.front ++ (l ++ part.rest)) (walk_new_key left s.rows new at.parent listed (none_new s new at.parent at.name at.path free))
          ∙ (keys_then part.front (keys_in s.rows at.parent) (new ∷ below_dirs left s.rows at.parent) part.rest
          ∙ ap (λ (t : Bool). part.front ++ (stands_behind t s.rows at.parent ++ new ∷ (below_dirs left s.rows at.parent ++ part.rest))) (sym kind)));
    }
insert_at false s new left at kind tree free total part =
    let listed : is_listed false at.parent new ≡ true = listed_new false new at.parent at.name at.path (ap not kind) in
    let empty : walk_below left (s.rows ++ new ∷ []) new.path ≡ [] =
    empty_below left s.rows new (none_below new.path [] s.rows (some_names new.path at.parent at.name at.path) tt tree free) in record {
      parent = at.parent;
      name = at.name;
      path = at.path;
      front = part.front;
      rest = part.rest;
      begins = part.begins;
      before = part.before ∙ (ap (λ (n : ℕ). part.front ++ (walk_below n s.rows at.parent ++ part.rest)) total
          ∙ ap (λ (t : Bool). part.front ++ (stands_behind t s.rows at.parent ++ part.rest)) (sym kind));
      after = part.after ∙ (ap (λ (l : List Row). part.front ++ (l ++ part.rest)) (walk_new_dir left s.rows new at.parent listed (none_new s new at.parent at.name at.path free) empty)
          ∙ (keys_then part.front (walk_below (suc left) s.rows at.parent) (new ∷ []) part.rest
          ∙ (ap (λ (n : ℕ). part.front ++ (walk_below n s.rows at.parent ++ new ∷ part.rest)) total
          ∙ ap (λ (t : Bool). part.front ++ (stands_behind t s.rows at.parent ++ new ∷ part.rest)) (sym kind))));
    }

pub inserted_in : (s : Rows) (new : Row) → ArePlaced [] s.rows → AreApart s.rows → IsPlaced s.rows new.path → NoneAt new.path s.rows → length new.path ≤ depth_limit → IsInserted s new
inserted_in s new placed apart at free deep =
    let long : length new.path ≡ length at.parent + 1 = ap (λ (t : List (List ℕ)). length t) at.path ∙ omega (arith, length-append at.parent (at.name ∷ [])) in
    let left : ℕ = 31 - length at.parent in
    let total : suc left + length at.parent ≡ depth_limit = omega (arith, long, deep) in
    insert_at (is_key new) s new left at refl placed free (omega (arith, total))
    (part_of (length at.parent) (suc left) depth_limit s.rows new at.parent placed apart at.there refl total
    (subst (λ (t : List (List ℕ)). is_front at.parent t ≡ true) (sym at.path) (front_more at.parent (at.name ∷ []))) (omega (arith, long)))

-- a row that may be made next is inserted in its place
pub inserted : (s : Rows) (new : Row) → IsTree s → IsNewRow s new → length new.path ≤ depth_limit → IsInserted s new
inserted s new tree h deep = inserted_in s new tree.placed tree.apart h.placed h.free deep

pub all_inserted : (s : Rows) (made : List Row) → IsTree s → AreNew s made → AreShort depth_limit made → AreInserted s made
all_inserted s [] tree h short = tt
all_inserted s (new ∷ made) tree h short =
    (inserted s new tree h.0 short.0, all_inserted (with_rows s (new ∷ [])) made (tree_more s new tree h.0) h.1 short.1)

-- calls that make rows

pub create_inserts : (s : Rows) (p : List (List ℕ)) (kind : NewKey) (number : ℕ) → IsTree s → length p ≤ depth_limit → create_reply s p kind ≡ Ok number
    → AreInserted s (made_for s p (new_value kind)) × (after_create s p kind ≡ with_rows s (made_for s p (new_value kind)))
create_inserts s p kind number tree deep h =
    let makes = create_makes s p kind number h in
    (all_inserted s (made_for s p (new_value kind)) tree makes.0 (short_more (length p) depth_limit (made_for s p (new_value kind)) deep makes.1), created_with s p (new_value kind))

pub set_all_inserts : (s : Rows) (p : List (List ℕ)) (v : HeldValue) (number : ℕ) → IsTree s → length p ≤ depth_limit → set_all_reply s p v ≡ Ok number → row_at s.rows p ≡ None
    → AreInserted s (made_for s p (Some v)) × (after_set_all s p v ≡ with_rows s (made_for s p (Some v)))
set_all_inserts s p v number tree deep h free =
    let makes = set_all_makes s p v number h free in (
      all_inserted s (made_for s p (Some v)) tree makes.0 (short_more (length p) depth_limit (made_for s p (Some v)) deep makes.1),
      ap (after_set_all_at s p v) free ∙ created_with s p (Some v),
    )

pub put_inserts : (s : Rows) (p : List (List ℕ)) (v : HeldValue) (number : ℕ) → IsTree s → length p ≤ depth_limit → put_reply s p v ≡ Ok number → row_at s.rows p ≡ None
    → AreInserted s (made_for s p (Some v))
put_inserts s p v number tree deep h free =
    let makes = put_makes s p v (ok_none (put_fault s p v) (number_at s p (row_at s.rows p)) number h) free in
    all_inserted s (made_for s p (Some v)) tree makes.0 (short_more (length p) depth_limit (made_for s p (Some v)) deep makes.1)

-- the part of a directory in the walk
pub record HasPart (s : Rows) (q : List (List ℕ)) : Type 0 where
  pub front : List Row
  pub rest : List Row
  pub walk_is : walk s ≡ front ++ (walk_below (depth_limit - length q) s.rows q ++ rest)

pub directory_part : (s : Rows) (q : List (List ℕ)) → IsTree s → IsDir s.rows q → length q ≤ depth_limit → HasPart s q
unfolding walk
directory_part s q tree there deep =
    let below : Row = record { number = 0; path = q ++ [] ∷ []; value = None } in
    let part = part_of (length q) (depth_limit - length q) depth_limit s.rows below q tree.placed tree.apart there refl (omega (arith, deep))
    (front_more q ([] ∷ [])) (omega (arith, length-append q ([] ∷ []))) in
    record { front = part.front; rest = part.rest; walk_is = part.before }
