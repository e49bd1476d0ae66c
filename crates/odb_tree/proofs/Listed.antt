-- What stands in a directory is what the walk meets directly below it.
use Rattle.std.proofs.Common.{◌≡◌, ℕ, zero, suc, ◌+◌, ◌-◌, ◌<◌, ◌≤◌, Bool, true, false, not, cond, ◌&&◌, ◌==◌, List, [], ◌∷◌, ◌++◌, length, map, sum_by, Option, Some, None, Ok, inl, inr, refl, sym, ap, ◌∙◌, subst, arith, append-nil, length-append}
use Rattle.std.specs.List.{filter, flat_map}
use Rattle.std.proofs.lemmas.List.{map-append}
use Rattle.std.proofs.lemmas.List.Elements.{filter_agree}
use Rattle.std.proofs.lemmas.List.Sums.{sum_by-cons}
use Rattle.std.proofs.lemmas.List.Sorted.{sum_by-IsPermutation}
use Rattle.std.proofs.lemmas.Bool.Decides.{nat_tests}
use Rattle.odb_value.specs.Paths.{depth_limit, is_front, same_path}
use Rattle.odb_tree.specs.declared.rows.Row.{Row}
use Rattle.odb_tree.specs.declared.children.Child.{Child}
use Rattle.odb_tree.specs.declared.refusals.OdbRefusal.{OdbRefusal}
use Rattle.odb_tree.specs.declared.refusals.OdbRefusal.TheVariants.{NotDir}
use Rattle.odb_tree.specs.Rows.{Rows, row_at, is_key, is_kind, is_child, is_listed, keys_in, dirs_in}
use Rattle.odb_tree.specs.Lookups.{obstacle_to, found_row, not_dir, dir_fault}
use Rattle.odb_tree.specs.Calls.{child_of, children_of, children_or}
use Rattle.odb_tree.specs.Walks.{walk_below, walk, directly_below}
use Rattle.odb_tree.proofs.WalkLaws.{and_left, and_right, front_trans, filter_append, not_true, walk_is}
use Rattle.odb_tree.specs.WalkLaws.{below_dirs}
use Rattle.odb_tree.specs.Trees.{IsTree, IsDir, AreShort}
use Rattle.odb_tree.proofs.Trees.{same_long, same_front, same_sym}
use Rattle.odb_tree.proofs.Kept.{found_there}
use Rattle.odb_tree.proofs.Placed.{directory_part}
use Rattle.odb_tree.proofs.Whole.{has_rows}

child_long : (p q : List (List ℕ)) → is_child p q ≡ true → length q ≡ length p + 1
child_long p q h = grind (arith, nat_tests, and_left (length q == length p + 1) (is_front p q) h)

no_child : (p q : List (List ℕ)) → (length q ≡ length p + 1 → ⊥) → is_child p q ≡ false
no_child p q h = not_true (is_child p q) (λ e. h (child_long p q e))

kept : (p : List (List ℕ)) (r : Row) (rs : List Row) → is_child p r.path ≡ true → directly_below p (r ∷ rs) ≡ r ∷ directly_below p rs
kept p r rs h = ap (λ (t : Bool). cond t (r ∷ directly_below p rs) (directly_below p rs)) h

dropped : (p : List (List ℕ)) (r : Row) (rs : List Row) → is_child p r.path ≡ false → directly_below p (r ∷ rs) ≡ directly_below p rs
dropped p r rs h = ap (λ (t : Bool). cond t (r ∷ directly_below p rs) (directly_below p rs)) h

-- what is listed in a directory stands directly in it

all_kept : (keys : Bool) (p : List (List ℕ)) (rows : List Row) → directly_below p (filter (is_listed keys p) rows) ≡ filter (is_listed keys p) rows
all_kept keys p [] = refl
all_kept keys p (r ∷ rs) = cases (is_listed keys p r) refl (all_kept keys p rs)
  where
    cases : (t : Bool) → is_listed keys p r ≡ t → directly_below p (filter (is_listed keys p) rs) ≡ filter (is_listed keys p) rs
        → directly_below p (cond t (r ∷ filter (is_listed keys p) rs) (filter (is_listed keys p) rs)) ≡ cond t (r ∷ filter (is_listed keys p) rs) (filter (is_listed keys p) rs)
    cases true e h = kept p r (filter (is_listed keys p) rs) (and_right (is_kind keys r) (is_child p r.path) e) ∙ ap (λ (l : List Row). r ∷ l) h
    cases false e h = h

-- rows with more names than so many

AllDeeper : ℕ → List Row → Type 0
AllDeeper n [] = Unit {0}
AllDeeper n (r ∷ rs) = (n < length r.path) × AllDeeper n rs

deeper_append : (n : ℕ) (xs ys : List Row) → AllDeeper n xs → AllDeeper n ys → AllDeeper n (xs ++ ys)
unfolding AllDeeper
deeper_append n [] ys h k = k
deeper_append n (x ∷ xs) ys h k = (h.0, deeper_append n xs ys h.1 k)

deeper_less : (n m : ℕ) (xs : List Row) → m ≤ n → AllDeeper n xs → AllDeeper m xs
unfolding AllDeeper
deeper_less n m [] l h = tt
deeper_less n m (x ∷ xs) l h = (omega (arith, l, h.0), deeper_less n m xs l h.1)

listed_deeper : (keys : Bool) (p : List (List ℕ)) (rows : List Row) → AllDeeper (length p) (filter (is_listed keys p) rows)
unfolding AllDeeper
listed_deeper keys p [] = tt
listed_deeper keys p (r ∷ rs) = cases (is_listed keys p r) refl (listed_deeper keys p rs)
  where
    cases : (t : Bool) → is_listed keys p r ≡ t → AllDeeper (length p) (filter (is_listed keys p) rs) → AllDeeper (length p) (cond t (r ∷ filter (is_listed keys p) rs) (filter (is_listed keys p) rs))
    cases true e h = (omega (arith, child_long p r.path (and_right (is_kind keys r) (is_child p r.path) e)), h)
    cases false e h = h

dirs_deeper : (n : ℕ) (f : Row → List Row) (ds : List Row) → AllDeeper n ds → ((d : Row) → n < length d.path → AllDeeper n (f d)) → AllDeeper n (flat_map f ds)
unfolding AllDeeper
dirs_deeper n f [] h all = tt
dirs_deeper n f (d ∷ ds) h all = deeper_append n (f d) (flat_map f ds) (all d h.0) (dirs_deeper n f ds h.1 all)

-- what the walk meets below a directory has more names than its path
walk_deeper : (depth : ℕ) (rows : List Row) (q : List (List ℕ)) → AllDeeper (length q) (walk_below depth rows q)
unfolding walk_below AllDeeper
walk_deeper zero rows q = tt
walk_deeper (suc depth) rows q =
    deeper_append (length q) (keys_in rows q) (flat_map (λ (d : Row). d ∷ walk_below depth rows d.path) (dirs_in rows q)) (listed_deeper true q rows)
    (dirs_deeper (length q) (λ (d : Row). d ∷ walk_below depth rows d.path) (dirs_in rows q) (listed_deeper false q rows)
    (λ d l. (l, deeper_less (length d.path) (length q) (walk_below depth rows d.path) (omega (arith, l)) (walk_deeper depth rows d.path))))

none_deeper : (p : List (List ℕ)) (rows : List Row) → AllDeeper (length p + 1) rows → directly_below p rows ≡ []
unfolding AllDeeper
none_deeper p [] h = refl
none_deeper p (r ∷ rs) h = dropped p r rs (no_child p r.path (λ e. absurd (omega (arith, e, h.0)))) ∙ none_deeper p rs h.1

-- of the directories and what is below them, the directories

dirs_alone : (depth : ℕ) (rows : List Row) (p : List (List ℕ)) (ds : List Row) → directly_below p (flat_map (λ (d : Row). d ∷ walk_below depth rows d.path) (filter (is_listed false p) ds)) ≡ filter (is_listed false p) ds
dirs_alone depth rows p [] = refl
dirs_alone depth rows p (d ∷ ds) = cases (is_listed false p d) refl (dirs_alone depth rows p ds)
  where
    below : Row → List Row
    below e = e ∷ walk_below depth rows e.path

    cases : (t : Bool) → is_listed false p d ≡ t → directly_below p (flat_map (λ (e : Row). e ∷ walk_below depth rows e.path) (filter (is_listed false p) ds)) ≡ filter (is_listed false p) ds
        → directly_below p (flat_map (λ (e : Row). e ∷ walk_below depth rows e.path) (cond t (d ∷ filter (is_listed false p) ds) (filter (is_listed false p) ds)))
        ≡ cond t (d ∷ filter (is_listed false p) ds) (filter (is_listed false p) ds)
    cases true e h =
        let child : is_child p d.path ≡ true = and_right (is_kind false d) (is_child p d.path) e in
        let more : List Row = flat_map (λ (x : Row). x ∷ walk_below depth rows x.path) (filter (is_listed false p) ds) in
        kept p d (walk_below depth rows d.path ++ more) child
        ∙ (ap (λ (l : List Row). d ∷ l) (filter_append (λ (r : Row). is_child p r.path) (walk_below depth rows d.path) more)
        ∙ (ap (λ (l : List Row). d ∷ (l ++ directly_below p more))
        (none_deeper p (walk_below depth rows d.path) (deeper_less (length d.path) (length p + 1) (walk_below depth rows d.path) (omega (arith, child_long p d.path child)) (walk_deeper depth rows d.path)))
        ∙ ap (λ (l : List Row). d ∷ l) h))
    cases false e h = h

-- in the part of the directory

in_part : (depth : ℕ) (rows : List Row) (p : List (List ℕ)) → directly_below p (walk_below (suc depth) rows p) ≡ keys_in rows p ++ dirs_in rows p
unfolding below_dirs
in_part depth rows p =
    ap (directly_below p) (walk_is depth rows p)
    ∙ (filter_append (λ (r : Row). is_child p r.path) (keys_in rows p) (below_dirs depth rows p)
    ∙ (ap (λ (l : List Row). l ++ directly_below p (below_dirs depth rows p)) (all_kept true p rows)
    ∙ ap (λ (l : List Row). keys_in rows p ++ l) (dirs_alone depth rows p rows)))

none_short : (keys : Bool) (p : List (List ℕ)) (rows : List Row) → AreShort depth_limit rows → length p ≡ depth_limit → filter (is_listed keys p) rows ≡ []
none_short keys p [] h e = refl
none_short keys p (r ∷ rs) h e =
    ap (λ (t : Bool). cond t (r ∷ filter (is_listed keys p) rs) (filter (is_listed keys p) rs))
    (not_true (is_listed keys p r) (λ k. absurd (omega (arith, child_long p r.path (and_right (is_kind keys r) (is_child p r.path) k), h.0, e))))
    ∙ none_short keys p rs h.1 e

in_part_of : (left : ℕ) (rows : List Row) (p : List (List ℕ)) → AreShort depth_limit rows → left + length p ≡ depth_limit → directly_below p (walk_below left rows p) ≡ keys_in rows p ++ dirs_in rows p
unfolding walk_below
in_part_of zero rows p short e =
    let deep : length p ≡ depth_limit = omega (arith, e) in
    sym (ap (λ (l : List Row). l ++ dirs_in rows p) (none_short true p rows short deep) ∙ none_short false p rows short deep)
in_part_of (suc left) rows p short e = in_part left rows p

-- how many rows stand directly in the directory

counts : List (List ℕ) → Row → ℕ
counts p r = cond (is_child p r.path) 1 0

counts_is : (p : List (List ℕ)) (r : Row) (t : Bool) → is_child p r.path ≡ t → counts p r ≡ cond t 1 0
unfolding counts
counts_is p r t e = ap (λ (b : Bool). cond b 1 0) e

counted : (p : List (List ℕ)) (rows : List Row) → sum_by (counts p) rows ≡ length (directly_below p rows)
counted p [] = refl
counted p (r ∷ rs) = cases (is_child p r.path) refl (counted p rs)
  where
    cases : (t : Bool) → is_child p r.path ≡ t → sum_by (counts p) rs ≡ length (directly_below p rs) → sum_by (counts p) (r ∷ rs) ≡ length (cond t (r ∷ directly_below p rs) (directly_below p rs))
    cases true e h = omega (arith, sum_by-cons (counts p) r rs, counts_is p r true e, h)
    cases false e h = omega (arith, sum_by-cons (counts p) r rs, counts_is p r false e, h)

-- each of them is a key or a directory
two_kinds : (p : List (List ℕ)) (rows : List Row) → length (directly_below p rows) ≡ length (keys_in rows p) + length (dirs_in rows p)
two_kinds p [] = refl
two_kinds p (r ∷ rs) = cases (is_child p r.path) (is_key r) (two_kinds p rs)
  where
    cases : (c k : Bool) → length (directly_below p rs) ≡ length (keys_in rs p) + length (dirs_in rs p)
        → length (cond c (r ∷ directly_below p rs) (directly_below p rs)) ≡ length (cond (k && c) (r ∷ keys_in rs p) (keys_in rs p)) + length (cond (not k && c) (r ∷ dirs_in rs p) (dirs_in rs p))
    cases true true h = omega (arith, h)
    cases true false h = omega (arith, h)
    cases false true h = h
    cases false false h = h

empty : (xs : List Row) → length xs ≡ 0 → xs ≡ []
empty [] h = refl
empty (x ∷ xs) h = absurd (omega (arith, h))

-- the walk has the rows of the directory in its part alone
in_walk : (s : Rows) (p : List (List ℕ)) → IsTree s → AreShort depth_limit s.rows → IsDir s.rows p → length p ≤ depth_limit → directly_below p (walk s) ≡ keys_in s.rows p ++ dirs_in s.rows p
in_walk s p tree short there deep =
    let part = directory_part s p tree there deep in
    let here : List Row = walk_below (depth_limit - length p) s.rows p in
    let inside : directly_below p here ≡ keys_in s.rows p ++ dirs_in s.rows p = in_part_of (depth_limit - length p) s.rows p short (omega (arith, deep)) in
    let split : directly_below p (walk s) ≡ directly_below p part.front ++ (directly_below p here ++ directly_below p part.rest) =
    ap (directly_below p) part.walk_is
    ∙ (filter_append (λ (r : Row). is_child p r.path) part.front (here ++ part.rest)
    ∙ ap (λ (l : List Row). directly_below p part.front ++ l) (filter_append (λ (r : Row). is_child p r.path) here part.rest)) in
    let whole : length (directly_below p (walk s)) ≡ length (keys_in s.rows p) + length (dirs_in s.rows p) =
    omega (arith, counted p (walk s), sum_by-IsPermutation (counts p) (walk s) s.rows (has_rows s tree short), counted p s.rows, two_kinds p s.rows) in
    let long : length (directly_below p here) ≡ length (keys_in s.rows p) + length (dirs_in s.rows p) = ap (λ (l : List Row). length l) inside ∙ length-append (keys_in s.rows p) (dirs_in s.rows p) in
    let sum : length (directly_below p (walk s)) ≡ length (directly_below p part.front) + (length (directly_below p here) + length (directly_below p part.rest)) =
    ap (λ (l : List Row). length l) split
    ∙ (length-append (directly_below p part.front) (directly_below p here ++ directly_below p part.rest)
    ∙ ap (λ (n : ℕ). length (directly_below p part.front) + n) (length-append (directly_below p here) (directly_below p part.rest))) in
    let front : directly_below p part.front ≡ [] = empty (directly_below p part.front) (omega (arith, whole, long, sum)) in
    let rest : directly_below p part.rest ≡ [] = empty (directly_below p part.rest) (omega (arith, whole, long, sum)) in
    split
    ∙ (ap (λ (l : List Row). l ++ (directly_below p here ++ directly_below p part.rest)) front
    ∙ (ap (λ (l : List Row). directly_below p here ++ l) rest
    ∙ (append-nil (directly_below p here) ∙ inside)))

-- a directory under a path that is spelled otherwise

same_truth : (a b : Bool) → (a ≡ true → b ≡ true) → (b ≡ true → a ≡ true) → a ≡ b
same_truth true b h k = sym (h refl)
same_truth false true h k = k refl
same_truth false false h k = refl

same_child : (p q r : List (List ℕ)) → same_path p q ≡ true → is_child p r ≡ is_child q r
same_child p q r h =
    ap (λ (n : ℕ). (length r == n + 1) && is_front p r) (same_long p q h)
    ∙ ap (λ (t : Bool). (length r == length q + 1) && t)
    (same_truth (is_front p r) (is_front q r)
    (λ e. front_trans q p r (same_front q p (same_sym p q h)) e)
    (λ e. front_trans p q r (same_front p q h) e))

same_listed : (keys : Bool) (p q : List (List ℕ)) (r : Row) → same_path p q ≡ true → is_listed keys p r ≡ is_listed keys q r
same_listed keys p q r h = ap (λ (t : Bool). is_kind keys r && t) (same_child p q r.path h)

-- a directory that is found

record IsFound (s : Rows) (p : List (List ℕ)) : Type 0 where
  path : List (List ℕ)
  there : IsDir s.rows path
  same : same_path path p ≡ true

not_key : (t : Bool) → cond t (Some NotDir) None ≡ None → t ≡ false
not_key true h = absurd (cc)
not_key false h = refl

row_found : (rows : List Row) (p : List (List ℕ)) (o : Option OdbRefusal) (r : Option Row) → row_at rows p ≡ r → not_dir (found_row o r) ≡ None → (d : Row) × (row_at rows p ≡ Some d) × (is_key d ≡ false)
row_found rows p (Some x) r e h = absurd (cc)
row_found rows p None None e h = absurd (cc)
row_found rows p None (Some d) e h = (d, e, not_key (is_key d) h)

is_found : (s : Rows) (p : List (List ℕ)) → dir_fault s.rows p ≡ None → IsFound s p
is_found s [] h = record { path = []; there = inl refl; same = refl }
is_found s (name ∷ names) h =
    let d = row_found s.rows (name ∷ names) (obstacle_to s.rows (name ∷ names)) (row_at s.rows (name ∷ names)) refl h in
    let found = found_there s.rows (name ∷ names) d.0 d.1 d.2 in
    record { path = d.0.path; there = inr found.0; same = found.1 }

dir_short : (s : Rows) (p : List (List ℕ)) → AreShort depth_limit s.rows → IsDir s.rows p → length p ≤ depth_limit
dir_short s p short (inl root) = omega (arith, ap (λ (q : List (List ℕ)). length q) root)
dir_short s p short (inr has) =
    subst (λ (q : List (List ℕ)). length q ≤ depth_limit) has.path (at has.front has.dir has.back (subst (AreShort depth_limit) has.there short))
  where
    at : (front : List Row) (d : Row) (back : List Row) → AreShort depth_limit (front ++ d ∷ back) → length d.path ≤ depth_limit
    at [] d back h = h.0
    at (x ∷ xs) d back h = at xs d back h.1

-- what the walk meets directly below a directory: its keys, and then its directories
pub in_directory : (s : Rows) (p : List (List ℕ)) → IsTree s → AreShort depth_limit s.rows → IsDir s.rows p → directly_below p (walk s) ≡ keys_in s.rows p ++ dirs_in s.rows p
in_directory s p tree short there = in_walk s p tree short there (dir_short s p short there)

pub listed_in_walk : (s : Rows) (p : List (List ℕ)) → IsTree s → AreShort depth_limit s.rows → dir_fault s.rows p ≡ None → children_of s.rows p ≡ map child_of (directly_below p (walk s))
listed_in_walk s p tree short clear =
    let found = is_found s p clear in
    let q : List (List ℕ) = found.path in
    let rows_are : directly_below q (walk s) ≡ keys_in s.rows q ++ dirs_in s.rows q = in_walk s q tree short found.there (dir_short s q short found.there) in
    let same : keys_in s.rows q ++ dirs_in s.rows q ≡ keys_in s.rows p ++ dirs_in s.rows p =
    ap (λ (l : List Row). l ++ dirs_in s.rows q) (filter_agree (is_listed true q) (is_listed true p) (λ r. same_listed true q p r found.same) s.rows)
    ∙ ap (λ (l : List Row). keys_in s.rows p ++ l) (filter_agree (is_listed false q) (is_listed false p) (λ r. same_listed false q p r found.same) s.rows) in
    let below : directly_below q (walk s) ≡ directly_below p (walk s) = filter_agree (λ (r : Row). is_child q r.path) (λ (r : Row). is_child p r.path) (λ r. same_child q p r.path found.same) (walk s) in
    sym (map-append child_of (keys_in s.rows p) (dirs_in s.rows p)) ∙ ap (map child_of) (sym same ∙ (sym rows_are ∙ below))

no_fault : (rows : List Row) (p : List (List ℕ)) (o : Option OdbRefusal) (children : List Child) → children_or rows p o ≡ Ok children → (o ≡ None) × (children ≡ children_of rows p)
no_fault rows p None children h = (refl, let same : children ≡ children_of rows p = cc in same)
no_fault rows p (Some x) children h = absurd (cc)

pub list_walks : (s : Rows) (p : List (List ℕ)) (children : List Child) → IsTree s → AreShort depth_limit s.rows → children_or s.rows p (dir_fault s.rows p) ≡ Ok children
    → children ≡ map child_of (directly_below p (walk s))
list_walks s p children tree short h =
    let both = no_fault s.rows p (dir_fault s.rows p) children h in
    both.1 ∙ listed_in_walk s p tree short both.0
