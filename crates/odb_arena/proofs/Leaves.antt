-- Rows with nothing below them, and what removal one such row at a time leaves.
use Rattle.std.proofs.Common.{◌≡◌, ℕ, zero, suc, ◌+◌, ◌-◌, ◌≤◌, Bool, true, false, not, cond, ◌&&◌, ◌==◌, eqb, List, [], ◌∷◌, ◌++◌, length, map, Option, Some, None, Result, Ok, Err, refl, sym, ap, ◌∙◌, subst, arith, length-append, inl, inr, All}
use Rattle.std.specs.Prelude.{slice_get}
use Rattle.std.specs.List.{filter}
use Rattle.std.specs.Option.{option_map, option_or, unwrap_or}
use Rattle.std.proofs.lemmas.Bool.Decides.{nat_tests}
use Rattle.std.proofs.lemmas.Option.{slice_get-get_or}
use Rattle.std.proofs.lemmas.List.Elements.{All-head, All-tail}
use Rattle.odb_value.specs.Paths.{is_front, same_path, depth_limit}
use Rattle.odb_tree.specs.declared.rows.Row.{Row}
use Rattle.odb_tree.specs.declared.children.Child.{Child}
use Rattle.odb_tree.specs.declared.refusals.OdbRefusal.{OdbRefusal}
use Rattle.odb_tree.specs.Rows.{Rows, row_at, row_numbered, rows_outside, is_key, is_kind, is_child, is_listed}
use Rattle.odb_tree.specs.Lookups.{obstacle_to, found_row, seek, not_there, absent_fault}
use Rattle.odb_tree.specs.Calls.{path_with, child_of, after_delete, count_gone, delete_reply, find_reply, number_reply, reply_or}
use Rattle.odb_tree.specs.Trees.{IsDir, ArePlaced, AreRising, IsTree}
use Rattle.odb_tree.specs.Databases.{IsDatabase, IsRow}
use Rattle.odb_tree.proofs.WalkLaws.{and_left, and_right, both, true_false, not_true, front_trans}
use Rattle.odb_tree.proofs.Trees.{front_short, front_within, same_front, same_sym, same_refl, long_same}
use Rattle.odb_arena.specs.declared.tree.ArenaTree.TheInside.{Inside}
use Rattle.odb_arena.specs.Names.{entry_of, last_named, last_child}
use Rattle.odb_arena.specs.Arena.{row_of, names_at, path_at, entries_in}
use Rattle.odb_arena.specs.Inside.{rows_of, IsWholeArena}
use Rattle.odb_arena.specs.Growth.{IsLeaf}
use Rattle.odb_arena.specs.Leaves.{HasPath, StandsIn, IsWayDown, IsLeafBelow, AreRemoved}
use Rattle.odb_arena.proofs.Below.{same_whole, number_is, lt_or_le}
use Rattle.odb_arena.proofs.Finding.{iff}
use Rattle.odb_arena.proofs.Leading.{found_or, path_found, found_passes}
use Rattle.odb_arena.proofs.Growing.{some_is, one_number, path_there}
use Rattle.odb_arena.proofs.Cutting.{AreOwn, own_below}
use Rattle.odb_arena.proofs.Altering.{number_pos}
use Rattle.odb_arena.proofs.Steps.{path_known}

-- what stands last in a directory

last_some : {X : Type 0} (x : X) (xs : List X) → (y : X) × (slice_get (x ∷ xs) (length (x ∷ xs) - 1) ≡ Some y)
last_some x xs = (_, slice_get-get_or (x ∷ xs) (length (x ∷ xs) - 1) x (omega arith))

none_last : (rows : List Row) → last_named (map (λ (r : Row). entry_of (child_of r)) rows) ≡ None → rows ≡ []
none_last [] h = refl
none_last (r ∷ rs) h =
    let last = last_some (entry_of (child_of r)) (map (λ (r : Row). entry_of (child_of r)) rs) in
    let no : Some last.0.1 ≡ None = sym (ap (option_map (λ (e : List ℕ × Child). e.1)) last.1) ∙ h in absurd (cc)

-- a child that is listed has its row
listed_at : (row : ℕ → Option Row) (keys : Bool) (p : List (List ℕ)) (rows : List Row) (i : ℕ) (e : List ℕ × Child) → AreOwn row rows
    → slice_get (map (λ (r : Row). entry_of (child_of r)) (filter (is_listed keys p) rows)) i ≡ Some e → (r : Row) × (e.1 ≡ child_of r) × (is_child p r.path ≡ true) × (row r.number ≡ Some r)
listed_at row keys p [] i e own h = absurd (cc)
listed_at row keys p (r ∷ rs) i e own h = cases (is_listed keys p r) refl i (λ j k. listed_at row keys p rs j e own.1 k) h
  where
    cases : (t : Bool) → is_listed keys p r ≡ t → (i : ℕ)
        → ((j : ℕ) → slice_get (map (λ (r : Row). entry_of (child_of r)) (filter (is_listed keys p) rs)) j ≡ Some e → (r : Row) × (e.1 ≡ child_of r) × (is_child p r.path ≡ true) × (row r.number ≡ Some r))
        → slice_get (map (λ (r : Row). entry_of (child_of r)) (cond t (r ∷ filter (is_listed keys p) rs) (filter (is_listed keys p) rs))) i ≡ Some e
        → (r : Row) × (e.1 ≡ child_of r) × (is_child p r.path ≡ true) × (row r.number ≡ Some r)
    cases false l i rest h = rest i h
    cases true l zero rest h = (r, ap (λ (x : List ℕ × Child). x.1) (sym (some_is (entry_of (child_of r)) e h)), and_right (is_kind keys r) (is_child p r.path) l, own.0)
    cases true l (suc i) rest h = rest i h

last_found : (row : ℕ → Option Row) (keys : Bool) (p : List (List ℕ)) (rows : List Row) (c : Child) → AreOwn row rows → last_named (entries_in keys rows p) ≡ Some c
    → (r : Row) × (c ≡ child_of r) × (is_child p r.path ≡ true) × (row r.number ≡ Some r)
last_found row keys p rows c own h = from (slice_get (entries_in keys rows p) (length (entries_in keys rows p) - 1)) refl h
  where
    from : (o : Option (List ℕ × Child)) → slice_get (entries_in keys rows p) (length (entries_in keys rows p) - 1) ≡ o → option_map (λ (e : List ℕ × Child). e.1) o ≡ Some c
        → (r : Row) × (c ≡ child_of r) × (is_child p r.path ≡ true) × (row r.number ≡ Some r)
    from None at k = absurd (cc)
    from (Some e) at k =
        let found = listed_at row keys p rows (length (entries_in keys rows p) - 1) e own at in
        (found.0, sym (some_is e.1 c k) ∙ found.1, found.2, found.3)

row_path : (t : Inside) (s : Rows) (k : ℕ) (r : Row) → IsWholeArena t → rows_of t ≡ s → row_of t.nodes.entries k ≡ Some r → path_with s.rows k ≡ Some r.path
row_path t s k r h is e =
    path_known t s k h is
    ∙ path_there (row_of t.nodes.entries) k r (number_pos (row_of t.nodes.entries) (names_at t.root t.nodes.entries) t.next t.count t.bytes k r h e) e

or_none : {X : Type 0} (a b : Option X) → option_or a b ≡ None → (a ≡ None) × (b ≡ None)
or_none None b h = (refl, h)
or_none (Some x) b h = absurd (cc)

-- what the names in a directory have last stands there
pub stands_in : (t : Inside) (s : Rows) (p : List (List ℕ)) (at : ℕ) (found : Option Child) → IsWholeArena t → rows_of t ≡ s → path_with s.rows at ≡ Some p
    → found ≡ last_child (unwrap_or (names_at t.root t.nodes.entries true at) []) (unwrap_or (names_at t.root t.nodes.entries false at) []) → StandsIn s p found
stands_in t s p at found h is there e = from found (e ∙ names_are)
  where
    here : path_at (row_of t.nodes.entries) at ≡ Some p
    here = sym (path_known t s at h is) ∙ there

    names_are : last_child (unwrap_or (names_at t.root t.nodes.entries true at) []) (unwrap_or (names_at t.root t.nodes.entries false at) [])
        ≡ last_child (entries_in true (rows_of t).rows p) (entries_in false (rows_of t).rows p)
    names_are =
        ap (λ (o : Option (List (List ℕ × Child))). last_child (unwrap_or o []) (unwrap_or (names_at t.root t.nodes.entries false at) [])) (h.named true at p here)
        ∙ ap (λ (o : Option (List (List ℕ × Child))). last_child (entries_in true (rows_of t).rows p) (unwrap_or o [])) (h.named false at p here)

    row_in : (c : Child) → ((r : Row) × (c ≡ child_of r) × (is_child p r.path ≡ true) × (row_of t.nodes.entries r.number ≡ Some r)) → (q : List (List ℕ)) × (path_with s.rows c.row ≡ Some q) × (is_child p q ≡ true)
    row_in c w = (w.0.path, ap (λ (x : Child). path_with s.rows x.row) w.1 ∙ row_path t s w.0.number w.0 h is w.3, w.2)

    own : AreOwn (row_of t.nodes.entries) (rows_of t).rows
    own = own_below (row_of t.nodes.entries) t.next t.next h.numbered

    some : (c : Child) (o : Option Child) → last_named (entries_in false (rows_of t).rows p) ≡ o → option_or o (last_named (entries_in true (rows_of t).rows p)) ≡ Some c
        → (q : List (List ℕ)) × (path_with s.rows c.row ≡ Some q) × (is_child p q ≡ true)
    some c None f k = row_in c (last_found (row_of t.nodes.entries) true p (rows_of t).rows c own k)
    some c (Some d) f k = row_in c (last_found (row_of t.nodes.entries) false p (rows_of t).rows c own (f ∙ k))

    none : (last_named (entries_in false (rows_of t).rows p) ≡ None) × (last_named (entries_in true (rows_of t).rows p) ≡ None) → (keys : Bool) → filter (is_listed keys p) s.rows ≡ []
    none w true = ap (λ (x : Rows). filter (is_listed true p) x.rows) (sym is) ∙ none_last (filter (is_listed true p) (rows_of t).rows) w.1
    none w false = ap (λ (x : Rows). filter (is_listed false p) x.rows) (sym is) ∙ none_last (filter (is_listed false p) (rows_of t).rows) w.0

    from : (o : Option Child) → o ≡ last_child (entries_in true (rows_of t).rows p) (entries_in false (rows_of t).rows p) → StandsIn s p o
    from None k = none (or_none (last_named (entries_in false (rows_of t).rows p)) (last_named (entries_in true (rows_of t).rows p)) (sym k))
    from (Some c) k = some c (last_named (entries_in false (rows_of t).rows p)) refl (sym k)

-- no row below this path

abbrev pub AreAbove : List (List ℕ) → List Row → Type 0
AreAbove q [] = Unit {0}
AreAbove q (r ∷ rs) = (is_front q r.path ≡ true → length r.path ≤ length q) × AreAbove q rs

above_push : (q : List (List ℕ)) (xs : List Row) (r : Row) → AreAbove q xs → (is_front q r.path ≡ true → length r.path ≤ length q) → AreAbove q (xs ++ r ∷ [])
above_push q [] r h k = (k, tt)
above_push q (x ∷ xs) r h k = (h.0, above_push q xs r h.1 k)

above_at : (q : List (List ℕ)) (front : List Row) (d : Row) (back : List Row) → AreAbove q (front ++ d ∷ back) → is_front q d.path ≡ true → length d.path ≤ length q
above_at q [] d back h = h.0
above_at q (x ∷ xs) d back h = above_at q xs d back h.1

empty_cond : (t : Bool) (x : Row) (l : List Row) → cond t (x ∷ l) l ≡ [] → (t ≡ false) × (l ≡ [])
empty_cond true x l h = absurd (cc)
empty_cond false x l h = (refl, h)

neither : (k c : Bool) → k && c ≡ false → not k && c ≡ false → c ≡ false
neither true c h g = h
neither false c h g = g

-- where nothing is listed in a directory, nothing is below it
above_all : (q : List (List ℕ)) (before rows : List Row) → ArePlaced before rows → ((keys : Bool) → filter (is_listed keys q) rows ≡ []) → AreAbove q before → AreAbove q rows
above_all q before [] h none above = tt
above_all q before (r ∷ rs) h none above = (first, above_all q (before ++ r ∷ []) rs h.1 (λ keys. (empty_cond (is_listed keys q r) r (filter (is_listed keys q) rs) (none keys)).1) (above_push q before r above first))
  where
    no_child : is_child q r.path ≡ false
    no_child =
        neither (is_key r) (is_child q r.path) (empty_cond (is_listed true q r) r (filter (is_listed true q) rs) (none true)).0
        (empty_cond (is_listed false q r) r (filter (is_listed false q) rs) (none false)).0

    long : length r.path ≡ length h.0.parent + 1
    long = ap (λ (p : List (List ℕ)). length p) h.0.path ∙ length-append h.0.parent (h.0.name ∷ [])

    in_dir : IsDir before h.0.parent → is_front q h.0.parent ≡ true → length q ≤ length h.0.parent → length h.0.parent ≤ length q
    in_dir (inl root) f l = omega (arith, ap (λ (p : List (List ℕ)). length p) root)
    in_dir (inr has) f l =
        omega (
          arith,
          above_at q has.front has.dir has.back (subst (AreAbove q) has.there above) (subst (λ (p : List (List ℕ)). is_front q p ≡ true) (sym has.path) f),
          ap (λ (p : List (List ℕ)). length p) has.path,
        )

    longer : (a b c : ℕ) → a ≡ b + 1 → b ≤ c → c ≤ b → eqb a (c + 1) ≡ true
    longer a b c e l m = grind (arith, nat_tests, e, l, m)

    deeper : is_front q r.path ≡ true → length q ≤ length h.0.parent → length r.path ≤ length q
    deeper f l =
        let within : is_front q h.0.parent ≡ true = front_within q h.0.parent (h.0.name ∷ []) (subst (λ (p : List (List ℕ)). is_front q p ≡ true) h.0.path f) l in
        let child : is_child q r.path ≡ true = both (length r.path == length q + 1) (is_front q r.path) (longer (length r.path) (length h.0.parent) (length q) long (in_dir h.0.there within l) l) f in
        absurd (true_false (is_child q r.path) child no_child)

    first : is_front q r.path ≡ true → length r.path ≤ length q
    first f = elim (lt_or_le (length h.0.parent) (length q)) [ inl w ↦ omega (arith, w, long) | inr w ↦ deeper f w ]

-- nor is anything below the longest paths
above_deep : (links : Bool) (q : List (List ℕ)) (rows : List Row) → All (IsRow links) rows → depth_limit ≤ length q → AreAbove q rows
above_deep links q [] are l = tt
above_deep links q (r ∷ rs) are l = (λ f. omega (arith, (All-head (IsRow links) r rs are).path.short, l), above_deep links q rs (All-tail (IsRow links) r rs are) l)

above_found : (q : List (List ℕ)) (rows : List Row) (k : ℕ) (r : Row) → AreAbove q rows → row_numbered rows k ≡ Some r → is_front q r.path ≡ true → length r.path ≤ length q
above_found q [] k r h e f = absurd (cc)
above_found q (x ∷ xs) k r h e f =
    elim (found_or (eqb x.number k) x r (row_numbered xs k) e) [
      | inl w ↦ subst (λ (y : Row). is_front q y.path ≡ true → length y.path ≤ length q) w.1 h.0 f
      | inr w ↦ above_found q xs k r h.1 w.1 f
    ]

-- the way down

pub way_begins : (s : Rows) (p : List (List ℕ)) (number : ℕ) → path_with s.rows number ≡ Some p → IsWayDown s p 0 number
way_begins s p number h = record { path = p; there = h; below = same_front p p (same_refl p); long = omega arith }

pub way_further : (s : Rows) (p : List (List ℕ)) (depth at : ℕ) (child : Child) (way : IsWayDown s p depth at) → StandsIn s way.path (Some child) → IsWayDown s p (depth + 1) child.row
way_further s p depth at child way h = record {
  path = h.0;
  there = h.1;
  below = front_trans p way.path h.0 way.below (and_right (length h.0 == length way.path + 1) (is_front way.path h.0) h.2);
  long = omega (arith, way.long, lengths (length h.0) (length way.path) (and_left (length h.0 == length way.path + 1) (is_front way.path h.0) h.2));
}
  where
    lengths : (a b : ℕ) → eqb a (b + 1) ≡ true → a ≡ b + 1
    lengths a b e = grind (arith, nat_tests, e)

way_ends : (t : Inside) (s : Rows) (p : List (List ℕ)) (depth at : ℕ) → IsWholeArena t → rows_of t ≡ s → (way : IsWayDown s p depth at) → AreAbove way.path s.rows → IsLeafBelow s p at
way_ends t s p depth at h is way above = record { path = way.path; there = way.there; below = way.below; alone = alone; root = λ e. empty e s.rows refl }
  where
    alone : (k : ℕ) (r : Row) → row_numbered s.rows k ≡ Some r → is_front way.path r.path ≡ true → k ≡ at
    alone k r e f =
        let here : row_of t.nodes.entries k ≡ Some r = sym (number_is (row_of t.nodes.entries) t.next k h.numbered) ∙ (ap (λ (x : Rows). row_numbered x.rows k) is ∙ e) in
        let long : length way.path ≡ length r.path = omega (arith, front_short way.path r.path f, above_found way.path s.rows k r above e f) in
        sym (one_number (row_of t.nodes.entries) (names_at t.root t.nodes.entries) t.next t.count t.bytes at k way.path r.path h (sym (path_known t s at h is) ∙ way.there)
        (sym (path_known t s k h is) ∙ row_path t s k r h is here) (long_same way.path r.path long f))

    own : (n : ℕ) → eqb n n ≡ true
    own n = grind (arith, nat_tests)

    is_root : at ≡ 0 → way.path ≡ []
    is_root e = let same : Some [] ≡ Some way.path = sym (ap (path_with s.rows) e) ∙ way.there in sym (some_is [] way.path same)

    empty : at ≡ 0 → (rows : List Row) → s.rows ≡ rows → s.rows ≡ []
    empty e [] f = f
    empty e (r ∷ rs) f =
        let there : row_numbered s.rows r.number ≡ Some r = ap (λ (l : List Row). row_numbered l r.number) f ∙ ap (λ (t : Bool). cond t (Some r) (row_numbered rs r.number)) (own r.number) in
        let zero : r.number ≡ 0 = alone r.number r there (ap (λ (q : List (List ℕ)). is_front q r.path) (is_root e)) ∙ e in
        let tree : IsTree s = subst IsTree is h.database.tree in
        absurd (omega (arith, zero, (subst (λ (l : List Row). AreRising 1 l s.next) f tree.numbered).0))

-- nothing stands in this one
pub way_stops : (t : Inside) (s : Rows) (p : List (List ℕ)) (depth at : ℕ) → IsWholeArena t → rows_of t ≡ s → (way : IsWayDown s p depth at) → StandsIn s way.path None → IsLeafBelow s p at
way_stops t s p depth at h is way none =
    way_ends t s p depth at h is way (above_all way.path [] s.rows (subst IsTree is h.database.tree).placed none tt)

-- a path cannot be longer
pub way_deepest : (t : Inside) (s : Rows) (p : List (List ℕ)) (depth at : ℕ) → IsWholeArena t → rows_of t ≡ s → depth_limit ≤ depth → IsWayDown s p depth at → IsLeafBelow s p at
way_deepest t s p depth at h is l way =
    way_ends t s p depth at h is way (above_deep s.links way.path s.rows (subst IsDatabase is h.database).rows (omega (arith, way.long, l)))

-- one row after the other is removed

from_number : (o : Option Row) (p : List (List ℕ)) → option_map (λ (r : Row). r.path) o ≡ Some p → (r : Row) × (o ≡ Some r) × (r.path ≡ p)
from_number None p h = absurd (cc)
from_number (Some r) p h = (r, refl, some_is r.path p h)

not_zero : (n : ℕ) → (n ≡ 0 → ⊥) → eqb n 0 ≡ false
not_zero n h = not_true (eqb n 0) (λ e. h (grind (arith, nat_tests, e)))

row_with : (rows : List Row) (n : ℕ) (p : List (List ℕ)) → (n ≡ 0 → ⊥) → path_with rows n ≡ Some p → (r : Row) × (row_numbered rows n ≡ Some r) × (r.path ≡ p)
row_with rows n p some h =
    from_number (row_numbered rows n) p (sym (ap (λ (t : Bool). cond t (Some []) (option_map (λ (r : Row). r.path) (row_numbered rows n))) (not_zero n some)) ∙ h)

pub leaf_is : (s : Rows) (p : List (List ℕ)) (n : ℕ) → IsLeafBelow s p n → (n ≡ 0 → ⊥) → IsLeaf s n
leaf_is s p n leaf some =
    let r = row_with s.rows n leaf.path some leaf.there in
    record { row = r.0; there = r.1; alone = λ k x e f. leaf.alone k x e (subst (λ (q : List (List ℕ)). is_front q x.path ≡ true) r.2 f) }

-- a row that stays is found as before
stays_numbered : (test : Row → Bool) (rows : List Row) (k : ℕ) (r : Row) → row_numbered rows k ≡ Some r → test r ≡ true → row_numbered (filter test rows) k ≡ Some r
stays_numbered test [] k r e f = absurd (cc)
stays_numbered test (x ∷ xs) k r e f = elim (found_or (eqb x.number k) x r (row_numbered xs k) e) [ inl w ↦ here w.0 w.1 | inr w ↦ later w.0 (stays_numbered test xs k r w.1 f) ]
  where
    here : eqb x.number k ≡ true → x ≡ r → row_numbered (cond (test x) (x ∷ filter test xs) (filter test xs)) k ≡ Some r
    here n same =
        ap (λ (t : Bool). row_numbered (cond t (x ∷ filter test xs) (filter test xs)) k) (subst (λ (y : Row). test y ≡ true) (sym same) f)
        ∙ (ap (λ (t : Bool). cond t (Some x) (row_numbered (filter test xs) k)) n ∙ ap (λ (y : Row). Some y) same)

    later : eqb x.number k ≡ false → row_numbered (filter test xs) k ≡ Some r → row_numbered (cond (test x) (x ∷ filter test xs) (filter test xs)) k ≡ Some r
    later n ih = cases (test x)
      where
        cases : (t : Bool) → row_numbered (cond t (x ∷ filter test xs) (filter test xs)) k ≡ Some r
        cases true = ap (λ (t : Bool). cond t (Some x) (row_numbered (filter test xs) k)) n ∙ ih
        cases false = ih

no_longer : (test : Row → Bool) (rows : List Row) → length (filter test rows) ≤ length rows
no_longer test [] = omega arith
no_longer test (x ∷ xs) = cases (test x) (no_longer test xs)
  where
    cases : (t : Bool) → length (filter test xs) ≤ length xs → length (cond t (x ∷ filter test xs) (filter test xs)) ≤ length (x ∷ xs)
    cases true h = omega (arith, h)
    cases false h = omega (arith, h)

one_fewer : (test : Row → Bool) (rows : List Row) (k : ℕ) (r : Row) → row_numbered rows k ≡ Some r → test r ≡ false → length (filter test rows) + 1 ≤ length rows
one_fewer test [] k r e f = absurd (cc)
one_fewer test (x ∷ xs) k r e f = elim (found_or (eqb x.number k) x r (row_numbered xs k) e) [ inl w ↦ here w.1 | inr w ↦ later (test x) (one_fewer test xs k r w.1 f) ]
  where
    here : x ≡ r → length (cond (test x) (x ∷ filter test xs) (filter test xs)) + 1 ≤ length (x ∷ xs)
    here same =
        subst (λ (t : Bool). length (cond t (x ∷ filter test xs) (filter test xs)) + 1 ≤ length (x ∷ xs)) (sym (subst (λ (y : Row). test y ≡ false) (sym same) f))
        (omega (arith, no_longer test xs))

    later : (t : Bool) → length (filter test xs) + 1 ≤ length xs → length (cond t (x ∷ filter test xs) (filter test xs)) + 1 ≤ length (x ∷ xs)
    later true h = omega (arith, h)
    later false h = omega (arith, h)

-- what is outside a path is what is outside it of the rows that are outside one below it
outside_twice : (rows : List Row) (p q : List (List ℕ)) → is_front p q ≡ true → rows_outside (rows_outside rows q) p ≡ rows_outside rows p
outside_twice [] p q h = refl
outside_twice (r ∷ rs) p q h = cases (is_front q r.path) (is_front p r.path) refl refl (outside_twice rs p q h)
  where
    cases : (s t : Bool) → is_front q r.path ≡ s → is_front p r.path ≡ t → rows_outside (rows_outside rs q) p ≡ rows_outside rs p
        → rows_outside (cond (not s) (r ∷ rows_outside rs q) (rows_outside rs q)) p ≡ cond (not t) (r ∷ rows_outside rs p) (rows_outside rs p)
    cases true true e f ih = ih
    cases true false e f ih = absurd (true_false (is_front p r.path) (front_trans p q r.path h e) f)
    cases false true e f ih = ap (λ (v : Bool). cond (not v) (r ∷ rows_outside (rows_outside rs q) p) (rows_outside (rows_outside rs q) p)) f ∙ ih
    cases false false e f ih =
        ap (λ (v : Bool). cond (not v) (r ∷ rows_outside (rows_outside rs q) p) (rows_outside (rows_outside rs q) p)) f ∙ ap (λ (l : List Row). r ∷ l) ih

pub removal_begins : (s : Rows) (number : ℕ) → HasPath s number → AreRemoved s s number 0
removal_begins s number h = record { path = h.0; was = h.1; there = h.1; left = refl; next = refl; links = refl; fewer = omega arith }

-- the rows without a leaf
without_leaf : (s s' : Rows) (p : List (List ℕ)) (n : ℕ) (leaf : IsLeafBelow s p n) → (n ≡ 0 → ⊥) → ((r : Row) → row_numbered s.rows n ≡ Some r → s' ≡ after_delete s r.path) → s' ≡ after_delete s leaf.path
without_leaf s s' p n leaf some h =
    let r = row_with s.rows n leaf.path some leaf.there in
    h r.0 r.1 ∙ ap (after_delete s) r.2

pub removal_goes_on : (old s s' : Rows) (number gone n : ℕ) (done : AreRemoved old s number gone) → IsLeafBelow s done.path n → (n ≡ 0 → ⊥) → (n ≡ number → ⊥)
    → ((r : Row) → row_numbered s.rows n ≡ Some r → s' ≡ after_delete s r.path) → AreRemoved old s' number (gone + 1)
removal_goes_on old s s' number gone n done leaf some other h = record {
  path = done.path;
  was = done.was;
  there = ap (λ (x : Rows). path_with x.rows number) cut ∙ still (eqb number 0) refl;
  left = ap (λ (x : Rows). rows_outside x.rows done.path) cut ∙ (outside_twice s.rows done.path leaf.path leaf.below ∙ done.left);
  next = ap (λ (x : Rows). x.next) cut ∙ done.next;
  links = ap (λ (x : Rows). x.links) cut ∙ done.links;
  fewer = omega (arith, done.fewer, ap (λ (x : Rows). length x.rows) cut, one_fewer (λ (r : Row). not (is_front leaf.path r.path)) s.rows n row.0 row.1 goes);
}
  where
    cut : s' ≡ after_delete s leaf.path
    cut = without_leaf s s' done.path n leaf some h

    row : (r : Row) × (row_numbered s.rows n ≡ Some r) × (r.path ≡ leaf.path)
    row = row_with s.rows n leaf.path some leaf.there

    goes : not (is_front leaf.path row.0.path) ≡ false
    goes = ap not (ap (is_front leaf.path) row.2 ∙ same_front leaf.path leaf.path (same_refl leaf.path))

    is_zero : (k : ℕ) → eqb k 0 ≡ false → k ≡ 0 → ⊥
    is_zero k e f = absurd (grind (arith, nat_tests, e, f))

    still : (t : Bool) → eqb number 0 ≡ t → path_with (rows_outside s.rows leaf.path) number ≡ Some done.path
    still true e =
        ap (λ (t : Bool). cond t (Some []) (option_map (λ (r : Row). r.path) (row_numbered (rows_outside s.rows leaf.path) number))) e
        ∙ (sym (ap (λ (t : Bool). cond t (Some []) (option_map (λ (r : Row). r.path) (row_numbered s.rows number))) e) ∙ done.there)
    still false e =
        let top = row_with s.rows number done.path (is_zero number e) done.there in
        let apart : is_front leaf.path top.0.path ≡ false = not_true (is_front leaf.path top.0.path) (λ f. other (sym (leaf.alone number top.0 top.1 f))) in
        ap (λ (t : Bool). cond t (Some []) (option_map (λ (r : Row). r.path) (row_numbered (rows_outside s.rows leaf.path) number))) e
        ∙ (ap (option_map (λ (r : Row). r.path)) (stays_numbered (λ (r : Row). not (is_front leaf.path r.path)) s.rows number top.0 top.1 (ap not apart))
        ∙ ap (λ (q : List (List ℕ)). Some q) top.2)

-- no rows are left
removal_empty : (old s : Rows) (number gone : ℕ) (done : AreRemoved old s number gone) → s.rows ≡ [] → s ≡ after_delete old done.path
removal_empty old s number gone done none =
    same_whole s.rows (rows_outside old.rows done.path) s.next old.next s.links old.links (none ∙ (sym (ap (λ (l : List Row). rows_outside l done.path) none) ∙ done.left)) done.next done.links

path_is_top : (old s : Rows) (number gone : ℕ) (p : List (List ℕ)) (done : AreRemoved old s number gone) → path_with old.rows number ≡ Some p → done.path ≡ p
path_is_top old s number gone p done e = some_is done.path p (sym done.was ∙ e)

-- the root has nothing left below it
pub removal_of_root : (old s : Rows) (number gone n : ℕ) (p : List (List ℕ)) (done : AreRemoved old s number gone) → IsLeafBelow s done.path n → n ≡ 0 → path_with old.rows number ≡ Some p → s ≡ after_delete old p
removal_of_root old s number gone n p done leaf e is = removal_empty old s number gone done (leaf.root e) ∙ ap (after_delete old) (path_is_top old s number gone p done is)

-- all went
pub removal_of_all : (old s : Rows) (number gone : ℕ) (p : List (List ℕ)) → AreRemoved old s number gone → length old.rows ≤ gone → path_with old.rows number ≡ Some p → s ≡ after_delete old p
removal_of_all old s number gone p done l is = removal_empty old s number gone done (nothing s.rows (omega (arith, done.fewer, l))) ∙ ap (after_delete old) (path_is_top old s number gone p done is)
  where
    nothing : (rows : List Row) → length rows ≤ 0 → rows ≡ []
    nothing [] h = refl
    nothing (r ∷ rs) h = absurd (omega (arith, h))

-- the row itself goes last
pub removal_of_top : (old s s' : Rows) (number gone n : ℕ) (p : List (List ℕ)) (done : AreRemoved old s number gone) → IsLeafBelow s done.path n → (n ≡ 0 → ⊥) → n ≡ number
    → ((r : Row) → row_numbered s.rows n ≡ Some r → s' ≡ after_delete s r.path) → path_with old.rows number ≡ Some p → s' ≡ after_delete old p
removal_of_top old s s' number gone n p done leaf some e h is =
    let same : leaf.path ≡ done.path = some_is leaf.path done.path (sym leaf.there ∙ (ap (path_with s.rows) e ∙ done.there)) in
    without_leaf s s' done.path n leaf some h
    ∙ (ap (after_delete s) same
    ∙ (same_whole (rows_outside s.rows done.path) (rows_outside old.rows done.path) s.next old.next s.links old.links done.left done.next done.links ∙ ap (after_delete old) (path_is_top old s number gone p done is)))

-- `delete`, from what `find` replies

record IsFoundAt (s : Rows) (path : List (List ℕ)) (n : ℕ) : Type 0 where
  own : List (List ℕ)
  there : path_with s.rows n ≡ Some own
  same : same_path own path ≡ true
  present : absent_fault s.rows path ≡ None

found_there : (s : Rows) (path : List (List ℕ)) (n : ℕ) → IsTree s → Ok n ≡ find_reply s path → IsFoundAt s path n
found_there s [] n tree h = record { own = []; there = ap (path_with s.rows) (number h); same = refl; present = refl }
  where
    number : (let r : Result ℕ OdbRefusal = Ok n in r) ≡ Ok 0 → n ≡ 0
    number e = cc
found_there s (x ∷ xs) n tree h = from (obstacle_to s.rows (x ∷ xs)) (row_at s.rows (x ∷ xs)) refl refl h
  where
    number : (r : Row) → (let r : Result ℕ OdbRefusal = Ok n in r) ≡ Ok r.number → n ≡ r.number
    number r e = cc

    from : (o : Option OdbRefusal) (r : Option Row) → obstacle_to s.rows (x ∷ xs) ≡ o → row_at s.rows (x ∷ xs) ≡ r → Ok n ≡ number_reply (found_row o r) → IsFoundAt s (x ∷ xs) n
    from (Some refusal) r f e k = absurd (cc)
    from None None f e k = absurd (cc)
    from None (Some r) f e k = record {
      own = r.path;
      there = ap (path_with s.rows) (number r k) ∙ path_found s (x ∷ xs) r tree e;
      same = found_passes s.rows (x ∷ xs) r e;
      present = ap (λ (y : Option OdbRefusal). not_there (found_row y (row_at s.rows (x ∷ xs)))) f ∙ ap (λ (y : Option Row). not_there (found_row None y)) e;
    }

outside_same : (rows : List Row) (p q : List (List ℕ)) → same_path p q ≡ true → rows_outside rows p ≡ rows_outside rows q
outside_same [] p q h = refl
outside_same (r ∷ rs) p q h =
    ap (λ (t : Bool). cond (not t) (r ∷ rows_outside rs p) (rows_outside rs p)) (iff (is_front p r.path) (is_front q r.path) (λ e. front_trans q p r.path (same_front q p (same_sym p q h)) e) (λ e. front_trans p q r.path (same_front p q h) e))
    ∙ ap (λ (l : List Row). cond (not (is_front q r.path)) (r ∷ l) l) (outside_same rs p q h)

pub find_has_path : (s : Rows) (path : List (List ℕ)) (n : ℕ) → IsTree s → Ok n ≡ find_reply s path → HasPath s n
find_has_path s path n tree h = let found = found_there s path n tree h in (found.own, found.there)

pub deleted : (s s' : Rows) (path : List (List ℕ)) (n : ℕ) → IsTree s → Ok n ≡ find_reply s path → ((p : List (List ℕ)) → path_with s.rows n ≡ Some p → s' ≡ after_delete s p) → s' ≡ after_delete s path
deleted s s' path n tree h k =
    let found = found_there s path n tree h in
    k found.own found.there ∙ ap (λ (l : List Row). record s { rows = l }) (outside_same s.rows found.own path found.same)

pub delete_replies : (s s' : Rows) (path : List (List ℕ)) (n : ℕ) → IsTree s → Ok n ≡ find_reply s path → s' ≡ after_delete s path → delete_reply s path ≡ Ok (length s.rows - length s'.rows)
delete_replies s s' path n tree h is =
    let found = found_there s path n tree h in
    ap (λ (o : Option OdbRefusal). reply_or o (count_gone s path)) found.present ∙ ap (λ (x : Rows). Ok (length s.rows - length x.rows)) (sym is)

pub left_fewer : (s s' : Rows) (path : List (List ℕ)) → s' ≡ after_delete s path → length s'.rows ≤ length s.rows
left_fewer s s' path is = omega (arith, ap (λ (x : Rows). length x.rows) is, no_longer (λ (r : Row). not (is_front path r.path)) s.rows)

pub delete_refused : (s : Rows) (path : List (List ℕ)) (e : OdbRefusal) → Err e ≡ find_reply s path → delete_reply s path ≡ Err e
delete_refused s [] e h = absurd (cc)
delete_refused s (x ∷ xs) e h = from (seek s.rows (x ∷ xs)) h
  where
    from : (r : Result Row OdbRefusal) → Err e ≡ number_reply r → reply_or (not_there r) (count_gone s (x ∷ xs)) ≡ Err e
    from (Ok r) k = absurd (cc)
    from (Err y) k = sym k

pub delete_reply_is : (s s' : Rows) (path : List (List ℕ)) (n before after : ℕ) → IsTree s → Ok n ≡ find_reply s path → s' ≡ after_delete s path → before ≡ length s.rows → after ≡ length s'.rows
    → Ok (before - after) ≡ delete_reply s path
delete_reply_is s s' path n before after tree h is was now =
    ap (λ (k : ℕ). Ok (k - after)) was ∙ (ap (λ (k : ℕ). Ok (length s.rows - k)) now ∙ sym (delete_replies s s' path n tree h is))
