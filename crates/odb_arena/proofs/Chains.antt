-- Rows made one below the other, and taken back.
use Rattle.std.proofs.Common.{◌≡◌, ℕ, zero, suc, ◌+◌, ◌-◌, ◌<◌, ◌≤◌, Bool, true, false, not, cond, eqb, List, [], ◌∷◌, ◌++◌, length, take, drop, get_or, Option, Some, None, Result, Ok, Err, refl, sym, ap, ◌∙◌, subst, arith, length-append, append_assoc, append-nil, inl, inr}
use Rattle.std.specs.Prelude.{All, IfOk, OnOk}
use Rattle.std.specs.Option.{option_or, unwrap_or}
use Rattle.std.proofs.lemmas.Bool.Decides.{nat_tests}
use Rattle.std.proofs.lemmas.List.{take-append-drop, length-take-le, length-drop, take_all, drop_all, take_more, drop_more}
use Rattle.std.proofs.lemmas.List.Sums.{sum_by-append, sum_by-cons}
use Rattle.odb_value.specs.Paths.{same_name, is_front, same_path}
use Rattle.odb_value.specs.Values.{HeldValue}
use Rattle.odb_tree.specs.declared.rows.Row.{Row}
use Rattle.odb_tree.specs.Rows.{Rows, no_rows, row_at, row_numbered, rows_outside, bytes_of_row, total_of}
use Rattle.odb_tree.specs.Lookups.{parent_of, obstacle_from}
use Rattle.odb_tree.specs.Making.{Way, further, go_on, no_way, way_to, last_of, new_row, new_number, created}
use Rattle.odb_tree.specs.Calls.{path_with, after_delete}
use Rattle.odb_tree.specs.Places.{made_for}
use Rattle.odb_tree.specs.Trees.{AreApart, AreRising, IsTree, AreNew, with_rows}
use Rattle.odb_tree.specs.Databases.{IsDatabase, IsRow}
use Rattle.odb_tree.specs.WalkLaws.{NoneAt}
use Rattle.odb_tree.proofs.WalkLaws.{and_left, and_right, both, not_true, filter_append}
use Rattle.odb_tree.proofs.Trees.{tree_more, with_more, same_rows, same_long, same_front, long_same, same_refl, none_same}
use Rattle.odb_tree.proofs.Kept.{made_new, created_with}
use Rattle.odb_tree.proofs.Placed.{none_around}
use Rattle.odb_arena.specs.declared.reaching.Reached.{Reached}
use Rattle.odb_arena.specs.Reaching.{StopsAtRow, IsReached, obstacle_met}
use Rattle.odb_arena.specs.Growth.{dir_path, row_in_dir, chain, without_last, CanAdd, CanGrow, CanMake, IsLeaf, IsLastRow}
use Rattle.odb_arena.proofs.Finding.{none_row}
use Rattle.std.proofs.lemmas.List.Elements.{All-head, All-tail, All-nil, All-cons, All-push}
use Rattle.odb_tree.specs.declared.refusals.OdbRefusal.TheVariants.{NotDir}
use Rattle.std.specs.Option.{option_to_list}
use Rattle.odb_tree.specs.declared.children.Child.{Child}
use Rattle.odb_arena.specs.Arena.{rows_below, all_rows, entries_in, IsArena}
use Rattle.odb_arena.proofs.Below.{same_whole, below_next}
use Rattle.odb_arena.proofs.Growing.{own_row, found_some, row_there, rising_least}
use Rattle.odb_arena.proofs.Leading.{obstacle_is, no_dir, none_under, none_deep, more_some, rising_found, found_or, behind_none, path_found, any_last}

-- taken back: the rows before the last one

-- a front of a path is the same as so many of its first names
front_take : (q w : List (List ℕ)) → is_front q w ≡ true → same_path q (take (length q) w) ≡ true
front_take q w h = long_same q (take (length q) w) (long q w h) (front q w h)
  where
    long : (q w : List (List ℕ)) → is_front q w ≡ true → length q ≡ length (take (length q) w)
    long [] w h = refl
    long (a ∷ q) [] h = absurd (cc)
    long (a ∷ q) (b ∷ w) h = omega (arith, long q w (and_right (same_name a b) (is_front q w) h))

    front : (q w : List (List ℕ)) → is_front q w ≡ true → is_front q (take (length q) w) ≡ true
    front [] w h = refl
    front (a ∷ q) [] h = absurd (cc)
    front (a ∷ q) (b ∷ w) h = both (same_name a b) (is_front q (take (length q) w)) (and_left (same_name a b) (is_front q w) h) (front q w (and_right (same_name a b) (is_front q w) h))

take_none : (q : List (List ℕ)) (rows : List Row) → NoneAt q rows → (p : List (List ℕ)) → same_path q p ≡ true → row_at rows p ≡ None
take_none q rows none p same = none_row p rows (none_same q p rows same none)

-- below a path at which nothing is there is nothing
pub none_below : (s : Rows) (q w : List (List ℕ)) → IsTree s → 0 < length q → NoneAt q s.rows → is_front q w ≡ true → row_at s.rows w ≡ None
none_below s q w tree some none h = cases (drop (length q) w) refl
  where
    here : row_at s.rows (take (length q) w) ≡ None
    here = take_none q s.rows none (take (length q) w) (front_take q w h)

    long : 0 < length (take (length q) w)
    long = omega (arith, some, same_long q (take (length q) w) (front_take q w h))

    cases : (rest : List (List ℕ)) → drop (length q) w ≡ rest → row_at s.rows w ≡ None
    cases [] e =
        ap (row_at s.rows) (sym (take-append-drop (length q) w) ∙ (ap (λ (l : List (List ℕ)). take (length q) w ++ l) e ∙ append-nil (take (length q) w))) ∙ here
    cases (x ∷ xs) e =
        ap (row_at s.rows) (sym (take-append-drop (length q) w) ∙ ap (λ (l : List (List ℕ)). take (length q) w ++ l) e)
        ∙ none_deep s (take (length q) w) (x ∷ xs) tree long (no_dir s.rows (take (length q) w) here) (omega arith)

at_append : (xs ys : List Row) (p : List (List ℕ)) → row_at (xs ++ ys) p ≡ option_or (row_at xs p) (row_at ys p)
at_append [] ys p = refl
at_append (x ∷ xs) ys p = cases (same_path x.path p) (row_at xs p) (row_at (xs ++ ys) p) (at_append xs ys p)
  where
    cases : (t : Bool) (o q : Option Row) → q ≡ option_or o (row_at ys p) → cond t (Some x) q ≡ option_or (cond t (Some x) o) (row_at ys p)
    cases true o q e = refl
    cases false o q e = e

-- a row that is there at or below the path of the one made last is that one
pub last_alone : (before : Rows) (new r : Row) → IsTree before → 0 < length new.path → NoneAt new.path before.rows → row_at (before.rows ++ new ∷ []) r.path ≡ Some r → is_front new.path r.path ≡ true → new ≡ r
last_alone before new r tree some none there below =
    let gone : row_at before.rows r.path ≡ None = none_below before new.path r.path tree some none below in
    one (same_path new.path r.path) (sym (ap (λ (o : Option Row). option_or o (row_at (new ∷ []) r.path)) gone) ∙ (sym (at_append before.rows (new ∷ []) r.path) ∙ there))
  where
    one : (t : Bool) → cond t (Some new) None ≡ Some r → new ≡ r
    one true e = cc
    one false e = absurd (cc)

found_own : (front : List Row) (r : Row) (rs : List Row) → AreApart (front ++ r ∷ rs) → row_at (front ++ r ∷ rs) r.path ≡ Some r
found_own front r rs apart =
    behind_none front r.path (r ∷ rs) (none_around front r rs apart).0 ∙ ap (λ (t : Bool). cond t (Some r) (row_at rs r.path)) (same_refl r.path)

kept_from : (q : List (List ℕ)) (front rest : List Row) → AreApart (front ++ rest) → ((r : Row) → row_at (front ++ rest) r.path ≡ Some r → is_front q r.path ≡ false) → rows_outside rest q ≡ rest
kept_from q front [] apart h = refl
kept_from q front (r ∷ rs) apart h =
    ap (λ (t : Bool). cond (not t) (r ∷ rows_outside rs q) (rows_outside rs q)) (h r (found_own front r rs apart))
    ∙ ap (λ (l : List Row). r ∷ l) (kept_from q (front ++ r ∷ []) rs (subst AreApart (sym (append_assoc front (r ∷ []) rs)) apart)
    (λ x e. h x (ap (λ (l : List Row). row_at l x.path) (sym (append_assoc front (r ∷ []) rs)) ∙ e)))

same_number : (rows : List Row) (k : ℕ) (r : Row) → row_numbered rows k ≡ Some r → r.number ≡ k
same_number [] k r e = absurd (cc)
same_number (x ∷ xs) k r e = elim (found_or (eqb x.number k) x r (row_numbered xs k) e) [
  | inl w ↦ subst (λ (y : Row). y.number ≡ k) w.1 (by_test x.number k w.0)
  | inr w ↦ same_number xs k r w.1
]
  where
    by_test : (a b : ℕ) → eqb a b ≡ true → a ≡ b
    by_test a b h = grind (arith, nat_tests, h)

last_found : (s : Rows) (number : ℕ) (last : IsLastRow s number) → IsTree s → row_at s.rows last.row.path ≡ Some last.row
last_found s number last tree =
    ap (λ (x : Rows). row_at x.rows last.row.path) last.made
    ∙ found_own last.before.rows last.row [] (subst (λ (x : Rows). AreApart x.rows) last.made tree.apart)

last_free : (s : Rows) (number : ℕ) (last : IsLastRow s number) → IsTree s → NoneAt last.row.path last.before.rows
last_free s number last tree = (none_around last.before.rows last.row [] (subst (λ (x : Rows). AreApart x.rows) last.made tree.apart)).0

last_some : (s : Rows) (number : ℕ) (last : IsLastRow s number) → IsTree s → 0 < length last.row.path
last_some s number last tree = found_some [] s.rows last.row.path last.row tree.placed (last_found s number last tree)

pub last_there : (s : Rows) (number : ℕ) (last : IsLastRow s number) → IsTree s → row_numbered s.rows number ≡ Some last.row
last_there s number last tree =
    ap (row_numbered s.rows) (sym last.own) ∙ (rising_found 1 s.rows s.next last.row.path last.row tree.numbered (last_found s number last tree)).0

-- the row made last is a leaf
pub last_leaf : (s : Rows) (number : ℕ) → IsLastRow s number → IsTree s → IsLeaf s number
last_leaf s number last tree = record {
  row = last.row;
  there = last_there s number last tree;
  alone = λ k r e f.
      let found : row_at (last.before.rows ++ last.row ∷ []) r.path ≡ Some r = ap (λ (x : Rows). row_at x.rows r.path) (sym last.made) ∙ own_row s.rows k r tree.apart e in
      let one : last.row ≡ r = last_alone last.before last.row r last.database.tree (last_some s number last tree) (last_free s number last tree) found f in
      sym (same_number s.rows k r e) ∙ (ap (λ (x : Row). x.number) (sym one) ∙ last.own);
}

-- without it the rows are those before it
pub last_gone : (s : Rows) (number : ℕ) (last : IsLastRow s number) → IsTree s → rows_outside s.rows last.row.path ≡ last.before.rows
last_gone s number last tree =
    ap (λ (x : Rows). rows_outside x.rows last.row.path) last.made
    ∙ (filter_append (λ (r : Row). not (is_front last.row.path r.path)) last.before.rows (last.row ∷ [])
    ∙ (ap (λ (t : Bool). rows_outside last.before.rows last.row.path ++ cond (not t) (last.row ∷ []) []) (same_front last.row.path last.row.path (same_refl last.row.path))
    ∙ (append-nil (rows_outside last.before.rows last.row.path)
    ∙ kept_from last.row.path [] last.before.rows last.database.tree.apart
    (λ r e. not_true (is_front last.row.path r.path) (λ f. gone r e (none_below last.before last.row.path r.path last.database.tree (last_some s number last tree) (last_free s number last tree) f))))))
  where
    gone : (r : Row) → row_at last.before.rows r.path ≡ Some r → row_at last.before.rows r.path ≡ None → ⊥
    gone r e f = let no : None ≡ Some r = sym f ∙ e in absurd (cc)

pub without_is : (before : Rows) (row : Row) → without_last (with_rows before (row ∷ [])) ≡ before
without_is before row =
    same_rows before (take (length (before.rows ++ row ∷ []) - 1) (before.rows ++ row ∷ [])) before.rows (before.next + 1 - 1) before.next
    (ap (λ (n : ℕ). take n (before.rows ++ row ∷ [])) (let e : length (before.rows ++ row ∷ []) - 1 ≡ length before.rows = omega (arith, length-append before.rows (row ∷ [])) in e) ∙ front before.rows row) (omega arith)
  where
    front : (rows : List Row) (row : Row) → take (length rows) (rows ++ row ∷ []) ≡ rows
    front [] row = refl
    front (r ∷ rs) row = ap (λ (l : List Row). r ∷ l) (front rs row)

pub last_taken : (s s1 s2 : Rows) (number : ℕ) (last : IsLastRow s number) → IsTree s → s1 ≡ after_delete s last.row.path → s2 ≡ record s1 { next = s1.next - 1 } → s2 ≡ without_last s
last_taken s s1 s2 number last tree e f =
    let rows : s1.rows ≡ last.before.rows = ap (λ (x : Rows). x.rows) e ∙ last_gone s number last tree in
    let next : s1.next - 1 ≡ last.before.next = omega (arith, ap (λ (x : Rows). x.next) e, ap (λ (x : Rows). x.next) last.made) in
    let links : s1.links ≡ last.before.links = ap (λ (x : Rows). x.links) e ∙ ap (λ (x : Rows). x.links) last.made in
    f ∙ (same_whole s1.rows last.before.rows (s1.next - 1) last.before.next s1.links last.before.links rows next links ∙ sym (ap without_last last.made ∙ without_is last.before last.row))

pub taken_before : (s s1 : Rows) (number : ℕ) (last : IsLastRow s number) → IsTree s → s1 ≡ after_delete s last.row.path → IsDatabase (record s1 { next = s1.next - 1 })
taken_before s s1 number last tree e =
    let rows : s1.rows ≡ last.before.rows = ap (λ (x : Rows). x.rows) e ∙ last_gone s number last tree in
    let next : s1.next - 1 ≡ last.before.next = omega (arith, ap (λ (x : Rows). x.next) e, ap (λ (x : Rows). x.next) last.made) in
    let links : s1.links ≡ last.before.links = ap (λ (x : Rows). x.links) e ∙ ap (λ (x : Rows). x.links) last.made in
    subst IsDatabase (sym (same_whole s1.rows last.before.rows (s1.next - 1) last.before.next s1.links last.before.links rows next links)) last.database

pub taken_next : (s s1 : Rows) (number : ℕ) (last : IsLastRow s number) → s1 ≡ after_delete s last.row.path → 1 ≤ s1.next
taken_next s s1 number last e = omega (arith, ap (λ (x : Rows). x.next) e, ap (λ (x : Rows). x.next) last.made)

-- chains

all_second : (P : Row → Type 0) (xs ys : List Row) (y : Row) → All P (xs ++ y ∷ ys) → P y
all_second P [] ys y h = All-head P y ys h
all_second P (x ∷ xs) ys y h = all_second P xs ys y (All-tail P x (xs ++ y ∷ ys) h)

all_first : (P : Row → Type 0) (xs ys : List Row) → All P (xs ++ ys) → All P xs
all_first P [] ys h = All-nil P
all_first P (x ∷ xs) ys h = All-cons P x xs (All-head P x (xs ++ ys) h) (all_first P xs ys (All-tail P x (xs ++ ys) h))

-- the first of some rows that may be made is one
database_first : (s : Rows) (d : Row) (more : List Row) → IsDatabase s → AreNew s (d ∷ more) → IsDatabase (with_rows s (d ∷ more)) → IsDatabase (with_rows s (d ∷ []))
database_first s d more h new all = record {
  tree = tree_more s d h.tree new.0;
  rows = All-push (IsRow s.links) s.rows d h.rows (all_second (IsRow s.links) s.rows more d all.rows);
  within = record {
    rows = omega (arith, all.within.rows, length-append s.rows (d ∷ []), length-append s.rows (d ∷ more));
    total = omega (arith, all.within.total, sum_by-append bytes_of_row s.rows (d ∷ []), sum_by-append bytes_of_row s.rows (d ∷ more), sum_by-cons bytes_of_row d [], sum_by-cons bytes_of_row d more);
    next = omega (arith, all.within.next);
  };
}

pub chain_more : (next : ℕ) (path : List (List ℕ)) (name : List ℕ) (more : List (List ℕ)) (value : Option HeldValue) → 0 < length more
    → chain next path (name ∷ more) value ≡ record { number = next; path = path ++ name ∷ []; value = None } ∷ chain (next + 1) (path ++ name ∷ []) more value
chain_more next path name [] value h = absurd (omega (arith, h))
chain_more next path name (m ∷ more) value h = refl

pub dir_path_is : (s : Rows) (at : ℕ) (p : List (List ℕ)) → path_with s.rows at ≡ Some p → dir_path s at ≡ p
dir_path_is s at p e = ap (λ (o : Option (List (List ℕ))). unwrap_or o []) e

-- one row alone
pub add_one : (s : Rows) (at : ℕ) (names : List (List ℕ)) (name : List ℕ) (value : Option HeldValue) → CanGrow s at names value → names ≡ name ∷ [] → CanAdd s at name value
add_one s at names name value h e = record {
  path = h.path;
  there = h.there;
  database = subst (λ (r : List Row). IsDatabase (with_rows s r)) (ap (λ (n : List (List ℕ)). chain s.next h.path n value) e
      ∙ ap (λ (p : List (List ℕ)). record { number = s.next; path = p ++ name ∷ []; value = value } ∷ []) (sym (dir_path_is s at h.path h.there))) h.database;
}

pub one_made : (s : Rows) (at : ℕ) (names : List (List ℕ)) (name : List ℕ) (value : Option HeldValue) → names ≡ name ∷ [] → chain s.next (dir_path s at) names value ≡ row_in_dir s at name value ∷ []
one_made s at names name value e = ap (λ (n : List (List ℕ)). chain s.next (dir_path s at) n value) e

-- the first directory, and what is left then
pub record First (s : Rows) (at : ℕ) (name : List ℕ) (more : List (List ℕ)) (value : Option HeldValue) : Type 0 where
  pub can : CanAdd s at name None
  pub rest : CanGrow (with_rows s (row_in_dir s at name None ∷ [])) s.next more value
  pub last : IsLastRow (with_rows s (row_in_dir s at name None ∷ [])) s.next
  pub path : dir_path (with_rows s (row_in_dir s at name None ∷ [])) s.next ≡ dir_path s at ++ name ∷ []

pub add_first : (s : Rows) (at : ℕ) (names : List (List ℕ)) (name : List ℕ) (more : List (List ℕ)) (value : Option HeldValue) → IsDatabase s → CanGrow s at names value → names ≡ name ∷ more → 0 < length more
    → First s at name more value
add_first s at names name more value h can e some =
    let d : Row = row_in_dir s at name None in
    let path_is : dir_path s at ≡ can.path = dir_path_is s at can.path can.there in
    let split : chain s.next can.path names value ≡ d ∷ chain (s.next + 1) (can.path ++ name ∷ []) more value =
    ap (λ (n : List (List ℕ)). chain s.next can.path n value) e ∙ (chain_more s.next can.path name more value some
    ∙ ap (λ (p : List (List ℕ)). record { number = s.next; path = p ++ name ∷ []; value = None } ∷ chain (s.next + 1) (can.path ++ name ∷ []) more value) (sym path_is)) in
    let new : AreNew s (d ∷ chain (s.next + 1) (can.path ++ name ∷ []) more value) = subst (AreNew s) split can.new in
    let whole : IsDatabase (with_rows s (d ∷ chain (s.next + 1) (can.path ++ name ∷ []) more value)) = subst (λ (r : List Row). IsDatabase (with_rows s r)) split can.database in
    let first : IsDatabase (with_rows s (d ∷ [])) = database_first s d (chain (s.next + 1) (can.path ++ name ∷ []) more value) h new whole in
    let there : path_with (s.rows ++ d ∷ []) s.next ≡ Some d.path = path_found (with_rows s (d ∷ [])) d.path d first.tree (found_own s.rows d [] first.tree.apart) in
    let there_is : path_with (s.rows ++ d ∷ []) s.next ≡ Some (can.path ++ name ∷ []) = there ∙ ap (λ (p : List (List ℕ)). Some (p ++ name ∷ [])) path_is in
    record {
      can = record { path = can.path; there = can.there; database = first };
      rest = record {
        path = can.path ++ name ∷ [];
        there = there_is;
        some = some;
        new = new.1;
        database = subst IsDatabase (sym (with_more s d (chain (s.next + 1) (can.path ++ name ∷ []) more value))) whole;
      };
      last = record { before = s; row = d; made = refl; database = h; own = refl; next = refl };
      path = dir_path_is (with_rows s (d ∷ [])) s.next d.path there;
    }

-- all of them
pub all_made : (s : Rows) (at : ℕ) (names : List (List ℕ)) (name : List ℕ) (more : List (List ℕ)) (value : Option HeldValue) (s1 s2 : Rows) → First s at name more value → names ≡ name ∷ more → 0 < length more
    → s1 ≡ with_rows s (row_in_dir s at name None ∷ []) → s2 ≡ with_rows s1 (chain s1.next (dir_path s1 s.next) more value) → s2 ≡ with_rows s (chain s.next (dir_path s at) names value)
all_made s at names name more value s1 s2 first e some e1 e2 =
    let d : Row = row_in_dir s at name None in
    e2 ∙ (ap (λ (x : Rows). with_rows x (chain x.next (dir_path x s.next) more value)) e1
    ∙ (ap (λ (p : List (List ℕ)). with_rows (with_rows s (d ∷ [])) (chain (s.next + 1) p more value)) first.path
    ∙ (with_more s d (chain (s.next + 1) (dir_path s at ++ name ∷ []) more value)
    ∙ sym (ap (with_rows s) (ap (λ (n : List (List ℕ)). chain s.next (dir_path s at) n value) e ∙ chain_more s.next (dir_path s at) name more value some)))))

pub chain_long : (next : ℕ) (path names : List (List ℕ)) (value : Option HeldValue) → length (chain next path names value) ≡ length names
chain_long next path [] value = refl
chain_long next path (n ∷ []) value = refl
chain_long next path (n ∷ m ∷ names) value = omega (arith, chain_long (next + 1) (path ++ n ∷ []) (m ∷ names) value)

-- the way to a new row, where all the directories are missing
way_chain : (s : Rows) (q names : List (List ℕ)) (last : List ℕ) (way : Way) (value : Option HeldValue) → IsTree s → ((n : List ℕ) (ns : List (List ℕ)) → names ≡ n ∷ ns → row_at s.rows (q ++ n ∷ []) ≡ None)
    → (go_on s.rows s.next q names way).dirs ++ record { number = s.next + length (go_on s.rows s.next q names way).dirs; path = (go_on s.rows s.next q names way).path ++ last ∷ []; value = value } ∷ []
    ≡ way.dirs ++ chain (s.next + length way.dirs) way.path (names ++ last ∷ []) value
way_chain s q [] last way value tree h = refl
way_chain s q (n ∷ ns) last way value tree h =
    let d : Row = record { number = s.next + length way.dirs; path = way.path ++ n ∷ []; value = None } in
    let here : row_at s.rows (q ++ n ∷ []) ≡ None = h n ns refl in
    let next : s.next + length (way.dirs ++ d ∷ []) ≡ s.next + length way.dirs + 1 = omega (arith, length-append way.dirs (d ∷ [])) in
    ap (λ (o : Option Row). let w : Way = go_on s.rows s.next (q ++ n ∷ []) ns (further s.next n way o) in w.dirs ++ record { number = s.next + length w.dirs; path = w.path ++ last ∷ []; value = value } ∷ []) here
    ∙ (way_chain s (q ++ n ∷ []) ns last (record { path = way.path ++ n ∷ []; dirs = way.dirs ++ d ∷ [] }) value tree
    (λ m ms e. none_under s (q ++ n ∷ []) m tree (more_some q n) (no_dir s.rows (q ++ n ∷ []) here))
    ∙ (ap (λ (k : ℕ). (way.dirs ++ d ∷ []) ++ chain k (way.path ++ n ∷ []) (ns ++ last ∷ []) value) next
    ∙ (append_assoc way.dirs (d ∷ []) (chain (s.next + length way.dirs + 1) (way.path ++ n ∷ []) (ns ++ last ∷ []) value)
    ∙ ap (λ (l : List Row). way.dirs ++ l) (sym (chain_more (s.next + length way.dirs) way.path n (ns ++ last ∷ []) value (more_some ns last))))))

drop_push : (d : ℕ) (front : List (List ℕ)) (last : List ℕ) → d ≤ length front → drop d (front ++ last ∷ []) ≡ drop d front ++ last ∷ []
drop_push zero front last h = refl
drop_push (suc d) [] last h = absurd (omega arith)
drop_push (suc d) (x ∷ xs) last h = drop_push d xs last (omega (arith, h))

pub unblocked : (r : Reached) (n : ℕ) → obstacle_met r n None ≡ None → r.depth < n → r.blocked ≡ false
unblocked r n e l = cases r.blocked (ap (λ (t : Bool). cond t None (cond r.blocked (Some NotDir) None)) (sym (before r.depth n l)) ∙ e)
  where
    before : (d n : ℕ) → d < n → eqb d n ≡ false
    before d n l = grind (arith, nat_tests, l)

    cases : (b : Bool) → cond b (Some NotDir) None ≡ None → b ≡ false
    cases true k = absurd (cc)
    cases false k = refl

first_drop : (d : ℕ) (front : List (List ℕ)) (n : List ℕ) (ns : List (List ℕ)) → drop d front ≡ n ∷ ns → (d < length front) × (take (d + 1) front ≡ take d front ++ n ∷ [])
first_drop d front n ns e =
    let l : d < length front = omega (arith, length-drop d front, ap (λ (x : List (List ℕ)). length x) e) in
    let h : get_or front d n ∷ drop (d + 1) front ≡ n ∷ ns = sym (drop_more front d n l) ∙ e in
    let one : get_or front d n ≡ n = cc in
    (l, take_more front d n l ∙ ap (λ (y : List ℕ). take d front ++ y ∷ []) one)

-- the rows that a call makes are a chain from as far as directories lead
pub made_chain : (s : Rows) (names front : List (List ℕ)) (r : Reached) (value : Option HeldValue) → IsTree s → front ≡ parent_of names → CanMake s names value → (h : IsReached s.rows front r)
    → made_for s names value ≡ chain s.next h.leads.path (drop r.depth names) value
made_chain s names front r value tree is can h =
    let last = any_last names can.some in
    let whole : names ≡ front ++ last.0 ∷ [] = last.1 ∙ ap (λ (f : List (List ℕ)). f ++ last.0 ∷ []) (sym is) in
    let last_is : last_of names ≡ last.0 ∷ [] = drop_last names last.0 last.1 in
    let way : way_to s names ≡ go_on s.rows s.next (take r.depth front) (drop r.depth front) (record { path = h.leads.path; dirs = [] }) = ap (λ (f : List (List ℕ)). go_on s.rows s.next [] f no_way) (sym is) ∙ h.leads.way s.next in
    let free : obstacle_met r (length front) None ≡ None = obstacle_is s front r None tree h ∙ (ap (obstacle_from None s.rows []) is ∙ can.clear) in
    ap (λ (w : Way). w.dirs ++ record { number = s.next + length w.dirs; path = w.path ++ last_of names; value = value } ∷ []) way
    ∙ (ap (λ (l : List (List ℕ)). let w : Way = go_on s.rows s.next (take r.depth front) (drop r.depth front) (record { path = h.leads.path; dirs = [] }) in w.dirs ++ record { number = s.next + length w.dirs; path = w.path ++ l; value = value } ∷ []) last_is
    ∙ (way_chain s (take r.depth front) (drop r.depth front) last.0 (record { path = h.leads.path; dirs = [] }) value tree (λ n ns e. missing n ns e free)
    ∙ (ap (λ (k : ℕ). chain k h.leads.path (drop r.depth front ++ last.0 ∷ []) value) (let z : s.next + 0 ≡ s.next = omega arith in z)
    ∙ ap (λ (l : List (List ℕ)). chain s.next h.leads.path l value) (sym (ap (drop r.depth) whole ∙ drop_push r.depth front last.0 h.leads.within)))))
  where
    missing : (n : List ℕ) (ns : List (List ℕ)) → drop r.depth front ≡ n ∷ ns → obstacle_met r (length front) None ≡ None → row_at s.rows (take r.depth front ++ n ∷ []) ≡ None
    missing n ns e free =
        let first = first_drop r.depth front n ns e in
        let none : row_at s.rows (take (r.depth + 1) front) ≡ None = subst (λ (b : Bool). StopsAtRow b (row_at s.rows (take (r.depth + 1) front))) (unblocked r (length front) free first.0) (h.stops first.0) in
        ap (row_at s.rows) (sym first.1) ∙ none

    drop_last : (names : List (List ℕ)) (last : List ℕ) → names ≡ parent_of names ++ last ∷ [] → last_of names ≡ last ∷ []
    drop_last names last e =
        let long : length (parent_of names) ≡ length names - 1 = omega (arith, ap (λ (l : List (List ℕ)). length l) e, length-append (parent_of names) (last ∷ [])) in
        ap (λ (k : ℕ). drop k names) (sym long) ∙ (ap (drop (length (parent_of names))) e
        ∙ (drop_push (length (parent_of names)) (parent_of names) last (omega arith) ∙ ap (λ (l : List (List ℕ)). l ++ last ∷ []) (drop_all (length (parent_of names)) (parent_of names) (omega arith))))

pub make_grows : (s : Rows) (names front rest : List (List ℕ)) (r : Reached) (value : Option HeldValue) → IsTree s → front ≡ parent_of names → rest ≡ drop r.depth names → CanMake s names value → IsReached s.rows front r
    → CanGrow s r.at rest value
make_grows s names front rest r value tree is rest_is can h =
    let made = made_chain s names front r value tree is can h in
    let same : made_for s names value ≡ chain s.next h.leads.path rest value = made ∙ ap (λ (l : List (List ℕ)). chain s.next h.leads.path l value) (sym rest_is) in
    record {
      path = h.leads.path;
      there = h.leads.there;
      some = subst (λ (l : List (List ℕ)). 0 < length l) (sym rest_is) (omega (arith, length-drop r.depth names, h.leads.within, front_long names front can.some is));
      new = subst (AreNew s) same (made_new s names value can.some can.clear can.free);
      database = subst IsDatabase (created_with s names value ∙ ap (with_rows s) same) can.database;
    }
  where
    front_long : (names front : List (List ℕ)) → 0 < length names → front ≡ parent_of names → length front + 1 ≡ length names
    front_long names front some e = omega (arith, some, ap (λ (l : List (List ℕ)). length l) e, length-take-le (length names - 1) names (omega arith))

pub make_makes : (s : Rows) (names front rest : List (List ℕ)) (r : Reached) (value : Option HeldValue) → IsTree s → front ≡ parent_of names → rest ≡ drop r.depth names → CanMake s names value → IsReached s.rows front r
    → (with_rows s (chain s.next (dir_path s r.at) rest value) ≡ created s names value) × (s.next + length rest ≡ new_number s names + 1)
make_makes s names front rest r value tree is rest_is can h =
    let made = made_chain s names front r value tree is can h in
    let same : made_for s names value ≡ chain s.next (dir_path s r.at) rest value =
    made ∙ (ap (λ (l : List (List ℕ)). chain s.next h.leads.path l value) (sym rest_is) ∙ ap (λ (p : List (List ℕ)). chain s.next p rest value) (sym (dir_path_is s r.at h.leads.path h.leads.there))) in (
      sym (created_with s names value ∙ ap (with_rows s) same),
      omega (arith, ap (λ (l : List Row). length l) same, chain_long s.next (dir_path s r.at) rest value, length-append (way_to s names).dirs (new_row s names value ∷ [])),
    )

-- a number taken back

rising_less : (from : ℕ) (rows : List Row) (next : ℕ) (p : List (List ℕ)) (r : Row) → AreRising from rows next → row_at rows p ≡ Some r → r.number < next
rising_less from [] next p r h e = absurd (cc)
rising_less from (x ∷ xs) next p r h e =
    elim (found_or (same_path x.path p) x r (row_at xs p) e) [
      | inl w ↦ subst (λ (y : Row). y.number < next) w.1 (omega (arith, rising_least (x.number + 1) xs next h.1))
      | inr w ↦ rising_less (x.number + 1) xs next p r h.1 w.1
    ]

pub arena_forgets : (row : ℕ → Option Row) (names : Bool → ℕ → Option (List (List ℕ × Child))) (next count bytes : ℕ) → IsArena row names next count bytes → 1 ≤ next
    → IsDatabase (record no_rows { rows = rows_below row next; next = next - 1 }) → (all_rows row (next - 1) ≡ record no_rows { rows = rows_below row next; next = next - 1 }) × IsArena row names (next - 1) count bytes
arena_forgets row names next count bytes h some database =
    let rows : all_rows row (next - 1) ≡ record no_rows { rows = rows_below row next; next = next - 1 } = ap (λ (l : List Row). record no_rows { rows = l; next = next - 1 }) (sym same) in (
      rows,
      record {
        database = subst IsDatabase (sym rows) database;
        numbered = λ k r e. record { own = (h.numbered k r e).own; given = below k r e (h.numbered k r e).given };
        named = λ keys k p e. h.named keys k p e ∙ ap (λ (l : List Row). Some (entries_in keys l p)) same;
        counted = h.counted ∙ ap (λ (l : List Row). length l) same;
        weighed = h.weighed ∙ ap total_of same;
      },
    )
  where
    none : row (next - 1) ≡ None
    none = nothing (row (next - 1)) refl
      where
        there : (r : Row) → row (next - 1) ≡ Some r → ⊥
        there r e = absurd (omega (arith, rising_less 1 (rows_below row next) (next - 1) r.path r database.tree.numbered (row_there row names next count bytes (next - 1) r h e), (h.numbered (next - 1) r e).own))

        nothing : (o : Option Row) → row (next - 1) ≡ o → o ≡ None
        nothing None e = refl
        nothing (Some r) e = absurd (there r e)

    same : rows_below row next ≡ rows_below row (next - 1)
    same =
        ap (rows_below row) (let e : next ≡ next - 1 + 1 = omega (arith, some) in e)
        ∙ (below_next row (next - 1) ∙ (ap (λ (o : Option Row). rows_below row (next - 1) ++ option_to_list o) none ∙ append-nil (rows_below row (next - 1))))

    below : (k : ℕ) (r : Row) → row k ≡ Some r → k < next → k < next - 1
    below k r e l = cases (eqb k (next - 1)) refl
      where
        it : (a b : ℕ) → eqb a b ≡ true → a ≡ b
        it a b f = grind (arith, nat_tests, f)

        not_it : (a b : ℕ) → eqb a b ≡ false → a < b + 1 → a < b
        not_it a b f g = grind (arith, nat_tests, f, g)

        gone : k ≡ next - 1 → ⊥
        gone f = let no : None ≡ Some r = sym none ∙ (ap row (sym f) ∙ e) in absurd (cc)

        cases : (t : Bool) → eqb k (next - 1) ≡ t → k < next - 1
        cases true f = absurd (gone (it k (next - 1) f))
        cases false f = not_it k (next - 1) f (omega (arith, l, some))

pub rest_is : (names : List (List ℕ)) (d : ℕ) → take (length names - d) (drop d names) ≡ drop d names
rest_is names d = take_all (length names - d) (drop d names) (omega (arith, length-drop d names))

pub split_names : (names : List (List ℕ)) (name : List ℕ) → 0 < length names → name ≡ get_or names 0 name → names ≡ name ∷ take (length names - 1) (drop 1 names)
split_names [] name h is = absurd (omega (arith, h))
split_names (n ∷ names) name h is = ap (λ (m : List ℕ). m ∷ names) (sym is) ∙ ap (λ (l : List (List ℕ)). name ∷ l) (sym (rest_is (n ∷ names) 1))

pub rest_long : (names : List (List ℕ)) → length (take (length names - 1) (drop 1 names)) ≡ length names - 1
rest_long names = ap (λ (l : List (List ℕ)). length l) (rest_is names 1) ∙ omega (arith, length-drop 1 names)

pub rest_some : (names : List (List ℕ)) → 0 < length names → (length names ≡ 1 → ⊥) → 0 < length (take (length names - 1) (drop 1 names))
rest_some names h other = more (length names) (length (take (length names - 1) (drop 1 names))) h other (rest_long names)
  where
    more : (n m : ℕ) → 0 < n → (n ≡ 1 → ⊥) → m ≡ n - 1 → 0 < m
    more n m l f e = grind (arith, l, f, e)

pub if_ok_weaker : {X E : Type 0} (r : Result X E) (P Q : X → Type 0) → ((x : X) → P x → Q x) → IfOk r P → IfOk r Q
if_ok_weaker (Ok x) P Q f h = f x h
if_ok_weaker (Err e) P Q f h = tt

pub on_ok_weaker : {X E : Type 0} (r : Result X E) (P Q : Type 0) → (P → Q) → OnOk r P → OnOk r Q
on_ok_weaker (Ok x) P Q f h = f h
on_ok_weaker (Err e) P Q f h = tt
