-- An arena with one row changed.
use Rattle.std.proofs.Common.{◌≡◌, ℕ, ◌+◌, ◌-◌, ◌≤◌, Bool, true, false, not, cond, ◌&&◌, eqb, List, [], ◌∷◌, length, map, Option, Some, None, refl, sym, ap, ◌∙◌, subst, arith}
use Rattle.std.specs.List.{filter}
use Rattle.std.specs.Option.{option_map}
use Rattle.std.proofs.lemmas.Bool.Decides.{nat_tests}
use Rattle.odb_value.specs.Paths.{same_path}
use Rattle.odb_value.specs.Values.{HeldValue}
use Rattle.odb_tree.specs.declared.rows.Row.{Row}
use Rattle.odb_tree.specs.declared.children.Child.{Child}
use Rattle.odb_tree.specs.Rows.{Rows, no_rows, row_at, is_child, is_listed, change_row, change_at, bytes_of, bytes_in, total_of}
use Rattle.odb_tree.specs.Calls.{child_of}
use Rattle.odb_tree.specs.Walks.{changed_at}
use Rattle.odb_tree.proofs.WalkLaws.{true_false, not_true, change_is_map, value_kept}
use Rattle.odb_tree.specs.Databases.{IsDatabase}
use Rattle.odb_tree.proofs.Trees.{one_at, same_trans, same_sym}
use Rattle.odb_tree.proofs.Limited.{change_counts, ChangeCounts}
use Rattle.odb_arena.specs.declared.node.Node.{Node}
use Rattle.odb_arena.specs.Names.{entry_of}
use Rattle.odb_arena.specs.declared.directory.Directory.{Directory}
use Rattle.odb_arena.specs.declared.tree.ArenaTree.TheInside.{Inside}
use Rattle.odb_arena.specs.Inside.{rows_of, IsWholeArena}
use Rattle.odb_arena.specs.Arena.{row_of, names_at, rows_below, all_rows, path_at, entries_in, IsNumbered, IsArena, bytes_of_found, IsAltered}
use Rattle.odb_arena.proofs.Below.{below_changed, number_is}
use Rattle.odb_arena.proofs.Growing.{some_is, one_number, path_there, row_there}
use Rattle.odb_arena.proofs.Leading.{rising_found, found_passes}

entries_changed : (keys : Bool) (p : List (List ℕ)) (f : HeldValue → HeldValue) (rows : List Row) (q : List (List ℕ)) → entries_in keys (map (changed_at p f) rows) q ≡ entries_in keys rows q
entries_changed keys p f [] q = refl
entries_changed keys p f (r ∷ rs) q = each keys (same_path r.path p) (entries_changed keys p f rs q)
  where
    kept : (k s : Bool) (x : Row) (us vs : List Row) → entry_of (child_of x) ≡ entry_of (child_of r) → map (λ (r : Row). entry_of (child_of r)) us ≡ map (λ (r : Row). entry_of (child_of r)) vs
        → map (λ (r : Row). entry_of (child_of r)) (cond s (x ∷ us) us) ≡ map (λ (r : Row). entry_of (child_of r)) (cond s (r ∷ vs) vs)
    kept k true x us vs e h = ap (λ (c : List ℕ × Child). c ∷ map (λ (r : Row). entry_of (child_of r)) us) e ∙ ap (λ (l : List (List ℕ × Child)). entry_of (child_of r) ∷ l) h
    kept k false x us vs e h = h

    same_entry : entry_of (child_of (change_row f r)) ≡ entry_of (child_of r)
    same_entry = ap (λ (t : Bool). entry_of (record { name = (child_of r).name; is_dir = not t; row = r.number })) (value_kept f r.value)

    each : (keys t : Bool) → entries_in keys (map (changed_at p f) rs) q ≡ entries_in keys rs q
        → entries_in keys (cond t (change_row f r) r ∷ map (changed_at p f) rs) q ≡ entries_in keys (r ∷ rs) q
    each keys false ih = kept true (is_listed keys q r) r (filter (is_listed keys q) (map (changed_at p f) rs)) (filter (is_listed keys q) rs) refl ih
    each true true ih =
        ap (λ (k : Bool). map (λ (r : Row). entry_of (child_of r)) (cond (k && is_child q r.path) (change_row f r ∷ filter (is_listed true q) (map (changed_at p f) rs)) (filter (is_listed true q) (map (changed_at p f) rs)))) (value_kept f r.value)
        ∙ kept true (is_listed true q r) (change_row f r) (filter (is_listed true q) (map (changed_at p f) rs)) (filter (is_listed true q) rs) same_entry ih
    each false true ih =
        ap (λ (k : Bool). map (λ (r : Row). entry_of (child_of r)) (cond (not k && is_child q r.path) (change_row f r ∷ filter (is_listed false q) (map (changed_at p f) rs)) (filter (is_listed false q) (map (changed_at p f) rs)))) (value_kept f r.value)
        ∙ kept true (is_listed false q r) (change_row f r) (filter (is_listed false q) (map (changed_at p f) rs)) (filter (is_listed false q) rs) same_entry ih

pub number_pos : (row : ℕ → Option Row) (names : Bool → ℕ → Option (List (List ℕ × Child))) (next count bytes k : ℕ) (r : Row) → IsArena row names next count bytes → row k ≡ Some r → eqb k 0 ≡ false
number_pos row names next count bytes k r h e =
    not_zero k (omega (arith, (rising_found 1 (rows_below row next) next r.path r h.database.tree.numbered (row_there row names next count bytes k r h e)).1, (h.numbered k r e).own))
  where
    not_zero : (k : ℕ) → 1 ≤ k → eqb k 0 ≡ false
    not_zero k l = grind (arith, nat_tests, l)

-- the arena with a new value of the key at a path, whose row has this number
pub arena_changed : (row row' : ℕ → Option Row) (names names' : Bool → ℕ → Option (List (List ℕ × Child))) (next count bytes k0 : ℕ) (p : List (List ℕ)) (f : HeldValue → HeldValue) (r0 : Row) (v : HeldValue)
    → IsArena row names next count bytes → row_at (rows_below row next) p ≡ Some r0 → r0.value ≡ Some v → row k0 ≡ Some r0 → eqb k0 0 ≡ false → same_path r0.path p ≡ true
    → IsDatabase (record no_rows { rows = change_at (rows_below row next) p f; next = next })
    → ((k : ℕ) → row' k ≡ cond (eqb k0 k) (Some (change_row f r0)) (row k)) → ((keys : Bool) (k : ℕ) → names' keys k ≡ names keys k)
    → (all_rows row' next ≡ record no_rows { rows = change_at (rows_below row next) p f; next = next }) × IsArena row' names' next count (bytes - bytes_of v + bytes_of (f v))
arena_changed row row' names names' next count bytes k0 p f r0 v h found value here root same database rows_are names_are = (
  whole,
  record {
    database = subst IsDatabase (sym whole) database;
    numbered = λ k r e. numbered_here k r e;
    named = λ keys k q e. names_are keys k ∙ (h.named keys k q (old_path k q e) ∙ ap (λ (l : List (List ℕ × Child)). Some l) (sym (ap (λ (l : List Row). entries_in keys l q) rows_is ∙ entries_changed keys p f (rows_below row next) q)));
    counted = omega (arith, h.counted, counts.count, ap (λ (s : Rows). length s.rows) whole);
    weighed = omega (arith, h.weighed, counts.total, counts.had, ap (λ (s : Rows). total_of s.rows) whole);
  },
)
  where
    one : (k : ℕ) → eqb k k ≡ true
    one k = grind (arith, nat_tests)

    number_of : (a b : ℕ) → eqb a b ≡ true → a ≡ b
    number_of a b e = grind (arith, nat_tests, e)

    each : (k : ℕ) → row' k ≡ option_map (changed_at p f) (row k)
    each k = rows_are k ∙ cases (eqb k0 k) (row k) refl refl
      where
        it : option_map (changed_at p f) (Some r0) ≡ Some (change_row f r0)
        it = ap (λ (t : Bool). Some (cond t (change_row f r0) r0)) same

        not_zero_other : (r : Row) → row k ≡ Some r → same_path r.path p ≡ true → eqb k 0 ≡ false → k0 ≡ k
        not_zero_other r e s z =
            one_number row names next count bytes k0 k r0.path r.path h (path_there row k0 r0 root here) (path_there row k r z e) (same_trans r0.path p r.path same (same_sym r.path p s))

        cases : (t : Bool) (o : Option Row) → eqb k0 k ≡ t → row k ≡ o → cond t (Some (change_row f r0)) o ≡ option_map (changed_at p f) o
        cases true o e g = sym (ap (option_map (changed_at p f)) (sym g ∙ (ap row (sym (number_of k0 k e)) ∙ here)) ∙ it)
        cases false None e g = refl
        cases false (Some r) e g = ap (λ (t : Bool). Some (cond t (change_row f r) r)) (sym (not_true (same_path r.path p) (λ s. other r g s e)))
          where
            other : (r : Row) → row k ≡ Some r → same_path r.path p ≡ true → eqb k0 k ≡ false → ⊥
            other r g s e = absurd (true_false (eqb k0 k) (ap (eqb k0) (sym (not_zero_other r g s (number_pos row names next count bytes k r h g))) ∙ one k0) e)

    rows_is : rows_below row' next ≡ map (changed_at p f) (rows_below row next)
    rows_is = below_changed (changed_at p f) row row' next each

    whole : all_rows row' next ≡ record no_rows { rows = change_at (rows_below row next) p f; next = next }
    whole = ap (λ (l : List Row). record no_rows { rows = l; next = next }) (rows_is ∙ sym (change_is_map p f (rows_below row next) (one_at (rows_below row next) p h.database.tree.apart)))

    counts : ChangeCounts (rows_below row next) p v f
    counts = change_counts (rows_below row next) p r0 v f found value

    numbered_here : (k : ℕ) (r : Row) → row' k ≡ Some r → IsNumbered next k r
    numbered_here k r e = cases (eqb k0 k) refl (sym (rows_are k) ∙ e)
      where
        cases : (t : Bool) → eqb k0 k ≡ t → cond t (Some (change_row f r0)) (row k) ≡ Some r → IsNumbered next k r
        cases true g x =
            let it : change_row f r0 ≡ r = some_is (change_row f r0) r x in
            let was = h.numbered k0 r0 here in
            let same_number : k0 ≡ k = number_of k0 k g in
            record { own = ap (λ (y : Row). y.number) (sym it) ∙ (was.own ∙ same_number); given = omega (arith, was.given, same_number) }
        cases false g x = h.numbered k r x

    old_path : (k : ℕ) (q : List (List ℕ)) → path_at row' k ≡ Some q → path_at row k ≡ Some q
    old_path k q e = sym (ap (cond (eqb k 0) (Some [])) (ap (option_map (λ (r : Row). r.path)) (each k) ∙ paths (row k))) ∙ e
      where
        kept : (r : Row) → (changed_at p f r).path ≡ r.path
        kept r = cases (same_path r.path p)
          where
            cases : (t : Bool) → (cond t (change_row f r) r).path ≡ r.path
            cases true = refl
            cases false = refl

        paths : (o : Option Row) → option_map (λ (r : Row). r.path) (option_map (changed_at p f) o) ≡ option_map (λ (r : Row). r.path) o
        paths None = refl
        paths (Some r) = ap (λ (l : List (List ℕ)). Some l) (kept r)

-- A key's value is changed in its node.
pub altered : (t : Inside) (s : Rows) (p : List (List ℕ)) (f : HeldValue → HeldValue) (n had now : ℕ) (v : HeldValue) (row : Row) (es : List (ℕ × Node)) → IsWholeArena t → rows_of t ≡ s
    → row_at s.rows p ≡ Some row → row.value ≡ Some v → row.number ≡ n → IsDatabase (record s { rows = change_at s.rows p f })
    → ((k : ℕ) → row_of es k ≡ cond (eqb n k) (option_map (change_row f) (row_of t.nodes.entries k)) (row_of t.nodes.entries k))
    → ((root : Directory) (keys : Bool) (k : ℕ) → names_at root es keys k ≡ names_at root t.nodes.entries keys k)
    → had ≡ bytes_of v → now ≡ bytes_of_found (row_of es n)
    → (all_rows (row_of es) t.next ≡ record s { rows = change_at s.rows p f }) × IsArena (row_of es) (names_at t.root es) t.next t.count (t.bytes - had + now)
altered t s p f n had now v row es h is there value number database rows_are names_are had_is now_is =
    let done = arena_changed (row_of t.nodes.entries) (row_of es) (names_at t.root t.nodes.entries) (names_at t.root es) t.next t.count t.bytes n p f row v h found value here
    (number_pos (row_of t.nodes.entries) (names_at t.root t.nodes.entries) t.next t.count t.bytes n row h here) same
    (subst (λ (x : Rows). IsDatabase (record x { rows = change_at x.rows p f })) (sym is) database) each (names_are t.root) in (
      done.0 ∙ ap (λ (x : Rows). record x { rows = change_at x.rows p f }) is,
      subst (λ (b : ℕ). IsArena (row_of es) (names_at t.root es) t.next t.count (t.bytes - had + b)) (sym bytes)
          (subst (λ (b : ℕ). IsArena (row_of es) (names_at t.root es) t.next t.count (t.bytes - b + bytes_of (f v))) (sym had_is) done.1),
    )
  where
    found : row_at (rows_of t).rows p ≡ Some row
    found = ap (λ (x : Rows). row_at x.rows p) is ∙ there

    same : same_path row.path p ≡ true
    same = found_passes (rows_of t).rows p row found

    here : row_of t.nodes.entries n ≡ Some row
    here =
        ap (row_of t.nodes.entries) (sym number)
        ∙ (sym (number_is (row_of t.nodes.entries) t.next row.number h.numbered) ∙ (rising_found 1 (rows_of t).rows t.next p row h.database.tree.numbered found).0)

    number_of : (a b : ℕ) → eqb a b ≡ true → a ≡ b
    number_of a b e = grind (arith, nat_tests, e)

    own : (k : ℕ) → eqb k k ≡ true
    own k = grind (arith, nat_tests)

    each : (k : ℕ) → row_of es k ≡ cond (eqb n k) (Some (change_row f row)) (row_of t.nodes.entries k)
    each k = rows_are k ∙ cases (eqb n k) refl
      where
        cases : (b : Bool) → eqb n k ≡ b → cond b (option_map (change_row f) (row_of t.nodes.entries k)) (row_of t.nodes.entries k) ≡ cond b (Some (change_row f row)) (row_of t.nodes.entries k)
        cases true e = ap (option_map (change_row f)) (ap (row_of t.nodes.entries) (sym (number_of n k e)) ∙ here)
        cases false e = refl

    bytes : now ≡ bytes_of (f v)
    bytes =
        now_is
        ∙ (ap bytes_of_found (each n ∙ ap (λ (b : Bool). cond b (Some (change_row f row)) (row_of t.nodes.entries n)) (own n))
        ∙ ap (λ (o : Option HeldValue). bytes_in (option_map f o)) value)

same_value : (r : Row) → change_row (λ (v : HeldValue). v) r ≡ r
same_value r = ap (λ (o : Option HeldValue). record { number = r.number; path = r.path; value = o }) (kept r.value)
  where
    kept : (o : Option HeldValue) → option_map (λ (v : HeldValue). v) o ≡ o
    kept None = refl
    kept (Some v) = refl

-- a change to the same value changes no row
pub unaltered : (n : ℕ) (old new : List (ℕ × Node)) → IsAltered (λ (v : HeldValue). v) n old new → (k : ℕ) → row_of new k ≡ row_of old k
unaltered n old new h k = h.rows k ∙ cases (eqb n k) (row_of old k)
  where
    cases : (t : Bool) (o : Option Row) → cond t (option_map (change_row (λ (v : HeldValue). v)) o) o ≡ o
    cases true None = refl
    cases true (Some r) = ap (λ (x : Row). Some x) (same_value r)
    cases false o = refl
