-- An arena with one row less.
use Rattle.std.proofs.Common.{◌≡◌, ℕ, zero, suc, ◌+◌, ◌-◌, ◌<◌, Bool, true, false, not, cond, ◌&&◌, eqb, nat_eq, List, [], ◌∷◌, ◌++◌, length, map, Option, Some, None, refl, sym, ap, ◌∙◌, subst, arith, length-append, append-nil}
use Rattle.std.specs.List.{filter}
use Rattle.std.specs.Option.{option_map, option_to_list}
use Rattle.std.specs.Map.{remove_entry}
use Rattle.std.specs.Cmp.Lexicographic.{pointwise}
use Rattle.std.proofs.lemmas.Bool.Decides.{nat_tests}
use Rattle.std.proofs.lemmas.List.Sums.{sum_by_push}
use Rattle.std.specs.Prelude.{All}
use Rattle.daq_types.specs.Names.{IsName}
use Rattle.odb_value.specs.Paths.{same_name, is_front, same_path}
use Rattle.odb_tree.specs.declared.rows.Row.{Row}
use Rattle.odb_tree.specs.declared.children.Child.{Child}
use Rattle.odb_tree.specs.Rows.{no_rows, row_at, rows_outside, is_key, is_kind, is_child, is_listed, bytes_of_row, total_of}
use Rattle.odb_tree.specs.Calls.{child_of, last_name, after_delete}
use Rattle.odb_tree.specs.Trees.{AreApart}
use Rattle.odb_tree.specs.Databases.{IsDatabase, IsRow}
use Rattle.odb_tree.specs.WalkLaws.{NoneAt}
use Rattle.odb_tree.proofs.WalkLaws.{and_left, and_right, true_false, not_true}
use Rattle.odb_tree.proofs.Trees.{same_long, same_front, same_sym, same_trans, same_refl}
use Rattle.odb_arena.specs.Names.{folded, entry_of, without_name}
use Rattle.odb_arena.specs.Arena.{rows_below, all_rows, path_at, entries_in, names_left, IsNumbered, IsArena}
use Rattle.odb_arena.proofs.Below.{below_same, below_fewer}
use Rattle.odb_arena.proofs.Padding.{folded_same}
use Rattle.odb_arena.proofs.Finding.{last_push, all_last, front_split}
use Rattle.odb_tree.proofs.EachRow.{row_has}
use Rattle.odb_arena.proofs.Leading.{placed_found}
use Rattle.odb_arena.proofs.Growing.{some_is, one_number, row_there, child_parent}

-- what is known of each row in an arena: it stands under its number
abbrev pub AreOwn : (ℕ → Option Row) → List Row → Type 0
AreOwn row [] = Unit {0}
AreOwn row (r ∷ rs) = (row r.number ≡ Some r) × AreOwn row rs

own_append : (row : ℕ → Option Row) (xs ys : List Row) → AreOwn row xs → AreOwn row ys → AreOwn row (xs ++ ys)
own_append row [] ys h k = k
own_append row (x ∷ xs) ys h k = (h.0, own_append row xs ys h.1 k)

pub own_below : (row : ℕ → Option Row) (next n : ℕ) → ((k : ℕ) (r : Row) → row k ≡ Some r → IsNumbered next k r) → AreOwn row (rows_below row n)
unfolding rows_below
own_below row next zero h = tt
own_below row next (suc n) h = own_append row (rows_below row n) (option_to_list (row n)) (own_below row next n h) (one (row n) refl)
  where
    one : (o : Option Row) → row n ≡ o → AreOwn row (option_to_list o)
    one None e = tt
    one (Some r) e = (ap row (h n r e).own ∙ e, tt)

-- rows of which all pass stay
filter_swapped : (a b : Row → Bool) (xs : List Row) → filter a (filter b xs) ≡ filter b (filter a xs)
filter_swapped a b [] = refl
filter_swapped a b (x ∷ xs) = swapped (a x) (b x) refl refl (filter_swapped a b xs)
  where
    swapped : (s t : Bool) → a x ≡ s → b x ≡ t → filter a (filter b xs) ≡ filter b (filter a xs)
        → filter a (cond t (x ∷ filter b xs) (filter b xs)) ≡ filter b (cond s (x ∷ filter a xs) (filter a xs))
    swapped true true e f h =
        ap (λ (v : Bool). cond v (x ∷ filter a (filter b xs)) (filter a (filter b xs))) e
        ∙ (ap (λ (l : List Row). x ∷ l) h ∙ sym (ap (λ (v : Bool). cond v (x ∷ filter b (filter a xs)) (filter b (filter a xs))) f))
    swapped true false e f h = h ∙ sym (ap (λ (v : Bool). cond v (x ∷ filter b (filter a xs)) (filter b (filter a xs))) f)
    swapped false true e f h = ap (λ (v : Bool). cond v (x ∷ filter a (filter b xs)) (filter a (filter b xs))) e ∙ h
    swapped false false e f h = h

-- of the rows in a directory the one that goes is not among them
kept_listed : (row : ℕ → Option Row) (keys : Bool) (q : List (List ℕ)) (test : Row → Bool) (rows : List Row) → AreOwn row rows
    → ((r : Row) → row r.number ≡ Some r → is_listed keys q r ≡ true → test r ≡ true) → filter test (filter (is_listed keys q) rows) ≡ filter (is_listed keys q) rows
kept_listed row keys q test [] own h = refl
kept_listed row keys q test (r ∷ rs) own h = kept (is_listed keys q r) refl (kept_listed row keys q test rs own.1 h)
  where
    kept : (t : Bool) → is_listed keys q r ≡ t → filter test (filter (is_listed keys q) rs) ≡ filter (is_listed keys q) rs
        → filter test (cond t (r ∷ filter (is_listed keys q) rs) (filter (is_listed keys q) rs)) ≡ cond t (r ∷ filter (is_listed keys q) rs) (filter (is_listed keys q) rs)
    kept true e ih =
        ap (λ (v : Bool). cond v (r ∷ filter test (filter (is_listed keys q) rs)) (filter test (filter (is_listed keys q) rs))) (h r own.0 e)
        ∙ ap (λ (l : List Row). r ∷ l) ih
    kept false e ih = ih

-- the row that goes is the one with the name
cut_listed : (row : ℕ → Option Row) (keys : Bool) (q : List (List ℕ)) (key : List ℕ) (test : Row → Bool) (r0 : Row) (rows : List Row) → AreOwn row rows → AreApart rows
    → ((r : Row) → row r.number ≡ Some r → is_listed keys q r ≡ true → pointwise nat_eq key (folded (last_name r.path)) ≡ not (test r))
    → ((r : Row) → row r.number ≡ Some r → is_listed keys q r ≡ true → test r ≡ false → same_path r.path r0.path ≡ true)
    → remove_entry (pointwise nat_eq key) (map (λ (r : Row). entry_of (child_of r)) (filter (is_listed keys q) rows)) ≡ map (λ (r : Row). entry_of (child_of r)) (filter test (filter (is_listed keys q) rows))
unfolding NoneAt
cut_listed row keys q key test r0 [] own apart h one = refl
cut_listed row keys q key test r0 (r ∷ rs) own apart h one = listed (is_listed keys q r) refl (cut_listed row keys q key test r0 rs own.1 apart.1 h one)
  where
    rest : test r ≡ false → is_listed keys q r ≡ true → (xs : List Row) → AreOwn row xs → NoneAt r.path xs → filter test (filter (is_listed keys q) xs) ≡ filter (is_listed keys q) xs
    rest gone l [] o n = refl
    rest gone l (x ∷ xs) o n = pass (is_listed keys q x) refl (rest gone l xs o.1 n.1)
      where
        stays : is_listed keys q x ≡ true → test x ≡ false → ⊥
        stays e f = absurd (true_false (same_path x.path r.path) (same_trans x.path r0.path r.path (one x o.0 e f) (same_sym r.path r0.path (one r own.0 l gone))) n.0)

        not_false : (t : Bool) → (t ≡ false → ⊥) → t ≡ true
        not_false true f = refl
        not_false false f = absurd (f refl)

        pass : (t : Bool) → is_listed keys q x ≡ t → filter test (filter (is_listed keys q) xs) ≡ filter (is_listed keys q) xs
            → filter test (cond t (x ∷ filter (is_listed keys q) xs) (filter (is_listed keys q) xs)) ≡ cond t (x ∷ filter (is_listed keys q) xs) (filter (is_listed keys q) xs)
        pass true e ih =
            ap (λ (v : Bool). cond v (x ∷ filter test (filter (is_listed keys q) xs)) (filter test (filter (is_listed keys q) xs))) (not_false (test x) (stays e))
            ∙ ap (λ (l : List Row). x ∷ l) ih
        pass false e ih = ih

    listed : (t : Bool) → is_listed keys q r ≡ t
        → remove_entry (pointwise nat_eq key) (map (λ (r : Row). entry_of (child_of r)) (filter (is_listed keys q) rs)) ≡ map (λ (r : Row). entry_of (child_of r)) (filter test (filter (is_listed keys q) rs))
        → remove_entry (pointwise nat_eq key) (map (λ (r : Row). entry_of (child_of r)) (cond t (r ∷ filter (is_listed keys q) rs) (filter (is_listed keys q) rs)))
        ≡ map (λ (r : Row). entry_of (child_of r)) (filter test (cond t (r ∷ filter (is_listed keys q) rs) (filter (is_listed keys q) rs)))
    listed false e ih = ih
    listed true e ih = tested (test r) refl
      where
        tested : (v : Bool) → test r ≡ v
            → cond (pointwise nat_eq key (folded (last_name r.path))) (map (λ (r : Row). entry_of (child_of r)) (filter (is_listed keys q) rs))
            (entry_of (child_of r) ∷ remove_entry (pointwise nat_eq key) (map (λ (r : Row). entry_of (child_of r)) (filter (is_listed keys q) rs)))
            ≡ map (λ (r : Row). entry_of (child_of r)) (cond (test r) (r ∷ filter test (filter (is_listed keys q) rs)) (filter test (filter (is_listed keys q) rs)))
        tested true g =
            ap (λ (w : Bool). cond w (map (λ (r : Row). entry_of (child_of r)) (filter (is_listed keys q) rs))
            (entry_of (child_of r) ∷ remove_entry (pointwise nat_eq key) (map (λ (r : Row). entry_of (child_of r)) (filter (is_listed keys q) rs)))) (h r own.0 e ∙ ap not g)
            ∙ (ap (λ (l : List (List ℕ × Child)). entry_of (child_of r) ∷ l) ih
            ∙ ap (λ (w : Bool). map (λ (r : Row). entry_of (child_of r)) (cond w (r ∷ filter test (filter (is_listed keys q) rs)) (filter test (filter (is_listed keys q) rs)))) (sym g))
        tested false g =
            ap (λ (w : Bool). cond w (map (λ (r : Row). entry_of (child_of r)) (filter (is_listed keys q) rs))
            (entry_of (child_of r) ∷ remove_entry (pointwise nat_eq key) (map (λ (r : Row). entry_of (child_of r)) (filter (is_listed keys q) rs)))) (h r own.0 e ∙ ap not g)
            ∙ (ap (λ (l : List Row). map (λ (r : Row). entry_of (child_of r)) l) (sym (rest g e rs own.1 apart.0))
            ∙ ap (λ (w : Bool). map (λ (r : Row). entry_of (child_of r)) (cond w (r ∷ filter test (filter (is_listed keys q) rs)) (filter test (filter (is_listed keys q) rs)))) (sym g))

record Counts (less rows : List Row) (r : Row) : Type 0 where
  count : length less + 1 ≡ length rows
  bytes : total_of less + bytes_of_row r ≡ total_of rows

-- one row less below a number
below_one_less : (row row' : ℕ → Option Row) (k0 n : ℕ) (r0 : Row) → row k0 ≡ Some r0 → ((k : ℕ) → row' k ≡ cond (eqb k0 k) None (row k)) → k0 < n
    → Counts (rows_below row' n) (rows_below row n) r0
unfolding rows_below
below_one_less row row' k0 zero r0 e h l = absurd (omega arith)
below_one_less row row' k0 (suc n) r0 e h l = cases (eqb k0 n) refl (below_one_less row row' k0 n r0 e h)
  where
    earlier : (k : ℕ) → k < n → k0 ≡ n → eqb k0 k ≡ false
    earlier k l e = grind (arith, nat_tests, l, e)

    same_test : (a b : ℕ) → eqb a b ≡ true → a ≡ b
    same_test a b e = grind (arith, nat_tests, e)

    other_test : (a b : ℕ) → eqb a b ≡ false → a < suc b → a < b
    other_test a b e l = grind (arith, nat_tests, e, l)

    here : (o : Option Row) → row n ≡ o → Counts (rows_below row n ++ []) (rows_below row n ++ option_to_list (Some r0)) r0
    here o e = record {
      count = omega (arith, length-append (rows_below row n) (r0 ∷ []), ap (λ (l : List Row). length l) (append-nil (rows_below row n)));
      bytes = omega (arith, sum_by_push bytes_of_row (rows_below row n) r0, ap total_of (append-nil (rows_below row n)));
    }

    more : (o : Option Row) (xs ys : List Row) → Counts xs ys r0 → Counts (xs ++ option_to_list o) (ys ++ option_to_list o) r0
    more None xs ys c = record {
      count = omega (arith, c.count, ap (λ (l : List Row). length l) (append-nil xs), ap (λ (l : List Row). length l) (append-nil ys));
      bytes = omega (arith, c.bytes, ap total_of (append-nil xs), ap total_of (append-nil ys));
    }
    more (Some x) xs ys c = record {
      count = omega (arith, c.count, length-append xs (x ∷ []), length-append ys (x ∷ []));
      bytes = omega (arith, c.bytes, sum_by_push bytes_of_row xs x, sum_by_push bytes_of_row ys x);
    }

    cases : (t : Bool) → eqb k0 n ≡ t → (k0 < n → Counts (rows_below row' n) (rows_below row n) r0) → Counts (rows_below row' n ++ option_to_list (row' n)) (rows_below row n ++ option_to_list (row n)) r0
    cases true f ih =
        let same : k0 ≡ n = same_test k0 n f in
        let gone : row' n ≡ None = h n ∙ ap (λ (t : Bool). cond t None (row n)) f in
        let there : row n ≡ Some r0 = ap row (sym same) ∙ e in
        let front : rows_below row' n ≡ rows_below row n = below_same row' row n (λ k l. h k ∙ ap (λ (t : Bool). cond t None (row k)) (earlier k l same)) in
        subst (λ (o : Option Row). Counts (rows_below row' n ++ option_to_list o) (rows_below row n ++ option_to_list (row n)) r0) (sym gone)
        (subst (λ (o : Option Row). Counts (rows_below row' n ++ []) (rows_below row n ++ option_to_list o) r0) (sym there)
        (subst (λ (xs : List Row). Counts (xs ++ []) (rows_below row n ++ r0 ∷ []) r0) (sym front) (here (row n) refl)))
    cases false f ih =
        let stays : row' n ≡ row n = h n ∙ ap (λ (t : Bool). cond t None (row n)) f in
        subst (λ (o : Option Row). Counts (rows_below row' n ++ option_to_list o) (rows_below row n ++ option_to_list (row n)) r0) (sym stays)
        (more (row n) (rows_below row' n) (rows_below row n) (ih (other_test k0 n f l)))

-- An arena without one row, which has nothing below it. The row stands under this name in the directory with the number `at`.
pub arena_less : (row row' : ℕ → Option Row) (names names' : Bool → ℕ → Option (List (List ℕ × Child))) (next count bytes k0 at : ℕ) (p u : List (List ℕ)) (name : List ℕ) (r0 : Row)
    → IsArena row names next count bytes → row k0 ≡ Some r0 → eqb k0 0 ≡ false → r0.path ≡ u ++ name ∷ [] → path_at row at ≡ Some p → same_path p u ≡ true
    → ((k : ℕ) (r : Row) → row k ≡ Some r → is_front r0.path r.path ≡ true → k ≡ k0)
    → IsDatabase (after_delete (all_rows row next) r0.path)
    → ((k : ℕ) → row' k ≡ cond (eqb k0 k) None (row k))
    → ((keys : Bool) (k : ℕ) → eqb k0 k ≡ false → names' keys k ≡ names_left keys at (not (is_key r0)) (folded name) k (names keys k))
    → (all_rows row' next ≡ after_delete (all_rows row next) r0.path) × IsArena row' names' next (count - 1) (bytes - bytes_of_row r0)
arena_less row row' names names' next count bytes k0 at p u name r0 h here root path there same alone database rows_are names_are = (
  ap (λ (l : List Row). record no_rows { rows = l; next = next }) rows_is,
  record {
    database = subst IsDatabase (sym (ap (λ (l : List Row). record no_rows { rows = l; next = next }) rows_is)) database;
    numbered = λ k r e. numbered_here k r e;
    named = λ keys k q e. subst (λ (l : List Row). names' keys k ≡ Some (entries_in keys l q)) (sym rows_is) (named_here keys k q e);
    counted = omega (arith, h.counted, counts.count);
    weighed = omega (arith, h.weighed, counts.bytes);
  },
)
  where
    stays : Row → Bool
    stays r = not (is_front r0.path r.path)

    one : (k : ℕ) → eqb k k ≡ true
    one k = grind (arith, nat_tests)

    number_of : (a b : ℕ) → eqb a b ≡ true → a ≡ b
    number_of a b e = grind (arith, nat_tests, e)

    front_of : (r : Row) → is_front r.path r.path ≡ true
    front_of r = same_front r.path r.path (same_refl r.path)

    each : (k : ℕ) → option_to_list (row' k) ≡ filter (λ (r : Row). not (is_front r0.path r.path)) (option_to_list (row k))
    each k = ap option_to_list (rows_are k) ∙ cases (eqb k0 k) (row k) refl refl
      where
        outside : (r : Row) → eqb k0 k ≡ false → row k ≡ Some r → is_front r0.path r.path ≡ true → ⊥
        outside r f g e = absurd (true_false (eqb k0 k) (ap (eqb k0) (alone k r g e) ∙ one k0) f)

        cases : (t : Bool) (o : Option Row) → eqb k0 k ≡ t → row k ≡ o → option_to_list (cond t None o) ≡ filter (λ (r : Row). not (is_front r0.path r.path)) (option_to_list o)
        cases true o f g =
            let it : o ≡ Some r0 = sym g ∙ (ap row (sym (number_of k0 k f)) ∙ here) in
            sym (ap (λ (x : Option Row). filter (λ (r : Row). not (is_front r0.path r.path)) (option_to_list x)) it
            ∙ ap (λ (t : Bool). cond (not t) (r0 ∷ []) []) (front_of r0))
        cases false None f g = refl
        cases false (Some r) f g = sym (ap (λ (t : Bool). cond (not t) (r ∷ []) []) (not_true (is_front r0.path r.path) (outside r f g)))

    rows_is : rows_below row' next ≡ rows_outside (rows_below row next) r0.path
    rows_is = below_fewer (λ (r : Row). not (is_front r0.path r.path)) row row' next each

    counts : Counts (rows_below row' next) (rows_below row next) r0
    counts = below_one_less row row' k0 next r0 here rows_are (h.numbered k0 r0 here).given

    old_row : (k : ℕ) (r : Row) → row' k ≡ Some r → (eqb k0 k ≡ false) × (row k ≡ Some r)
    old_row k r e = cases (eqb k0 k) refl (sym (rows_are k) ∙ e)
      where
        cases : (t : Bool) → eqb k0 k ≡ t → cond t None (row k) ≡ Some r → (eqb k0 k ≡ false) × (row k ≡ Some r)
        cases true f g = absurd (cc)
        cases false f g = (f, g)

    numbered_here : (k : ℕ) (r : Row) → row' k ≡ Some r → IsNumbered next k r
    numbered_here k r e = h.numbered k r (old_row k r e).1

    own : AreOwn row (rows_below row next)
    own = own_below row next next h.numbered

    -- a row that goes is the one
    it_goes : (r : Row) → row r.number ≡ Some r → not (is_front r0.path r.path) ≡ false → r ≡ r0
    it_goes r e f =
        let number : r.number ≡ k0 = alone r.number r e (goes (is_front r0.path r.path) f) in
        some_is r r0 (sym e ∙ (ap row number ∙ here))
      where
        goes : (t : Bool) → not t ≡ false → t ≡ true
        goes true g = refl
        goes false g = absurd (cc)

    not_false : (t : Bool) → (t ≡ false → ⊥) → t ≡ true
    not_false true f = refl
    not_false false f = absurd (f refl)

    -- in another directory all stay
    elsewhere : (keys : Bool) (k : ℕ) (q : List (List ℕ)) → path_at row k ≡ Some q → (is_listed keys q r0 ≡ true → ⊥)
        → entries_in keys (rows_outside (rows_below row next) r0.path) q ≡ entries_in keys (rows_below row next) q
    elsewhere keys k q e none =
        ap (λ (l : List Row). map (λ (r : Row). entry_of (child_of r)) l)
        (filter_swapped (is_listed keys q) (λ (r : Row). not (is_front r0.path r.path)) (rows_below row next)
        ∙ kept_listed row keys q (λ (r : Row). not (is_front r0.path r.path)) (rows_below row next) own
        (λ r o l. not_false (not (is_front r0.path r.path)) (λ f. none (subst (λ (x : Row). is_listed keys q x ≡ true) (it_goes r o f) l))))

    is_name : (r : Row) (v : List (List ℕ)) (m : List ℕ) → IsRow false r → r.path ≡ v ++ m ∷ [] → IsName m
    is_name r v m h e = all_last IsName v m (subst (λ (x : List (List ℕ)). All IsName x) e h.path.names)

    not_not : (t : Bool) → not (not t) ≡ t
    not_not true = refl
    not_not false = refl

    there_at : (r : Row) → row r.number ≡ Some r → row_at (rows_below row next) r.path ≡ Some r
    there_at r o = row_there row names next count bytes r.number r h o

    name_is : IsName name
    name_is = is_name r0 u name (row_has (IsRow false) (rows_below row next) r0.path r0 h.database.rows (row_there row names next count bytes k0 r0 h here)) path

    -- of what stands in the row's directory just that row has its name
    by_name : (keys : Bool) (q : List (List ℕ)) → p ≡ q → (r : Row) → row r.number ≡ Some r → is_listed keys q r ≡ true
        → pointwise nat_eq (folded name) (folded (last_name r.path)) ≡ not (not (is_front r0.path r.path))
    by_name keys q e r o l =
        let placed = placed_found [] (rows_below row next) r.path r h.database.tree.placed (there_at r o) in
        let v : List (List ℕ) = placed.parent in
        let m : List ℕ = placed.name in
        let sv : same_path v q ≡ true = child_parent q v m (subst (λ (x : List (List ℕ)). is_child q x ≡ true) placed.path (and_right (is_kind keys r) (is_child q r.path) l)) in
        let uq : same_path u q ≡ true = same_sym q u (subst (λ (x : List (List ℕ)). same_path x u ≡ true) e same) in
        let uv : same_path u v ≡ true = same_trans u q v uq (same_sym v q sv) in
        let m_is : IsName m = is_name r v m (row_has (IsRow false) (rows_below row next) r.path r h.database.rows (there_at r o)) placed.path in
        ap (λ (x : List ℕ). pointwise nat_eq (folded name) (folded x)) (ap last_name placed.path ∙ last_push v m)
        ∙ (folded_same name m name_is m_is
        ∙ (ap (λ (t : Bool). t && same_name name m) (sym (same_front u v uv))
        ∙ (sym (front_split u v name m (same_long u v uv))
        ∙ (ap (λ (x : List (List ℕ)). is_front x (v ++ m ∷ [])) (sym path)
        ∙ (ap (is_front r0.path) (sym placed.path) ∙ sym (not_not (is_front r0.path r.path)))))))

    cut_here : (keys : Bool) (q : List (List ℕ)) → p ≡ q
        → remove_entry (pointwise nat_eq (folded name)) (entries_in keys (rows_below row next) q) ≡ entries_in keys (rows_outside (rows_below row next) r0.path) q
    cut_here keys q e =
        cut_listed row keys q (folded name) (λ (r : Row). not (is_front r0.path r.path)) r0 (rows_below row next) own h.database.tree.apart (by_name keys q e)
        (λ r o l f. subst (λ (x : Row). same_path x.path r0.path ≡ true) (sym (it_goes r o f)) (same_refl r0.path))
        ∙ ap (λ (l : List Row). map (λ (r : Row). entry_of (child_of r)) l) (sym (filter_swapped (is_listed keys q) (λ (r : Row). not (is_front r0.path r.path)) (rows_below row next)))

    left_here : (keys : Bool) (k : ℕ) (q : List (List ℕ)) → path_at row k ≡ Some q → p ≡ q
        → without_name keys (not (is_key r0)) (folded name) (entries_in keys (rows_below row next) q) ≡ entries_in keys (rows_outside (rows_below row next) r0.path) q
    left_here true k q e same_q = kinds (is_key r0) refl
      where
        none : is_key r0 ≡ false → is_listed true q r0 ≡ true → ⊥
        none f l = absurd (true_false (is_key r0) (and_left (is_key r0) (is_child q r0.path) l) f)

        kinds : (t : Bool) → is_key r0 ≡ t → cond (not t) (entries_in true (rows_below row next) q) (remove_entry (pointwise nat_eq (folded name)) (entries_in true (rows_below row next) q))
            ≡ entries_in true (rows_outside (rows_below row next) r0.path) q
        kinds true f = cut_here true q same_q
        kinds false f = sym (elsewhere true k q e (none f))
    left_here false k q e same_q = kinds (is_key r0) refl
      where
        none : is_key r0 ≡ true → is_listed false q r0 ≡ true → ⊥
        none f l = absurd (true_false (not (is_key r0)) (and_left (not (is_key r0)) (is_child q r0.path) l) (ap not f))

        kinds : (t : Bool) → is_key r0 ≡ t → cond (not t) (remove_entry (pointwise nat_eq (folded name)) (entries_in false (rows_below row next) q)) (entries_in false (rows_below row next) q)
            ≡ entries_in false (rows_outside (rows_below row next) r0.path) q
        kinds true f = sym (elsewhere false k q e (none f))
        kinds false f = cut_here false q same_q

    named_old : (keys : Bool) (k : ℕ) (q : List (List ℕ)) → path_at row k ≡ Some q
        → names_left keys at (not (is_key r0)) (folded name) k (names keys k) ≡ Some (entries_in keys (rows_outside (rows_below row next) r0.path) q)
    named_old keys k q e = ap (names_left keys at (not (is_key r0)) (folded name) k) (h.named keys k q e) ∙ cases (eqb k at) refl
      where
        other : eqb k at ≡ false → is_listed keys q r0 ≡ true → ⊥
        other f l =
            let child : is_child q (u ++ name ∷ []) ≡ true = subst (λ (x : List (List ℕ)). is_child q x ≡ true) path (and_right (is_kind keys r0) (is_child q r0.path) l) in
            let it : at ≡ k = one_number row names next count bytes at k p q h there e (same_trans p u q same (child_parent q u name child)) in
            absurd (true_false (eqb k at) (ap (λ (n : ℕ). eqb n at) (sym it) ∙ one at) f)

        cases : (t : Bool) → eqb k at ≡ t → cond t (option_map (without_name keys (not (is_key r0)) (folded name)) (Some (entries_in keys (rows_below row next) q))) (Some (entries_in keys (rows_below row next) q))
            ≡ Some (entries_in keys (rows_outside (rows_below row next) r0.path) q)
        cases true f =
            ap (λ (l : List (List ℕ × Child)). Some l) (left_here keys k q e (some_is p q (sym there ∙ (ap (path_at row) (sym (number_of k at f)) ∙ e))))
        cases false f = ap (λ (l : List (List ℕ × Child)). Some l) (sym (elsewhere keys k q e (other f)))

    named_here : (keys : Bool) (k : ℕ) (q : List (List ℕ)) → path_at row' k ≡ Some q → names' keys k ≡ Some (entries_in keys (rows_outside (rows_below row next) r0.path) q)
    named_here keys k q e = cases (eqb k0 k) refl
      where
        none_gone : eqb k0 k ≡ true → ⊥
        none_gone f =
            let it : k0 ≡ k = number_of k0 k f in
            let none : path_at row' k ≡ None =
            ap (λ (o : Option Row). cond (eqb k 0) (Some []) (option_map (λ (r : Row). r.path) o)) (rows_are k ∙ ap (λ (t : Bool). cond t None (row k)) f)
            ∙ ap (λ (t : Bool). cond t (Some []) None) (ap (λ (n : ℕ). eqb n 0) (sym it) ∙ root) in
            let no : None ≡ Some q = sym none ∙ e in absurd (cc)

        cases : (t : Bool) → eqb k0 k ≡ t → names' keys k ≡ Some (entries_in keys (rows_outside (rows_below row next) r0.path) q)
        cases true f = absurd (none_gone f)
        cases false f =
            names_are keys k f
            ∙ named_old keys k q (sym (ap (λ (o : Option Row). cond (eqb k 0) (Some []) (option_map (λ (r : Row). r.path) o)) (rows_are k ∙ ap (λ (t : Bool). cond t None (row k)) f)) ∙ e)
