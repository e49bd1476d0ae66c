-- An arena with one row more.
use Rattle.std.proofs.Common.{◌≡◌, ℕ, ◌+◌, ◌<◌, ◌≤◌, Bool, true, false, not, cond, ◌&&◌, ◌==◌, eqb, List, [], ◌∷◌, ◌++◌, length, map, Option, Some, None, refl, sym, ap, ◌∙◌, subst, arith, length-append, append_assoc, append-nil, inl, inr, ◌⊎◌}
use Rattle.std.specs.List.{filter}
use Rattle.std.specs.Option.{option_map}
use Rattle.std.proofs.lemmas.Bool.Decides.{nat_tests}
use Rattle.std.proofs.lemmas.List.Sums.{sum_by_push}
use Rattle.odb_value.specs.Paths.{is_front, same_path}
use Rattle.odb_tree.specs.declared.rows.Row.{Row}
use Rattle.odb_tree.specs.declared.children.Child.{Child}
use Rattle.odb_tree.specs.Rows.{no_rows, row_at, row_numbered, is_key, is_kind, is_child, is_listed, bytes_of_row, total_of}
use Rattle.odb_tree.specs.Calls.{child_of}
use Rattle.odb_tree.specs.Trees.{HasDir, IsDir, ArePlaced, AreApart, AreRising, with_rows}
use Rattle.odb_tree.specs.Databases.{IsDatabase}
use Rattle.odb_tree.specs.WalkLaws.{NoneAt}
use Rattle.odb_tree.proofs.WalkLaws.{and_left, and_right, both, true_false, not_true, and_false}
use Rattle.odb_tree.proofs.Trees.{same_long, long_same, same_refl, none_same, front_sym, front_within, front_more}
use Rattle.odb_tree.proofs.Placed.{none_around}
use Rattle.odb_arena.specs.Names.{entry_of, with_child}
use Rattle.odb_arena.specs.Arena.{rows_below, all_rows, path_at, entries_in, names_entered, IsNumbered, IsArena}
use Rattle.odb_arena.proofs.Below.{below_more, number_is}
use Rattle.odb_arena.proofs.Finding.{none_row}
use Rattle.odb_arena.proofs.Leading.{row_same, found_or}

-- a row is found at its own path
pub own_row : (rows : List Row) (k : ℕ) (r : Row) → AreApart rows → row_numbered rows k ≡ Some r → row_at rows r.path ≡ Some r
own_row [] k r h e = absurd (cc)
own_row (x ∷ xs) k r h e = elim (found_or (eqb x.number k) x r (row_numbered xs k) e) [ inl w ↦ here w.1 | inr w ↦ later (own_row xs k r h.1 w.1) ]
  where
    here : x ≡ r → cond (same_path x.path r.path) (Some x) (row_at xs r.path) ≡ Some r
    here w =
        ap (λ (t : Bool). cond t (Some x) (row_at xs r.path)) (subst (λ (y : Row). same_path x.path y.path ≡ true) w (same_refl x.path))
        ∙ ap (λ (y : Row). Some y) w

    apart_from : same_path x.path r.path ≡ true → row_at xs r.path ≡ Some r → ⊥
    apart_from s f = let none : None ≡ Some r = sym (none_row r.path xs (none_same x.path r.path xs s h.0)) ∙ f in absurd (cc)

    later : row_at xs r.path ≡ Some r → cond (same_path x.path r.path) (Some x) (row_at xs r.path) ≡ Some r
    later f = ap (λ (t : Bool). cond t (Some x) (row_at xs r.path)) (not_true (same_path x.path r.path) (λ s. apart_from s f)) ∙ f

pub some_is : {X : Type 0} (a b : X) → Some a ≡ Some b → a ≡ b
some_is a b h = cc

pub row_there : (row : ℕ → Option Row) (names : Bool → ℕ → Option (List (List ℕ × Child))) (next count bytes k : ℕ) (r : Row) → IsArena row names next count bytes → row k ≡ Some r
    → row_at (rows_below row next) r.path ≡ Some r
row_there row names next count bytes k r h e = own_row (rows_below row next) k r h.database.tree.apart (number_is row next k h.numbered ∙ e)

-- a row's number is not that of the root
number_some : (from : ℕ) (rows : List Row) (next : ℕ) (p : List (List ℕ)) (r : Row) → 1 ≤ r.number → eqb r.number 0 ≡ false
number_some from rows next p r h = not_zero r.number h
  where
    not_zero : (k : ℕ) → 1 ≤ k → eqb k 0 ≡ false
    not_zero k l = grind (arith, nat_tests, l)

is_zero : (k : ℕ) → eqb k 0 ≡ true → k ≡ 0
is_zero k h = grind (arith, nat_tests, h)

-- what a path by number comes from: the root, or a row
pub from_path : (row : ℕ → Option Row) (k : ℕ) (p : List (List ℕ)) → path_at row k ≡ Some p → ((k ≡ 0) × (p ≡ [])) ⊎ ((r : Row) × (row k ≡ Some r) × (r.path ≡ p))
from_path row k p h = cases (eqb k 0) (row k) refl refl h
  where
    cases : (t : Bool) (o : Option Row) → eqb k 0 ≡ t → row k ≡ o → cond t (Some []) (option_map (λ (r : Row). r.path) o) ≡ Some p
        → ((k ≡ 0) × (p ≡ [])) ⊎ ((r : Row) × (row k ≡ Some r) × (r.path ≡ p))
    cases true o e f g = inl (is_zero k e, let same : Some p ≡ Some [] = sym g in some_is p [] same)
    cases false None e f g = absurd (cc)
    cases false (Some r) e f g = inr (r, f, some_is r.path p g)

pub found_some : (before rows : List Row) (p : List (List ℕ)) (r : Row) → ArePlaced before rows → row_at rows p ≡ Some r → 0 < length r.path
found_some before [] p r h e = absurd (cc)
found_some before (x ∷ xs) p r h e =
    elim (found_or (same_path x.path p) x r (row_at xs p) e) [
      | inl w ↦ subst (λ (y : Row). 0 < length y.path) w.1 (omega (arith, ap (λ (q : List (List ℕ)). length q) h.0.path, length-append h.0.parent (h.0.name ∷ [])))
      | inr w ↦ found_some (before ++ x ∷ []) xs p r h.1 w.1
    ]

-- different numbers have different paths
pub one_number : (row : ℕ → Option Row) (names : Bool → ℕ → Option (List (List ℕ × Child))) (next count bytes a b : ℕ) (p q : List (List ℕ)) → IsArena row names next count bytes
    → path_at row a ≡ Some p → path_at row b ≡ Some q → same_path p q ≡ true → a ≡ b
one_number row names next count bytes a b p q h e f same =
    elim (from_path row a p e) [
      | inl w ↦ elim (from_path row b q f) [
        | inl v ↦ w.0 ∙ sym v.0
        | inr v ↦ absurd (omega (arith, rooted v.0 v.1, same_long p q same, ap (λ (l : List (List ℕ)). length l) w.1, ap (λ (l : List (List ℕ)). length l) v.2))
      ]
      | inr w ↦ elim (from_path row b q f) [
        | inl v ↦ absurd (omega (arith, root_of w.0 w.1, same_long p q same, ap (λ (l : List (List ℕ)). length l) v.1, ap (λ (l : List (List ℕ)). length l) w.2))
        | inr v ↦ both_rows w.0 v.0 w.1 v.1 w.2 v.2
      ]
    ]
  where
    some_path : (k : ℕ) (r : Row) → row k ≡ Some r → 0 < length r.path
    some_path k r e = found_some [] (rows_below row next) r.path r h.database.tree.placed (row_there row names next count bytes k r h e)

    rooted : (r : Row) → row b ≡ Some r → 0 < length r.path
    rooted r e = some_path b r e

    root_of : (r : Row) → row a ≡ Some r → 0 < length r.path
    root_of r e = some_path a r e

    both_rows : (r s : Row) → row a ≡ Some r → row b ≡ Some s → r.path ≡ p → s.path ≡ q → a ≡ b
    both_rows r s ra sb rp sq =
        let there : row_at (rows_below row next) p ≡ Some r = ap (row_at (rows_below row next)) (sym rp) ∙ row_there row names next count bytes a r h ra in
        let here : row_at (rows_below row next) q ≡ Some s = ap (row_at (rows_below row next)) (sym sq) ∙ row_there row names next count bytes b s h sb in
        let one : r ≡ s = some_is r s (sym there ∙ (row_same (rows_below row next) p q same ∙ here)) in
        sym (h.numbered a r ra).own ∙ (ap (λ (x : Row). x.number) one ∙ (h.numbered b s sb).own)

-- the directory of what stands in a directory has its path
pub child_parent : (q u : List (List ℕ)) (m : List ℕ) → is_child q (u ++ m ∷ []) ≡ true → same_path u q ≡ true
child_parent q u m h =
    let long : length u ≡ length q = lengths (length (u ++ m ∷ [])) (length q) (and_left (length (u ++ m ∷ []) == length q + 1) (is_front q (u ++ m ∷ [])) h) (length-append u (m ∷ [])) in
    long_same u q long (front_sym q u (sym long) (front_within q u (m ∷ []) (and_right (length (u ++ m ∷ []) == length q + 1) (is_front q (u ++ m ∷ [])) h) (omega (arith, long))))
  where
    lengths : (a b : ℕ) → eqb a (b + 1) ≡ true → a ≡ length u + 1 → length u ≡ b
    lengths a b e l = omega (arith, let k : a ≡ b + 1 = grind (arith, nat_tests, e) in k, l)

dir_there : (before : List Row) (u q : List (List ℕ)) → HasDir before u → same_path u q ≡ true → NoneAt q before → ⊥
unfolding NoneAt
dir_there before u q h same none = met h.front h.dir h.back (subst (NoneAt q) h.there none) (subst (λ (p : List (List ℕ)). same_path p q ≡ true) (sym h.path) same)
  where
    met : (front : List Row) (d : Row) (back : List Row) → NoneAt q (front ++ d ∷ back) → same_path d.path q ≡ true → ⊥
    met [] d back k s = absurd (true_false (same_path d.path q) s k.0)
    met (x ∷ xs) d back k s = met xs d back k.1 s

none_left : (q : List (List ℕ)) (xs ys : List Row) → NoneAt q (xs ++ ys) → NoneAt q xs
unfolding NoneAt
none_left q [] ys h = tt
none_left q (x ∷ xs) ys h = (h.0, none_left q xs ys h.1)

-- nothing stands below a path at which nothing is
pub empty_under : (keys : Bool) (q : List (List ℕ)) (before rows : List Row) → 0 < length q → ArePlaced before rows → NoneAt q (before ++ rows) → filter (is_listed keys q) rows ≡ []
empty_under keys q before [] some h none = refl
empty_under keys q before (r ∷ rs) some h none =
    ap (λ (t : Bool). cond t (r ∷ filter (is_listed keys q) rs) (filter (is_listed keys q) rs)) (not_true (is_listed keys q r) (λ e. listed e))
    ∙ empty_under keys q (before ++ r ∷ []) rs some h.1 (subst (NoneAt q) (sym (append_assoc before (r ∷ []) rs)) none)
  where
    in_dir : same_path h.0.parent q ≡ true → IsDir before h.0.parent → ⊥
    in_dir same (inl root) = absurd (omega (arith, some, same_long h.0.parent q same, ap (λ (l : List (List ℕ)). length l) root))
    in_dir same (inr has) = dir_there before h.0.parent q has same (none_left q before (r ∷ rs) none)

    listed : is_listed keys q r ≡ true → ⊥
    listed e =
        in_dir (child_parent q h.0.parent h.0.name (subst (λ (p : List (List ℕ)). is_child q p ≡ true) h.0.path (and_right (is_kind keys r) (is_child q r.path) e))) h.0.there

pub rising_least : (from : ℕ) (rows : List Row) (next : ℕ) → AreRising from rows next → from ≤ next
rising_least from [] next h = h
rising_least from (r ∷ rs) next h = omega (arith, h.0, rising_least (r.number + 1) rs next h.1)

pub next_some : (row : ℕ → Option Row) (names : Bool → ℕ → Option (List (List ℕ × Child))) (next count bytes : ℕ) → IsArena row names next count bytes → 1 ≤ next
next_some row names next count bytes h = rising_least 1 (rows_below row next) next h.database.tree.numbered

zero_not : (k n : ℕ) → eqb n k ≡ true → 1 ≤ n → eqb k 0 ≡ false
zero_not k n e l = grind (arith, nat_tests, e, l)

number_of_test : (n k : ℕ) → eqb n k ≡ true → n ≡ k
number_of_test n k e = grind (arith, nat_tests, e)

pub path_there : (row : ℕ → Option Row) (k : ℕ) (r : Row) → eqb k 0 ≡ false → row k ≡ Some r → path_at row k ≡ Some r.path
path_there row k r z e = ap (λ (t : Bool). cond t (Some []) (option_map (λ (x : Row). x.path) (row k))) z ∙ ap (option_map (λ (x : Row). x.path)) e

entries_append : (keys : Bool) (xs ys : List Row) (q : List (List ℕ)) → entries_in keys (xs ++ ys) q ≡ entries_in keys xs q ++ entries_in keys ys q
entries_append keys [] ys q = refl
entries_append keys (x ∷ xs) ys q = added (is_listed keys q x) x (filter (is_listed keys q) xs) (filter (is_listed keys q) ys) (filter (is_listed keys q) (xs ++ ys)) (entries_append keys xs ys q)
  where
    added : (t : Bool) (x : Row) (us vs ws : List Row) → map (λ (r : Row). entry_of (child_of r)) ws ≡ map (λ (r : Row). entry_of (child_of r)) us ++ map (λ (r : Row). entry_of (child_of r)) vs
        → map (λ (r : Row). entry_of (child_of r)) (cond t (x ∷ ws) ws) ≡ map (λ (r : Row). entry_of (child_of r)) (cond t (x ∷ us) us) ++ map (λ (r : Row). entry_of (child_of r)) vs
    added true x us vs ws e = ap (λ (l : List (List ℕ × Child)). entry_of (child_of x) ∷ l) e
    added false x us vs ws e = e

entries_one : (keys : Bool) (new : Row) (q : List (List ℕ)) → is_listed keys q new ≡ false → entries_in keys (new ∷ []) q ≡ []
entries_one keys new q e = ap (λ (t : Bool). map (λ (r : Row). entry_of (child_of r)) (cond t (new ∷ []) [])) e

-- a new child goes behind those of its kind
entered_here : (keys : Bool) (new : Row) (p : List (List ℕ)) (E : List (List ℕ × Child)) → is_child p new.path ≡ true → with_child keys (child_of new) E ≡ E ++ entries_in keys (new ∷ []) p
entered_here true new p E e = kinds (is_key new) ∙ ap (λ (t : Bool). E ++ map (λ (r : Row). entry_of (child_of r)) (cond (is_key new && t) (new ∷ []) [])) (sym e)
  where
    kinds : (k : Bool) → cond (not k) E (E ++ entry_of (child_of new) ∷ []) ≡ E ++ map (λ (r : Row). entry_of (child_of r)) (cond (k && true) (new ∷ []) [])
    kinds true = refl
    kinds false = sym (append-nil E)
entered_here false new p E e = kinds (is_key new) ∙ ap (λ (t : Bool). E ++ map (λ (r : Row). entry_of (child_of r)) (cond (not (is_key new) && t) (new ∷ []) [])) (sym e)
  where
    kinds : (k : Bool) → cond (not k) (E ++ entry_of (child_of new) ∷ []) E ≡ E ++ map (λ (r : Row). entry_of (child_of r)) (cond (not k && true) (new ∷ []) [])
    kinds true = sym (append-nil E)
    kinds false = refl

push_child : (p : List (List ℕ)) (name : List ℕ) → is_child p (p ++ name ∷ []) ≡ true
push_child p name = both (length (p ++ name ∷ []) == length p + 1) (is_front p (p ++ name ∷ [])) (lengths (length (p ++ name ∷ [])) (length p) (length-append p (name ∷ []))) (front_more p (name ∷ []))
  where
    lengths : (a b : ℕ) → a ≡ b + 1 → eqb a (b + 1) ≡ true
    lengths a b e = grind (arith, nat_tests, e)

not_own_child : (keys : Bool) (r : Row) → is_listed keys r.path r ≡ false
not_own_child keys r = ap (λ (t : Bool). is_kind keys r && (t && is_front r.path r.path)) (longer (length r.path)) ∙ and_false (is_kind keys r)
  where
    longer : (n : ℕ) → eqb n (n + 1) ≡ false
    longer n = grind (arith, nat_tests)

-- an arena with one row more, in the directory with the number `at`
pub arena_more : (row row' : ℕ → Option Row) (names names' : Bool → ℕ → Option (List (List ℕ × Child))) (next count bytes at : ℕ) (p : List (List ℕ)) (name : List ℕ) (new : Row)
    → IsArena row names next count bytes → path_at row at ≡ Some p → new.number ≡ next → new.path ≡ p ++ name ∷ [] → IsDatabase (with_rows (all_rows row next) (new ∷ []))
    → ((k : ℕ) → row' k ≡ cond (eqb next k) (Some new) (row k))
    → ((keys : Bool) (k : ℕ) → names' keys k ≡ cond (eqb next k) (Some []) (names_entered keys at (child_of new) k (names keys k)))
    → (all_rows row' (next + 1) ≡ with_rows (all_rows row next) (new ∷ [])) × IsArena row' names' (next + 1) (count + 1) (bytes + bytes_of_row new)
arena_more row row' names names' next count bytes at p name new h there number path database rows_are names_are = (
  ap (λ (l : List Row). record no_rows { rows = l; next = next + 1 }) rows_is,
  record {
    database = subst IsDatabase (sym (ap (λ (l : List Row). record no_rows { rows = l; next = next + 1 }) rows_is)) database;
    numbered = λ k r e. numbered_here k r e;
    named = λ keys k q e. subst (λ (l : List Row). names' keys k ≡ Some (entries_in keys l q)) (sym rows_is) (named_here keys k q e);
    counted = omega (arith, h.counted, ap (λ (l : List Row). length l) rows_is, length-append (rows_below row next) (new ∷ []));
    weighed = omega (arith, h.weighed, ap total_of rows_is, sum_by_push bytes_of_row (rows_below row next) new);
  },
)
  where
    other : (n k : ℕ) → k < n → eqb n k ≡ false
    other n k l = grind (arith, nat_tests, l)

    own : (n : ℕ) → eqb n n ≡ true
    own n = grind (arith, nat_tests)

    rows_is : rows_below row' (next + 1) ≡ rows_below row next ++ new ∷ []
    rows_is =
        below_more row row' next new (λ k l. rows_are k ∙ ap (λ (t : Bool). cond t (Some new) (row k)) (other next k l))
        (rows_are next ∙ ap (λ (t : Bool). cond t (Some new) (row next)) (own next))

    numbered_here : (k : ℕ) (r : Row) → row' k ≡ Some r → IsNumbered (next + 1) k r
    numbered_here k r e = cases (eqb next k) refl (sym (rows_are k) ∙ e)
      where
        cases : (t : Bool) → eqb next k ≡ t → cond t (Some new) (row k) ≡ Some r → IsNumbered (next + 1) k r
        cases true f g =
            let one : new ≡ r = some_is new r g in
            let same : next ≡ k = number_of_test next k f in
            record { own = ap (λ (x : Row). x.number) (sym one) ∙ (number ∙ same); given = omega (arith, same) }
        cases false f g = let was = h.numbered k r g in record { own = was.own; given = omega (arith, was.given) }

    free : NoneAt new.path (rows_below row next)
    free = (none_around (rows_below row next) new [] database.tree.apart).0

    path_some : 0 < length new.path
    path_some = omega (arith, ap (λ (l : List (List ℕ)). length l) path, length-append p (name ∷ []))

    named_new : (keys : Bool) (q : List (List ℕ)) → new.path ≡ q → Some [] ≡ Some (entries_in keys (rows_below row next ++ new ∷ []) q)
    named_new keys q same =
        sym (ap (λ (x : List (List ℕ)). Some (entries_in keys (rows_below row next ++ new ∷ []) x)) (sym same)
        ∙ (ap (λ (l : List (List ℕ × Child)). Some l) (entries_append keys (rows_below row next) (new ∷ []) new.path)
        ∙ (ap (λ (l : List Row). Some (map (λ (r : Row). entry_of (child_of r)) l ++ entries_in keys (new ∷ []) new.path)) (empty_under keys new.path [] (rows_below row next) path_some h.database.tree.placed free)
        ∙ ap (λ (l : List (List ℕ × Child)). Some l) (entries_one keys new new.path (not_own_child keys new)))))

    named_old : (keys : Bool) (k : ℕ) (q : List (List ℕ)) → path_at row k ≡ Some q → names_entered keys at (child_of new) k (names keys k) ≡ Some (entries_in keys (rows_below row next ++ new ∷ []) q)
    named_old keys k q e =
        ap (names_entered keys at (child_of new) k) (h.named keys k q e)
        ∙ (cases (eqb k at) refl ∙ ap (λ (l : List (List ℕ × Child)). Some l) (sym (entries_append keys (rows_below row next) (new ∷ []) q)))
      where
        at_other : eqb k at ≡ false → is_listed keys q new ≡ true → ⊥
        at_other f l =
            let child : is_child q (p ++ name ∷ []) ≡ true = subst (λ (x : List (List ℕ)). is_child q x ≡ true) path (and_right (is_kind keys new) (is_child q new.path) l) in
            let same : at ≡ k = one_number row names next count bytes at k p q h there e (child_parent q p name child) in
            absurd (true_false (eqb k at) (ap (λ (n : ℕ). eqb n at) (sym same) ∙ own at) f)

        cases : (t : Bool) → eqb k at ≡ t → cond t (option_map (with_child keys (child_of new)) (Some (entries_in keys (rows_below row next) q))) (Some (entries_in keys (rows_below row next) q))
            ≡ Some (entries_in keys (rows_below row next) q ++ entries_in keys (new ∷ []) q)
        cases true f =
            let here : k ≡ at = number_of_test k at f in
            let same : p ≡ q = some_is p q (sym there ∙ (ap (path_at row) (sym here) ∙ e)) in
            ap (λ (l : List (List ℕ × Child)). Some l) (entered_here keys new q (entries_in keys (rows_below row next) q)
            (subst (λ (x : List (List ℕ)). is_child q x ≡ true) (sym path) (subst (λ (x : List (List ℕ)). is_child x (p ++ name ∷ []) ≡ true) same (push_child p name))))
        cases false f =
            ap (λ (l : List (List ℕ × Child)). Some l) (sym (ap (λ (l : List (List ℕ × Child)). entries_in keys (rows_below row next) q ++ l) (entries_one keys new q (not_true (is_listed keys q new) (at_other f)))
            ∙ append-nil (entries_in keys (rows_below row next) q)))

    named_here : (keys : Bool) (k : ℕ) (q : List (List ℕ)) → path_at row' k ≡ Some q → names' keys k ≡ Some (entries_in keys (rows_below row next ++ new ∷ []) q)
    named_here keys k q e = names_are keys k ∙ cases (eqb next k) refl
      where
        new_path : eqb next k ≡ true → new.path ≡ q
        new_path f =
            some_is new.path q (sym (path_there row' k new (zero_not k next f (next_some row names next count bytes h)) (rows_are k ∙ ap (λ (t : Bool). cond t (Some new) (row k)) f)) ∙ e)

        old_path : eqb next k ≡ false → path_at row k ≡ Some q
        old_path f = sym (ap (λ (o : Option Row). cond (eqb k 0) (Some []) (option_map (λ (r : Row). r.path) o)) (rows_are k ∙ ap (λ (t : Bool). cond t (Some new) (row k)) f)) ∙ e

        cases : (t : Bool) → eqb next k ≡ t → cond t (Some []) (names_entered keys at (child_of new) k (names keys k)) ≡ Some (entries_in keys (rows_below row next ++ new ∷ []) q)
        cases true f = named_new keys q (new_path f)
        cases false f = named_old keys k q (old_path f)
