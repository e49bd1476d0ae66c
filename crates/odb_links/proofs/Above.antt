-- In a tree nothing stands below a path at which no directory is.
use Rattle.std.proofs.Common.{◌≡◌, ◌≢◌, Ok, Err, ℕ, ◌<◌, Bool, true, false, cond, List, [], ◌∷◌, ◌++◌, length, Option, Some, None, ◌⊎◌, inl, inr, refl, sym, ap, ◌∙◌, subst, arith, length-append, append_assoc, append-nil, ◌+◌, ◌-◌, take, get_or}
use Rattle.std.specs.Option.{option_or}
use Rattle.std.proofs.lemmas.List.{take_more, take_all}
use Rattle.odb_value.specs.Paths.{same_path}
use Rattle.odb_tree.specs.declared.rows.Row.{Row}
use Rattle.odb_tree.specs.declared.refusals.OdbRefusal.{OdbRefusal}
use Rattle.odb_tree.specs.declared.refusals.OdbRefusal.TheVariants.{NotDir, NoKey}
use Rattle.odb_tree.specs.Rows.{Rows, row_at, is_key}
use Rattle.odb_tree.specs.Lookups.{parent_of, obstacle_at, obstacle_from, obstacle_to, found_row}
use Rattle.odb_tree.specs.Calls.{number_reply, find_reply}
use Rattle.odb_tree.specs.Trees.{HasDir, IsDir, IsPlaced, ArePlaced, AreApart, IsTree}
use Rattle.odb_tree.specs.WalkLaws.{NoneAt}
use Rattle.odb_tree.proofs.WalkLaws.{front_trans}
use Rattle.odb_tree.proofs.Trees.{front_more, front_within, same_long, same_front, long_same, none_same, is_dir_append}
use Rattle.odb_tree.proofs.Placed.{none_around}

pub found_or : (t : Bool) (x r : Row) (o : Option Row) → cond t (Some x) o ≡ Some r → ((t ≡ true) × (x ≡ r)) ⊎ ((t ≡ false) × (o ≡ Some r))
found_or true x r o h = inl (refl, cc)
found_or false x r o h = inr (refl, h)

placed_found : (before rows : List Row) (p : List (List ℕ)) (r : Row) → ArePlaced before rows → row_at rows p ≡ Some r → IsPlaced (before ++ rows) r.path
placed_found before [] p r h e = absurd (cc)
placed_found before (x ∷ xs) p r h e =
    elim (found_or (same_path x.path p) x r (row_at xs p) e) [
      | inl w ↦ subst (λ (y : Row). IsPlaced (before ++ x ∷ xs) y.path) w.1 (record { parent = h.0.parent; name = h.0.name; path = h.0.path; there = is_dir_append before (x ∷ xs) h.0.parent h.0.there })
      | inr w ↦ subst (λ (l : List Row). IsPlaced l r.path) (append_assoc before (x ∷ []) xs) (placed_found (before ++ x ∷ []) xs p r h.1 w.1)
    ]

pub found_passes : (rows : List Row) (p : List (List ℕ)) (r : Row) → row_at rows p ≡ Some r → same_path r.path p ≡ true
found_passes [] p r e = absurd (cc)
found_passes (x ∷ xs) p r e =
    elim (found_or (same_path x.path p) x r (row_at xs p) e) [
      | inl w ↦ subst (λ (y : Row). same_path y.path p ≡ true) w.1 w.0
      | inr w ↦ found_passes xs p r w.1
    ]

same_parent : (u q : List (List ℕ)) (m n : List ℕ) → same_path (u ++ m ∷ []) (q ++ n ∷ []) ≡ true → same_path u q ≡ true
same_parent u q m n h =
    let long : length u ≡ length q = omega (arith, same_long (u ++ m ∷ []) (q ++ n ∷ []) h, length-append u (m ∷ []), length-append q (n ∷ [])) in
    long_same u q long (front_within u q (n ∷ []) (front_trans u (u ++ m ∷ []) (q ++ n ∷ []) (front_more u (m ∷ [])) (same_front (u ++ m ∷ []) (q ++ n ∷ []) h)) (omega (arith, long)))

behind_none : (front : List Row) (p : List (List ℕ)) (rest : List Row) → NoneAt p front → row_at (front ++ rest) p ≡ row_at rest p
unfolding NoneAt
behind_none [] p rest h = refl
behind_none (x ∷ xs) p rest h = ap (λ (t : Bool). cond t (Some x) (row_at (xs ++ rest) p)) h.0 ∙ behind_none xs p rest h.1

-- a directory that is among the rows is found at its path
dir_found : (rows : List Row) (u q : List (List ℕ)) (h : HasDir rows u) → AreApart rows → same_path u q ≡ true → row_at rows q ≡ Some h.dir
dir_found rows u q h apart same =
    let around = none_around h.front h.dir h.back (subst AreApart h.there apart) in
    let here : same_path h.dir.path q ≡ true = subst (λ (p : List (List ℕ)). same_path p q ≡ true) (sym h.path) same in
    ap (λ (l : List Row). row_at l q) h.there
    ∙ (behind_none h.front q (h.dir ∷ h.back) (none_same h.dir.path q h.front here around.0)
    ∙ ap (λ (t : Bool). cond t (Some h.dir) (row_at h.back q)) here)

-- this is the path of the root, or a directory is found at it
pub IsDirAt : List Row → List (List ℕ) → Type 0
IsDirAt rows q = (q ≡ []) ⊎ ((d : Row) × (row_at rows q ≡ Some d) × (is_key d ≡ false))

no_names : (q : List (List ℕ)) → length q ≡ 0 → q ≡ []
no_names [] h = refl
no_names (n ∷ ns) h = absurd (omega (arith, h))

-- what stands below a path stands in a directory
pub stands_in_dir : (s : Rows) (q : List (List ℕ)) (n : List ℕ) (r : Row) → IsTree s → row_at s.rows (q ++ n ∷ []) ≡ Some r → IsDirAt s.rows q
unfolding IsDirAt
stands_in_dir s q n r tree e = of_placed (placed_found [] s.rows (q ++ n ∷ []) r tree.placed e)
  where
    in_dir : (u : List (List ℕ)) → same_path u q ≡ true → IsDir s.rows u → (q ≡ []) ⊎ ((d : Row) × (row_at s.rows q ≡ Some d) × (is_key d ≡ false))
    in_dir u same (inl root) = inl (let z : length u ≡ 0 = ap (λ (l : List (List ℕ)). length l) root in no_names q (omega (arith, same_long u q same, z)))
    in_dir u same (inr has) = inr (has.dir, dir_found s.rows u q has tree.apart same, has.kind)

    of_placed : IsPlaced s.rows r.path → (q ≡ []) ⊎ ((d : Row) × (row_at s.rows q ≡ Some d) × (is_key d ≡ false))
    of_placed placed =
        in_dir placed.parent (same_parent placed.parent q placed.name n (subst (λ (p : List (List ℕ)). same_path p (q ++ n ∷ []) ≡ true) placed.path (found_passes s.rows (q ++ n ∷ []) r e))) placed.there

nothing : (o : Option Row) → ((r : Row) → o ≡ Some r → ⊥) → o ≡ None
nothing None h = refl
nothing (Some r) h = absurd (h r refl)

-- below a path at which nothing stands there is nothing
none_under : (s : Rows) (q : List (List ℕ)) (n : List ℕ) → IsTree s → 0 < length q → row_at s.rows q ≡ None → row_at s.rows (q ++ n ∷ []) ≡ None
unfolding IsDirAt
none_under s q n tree some none =
    nothing (row_at s.rows (q ++ n ∷ [])) (λ r e. elim (stands_in_dir s q n r tree e) [
      | inl w ↦ let z : length q ≡ 0 = ap (λ (l : List (List ℕ)). length l) w in absurd (omega (arith, some, z))
      | inr w ↦ let k : None ≡ Some w.0 = sym none ∙ w.1 in absurd (cc)
    ])

longer : (q : List (List ℕ)) (n : List ℕ) → 0 < length (q ++ n ∷ [])
longer q n = omega (arith, length-append q (n ∷ []))

pub none_below : (s : Rows) (q more : List (List ℕ)) → IsTree s → 0 < length q → row_at s.rows q ≡ None → row_at s.rows (q ++ more) ≡ None
none_below s q [] tree some none = ap (row_at s.rows) (append-nil q) ∙ none
none_below s q (n ∷ more) tree some none =
    ap (row_at s.rows) (sym (append_assoc q (n ∷ []) more)) ∙ none_below s (q ++ n ∷ []) more tree (longer q n) (none_under s q n tree some none)

-- above what stands somewhere there is a directory
dir_above : (s : Rows) (q : List (List ℕ)) (m : List ℕ) (more : List (List ℕ)) (r : Row) → IsTree s → row_at s.rows (q ++ m ∷ more) ≡ Some r → IsDirAt s.rows q
dir_above s q m more r tree e = at (row_at s.rows (q ++ m ∷ [])) refl
  where
    at : (o : Option Row) → row_at s.rows (q ++ m ∷ []) ≡ o → IsDirAt s.rows q
    at None is = let k : None ≡ Some r = sym (ap (row_at s.rows) (sym (append_assoc q (m ∷ []) more)) ∙ none_below s (q ++ m ∷ []) more tree (longer q m) is) ∙ e in absurd (cc)
    at (Some x) is = stands_in_dir s q m x tree is

dir_over : (s : Rows) (q names : List (List ℕ)) (n : List ℕ) (r : Row) → IsTree s → row_at s.rows (q ++ (names ++ n ∷ [])) ≡ Some r → IsDirAt s.rows q
dir_over s q [] n r tree e = dir_above s q n [] r tree e
dir_over s q (m ∷ names) n r tree e = dir_above s q m (names ++ n ∷ []) r tree e

dir_alone : (rows : List Row) (q : List (List ℕ)) → 0 < length q → IsDirAt rows q → (d : Row) × (row_at rows q ≡ Some d) × (is_key d ≡ false)
unfolding IsDirAt
dir_alone rows q some (inl root) = let z : length q ≡ 0 = ap (λ (l : List (List ℕ)). length l) root in absurd (omega (arith, some, z))
dir_alone rows q some (inr dir) = dir

-- from where something stands all names before lead through directories
clear_from : (s : Rows) (missing : Option OdbRefusal) (q names : List (List ℕ)) (n : List ℕ) (r : Row) → IsTree s → row_at s.rows (q ++ (names ++ n ∷ [])) ≡ Some r → obstacle_from missing s.rows q names ≡ None
clear_from s missing q [] n r tree e = refl
clear_from s missing q (name ∷ names) n r tree e =
    let behind : row_at s.rows ((q ++ name ∷ []) ++ (names ++ n ∷ [])) ≡ Some r = ap (row_at s.rows) (append_assoc q (name ∷ []) (names ++ n ∷ [])) ∙ e in
    let dir = dir_alone s.rows (q ++ name ∷ []) (longer q name) (dir_over s (q ++ name ∷ []) names n r tree behind) in
    ap (λ (x : Option Row). option_or (obstacle_at missing x) (obstacle_from missing s.rows (q ++ name ∷ []) names)) dir.1
    ∙ (ap (λ (b : Bool). option_or (cond b (Some NotDir) None) (obstacle_from missing s.rows (q ++ name ∷ []) names)) dir.2 ∙ clear_from s missing (q ++ name ∷ []) names n r tree behind)

-- a path that is not the root's, as its directory's and a name
parent_and : (p : List (List ℕ)) → 0 < length p → (n : List ℕ) × (p ≡ parent_of p ++ n ∷ [])
parent_and p some =
    let i : ℕ = length p - 1 in
    (get_or p i [], sym (take_all (length p) p (omega arith)) ∙ (ap (λ (k : ℕ). take k p) {x = length p} {y = i + 1} (omega (arith, some)) ∙ take_more p i [] (omega (arith, some))))

-- where something stands nothing is in the way
pub nothing_before : (s : Rows) (missing : Option OdbRefusal) (p : List (List ℕ)) (r : Row) → IsTree s → 0 < length p → row_at s.rows p ≡ Some r → obstacle_from missing s.rows [] (parent_of p) ≡ None
nothing_before s missing p r tree some e =
    let whole = parent_and p some in clear_from s missing [] (parent_of p) whole.0 r tree (ap (row_at s.rows) (sym whole.1) ∙ e)

-- no row has the path of the root
pub root_free : (s : Rows) (r : Row) → IsTree s → row_at s.rows [] ≡ Some r → ⊥
root_free s r tree e =
    let placed = placed_found [] s.rows [] r tree.placed e in
    let long : length r.path ≡ 0 = same_long r.path [] (found_passes s.rows [] r e) in
    omega (arith, long, ap (λ (p : List (List ℕ)). length p) placed.path, length-append placed.parent (placed.name ∷ []))

-- what `find` tells of what stands at a path

found_number : (o : Option Row) (n : ℕ) → Ok n ≡ number_reply (found_row None o) → (r : Row) × (o ≡ Some r) × (r.number ≡ n)
found_number None n e = absurd (cc)
found_number (Some r) n e = (r, refl, (let same : n ≡ r.number = cc in sym same))

pub found_there : (s : Rows) (p : List (List ℕ)) (n : ℕ) → 0 < length p → Ok n ≡ find_reply s p → (r : Row) × (row_at s.rows p ≡ Some r) × (r.number ≡ n)
found_there s [] n some e = absurd (omega (arith, some))
found_there s (name ∷ names) n some e = at (obstacle_to s.rows (name ∷ names)) e
  where
    at : (o : Option OdbRefusal) → Ok n ≡ number_reply (found_row o (row_at s.rows (name ∷ names))) → (r : Row) × (row_at s.rows (name ∷ names) ≡ Some r) × (r.number ≡ n)
    at None k = found_number (row_at s.rows (name ∷ names)) n k
    at (Some why) k = absurd (cc)

pub not_found_there : (s : Rows) (p : List (List ℕ)) (why : OdbRefusal) → IsTree s → Err why ≡ find_reply s p → (p ≢ []) × (row_at s.rows p ≡ None)
not_found_there s [] why tree e = absurd (cc)
not_found_there s (name ∷ names) why tree e = (λ k. absurd (cc), nothing (row_at s.rows (name ∷ names)) (λ r there. absurd (found r there)))
  where
    found : (r : Row) → row_at s.rows (name ∷ names) ≡ Some r → ⊥
    found r there =
        let clear = nothing_before s (Some NoKey) (name ∷ names) r tree (omega arith) there in
        let k : Err why ≡ Ok r.number = e ∙ (ap (λ (o : Option OdbRefusal). number_reply (found_row o (row_at s.rows (name ∷ names)))) clear ∙ ap (λ (o : Option Row). number_reply (found_row None o)) there) in absurd (cc)
