-- In a tree each row is found by its path, and what stands in a directory has the directory's path and one name more.
use Rattle.std.proofs.Common.{◌≡◌, ℕ, zero, suc, ◌+◌, ◌-◌, ◌<◌, ◌≤◌, Bool, true, false, cond, ◌==◌, List, [], ◌∷◌, ◌++◌, length, take, slice_index_or, Option, Some, None, Ok, inl, inr, refl, sym, ap, ◌∙◌, subst, arith, append_assoc, append-nil, length-append}
use Rattle.std.specs.Option.{option_or}
use Rattle.std.proofs.lemmas.Bool.Decides.{nat_tests}
use Rattle.odb_value.specs.Paths.{depth_limit, is_front, same_path}
use Rattle.odb_tree.specs.declared.rows.Row.{Row}
use Rattle.odb_tree.specs.declared.refusals.OdbRefusal.{OdbRefusal}
use Rattle.odb_tree.specs.declared.refusals.OdbRefusal.TheVariants.{NoKey, NotDir}
use Rattle.odb_tree.specs.Rows.{Rows, row_at, is_key, is_child}
use Rattle.odb_tree.specs.Lookups.{parent_of, obstacle_at, obstacle_from, obstacle_to, found_row, seek, key_or_refusal, key_of, seek_key, dir_fault, not_dir}
use Rattle.odb_tree.specs.Calls.{last_name, child_of}
use Rattle.odb_tree.specs.Trees.{IsDir, IsPlaced, ArePlaced, AreApart, IsTree, AreShort}
use Rattle.odb_tree.specs.WalkLaws.{NoneAt}
use Rattle.odb_tree.proofs.WalkLaws.{and_left, and_right, true_false}
use Rattle.odb_tree.proofs.Trees.{front_within, long_same, same_long, same_refl, same_sym, same_trans, is_dir_append}
use Rattle.odb_tree.proofs.Placed.{none_around}
use Rattle.odb_text.specs.Standing.{IsChildIn}

-- Rows found by their paths.

passed_over : (front : List Row) (r : Row) (back : List Row) → NoneAt r.path front → row_at (front ++ r ∷ back) r.path ≡ Some r
unfolding NoneAt
passed_over [] r back h = ap (λ (t : Bool). cond t (Some r) (row_at back r.path)) (same_refl r.path)
passed_over (x ∷ xs) r back h = ap (λ (t : Bool). cond t (Some x) (row_at (xs ++ r ∷ back) r.path)) h.0 ∙ passed_over xs r back h.1

pub row_found : (rows front : List Row) (r : Row) (back : List Row) → rows ≡ front ++ r ∷ back → AreApart rows → row_at rows r.path ≡ Some r
row_found rows front r back e apart =
    ap (λ (l : List Row). row_at l r.path) e ∙ passed_over front r back (none_around front r back (subst AreApart e apart)).0

-- the search does not see the case of letters
pub row_same : (rows : List Row) (p q : List (List ℕ)) → same_path p q ≡ true → row_at rows p ≡ row_at rows q
row_same [] p q h = refl
row_same (r ∷ rs) p q h =
    ap (λ (t : Bool). cond t (Some r) (row_at rs p)) (iff (same_path r.path p) (same_path r.path q) (λ e. same_trans r.path p q e h) (λ e. same_trans r.path q p e (same_sym p q h)))
    ∙ ap (λ (o : Option Row). cond (same_path r.path q) (Some r) o) (row_same rs p q h)
  where
    iff : (a b : Bool) → (a ≡ true → b ≡ true) → (b ≡ true → a ≡ true) → a ≡ b
    iff true true f g = refl
    iff true false f g = absurd (true_false false (f refl) refl)
    iff false true f g = absurd (true_false false (g refl) refl)
    iff false false f g = refl

some_is : (r d : Row) → Some r ≡ Some d → r ≡ d
some_is r d h = cc

-- two directories at the same path are one, and so are spelled alike
one_dir : (rows : List Row) (p q : List (List ℕ)) → AreApart rows → IsDir rows p → IsDir rows q → same_path p q ≡ true → p ≡ q
one_dir rows p q apart (inl e) (inl f) same = e ∙ sym f
one_dir rows p q apart (inl e) (inr h) same = e ∙ sym (none q (omega (arith, same_long p q same, ap (length {A = List ℕ}) e)))
  where
    none : (x : List (List ℕ)) → length x ≡ 0 → x ≡ []
    none [] k = refl
    none (a ∷ x) k = absurd (omega (arith, k))
one_dir rows p q apart (inr h) (inl f) same = none p (omega (arith, same_long p q same, ap (length {A = List ℕ}) f)) ∙ sym f
  where
    none : (x : List (List ℕ)) → length x ≡ 0 → x ≡ []
    none [] k = refl
    none (a ∷ x) k = absurd (omega (arith, k))
one_dir rows p q apart (inr h) (inr k) same =
    let first : row_at rows p ≡ Some h.dir = ap (row_at rows) (sym h.path) ∙ row_found rows h.front h.dir h.back h.there apart in
    let other : row_at rows q ≡ Some k.dir = ap (row_at rows) (sym k.path) ∙ row_found rows k.front k.dir k.back k.there apart in
    let one : h.dir ≡ k.dir = some_is h.dir k.dir (sym first ∙ (row_same rows p q same ∙ other)) in
    sym h.path ∙ (ap (λ (d : Row). d.path) one ∙ k.path)

-- Rows in their places.

pub placed_there : (before front : List Row) (r : Row) (back : List Row) → ArePlaced before (front ++ r ∷ back) → IsPlaced (before ++ front) r.path
placed_there before [] r back h = subst (λ (l : List Row). IsPlaced l r.path) (sym (append-nil before)) h.0
placed_there before (x ∷ xs) r back h = subst (λ (l : List Row). IsPlaced l r.path) (append_assoc before (x ∷ []) xs) (placed_there (before ++ x ∷ []) xs r back h.1)

pub placed_in : (rows front : List Row) (r : Row) (back : List Row) → rows ≡ front ++ r ∷ back → ArePlaced [] rows → IsPlaced rows r.path
placed_in rows front r back e h =
    let k : IsPlaced front r.path = placed_there [] front r back (subst (ArePlaced []) e h) in record {
      parent = k.parent;
      name = k.name;
      path = k.path;
      there = subst (λ (l : List Row). IsDir l k.parent) (sym e) (is_dir_append front (r ∷ back) k.parent k.there);
    }

-- Nothing is in the way to a directory.

pub or_nothing : (a b : Option OdbRefusal) → a ≡ None → b ≡ None → option_or a b ≡ None
or_nothing None b h k = k
or_nothing (Some x) b h k = absurd (cc)

or_assoc : (a b c : Option OdbRefusal) → option_or a (option_or b c) ≡ option_or (option_or a b) c
or_assoc None b c = refl
or_assoc (Some x) b c = refl

obstacle_last : (missing : Option OdbRefusal) (rows : List Row) (reached names : List (List ℕ)) (name : List ℕ)
    → obstacle_from missing rows reached (names ++ name ∷ []) ≡ option_or (obstacle_from missing rows reached names) (obstacle_at missing (row_at rows ((reached ++ names) ++ name ∷ [])))
obstacle_last missing rows reached [] name =
    last (obstacle_at missing (row_at rows (reached ++ name ∷ []))) ∙ ap (λ (q : List (List ℕ)). obstacle_at missing (row_at rows (q ++ name ∷ []))) (sym (append-nil reached))
  where
    last : (o : Option OdbRefusal) → option_or o None ≡ o
    last None = refl
    last (Some x) = refl
obstacle_last missing rows reached (n ∷ names) name =
    ap (λ (o : Option OdbRefusal). option_or (obstacle_at missing (row_at rows (reached ++ n ∷ []))) o) (obstacle_last missing rows (reached ++ n ∷ []) names name)
    ∙ (or_assoc (obstacle_at missing (row_at rows (reached ++ n ∷ []))) (obstacle_from missing rows (reached ++ n ∷ []) names) (obstacle_at missing (row_at rows (((reached ++ n ∷ []) ++ names) ++ name ∷ [])))
    ∙ ap (λ (q : List (List ℕ)). option_or (option_or (obstacle_at missing (row_at rows (reached ++ n ∷ []))) (obstacle_from missing rows (reached ++ n ∷ []) names)) (obstacle_at missing (row_at rows (q ++ name ∷ [])))) (append_assoc reached (n ∷ []) names))

dir_clear : (missing : Option OdbRefusal) (o : Option Row) (d : Row) → o ≡ Some d → is_key d ≡ false → obstacle_at missing o ≡ None
dir_clear missing o d e k = ap (obstacle_at missing) e ∙ ap (λ (t : Bool). cond t (Some NotDir) None) k

pub clear_to : (most : ℕ) (missing : Option OdbRefusal) (rows : List Row) (p : List (List ℕ)) → ArePlaced [] rows → AreApart rows → IsDir rows p → length p ≤ most
    → obstacle_from missing rows [] p ≡ None
clear_to most missing rows p placed apart (inl e) short = ap (obstacle_from missing rows []) e
clear_to zero missing rows p placed apart (inr h) short =
    let k = placed_in rows h.front h.dir h.back h.there placed in
    absurd (omega (arith, short, ap (length {A = List ℕ}) (sym h.path ∙ k.path), length-append k.parent (k.name ∷ [])))
clear_to (suc most) missing rows p placed apart (inr h) short =
    let k = placed_in rows h.front h.dir h.back h.there placed in
    let e : p ≡ k.parent ++ k.name ∷ [] = sym h.path ∙ k.path in
    let above : obstacle_from missing rows [] k.parent ≡ None =
    clear_to most missing rows k.parent placed apart k.there (omega (arith, short, ap (length {A = List ℕ}) e, length-append k.parent (k.name ∷ []))) in
    let here : obstacle_at missing (row_at rows (k.parent ++ k.name ∷ [])) ≡ None =
    dir_clear missing (row_at rows (k.parent ++ k.name ∷ [])) h.dir (ap (row_at rows) (sym k.path) ∙ row_found rows h.front h.dir h.back h.there apart) h.kind in
    ap (obstacle_from missing rows []) e ∙ (obstacle_last missing rows [] k.parent k.name
    ∙ or_nothing (obstacle_from missing rows [] k.parent) (obstacle_at missing (row_at rows (k.parent ++ k.name ∷ []))) above here)

-- What stands in a directory.

pub parent_is : (p : List (List ℕ)) (name : List ℕ) → parent_of (p ++ name ∷ []) ≡ p
parent_is p name =
    ap (λ (n : ℕ). take n (p ++ name ∷ [])) {x = length (p ++ name ∷ []) - 1} {y = length p} (omega (arith, length-append p (name ∷ []))) ∙ take_front p (name ∷ [])
  where
    take_front : (xs ys : List (List ℕ)) → take (length xs) (xs ++ ys) ≡ xs
    take_front [] ys = refl
    take_front (x ∷ xs) ys = ap (λ (l : List (List ℕ)). x ∷ l) (take_front xs ys)

last_is : (p : List (List ℕ)) (name : List ℕ) → last_name (p ++ name ∷ []) ≡ name
last_is p name =
    ap (λ (n : ℕ). slice_index_or (p ++ name ∷ []) n []) {x = length (p ++ name ∷ []) - 1} {y = length p} (omega (arith, length-append p (name ∷ []))) ∙ behind p
  where
    behind : (xs : List (List ℕ)) → slice_index_or (xs ++ name ∷ []) (length xs) [] ≡ name
    behind [] = refl
    behind (x ∷ xs) = behind xs

child_long : (p q : List (List ℕ)) → is_child p q ≡ true → length q ≡ length p + 1
child_long p q h = grind (arith, nat_tests, and_left (length q == length p + 1) (is_front p q) h)

child_placed : (rows : List Row) (p : List (List ℕ)) (r : Row) → AreApart rows → IsDir rows p → IsPlaced rows r.path → is_child p r.path ≡ true → r.path ≡ p ++ last_name r.path ∷ []
child_placed rows p r apart dir k child =
    let long : length r.path ≡ length p + 1 = child_long p r.path child in
    let even : length p ≡ length k.parent = omega (arith, long, ap (length {A = List ℕ}) k.path, length-append k.parent (k.name ∷ [])) in
    let front : is_front p k.parent ≡ true =
    front_within p k.parent (k.name ∷ []) (ap (is_front p) (sym k.path) ∙ and_right (length r.path == length p + 1) (is_front p r.path) child) (omega (arith, even)) in
    let one : p ≡ k.parent = one_dir rows p k.parent apart dir k.there (long_same p k.parent even front) in
    k.path ∙ (ap (λ (q : List (List ℕ)). q ++ k.name ∷ []) (sym one) ∙ ap (λ (n : List ℕ). p ++ n ∷ []) (sym (ap last_name k.path ∙ last_is k.parent k.name)))

key_sought : (rows : List Row) (p : List (List ℕ)) (name : List ℕ) → seek_key rows (p ++ name ∷ []) ≡ key_or_refusal (seek rows (p ++ name ∷ []))
key_sought rows [] name = refl
key_sought rows (n ∷ names) name = refl

sought : (rows : List Row) (q : List (List ℕ)) (r : Row) → obstacle_to rows q ≡ None → row_at rows q ≡ Some r → seek rows q ≡ Ok r
sought rows q r clear found = ap (λ (o : Option OdbRefusal). found_row o (row_at rows q)) clear ∙ ap (found_row None) found

short_there : (most : ℕ) (front : List Row) (r : Row) (back : List Row) → AreShort most (front ++ r ∷ back) → length r.path ≤ most
short_there most [] r back h = h.0
short_there most (x ∷ xs) r back h = short_there most xs r back h.1

-- a row stands in this directory, and its path leads to it
pub record RowStands (s : Rows) (p : List (List ℕ)) (row : Row) : Type 0 where
  pub path : row.path ≡ p ++ last_name row.path ∷ []
  pub short : length p < depth_limit
  pub found : row_at s.rows (p ++ last_name row.path ∷ []) ≡ Some row
  pub key : seek_key s.rows (p ++ last_name row.path ∷ []) ≡ key_of row.number row.value
  pub dir : is_key row ≡ false → IsDir s.rows (p ++ last_name row.path ∷ [])

pub row_stands : (s : Rows) (p : List (List ℕ)) (front : List Row) (r : Row) (back : List Row) → s.rows ≡ front ++ r ∷ back → IsTree s → AreShort depth_limit s.rows → IsDir s.rows p
    → is_child p r.path ≡ true → RowStands s p r
row_stands s p front r back e tree short dir child =
    let placed : IsPlaced s.rows r.path = placed_in s.rows front r back e tree.placed in
    let path : r.path ≡ p ++ last_name r.path ∷ [] = child_placed s.rows p r tree.apart dir placed child in
    let q : List (List ℕ) = p ++ last_name r.path ∷ [] in
    let found : row_at s.rows q ≡ Some r = ap (row_at s.rows) (sym path) ∙ row_found s.rows front r back e tree.apart in
    let deep : length r.path ≤ depth_limit = short_there depth_limit front r back (subst (AreShort depth_limit) e short) in
    let long : length r.path ≡ length p + 1 = child_long p r.path child in
    let clear : obstacle_to s.rows q ≡ None =
    ap (obstacle_from (Some NoKey) s.rows []) (parent_is p (last_name r.path)) ∙ clear_to (length p) (Some NoKey) s.rows p tree.placed tree.apart dir (omega arith) in record {
      path = path;
      short = omega (arith, deep, long);
      found = found;
      key = key_sought s.rows p (last_name r.path) ∙ ap key_or_refusal (sought s.rows q r clear found);
      dir = λ k. inr (record { front = front; dir = r; back = back; there = e; path = path; kind = k });
    }

pub child_stands : (s : Rows) (p : List (List ℕ)) (r : Row) → RowStands s p r → IsChildIn s p (child_of r)
child_stands s p r h = record {
  row = r;
  is = refl;
  path = h.path;
  short = h.short;
  found = h.found;
  key = h.key;
  dir = h.dir;
}

-- the search for a directory meets nothing
pub dir_there : (s : Rows) (p : List (List ℕ)) → IsTree s → IsDir s.rows p → dir_fault s.rows p ≡ None
dir_there s [] tree dir = refl
dir_there s (name ∷ names) tree (inl e) = absurd (cc)
dir_there s (name ∷ names) tree (inr h) =
    let p : List (List ℕ) = name ∷ names in
    let k = placed_in s.rows h.front h.dir h.back h.there tree.placed in
    let e : p ≡ k.parent ++ k.name ∷ [] = sym h.path ∙ k.path in
    let clear : obstacle_to s.rows p ≡ None =
    ap (λ (q : List (List ℕ)). obstacle_from (Some NoKey) s.rows [] (parent_of q)) e
    ∙ (ap (obstacle_from (Some NoKey) s.rows []) (parent_is k.parent k.name) ∙ clear_to (length k.parent) (Some NoKey) s.rows k.parent tree.placed tree.apart k.there (omega arith)) in
    let found : row_at s.rows p ≡ Some h.dir = ap (row_at s.rows) (sym h.path) ∙ row_found s.rows h.front h.dir h.back h.there tree.apart in
    ap not_dir (sought s.rows p h.dir clear found) ∙ ap (λ (t : Bool). cond t (Some NotDir) None) h.kind
