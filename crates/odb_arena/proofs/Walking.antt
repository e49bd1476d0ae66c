-- Walking along the names of a path, and writing down the numbers of the rows.
use Rattle.std.proofs.Common.{◌≡◌, ℕ, ◌+◌, ◌<◌, true, List, [], ◌∷◌, ◌++◌, length, get_or, set, take, Option, Some, None, refl, sym, ap, ◌∙◌, subst}
use Rattle.std.specs.Option.{option_map}
use Rattle.std.proofs.lemmas.List.{take_more}
use Rattle.odb_value.specs.Paths.{same_path}
use Rattle.odb_tree.specs.declared.rows.Row.{Row}
use Rattle.odb_tree.specs.declared.children.Child.{Child}
use Rattle.odb_tree.specs.Rows.{Rows, row_at}
use Rattle.odb_tree.specs.Calls.{path_with, child_of}
use Rattle.odb_tree.specs.Trees.{IsTree}
use Rattle.odb_tree.proofs.Along.{IsNumbered, numbered_more}
use Rattle.odb_tree.proofs.Trees.{same_add}
use Rattle.odb_arena.proofs.Leading.{row_same, path_found, found_passes, from_child}

-- The walk stands at the row with this number, or at the root, at the path of the first names, and the numbers of the
-- rows so far are written.
pub record IsWalked (s : Rows) (names : List (List ℕ)) (i at : ℕ) (first now : List ℕ) : Type 0 where
  pub path : List (List ℕ)
  pub there : path_with s.rows at ≡ Some path
  pub same : same_path path (take i names) ≡ true
  pub numbered : IsNumbered s.rows names i first now

pub walk_begins : (s : Rows) (names : List (List ℕ)) (first : List ℕ) → IsWalked s names 0 0 first first
walk_begins s names first = record { path = []; there = refl; same = refl; numbered = record { along = refl; rest = refl; long = refl } }

-- what stands under the next name is what stands at the path of one name more
pub next_row : (s : Rows) (names : List (List ℕ)) (i at : ℕ) (first now : List ℕ) (name : List ℕ) (h : IsWalked s names i at first now) → i < length names → name ≡ get_or names i name
    → row_at s.rows (h.path ++ name ∷ []) ≡ row_at s.rows (take (i + 1) names)
next_row s names i at first now name h l is =
    row_same s.rows (h.path ++ name ∷ []) (take i names ++ name ∷ []) (same_add h.path (take i names) (name ∷ []) h.same)
    ∙ ap (row_at s.rows) (ap (λ (n : List ℕ). take i names ++ n ∷ []) is ∙ sym (take_more names i name l))

pub walk_stops : (s : Rows) (names : List (List ℕ)) (i at : ℕ) (first now : List ℕ) (name : List ℕ) (child : Option Child) (h : IsWalked s names i at first now) → i < length names → name ≡ get_or names i name
    → child ≡ option_map child_of (row_at s.rows (h.path ++ name ∷ [])) → child ≡ None → row_at s.rows (take (i + 1) names) ≡ None
walk_stops s names i at first now name child h l is child_is none =
    sym (next_row s names i at first now name h l is) ∙ no_row (row_at s.rows (h.path ++ name ∷ [])) (sym none ∙ child_is)
  where
    no_row : (o : Option Row) → None ≡ option_map child_of o → o ≡ None
    no_row None e = refl
    no_row (Some r) e = absurd (cc)

pub walk_further : (s : Rows) (names : List (List ℕ)) (i at : ℕ) (first now : List ℕ) (name : List ℕ) (child : Option Child) (x : Child) → IsTree s → (h : IsWalked s names i at first now) → i < length names
    → name ≡ get_or names i name → i < length now → child ≡ option_map child_of (row_at s.rows (h.path ++ name ∷ [])) → child ≡ Some x → IsWalked s names (i + 1) x.row first (set now i x.row)
walk_further s names i at first now name child x tree h l is room child_is some =
    let found = from_child (row_at s.rows (h.path ++ name ∷ [])) x (sym some ∙ child_is) in
    let r : Row = found.0 in
    let here : row_at s.rows (take (i + 1) names) ≡ Some r = sym (next_row s names i at first now name h l is) ∙ found.1 in
    let number : r.number ≡ x.row = sym (ap (λ (c : Child). c.row) found.2) in
    subst (λ (n : ℕ). IsWalked s names (i + 1) n first (set now i n)) number
    (record {
      path = r.path;
      there = path_found s (take (i + 1) names) r tree here;
      same = found_passes s.rows (take (i + 1) names) r here;
      numbered = numbered_more s.rows names i first now r l room h.numbered here;
    })
