-- What stands in a directory, as `list` shows it.
use Rattle.std.proofs.Common.{◌≡◌, ℕ, ◌+◌, ◌<◌, ◌≤◌, Bool, true, false, cond, ◌&&◌, ◌==◌, List, [], ◌∷◌, ◌++◌, length, map, take, drop, Option, Some, None, Ok, refl, sym, ap, ◌∙◌, subst, arith, inl, inr}
use Rattle.std.specs.List.{filter}
use Rattle.std.specs.Option.{unwrap_or}
use Rattle.std.proofs.lemmas.List.{take_all, take-append-drop, length-drop}
use Rattle.odb_value.specs.Paths.{is_front, same_path}
use Rattle.odb_tree.specs.declared.rows.Row.{Row}
use Rattle.odb_tree.specs.declared.children.Child.{Child}
use Rattle.odb_tree.specs.declared.refusals.OdbRefusal.{OdbRefusal}
use Rattle.odb_tree.specs.declared.refusals.OdbRefusal.TheVariants.{NotDir}
use Rattle.odb_tree.specs.Rows.{Rows, row_at, is_key, is_kind, is_child, is_listed}
use Rattle.odb_tree.specs.Lookups.{obstacle_to, found_row, not_dir, dir_fault}
use Rattle.odb_tree.specs.Calls.{child_of, children_of, children_or, list_reply}
use Rattle.odb_tree.specs.Trees.{IsTree}
use Rattle.odb_tree.proofs.WalkLaws.{true_false, front_trans}
use Rattle.odb_tree.proofs.Trees.{same_long, same_front, same_sym}
use Rattle.odb_arena.specs.declared.reaching.Reached.{Reached}
use Rattle.odb_arena.specs.declared.tree.ArenaTree.TheInside.{Inside}
use Rattle.odb_arena.specs.Names.{entry_of}
use Rattle.odb_arena.specs.Arena.{row_of, names_at, path_at}
use Rattle.odb_arena.specs.Inside.{rows_of, IsWholeArena}
use Rattle.odb_arena.specs.Reaching.{IsReached}
use Rattle.odb_arena.proofs.Finding.{iff}
use Rattle.odb_arena.proofs.Leading.{NoDir, stop_none, none_deep, front_some, end_or_not}
use Rattle.odb_arena.proofs.Steps.{path_known}

found_dir : (rows : List Row) (name : List ℕ) (names : List (List ℕ)) → dir_fault rows (name ∷ names) ≡ None → (r : Row) × (row_at rows (name ∷ names) ≡ Some r) × (is_key r ≡ false)
found_dir rows name names h = from (obstacle_to rows (name ∷ names)) (row_at rows (name ∷ names)) refl h
  where
    kind : (t : Bool) → cond t (Some NotDir) None ≡ None → t ≡ false
    kind true k = absurd (cc)
    kind false k = refl

    from : (o : Option OdbRefusal) (r : Option Row) → row_at rows (name ∷ names) ≡ r → not_dir (found_row o r) ≡ None → (r : Row) × (row_at rows (name ∷ names) ≡ Some r) × (is_key r ≡ false)
    from (Some x) r e k = absurd (cc)
    from None None e k = absurd (cc)
    from None (Some r) e k = (r, e, kind (is_key r) k)

-- directories lead along all the names of a directory
whole_way : (s : Rows) (names : List (List ℕ)) (r : Reached) → IsTree s → IsReached s.rows names r → dir_fault s.rows names ≡ None → length names ≤ r.depth
whole_way s [] r tree h e = omega arith
whole_way s (name ∷ names) r tree h e = elim (end_or_not r.depth (length (name ∷ names)) h.leads.within) [ inl w ↦ omega (arith, w) | inr w ↦ absurd (stopped w) ]
  where
    found : (r : Row) × (row_at s.rows (name ∷ names) ≡ Some r) × (is_key r ≡ false)
    found = found_dir s.rows name names e

    no_dir_at : r.depth < length (name ∷ names) → NoDir s.rows (take (r.depth + 1) (name ∷ names))
    no_dir_at l = stop_none r.blocked s.rows (take (r.depth + 1) (name ∷ names)) (h.stops l)

    split : (rest : List (List ℕ)) → drop (r.depth + 1) (name ∷ names) ≡ rest → r.depth < length (name ∷ names) → ⊥
    split [] f l =
        let all : take (r.depth + 1) (name ∷ names) ≡ name ∷ names = take_all (r.depth + 1) (name ∷ names) (omega (arith, length-drop (r.depth + 1) (name ∷ names), ap (λ (x : List (List ℕ)). length x) f)) in
        absurd (true_false (is_key found.0) (no_dir_at l found.0 (ap (row_at s.rows) all ∙ found.1)) found.2)
    split (x ∷ xs) f l =
        let none : row_at s.rows (name ∷ names) ≡ None =
        ap (row_at s.rows) (sym (take-append-drop (r.depth + 1) (name ∷ names)) ∙ ap (λ (y : List (List ℕ)). take (r.depth + 1) (name ∷ names) ++ y) f)
        ∙ none_deep s (take (r.depth + 1) (name ∷ names)) (x ∷ xs) tree (front_some (name ∷ names) r.depth l) (no_dir_at l) (omega arith) in
        let no : None ≡ Some found.0 = sym none ∙ found.1 in absurd (cc)

    stopped : r.depth < length (name ∷ names) → ⊥
    stopped l = split (drop (r.depth + 1) (name ∷ names)) refl l

child_same : (p q w : List (List ℕ)) → same_path p q ≡ true → is_child p w ≡ is_child q w
child_same p q w h =
    ap (λ (n : ℕ). (length w == n + 1) && is_front p w) (same_long p q h)
    ∙ ap (λ (t : Bool). (length w == length q + 1) && t) (iff (is_front p w) (is_front q w) (λ e. front_trans q p w (same_front q p (same_sym p q h)) e) (λ e. front_trans p q w (same_front p q h) e))

listed_same : (keys : Bool) (rows : List Row) (p q : List (List ℕ)) → same_path p q ≡ true → filter (is_listed keys p) rows ≡ filter (is_listed keys q) rows
listed_same keys [] p q h = refl
listed_same keys (r ∷ rs) p q h =
    ap (λ (t : Bool). cond (is_kind keys r && t) (r ∷ filter (is_listed keys p) rs) (filter (is_listed keys p) rs)) (child_same p q r.path h)
    ∙ ap (λ (l : List Row). cond (is_listed keys q r) (r ∷ l) l) (listed_same keys rs p q h)

shown : (rows : List Row) → map (λ (e : List ℕ × Child). e.1) (map (λ (r : Row). entry_of (child_of r)) rows) ≡ map child_of rows
shown [] = refl
shown (r ∷ rs) = ap (λ (l : List Child). child_of r ∷ l) (shown rs)

-- the names of the directory that was reached are what `list` replies
pub listed : (t : Inside) (s : Rows) (names path : List (List ℕ)) (r : Reached) (children : List Child) → IsWholeArena t → rows_of t ≡ s → names ≡ path → IsReached s.rows names r → dir_fault s.rows names ≡ None
    → children ≡ map (λ (e : List ℕ × Child). e.1) (unwrap_or (names_at t.root t.nodes.entries true r.at) []) ++ map (λ (e : List ℕ × Child). e.1) (unwrap_or (names_at t.root t.nodes.entries false r.at) [])
    → list_reply s path ≡ Ok children
listed t s names path r children h is same reached fault e =
    ap (list_reply s) (sym same) ∙ (ap (children_or s.rows names) fault ∙ ap (λ (l : List Child). Ok l) (sym (e ∙ (both ∙ ap (λ (x : Rows). children_of x.rows names) is))))
  where
    there : path_at (row_of t.nodes.entries) r.at ≡ Some reached.leads.path
    there = sym (path_known t s r.at h is) ∙ reached.leads.there

    tree : IsTree s
    tree = subst IsTree is h.database.tree

    at : same_path reached.leads.path names ≡ true
    at = subst (λ (p : List (List ℕ)). same_path reached.leads.path p ≡ true) (take_all r.depth names (whole_way s names r tree reached fault)) reached.leads.same

    one : (keys : Bool) → map (λ (e : List ℕ × Child). e.1) (unwrap_or (names_at t.root t.nodes.entries keys r.at) []) ≡ map child_of (filter (is_listed keys names) (rows_of t).rows)
    one keys =
        ap (λ (o : Option (List (List ℕ × Child))). map (λ (e : List ℕ × Child). e.1) (unwrap_or o [])) (h.named keys r.at reached.leads.path there)
        ∙ (shown (filter (is_listed keys reached.leads.path) (rows_of t).rows) ∙ ap (map child_of) (listed_same keys (rows_of t).rows reached.leads.path names at))

    both : map (λ (e : List ℕ × Child). e.1) (unwrap_or (names_at t.root t.nodes.entries true r.at) []) ++ map (λ (e : List ℕ × Child). e.1) (unwrap_or (names_at t.root t.nodes.entries false r.at) []) ≡ children_of (rows_of t).rows names
    both = ap (λ (l : List Child). l ++ map (λ (e : List ℕ × Child). e.1) (unwrap_or (names_at t.root t.nodes.entries false r.at) [])) (one true) ∙ ap (λ (l : List Child). map child_of (filter (is_listed true names) (rows_of t).rows) ++ l) (one false)
