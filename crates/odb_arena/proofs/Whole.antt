-- What keeps an arena whole.
use Rattle.std.proofs.Common.{◌≡◌, ℕ, Bool, true, false, cond, eqb, List, [], ◌∷◌, ◌++◌, length, Option, Some, None, refl, sym, ap, ◌∙◌, subst}
use Rattle.std.specs.Option.{option_map, unwrap_or}
use Rattle.odb_tree.specs.declared.rows.Row.{Row}
use Rattle.odb_tree.specs.declared.children.Child.{Child}
use Rattle.odb_tree.specs.Rows.{Rows, no_rows, row_at, total_of}
use Rattle.odb_tree.specs.Calls.{path_with, child_of}
use Rattle.odb_tree.specs.Databases.{IsDatabase}
use Rattle.odb_tree.proofs.Sound.{database_begins}
use Rattle.daq_types.specs.Names.{IsName}
use Rattle.odb_arena.specs.declared.directory.Directory.{Directory}
use Rattle.odb_arena.specs.Names.{folded, names_in, child_in}
use Rattle.odb_arena.specs.Arena.{row_of, names_at, rows_below, all_rows, path_at, entries_in, IsArena}
use Rattle.odb_arena.proofs.Below.{below_none, path_is, number_is}
use Rattle.odb_arena.specs.Inside.{rows_of, IsWholeArena}
use Rattle.odb_arena.specs.declared.tree.ArenaTree.TheInside.{Inside}
use Rattle.odb_arena.proofs.Finding.{lasts, child_found}
use Rattle.odb_arena.proofs.Leading.{rising_found, from_child}

none_of : (k : ℕ) → row_of [] k ≡ None
none_of k = refl

pub no_rows_yet : all_rows (row_of []) 1 ≡ no_rows
no_rows_yet = ap (λ (rows : List Row). record no_rows { rows = rows; next = 1 }) (below_none (row_of []) 1 none_of)

-- the new arena
pub arena_begins : (root : Directory) → ((keys : Bool) → names_in keys root ≡ []) → IsArena (row_of []) (names_at root []) 1 0 0
arena_begins root h =
    let none : rows_below (row_of []) 1 ≡ [] = below_none (row_of []) 1 none_of in record {
      database = subst IsDatabase (sym no_rows_yet) database_begins;
      numbered = λ k r e. absurd (cc);
      named = λ keys k p e. root_only keys k p e (rows_below (row_of []) 1) none;
      counted = ap (λ (rows : List Row). length rows) (sym none);
      weighed = ap total_of (sym none);
    }
  where
    at : (t : Bool) (keys : Bool) (p q : List (List ℕ)) → cond t (Some q) None ≡ Some p
        → cond t (Some (names_in keys root)) None ≡ Some (entries_in keys [] p)
    at true keys p q e = ap (λ l. Some l) (h keys)
    at false keys p q e = absurd (cc)

    root_only : (keys : Bool) (k : ℕ) (p : List (List ℕ)) → path_at (row_of []) k ≡ Some p → (rows : List Row) → rows ≡ []
        → names_at root [] keys k ≡ Some (entries_in keys rows p)
    root_only keys k p e rows none = at (eqb k 0) keys p [] e ∙ ap (λ (l : List Row). Some (entries_in keys l p)) (sym none)

-- what stands under a name
pub child_is : (row : ℕ → Option Row) (names : Bool → ℕ → Option (List (List ℕ × Child))) (next count bytes at : ℕ) (p : List (List ℕ)) (n : List ℕ)
    → IsArena row names next count bytes → IsName n → path_with (rows_below row next) at ≡ Some p
    → child_in (folded n) (unwrap_or (names true at) []) (unwrap_or (names false at) []) ≡ option_map child_of (row_at (rows_below row next) (p ++ n ∷ []))
child_is row names next count bytes at p n h name e =
    let there : path_at row at ≡ Some p = sym (path_is row next at h.numbered) ∙ e in
    ap (λ (o : Option (List (List ℕ × Child))). child_in (folded n) (unwrap_or o []) (unwrap_or (names false at) [])) (h.named true at p there)
    ∙ (ap (λ (o : Option (List (List ℕ × Child))). child_in (folded n) (entries_in true (rows_below row next) p) (unwrap_or o [])) (h.named false at p there)
    ∙ child_found false (rows_below row next) p n (lasts [] (rows_below row next) h.database.tree.placed) h.database.rows h.database.tree.apart name)

-- the row of what stands there
pub row_is : (t : Inside) (s : Rows) (q : List (List ℕ)) (x : Child) → IsWholeArena t → rows_of t ≡ s → Some x ≡ option_map child_of (row_at s.rows q) → row_of t.nodes.entries x.row ≡ row_at s.rows q
row_is t s q x h is e =
    let found = from_child (row_at (rows_of t).rows q) x (e ∙ ap (λ (r : Rows). option_map child_of (row_at r.rows q)) (sym is)) in
    let number : x.row ≡ found.0.number = ap (λ (c : Child). c.row) found.2 in
    ap (row_of t.nodes.entries) number
    ∙ (sym (number_is (row_of t.nodes.entries) t.next found.0.number h.numbered)
    ∙ ((rising_found 1 (rows_of t).rows t.next q found.0 h.database.tree.numbered found.1).0
    ∙ (sym found.1 ∙ ap (λ (r : Rows). row_at r.rows q) is)))
