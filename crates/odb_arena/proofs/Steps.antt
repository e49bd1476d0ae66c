-- Each step of the arena, from what its code does to the nodes.
use Rattle.std.proofs.Common.{◌≡◌, ℕ, ◌+◌, ◌-◌, ◌<◌, ◌≤◌, Bool, true, false, not, cond, eqb, nat_eq, List, [], ◌∷◌, ◌++◌, length, get_or, Option, Some, None, Result, Ok, Err, refl, sym, ap, ◌∙◌, subst, arith, inl, inr, OnErr, OnOk, IsOk}
use Rattle.std.specs.Option.{option_map, option_or, unwrap_or}
use Rattle.std.specs.Map.{lookup}
use Rattle.std.specs.Cmp.Lexicographic.{pointwise}
use Rattle.std.proofs.lemmas.Bool.Decides.{nat_tests}
use Rattle.std.proofs.lemmas.List.{take_all}
use Rattle.std.proofs.lemmas.List.Elements.{All-filter}
use Rattle.daq_types.specs.Names.{IsName}
use Rattle.odb_value.specs.Paths.{is_front, same_path}
use Rattle.odb_value.specs.Values.{HeldValue}
use Rattle.odb_tree.specs.declared.rows.Row.{Row}
use Rattle.odb_tree.specs.declared.children.Child.{Child}
use Rattle.odb_tree.specs.Rows.{Rows, no_rows, row_at, row_numbered, rows_outside, is_key, bytes_in, bytes_of_row, total_of}
use Rattle.odb_tree.specs.Lookups.{parent_of, seek}
use Rattle.odb_tree.specs.Calls.{path_with, child_of, after_delete}
use Rattle.odb_tree.specs.Trees.{IsTree, with_rows}
use Rattle.odb_tree.specs.Databases.{IsDatabase, IsRow}
use Rattle.odb_tree.proofs.Trees.{tree_outside}
use Rattle.odb_tree.proofs.CallLemmas.{outside_within}
use Rattle.odb_tree.proofs.Placed.{none_around}
use Rattle.odb_arena.specs.declared.directory.Directory.{Directory}
use Rattle.odb_arena.specs.declared.node.Node.{Node}
use Rattle.odb_arena.specs.declared.reaching.Reached.{Reached}
use Rattle.odb_arena.specs.declared.tree.ArenaTree.TheInside.{Inside}
use Rattle.odb_arena.specs.Names.{folded, names_in, child_in}
use Rattle.odb_arena.specs.Arena.{node_at, row_of, names_at, rows_below, all_rows, path_at, entries_in, names_entered, names_left, IsArena}
use Rattle.odb_arena.specs.Inside.{rows_of, IsWholeArena}
use Rattle.odb_arena.specs.Reaching.{IsReached}
use Rattle.odb_arena.specs.Growth.{dir_path, row_in_dir, CanAdd, IsLeaf}
use Rattle.odb_arena.proofs.Below.{below_same, path_is, number_is}
use Rattle.odb_arena.proofs.Whole.{child_is}
use Rattle.odb_arena.proofs.Finding.{all_last, none_row, or_left}
use Rattle.odb_arena.proofs.Leading.{rising_found, not_reached, whole_names, found_or, seek_there}
use Rattle.odb_arena.proofs.Growing.{arena_more, next_some, row_there, found_some, some_is}
use Rattle.std.proofs.lemmas.List.Sums.{sum_by-cons}
use Rattle.odb_arena.proofs.Cutting.{arena_less}

pub on_err : {X E : Type 0} (r : Result X E) (P : Type 0) → P → OnErr r P
on_err (Ok x) P h = tt
on_err (Err e) P h = h

-- an arena of which nothing that counts has changed
pub arena_same : (row row' : ℕ → Option Row) (names names' : Bool → ℕ → Option (List (List ℕ × Child))) (next count bytes : ℕ) → IsArena row names next count bytes
    → ((k : ℕ) → row' k ≡ row k) → ((keys : Bool) (k : ℕ) → names' keys k ≡ names keys k)
    → (all_rows row' next ≡ all_rows row next) × IsArena row' names' next count bytes
arena_same row row' names names' next count bytes h rows_are names_are =
    let same : rows_below row' next ≡ rows_below row next = below_same row' row next (λ k l. rows_are k) in
    let rows : all_rows row' next ≡ all_rows row next = ap (λ (l : List Row). record no_rows { rows = l; next = next }) same in (
      rows,
      record {
        database = subst IsDatabase (sym rows) h.database;
        numbered = λ k r e. h.numbered k r (sym (rows_are k) ∙ e);
        named = λ keys k p e. names_are keys k
            ∙ (h.named keys k p (ap (λ (o : Option Row). cond (eqb k 0) (Some []) (option_map (λ (r : Row). r.path) o)) (sym (rows_are k)) ∙ e)
            ∙ ap (λ (l : List Row). Some (entries_in keys l p)) (sym same));
        counted = h.counted ∙ ap (λ (l : List Row). length l) (sym same);
        weighed = h.weighed ∙ ap (λ (s : Rows). total_of s.rows) (sym rows);
      },
    )

pub path_known : (t : Inside) (s : Rows) (k : ℕ) → IsWholeArena t → rows_of t ≡ s → path_with s.rows k ≡ path_at (row_of t.nodes.entries) k
path_known t s k h is = ap (λ (r : Rows). path_with r.rows k) (sym is) ∙ path_is (row_of t.nodes.entries) t.next k h.numbered

pub path_of_node : (t : Inside) (s : Rows) (k : ℕ) (o : Option Node) → IsWholeArena t → rows_of t ≡ s → eqb k 0 ≡ false → o ≡ node_at t.nodes.entries k
    → option_map (λ (n : Node). n.row.path) o ≡ path_with s.rows k
path_of_node t s k o h is some e =
    paths o
    ∙ sym (path_known t s k h is
    ∙ (ap (λ (z : Bool). cond z (Some []) (option_map (λ (r : Row). r.path) (row_of t.nodes.entries k))) some
    ∙ ap (λ (n : Option Node). option_map (λ (r : Row). r.path) (option_map (λ (x : Node). x.row) n)) (sym e)))
  where
    paths : (o : Option Node) → option_map (λ (n : Node). n.row.path) o ≡ option_map (λ (r : Row). r.path) (option_map (λ (x : Node). x.row) o)
    paths None = refl
    paths (Some n) = refl

or_right : {X : Type 0} (a b : Option X) → option_or a b ≡ None → b ≡ None
or_right None b h = h
or_right (Some x) b h = absurd (cc)

new_path : (s : Rows) (at : ℕ) (name : List ℕ) (value : Option HeldValue) (can : CanAdd s at name value) → (row_in_dir s at name value).path ≡ can.path ++ name ∷ []
new_path s at name value can = ap (λ (o : Option (List (List ℕ))). unwrap_or o [] ++ name ∷ []) can.there

new_name : (s : Rows) (at : ℕ) (name : List ℕ) (value : Option HeldValue) → CanAdd s at name value → IsName name
new_name s at name value can =
    all_last IsName (dir_path s at) name (all_last (IsRow s.links) s.rows (row_in_dir s at name value) can.database.rows).path.names

-- where a row may be made the name is free
pub free_under : (t : Inside) (s : Rows) (at : ℕ) (name : List ℕ) (value : Option HeldValue) (es : List (ℕ × Node)) → IsWholeArena t → rows_of t ≡ s → CanAdd s at name value → es ≡ t.nodes.entries
    → (keys : Bool) → lookup (pointwise nat_eq (folded name)) (unwrap_or (names_at t.root es keys at) []) ≡ None
free_under t s at name value es h is can same keys =
    subst (λ (l : List (ℕ × Node)). lookup (pointwise nat_eq (folded name)) (unwrap_or (names_at t.root l keys at) []) ≡ None) (sym same) (each keys)
  where
    there : path_with (rows_of t).rows at ≡ Some can.path
    there = ap (λ (r : Rows). path_with r.rows at) is ∙ can.there

    free : row_at (rows_of t).rows (can.path ++ name ∷ []) ≡ None
    free =
        ap (λ (r : Rows). row_at r.rows (can.path ++ name ∷ [])) is
        ∙ (ap (row_at s.rows) (sym (new_path s at name value can)) ∙ none_row (row_in_dir s at name value).path s.rows (none_around s.rows (row_in_dir s at name value) [] can.database.tree.apart).0)

    whole : child_in (folded name) (unwrap_or (names_at t.root t.nodes.entries true at) []) (unwrap_or (names_at t.root t.nodes.entries false at) []) ≡ None
    whole =
        child_is (row_of t.nodes.entries) (names_at t.root t.nodes.entries) t.next t.count t.bytes at can.path name h (new_name s at name value can) there
        ∙ ap (option_map child_of) free

    each : (keys : Bool) → lookup (pointwise nat_eq (folded name)) (unwrap_or (names_at t.root t.nodes.entries keys at) []) ≡ None
    each true = or_right (lookup (pointwise nat_eq (folded name)) (unwrap_or (names_at t.root t.nodes.entries false at) [])) (lookup (pointwise nat_eq (folded name)) (unwrap_or (names_at t.root t.nodes.entries true at) [])) whole
    each false = or_left (lookup (pointwise nat_eq (folded name)) (unwrap_or (names_at t.root t.nodes.entries false at) [])) (lookup (pointwise nat_eq (folded name)) (unwrap_or (names_at t.root t.nodes.entries true at) [])) whole

more_rows : (es es' : List (ℕ × Node)) (next : ℕ) (node : Node) → ((q : ℕ) → lookup (nat_eq q) es' ≡ cond (eqb next q) (Some node) (lookup (nat_eq q) es))
    → (k : ℕ) → row_of es' k ≡ cond (eqb next k) (Some node.row) (row_of es k)
more_rows es es' next node h k = ap (option_map (λ (n : Node). n.row)) (h k) ∙ cases (eqb next k)
  where
    cases : (t : Bool) → option_map (λ (n : Node). n.row) (cond t (Some node) (lookup (nat_eq k) es)) ≡ cond t (Some node.row) (row_of es k)
    cases true = refl
    cases false = refl

more_names : (root : Directory) (es es' : List (ℕ × Node)) (next : ℕ) (node : Node) → 1 ≤ next → ((q : ℕ) → lookup (nat_eq q) es' ≡ cond (eqb next q) (Some node) (lookup (nat_eq q) es))
    → ((keys : Bool) → names_in keys node.below ≡ []) → (keys : Bool) (k : ℕ) → names_at root es' keys k ≡ cond (eqb next k) (Some []) (names_at root es keys k)
more_names root es es' next node some h empty keys k =
    ap (λ (o : Option Node). cond (eqb k 0) (Some (names_in keys root)) (option_map (λ (n : Node). names_in keys n.below) o)) (h k)
    ∙ cases (eqb next k) refl
  where
    not_root : (n k : ℕ) → eqb n k ≡ true → 1 ≤ n → eqb k 0 ≡ false
    not_root n k e l = grind (arith, nat_tests, e, l)

    cases : (t : Bool) → eqb next k ≡ t → cond (eqb k 0) (Some (names_in keys root)) (option_map (λ (n : Node). names_in keys n.below) (cond t (Some node) (lookup (nat_eq k) es)))
        ≡ cond t (Some []) (names_at root es keys k)
    cases true e = ap (λ (z : Bool). cond z (Some (names_in keys root)) (Some (names_in keys node.below))) (not_root next k e some) ∙ ap (λ (l : List (List ℕ × Child)). Some l) (empty keys)
    cases false e = refl

-- an added row
pub added : (t : Inside) (s : Rows) (at : ℕ) (name : List ℕ) (value : Option HeldValue) (es1 es2 es3 : List (ℕ × Node)) (root' : Directory) (node : Node) (child : Child) (bytes : ℕ)
    → IsWholeArena t → rows_of t ≡ s → CanAdd s at name value → es1 ≡ t.nodes.entries
    → ((k : ℕ) → row_of es2 k ≡ row_of es1 k)
    → ((keys : Bool) (k : ℕ) → names_at root' es2 keys k ≡ names_entered keys at child k (names_at t.root es1 keys k))
    → ((q : ℕ) → lookup (nat_eq q) es3 ≡ cond (eqb t.next q) (Some node) (lookup (nat_eq q) es2))
    → node.row ≡ row_in_dir s at name value → ((keys : Bool) → names_in keys node.below ≡ []) → child ≡ child_of node.row → bytes ≡ bytes_in value
    → (all_rows (row_of es3) (t.next + 1) ≡ with_rows s (row_in_dir s at name value ∷ [])) × IsArena (row_of es3) (names_at root' es3) (t.next + 1) (t.count + 1) (t.bytes + bytes)
added t s at name value es1 es2 es3 root' node child bytes h is can e1 rows2 names2 at3 row_is empty child_is bytes_is =
    let more = arena_more (row_of t.nodes.entries) (row_of es3) (names_at t.root t.nodes.entries) (names_at root' es3) t.next t.count t.bytes at can.path name new h
    (sym (path_known t s at h is) ∙ can.there) (ap (λ (r : Rows). r.next) (sym is)) (new_path s at name value can)
    (subst (λ (r : Rows). IsDatabase (with_rows r (new ∷ []))) (sym is) can.database) rows3 names3 in
    (more.0 ∙ ap (λ (r : Rows). with_rows r (new ∷ [])) is, subst (λ (b : ℕ). IsArena (row_of es3) (names_at root' es3) (t.next + 1) (t.count + 1) (t.bytes + b)) (sym bytes_is) more.1)
  where
    new : Row
    new = row_in_dir s at name value

    rows3 : (k : ℕ) → row_of es3 k ≡ cond (eqb t.next k) (Some (row_in_dir s at name value)) (row_of t.nodes.entries k)
    rows3 k =
        more_rows es2 es3 t.next node at3 k
        ∙ (ap (λ (r : Row). cond (eqb t.next k) (Some r) (row_of es2 k)) row_is
        ∙ ap (λ (o : Option Row). cond (eqb t.next k) (Some (row_in_dir s at name value)) o) (rows2 k ∙ ap (λ (l : List (ℕ × Node)). row_of l k) e1))

    names3 : (keys : Bool) (k : ℕ) → names_at root' es3 keys k ≡ cond (eqb t.next k) (Some []) (names_entered keys at (child_of (row_in_dir s at name value)) k (names_at t.root t.nodes.entries keys k))
    names3 keys k =
        more_names root' es2 es3 t.next node (next_some (row_of t.nodes.entries) (names_at t.root t.nodes.entries) t.next t.count t.bytes h) at3 empty keys k
        ∙ ap (cond (eqb t.next k) (Some []))
        (names2 keys k
        ∙ (ap (λ (c : Child). names_entered keys at c k (names_at t.root es1 keys k)) (child_is ∙ ap child_of row_is)
        ∙ ap (λ (l : List (ℕ × Node)). names_entered keys at (child_of (row_in_dir s at name value)) k (names_at t.root l keys k)) e1))

less_rows : (es es' : List (ℕ × Node)) (number : ℕ) → ((q : ℕ) → lookup (nat_eq q) es' ≡ cond (eqb number q) None (lookup (nat_eq q) es))
    → (k : ℕ) → row_of es' k ≡ cond (eqb number k) None (row_of es k)
less_rows es es' number h k = ap (option_map (λ (n : Node). n.row)) (h k) ∙ cases (eqb number k)
  where
    cases : (t : Bool) → option_map (λ (n : Node). n.row) (cond t None (lookup (nat_eq k) es)) ≡ cond t None (row_of es k)
    cases true = refl
    cases false = refl

less_names : (root : Directory) (es es' : List (ℕ × Node)) (number : ℕ) → ((q : ℕ) → lookup (nat_eq q) es' ≡ cond (eqb number q) None (lookup (nat_eq q) es))
    → (keys : Bool) (k : ℕ) → eqb number k ≡ false → names_at root es' keys k ≡ names_at root es keys k
less_names root es es' number h keys k other =
    ap (λ (o : Option Node). cond (eqb k 0) (Some (names_in keys root)) (option_map (λ (n : Node). names_in keys n.below) o))
    (h k ∙ ap (λ (t : Bool). cond t None (lookup (nat_eq k) es)) other)

-- the row of a leaf in the arena
pub leaf_row : (t : Inside) (s : Rows) (number : ℕ) (leaf : IsLeaf s number) → IsWholeArena t → rows_of t ≡ s → row_of t.nodes.entries number ≡ Some leaf.row
leaf_row t s number leaf h is = sym (number_is (row_of t.nodes.entries) t.next number h.numbered) ∙ (ap (λ (r : Rows). row_numbered r.rows number) is ∙ leaf.there)

pub leaf_found : (t : Inside) (s : Rows) (number : ℕ) (leaf : IsLeaf s number) → IsWholeArena t → rows_of t ≡ s → row_at (rows_of t).rows leaf.row.path ≡ Some leaf.row
leaf_found t s number leaf h is = row_there (row_of t.nodes.entries) (names_at t.root t.nodes.entries) t.next t.count t.bytes number leaf.row h (leaf_row t s number leaf h is)

-- the row of a node is found at its path
pub seek_again : (t : Inside) (s : Rows) (k : ℕ) (node : Node) (names : List (List ℕ)) → IsWholeArena t → rows_of t ≡ s → Some node ≡ node_at t.nodes.entries k → node.row.path ≡ names
    → seek s.rows names ≡ Ok node.row
seek_again t s k node names h is at path =
    let there : row_at (rows_of t).rows node.row.path ≡ Some node.row =
    row_there (row_of t.nodes.entries) (names_at t.root t.nodes.entries) t.next t.count t.bytes k node.row h (ap (option_map (λ (n : Node). n.row)) (sym at)) in
    let some : 0 < length node.row.path = found_some [] (rows_of t).rows node.row.path node.row h.database.tree.placed there in
    ap (λ (x : Rows). seek x.rows names) (sym is)
    ∙ (ap (seek (rows_of t).rows) (sym path) ∙ seek_there (rows_of t) node.row.path node.row h.database.tree some there)

pub leaf_some : (t : Inside) (s : Rows) (number : ℕ) (leaf : IsLeaf s number) → IsWholeArena t → rows_of t ≡ s → 0 < length leaf.row.path
leaf_some t s number leaf h is = found_some [] (rows_of t).rows leaf.row.path leaf.row h.database.tree.placed (leaf_found t s number leaf h is)

leaf_number : (t : Inside) (s : Rows) (number : ℕ) (leaf : IsLeaf s number) → IsWholeArena t → rows_of t ≡ s → eqb number 0 ≡ false
leaf_number t s number leaf h is =
    let one : 1 ≤ leaf.row.number = (rising_found 1 (rows_of t).rows t.next leaf.row.path leaf.row h.database.tree.numbered (leaf_found t s number leaf h is)).1 in
    let own : leaf.row.number ≡ number = (h.numbered number leaf.row (leaf_row t s number leaf h is)).own in
    not_zero number (omega (arith, one, own))
  where
    not_zero : (k : ℕ) → 1 ≤ k → eqb k 0 ≡ false
    not_zero k l = grind (arith, nat_tests, l)

pub leaf_path : (t : Inside) (s : Rows) (number : ℕ) (leaf : IsLeaf s number) → IsWholeArena t → rows_of t ≡ s → path_with s.rows number ≡ Some leaf.row.path
leaf_path t s number leaf h is =
    ap (λ (z : Bool). cond z (Some []) (option_map (λ (r : Row). r.path) (row_numbered s.rows number))) (leaf_number t s number leaf h is)
    ∙ ap (option_map (λ (r : Row). r.path)) leaf.there

database_outside : (s : Rows) (p : List (List ℕ)) → IsDatabase s → IsDatabase (after_delete s p)
database_outside s p h = record {
  tree = tree_outside s p h.tree;
  rows = All-filter (λ (r : Row). not (is_front p r.path)) (IsRow s.links) s.rows h.rows;
  within = outside_within s p (rows_outside s.rows p) refl h.within;
}

-- a row less
pub cut : (t : Inside) (s : Rows) (number : ℕ) (names front : List (List ℕ)) (name : List ℕ) (r : Reached) (node : Node) (es1 es2 : List (ℕ × Node)) (root' : Directory) (is_dir : Bool) (bytes : ℕ)
    → IsWholeArena t → rows_of t ≡ s → (leaf : IsLeaf s number) → names ≡ leaf.row.path → front ≡ parent_of names → name ≡ get_or names (length names - 1) name → IsReached s.rows front r
    → Some node ≡ lookup (nat_eq number) t.nodes.entries
    → ((q : ℕ) → lookup (nat_eq q) es1 ≡ cond (eqb number q) None (lookup (nat_eq q) t.nodes.entries))
    → ((k : ℕ) → row_of es2 k ≡ row_of es1 k)
    → ((keys : Bool) (k : ℕ) → names_at root' es2 keys k ≡ names_left keys r.at is_dir (folded name) k (names_at t.root es1 keys k))
    → is_dir ≡ not (is_key node.row) → bytes ≡ bytes_of_row node.row
    → (all_rows (row_of es2) t.next ≡ after_delete s leaf.row.path) × IsArena (row_of es2) (names_at root' es2) t.next (t.count - 1) (t.bytes - bytes)
cut t s number names front name r node es1 es2 root' is_dir bytes h is leaf names_is front_is name_is reached there at1 rows2 names2 dir_is bytes_is =
    let less = arena_less (row_of t.nodes.entries) (row_of es2) (names_at t.root t.nodes.entries) (names_at root' es2) t.next t.count t.bytes number r.at reached.leads.path (parent_of names) name leaf.row
    h (leaf_row t s number leaf h is) (leaf_number t s number leaf h is) (sym names_is ∙ whole_names names name some name_is) (sym (path_known t s r.at h is) ∙ reached.leads.there) same alone
    (database_outside (rows_of t) leaf.row.path h.database) rows3 names3 in (
      less.0 ∙ ap (λ (x : Rows). after_delete x leaf.row.path) is,
      subst (λ (b : ℕ). IsArena (row_of es2) (names_at root' es2) t.next (t.count - 1) (t.bytes - b)) (sym (bytes_is ∙ ap bytes_of_row row_is)) less.1,
    )
  where
    row_is : node.row ≡ leaf.row
    row_is = some_is node.row leaf.row (ap (option_map (λ (n : Node). n.row)) there ∙ leaf_row t s number leaf h is)

    some : 0 < length names
    some = subst (λ (p : List (List ℕ)). 0 < length p) (sym names_is) (leaf_some t s number leaf h is)

    tree : IsTree s
    tree = subst IsTree is h.database.tree

    found : row_at s.rows names ≡ Some leaf.row
    found = ap (row_at s.rows) names_is ∙ (ap (λ (x : Rows). row_at x.rows leaf.row.path) (sym is) ∙ leaf_found t s number leaf h is)

    far : length front ≤ r.depth
    far = cases (eqb (length front - r.depth) 0) refl
      where
        missed : r.depth < length front → ⊥
        missed l = let no : None ≡ Some leaf.row = sym (not_reached s names front r tree some front_is reached l) ∙ found in absurd (cc)

        zero_test : (n : ℕ) → eqb n 0 ≡ true → n ≡ 0
        zero_test n e = grind (arith, nat_tests, e)

        some_test : (n : ℕ) → eqb n 0 ≡ false → 0 < n
        some_test n e = grind (arith, nat_tests, e)

        cases : (t : Bool) → eqb (length front - r.depth) 0 ≡ t → length front ≤ r.depth
        cases true e = omega (arith, zero_test (length front - r.depth) e)
        cases false e = absurd (missed (omega (arith, some_test (length front - r.depth) e)))

    same : same_path reached.leads.path (parent_of names) ≡ true
    same = subst (λ (p : List (List ℕ)). same_path reached.leads.path p ≡ true) (take_all r.depth front far ∙ front_is) reached.leads.same

    alone : (k : ℕ) (x : Row) → row_of t.nodes.entries k ≡ Some x → is_front leaf.row.path x.path ≡ true → k ≡ number
    alone k x e f = leaf.alone k x (ap (λ (y : Rows). row_numbered y.rows k) (sym is) ∙ (number_is (row_of t.nodes.entries) t.next k h.numbered ∙ e)) f

    rows3 : (k : ℕ) → row_of es2 k ≡ cond (eqb number k) None (row_of t.nodes.entries k)
    rows3 k = rows2 k ∙ less_rows t.nodes.entries es1 number at1 k

    names3 : (keys : Bool) (k : ℕ) → eqb number k ≡ false → names_at root' es2 keys k ≡ names_left keys r.at (not (is_key leaf.row)) (folded name) k (names_at t.root t.nodes.entries keys k)
    names3 keys k other =
        names2 keys k
        ∙ (ap (λ (d : Bool). names_left keys r.at d (folded name) k (names_at t.root es1 keys k)) (dir_is ∙ ap (λ (x : Row). not (is_key x)) row_is)
        ∙ ap (names_left keys r.at (not (is_key leaf.row)) (folded name) k) (less_names t.root t.nodes.entries es1 number at1 keys k other))

pub on_ok : {X E : Type 0} (r : Result X E) (P : Type 0) → IsOk r → OnOk r P → P
on_ok (Ok x) P h p = p
on_ok (Err e) P h p = absurd (cc)

pub same_row : (n m : ℕ) (p q : List (List ℕ)) (v : Option HeldValue) → n ≡ m → p ≡ q → record { number = n; path = p; value = v } ≡ (let r : Row = record { number = m; path = q; value = v } in r)
same_row n m p q v e f = let make : ℕ → List (List ℕ) → Row = (λ i l. record { number = i; path = l; value = v }) in ap (λ (i : ℕ). make i p) e ∙ ap (make m) f

pub same_child : (a b : List ℕ) (s t : Bool) (n : ℕ) → a ≡ b → s ≡ t → record { name = a; is_dir = s; row = n } ≡ (let c : Child = record { name = b; is_dir = t; row = n } in c)
same_child a b s t n e f = let make : List ℕ → Bool → Child = (λ l d. record { name = l; is_dir = d; row = n }) in ap (λ (l : List ℕ). make l s) e ∙ ap (make b) f

pub not_flip : (a b : Bool) → a ≡ not b → b ≡ not a
not_flip true true h = absurd (cc)
not_flip true false h = refl
not_flip false true h = refl
not_flip false false h = absurd (cc)

bytes_there : (rows : List Row) (k : ℕ) (r : Row) → row_numbered rows k ≡ Some r → bytes_of_row r ≤ total_of rows
bytes_there [] k r e = absurd (cc)
bytes_there (x ∷ xs) k r e = elim (found_or (eqb x.number k) x r (row_numbered xs k) e) [
  | inl w ↦ subst (λ (y : Row). bytes_of_row y ≤ total_of (x ∷ xs)) w.1 (omega (arith, sum_by-cons bytes_of_row x xs))
  | inr w ↦ omega (arith, sum_by-cons bytes_of_row x xs, bytes_there xs k r w.1)
]

pub leaf_bytes : (t : Inside) (s : Rows) (number bytes : ℕ) (leaf : IsLeaf s number) (node : Node) → IsWholeArena t → rows_of t ≡ s → Some node ≡ lookup (nat_eq number) t.nodes.entries
    → bytes ≡ bytes_of_row node.row → bytes ≤ t.bytes
leaf_bytes t s number bytes leaf node h is there e =
    let row_is : node.row ≡ leaf.row = some_is node.row leaf.row (ap (option_map (λ (n : Node). n.row)) there ∙ leaf_row t s number leaf h is) in
    omega (arith, h.weighed, e, ap bytes_of_row row_is, bytes_there (rows_of t).rows number leaf.row (ap (λ (r : Rows). row_numbered r.rows number) is ∙ leaf.there))
