-- The dump of every database follows the walk.
use Rattle.std.proofs.Common.{◌≡◌, ℕ, zero, suc, Bool, true, false, List, [], ◌∷◌, ◌++◌, Option, Some, None, refl, sym, subst, inl}
use Rattle.std.specs.Prelude.{IfSome}
use Rattle.std.specs.List.{flat_map, AllByRecursion}
use Rattle.std.proofs.lemmas.List.Elements.{recursion_from_All}
use Rattle.daq_types.specs.Names.{IsName}
use Rattle.odb_value.specs.Paths.{depth_limit, IsPath}
use Rattle.odb_value.specs.Values.{HeldValue}
use Rattle.odb_tree.specs.declared.rows.Row.{Row}
use Rattle.odb_tree.specs.Rows.{Rows, is_key, is_listed, keys_in, dirs_in}
use Rattle.odb_tree.specs.Calls.{last_name}
use Rattle.odb_tree.specs.Trees.{IsDir}
use Rattle.odb_tree.specs.Databases.{IsHeld, IsRow, IsDatabase}
use Rattle.odb_tree.proofs.EachRow.{short_rows}
use Rattle.odb_text.specs.DumpSteps.{DumpFollowsWalk}
use Rattle.odb_text.proofs.Parts.{AllStand, AllOfKind, listed_stand, listed_kind, no_key}
use Rattle.odb_text.proofs.DumpLines.{IsPlainLine, value_lines, row_lines, keys_lines, section_lines, dirs_lines, root_section}
use Rattle.odb_text.proofs.DumpPaths.{dir_line_plain}
use Rattle.odb_text.proofs.DumpPlain.{key_plain}
use Rattle.odb_text.proofs.DumpWalk.{last_good, rows_in, root_path, dump_follows}

abbrev ArePlain : List (List ℕ) → Type 0
ArePlain ls = AllByRecursion IsPlainLine ls

all_append : (xs ys : List (List ℕ)) → ArePlain xs → ArePlain ys → ArePlain (xs ++ ys)
all_append [] ys h k = k
all_append (x ∷ xs) ys h k = (h.0, all_append xs ys h.1 k)

value_plain : (links : Bool) (name : List ℕ) (o : Option HeldValue) → IsName name → IfSome o (IsHeld links) → ArePlain (value_lines name o)
value_plain links name None n h = tt
value_plain links name (Some v) n h = key_plain links name v n h

keys_plain : (s : Rows) (p : List (List ℕ)) (rs : List Row) → AllStand s p rs → AllByRecursion (IsRow s.links) rs → ArePlain (keys_lines rs)
keys_plain s p [] h g = tt
keys_plain s p (r ∷ rs) h g =
    all_append (row_lines r) (keys_lines rs) (value_plain s.links (last_name r.path) r.value (last_good s p r h.0 g.0) g.0.value) (keys_plain s p rs h.1 g.1)

section_plain : (s : Rows) (p : List (List ℕ)) → IsDatabase s → IsDir s.rows p → IsPath p → ArePlain (section_lines s.rows p)
section_plain s p h dir path = (
  dir_line_plain p path,
  all_append (keys_lines (keys_in s.rows p)) ([] ∷ [])
      (keys_plain s p (keys_in s.rows p) (listed_stand s p true [] s.rows refl h.tree (short_rows s.links s.rows h.rows) dir)
      (rows_in s.links (is_listed true p) s.rows (recursion_from_All (IsRow s.links) s.rows h.rows)))
      ((tt, tt), tt),
)

each_plain : (depth : ℕ) (s : Rows) (p : List (List ℕ)) → IsDatabase s → ((q : List (List ℕ)) → IsDir s.rows q → ArePlain (dirs_lines depth s.rows q)) → (ds : List Row) → AllStand s p ds
    → AllOfKind false ds → AllByRecursion (IsRow s.links) ds → ArePlain (flat_map (λ (d : Row). section_lines s.rows d.path ++ dirs_lines depth s.rows d.path) ds)
each_plain depth s p h below [] stand kind rows = tt
each_plain depth s p h below (d ∷ ds) stand kind rows =
    let none : is_key d ≡ false = no_key (is_key d) kind.0 in
    let dir : IsDir s.rows d.path = subst (IsDir s.rows) (sym stand.0.path) (stand.0.dir none) in
    all_append (section_lines s.rows d.path ++ dirs_lines depth s.rows d.path) (flat_map (λ (x : Row). section_lines s.rows x.path ++ dirs_lines depth s.rows x.path) ds)
    (all_append (section_lines s.rows d.path) (dirs_lines depth s.rows d.path) (section_plain s d.path h dir rows.0.path) (below d.path dir))
    (each_plain depth s p h below ds stand.1 kind.1 rows.1)

levels_plain : (depth : ℕ) (s : Rows) → IsDatabase s → (p : List (List ℕ)) → IsDir s.rows p → ArePlain (dirs_lines depth s.rows p)
unfolding dirs_lines
levels_plain zero s h p dir = tt
levels_plain (suc depth) s h p dir =
    each_plain depth s p h (levels_plain depth s h) (dirs_in s.rows p) (listed_stand s p false [] s.rows refl h.tree (short_rows s.links s.rows h.rows) dir) (listed_kind false p s.rows)
    (rows_in s.links (is_listed false p) s.rows (recursion_from_All (IsRow s.links) s.rows h.rows))

root_plain : (s : Rows) (keys : List Row) → IsDatabase s → ArePlain (root_section s.rows keys)
root_plain s [] h = tt
root_plain s (k ∷ ks) h = section_plain s [] h (inl refl) root_path

pub dump_follows_walk : (s : Rows) → IsDatabase s → DumpFollowsWalk s
dump_follows_walk s h =
    dump_follows s h (all_append (root_section s.rows (keys_in s.rows [])) (dirs_lines depth_limit s.rows []) (root_plain s (keys_in s.rows []) h) (levels_plain depth_limit s h [] (inl refl)))
