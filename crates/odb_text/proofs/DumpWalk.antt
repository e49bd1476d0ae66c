-- The dump of a database follows the walk, where its lines are plain.
use Rattle.std.proofs.Common.{◌≡◌, ℕ, zero, suc, ◌+◌, ◌-◌, ◌<◌, Bool, true, false, cond, List, [], ◌∷◌, ◌++◌, length, Option, Some, None, refl, sym, ap, ◌∙◌, subst, arith, inl, length-append}
use Rattle.std.specs.Prelude.{IfSome}
use Rattle.std.specs.Option.{is_some}
use Rattle.std.specs.List.{filter, AllByRecursion}
use Rattle.std.proofs.lemmas.List.Elements.{recursion_from_All, All-nil}
use Rattle.daq_types.specs.Names.{IsName}
use Rattle.odb_value.specs.Paths.{depth_limit, IsPath}
use Rattle.odb_value.specs.Values.{HeldValue}
use Rattle.odb_tree.specs.declared.rows.Row.{Row}
use Rattle.odb_tree.specs.Rows.{Rows, is_key, is_kind, is_child, is_listed, keys_in, dirs_in}
use Rattle.odb_tree.specs.Calls.{last_name}
use Rattle.odb_tree.specs.Trees.{IsDir, AreShort}
use Rattle.odb_tree.specs.Databases.{IsHeld, IsRow, IsDatabase}
use Rattle.odb_tree.proofs.EachRow.{short_rows}
use Rattle.odb_tree.proofs.WalkLaws.{and_right}
use Rattle.odb_text.specs.declared.acts.Act.TheVariants.{Make, Write}
use Rattle.odb_text.specs.TextSteps.{dir_after}
use Rattle.odb_text.specs.Grammar.{SpellsAct}
use Rattle.odb_text.specs.DumpSteps.{act_with, act_for, DumpFollowsWalk}
use Rattle.odb_text.proofs.Found.{RowStands}
use Rattle.odb_text.proofs.Parts.{AllStand, AllOfKind, listed_stand, listed_kind, no_key}
use Rattle.odb_text.proofs.DumpLines.{value_lines, key_lines, dump_lines, IsPlainLine}
use Rattle.odb_text.proofs.DumpPaths.{dir_line_reads}
use Rattle.odb_text.proofs.DumpKeys.{key_reads}
use Rattle.odb_text.proofs.DumpReads.{RowReads, KeysRead, SectionReads, LevelsRead, NoKeysAt, child_long, whole_walk, follows_walk}

-- the last names of paths

pub last_good : (s : Rows) (p : List (List ℕ)) (r : Row) → RowStands s p r → IsRow s.links r → IsName (last_name r.path)
last_good s p r h k =
    let long : length r.path ≡ length p + 1 = ap (length {A = List ℕ}) h.path ∙ length-append p (last_name r.path ∷ []) in
    k.path.names (length r.path - 1) [] (omega (arith, long))

-- keys

reads_of : (links : Bool) (p path : List (List ℕ)) (name : List ℕ) (o : Option HeldValue) → is_some o ≡ true → path ≡ p ++ name ∷ [] → length p < depth_limit → IsName name → IfSome o (IsHeld links)
    → SpellsAct links p (value_lines name o) (act_with path o) × (dir_after p (act_with path o) ≡ p)
reads_of links p path name None e is deep n h = absurd (cc)
reads_of links p path name (Some v) e is deep n h = (subst (λ (q : List (List ℕ)). SpellsAct links p (key_lines name v) (Write q v)) (sym is) (key_reads links p name v deep n h), refl)

row_reads : (s : Rows) (p : List (List ℕ)) (r : Row) → RowStands s p r → IsRow s.links r → is_key r ≡ true → RowReads s.links p r
row_reads s p r h k e = reads_of s.links p r.path (last_name r.path) r.value e h.path h.short (last_good s p r h k) k.value

keys_read : (s : Rows) (p : List (List ℕ)) (rs : List Row) → AllStand s p rs → AllOfKind true rs → AllByRecursion (IsRow s.links) rs → KeysRead s.links p rs
keys_read s p [] h k g = tt
keys_read s p (r ∷ rs) h k g = (row_reads s p r h.0 g.0 k.0, keys_read s p rs h.1 k.1 g.1)

pub rows_in : (links : Bool) (f : Row → Bool) (rows : List Row) → AllByRecursion (IsRow links) rows → AllByRecursion (IsRow links) (filter f rows)
rows_in links f [] h = tt
rows_in links f (r ∷ rs) h = cases (f r) (rows_in links f rs h.1)
  where
    cases : (t : Bool) → AllByRecursion (IsRow links) (filter f rs) → AllByRecursion (IsRow links) (cond t (r ∷ filter f rs) (filter f rs))
    cases true rest = (h.0, rest)
    cases false rest = rest

section_reads : (s : Rows) (p : List (List ℕ)) → IsDatabase s → IsDir s.rows p → IsPath p → SectionReads s.links s.rows p
section_reads s p h dir path = record {
  line = dir_line_reads p path;
  keys = keys_read s p (keys_in s.rows p) (listed_stand s p true [] s.rows refl h.tree (short_rows s.links s.rows h.rows) dir) (listed_kind true p s.rows)
      (rows_in s.links (is_listed true p) s.rows (recursion_from_All (IsRow s.links) s.rows h.rows));
}

-- directories

act_of_dir : (path : List (List ℕ)) (o : Option HeldValue) → is_some o ≡ false → act_with path o ≡ Make path
act_of_dir path None e = refl
act_of_dir path (Some v) e = absurd (cc)

each_level : (depth : ℕ) (s : Rows) (p : List (List ℕ)) → IsDatabase s → ((q : List (List ℕ)) → IsDir s.rows q → LevelsRead s.links depth s.rows q) → (ds : List Row) → AllStand s p ds → AllOfKind false ds
    → AllByRecursion (IsRow s.links) ds → AllByRecursion (λ (d : Row). (act_for d ≡ Make d.path) × SectionReads s.links s.rows d.path × LevelsRead s.links depth s.rows d.path) ds
each_level depth s p h below [] stand kind rows = tt
each_level depth s p h below (d ∷ ds) stand kind rows =
    let none : is_key d ≡ false = no_key (is_key d) kind.0 in
    let dir : IsDir s.rows d.path = subst (IsDir s.rows) (sym stand.0.path) (stand.0.dir none) in (
      (act_of_dir d.path d.value none, section_reads s d.path h dir rows.0.path, below d.path dir),
      each_level depth s p h below ds stand.1 kind.1 rows.1,
    )

levels_read : (depth : ℕ) (s : Rows) → IsDatabase s → (p : List (List ℕ)) → IsDir s.rows p → LevelsRead s.links depth s.rows p
unfolding LevelsRead
levels_read zero s h p dir = tt
levels_read (suc depth) s h p dir =
    each_level depth s p h (levels_read depth s h) (dirs_in s.rows p) (listed_stand s p false [] s.rows refl h.tree (short_rows s.links s.rows h.rows) dir) (listed_kind false p s.rows)
    (rows_in s.links (is_listed false p) s.rows (recursion_from_All (IsRow s.links) s.rows h.rows))

no_keys_in : (q : List (List ℕ)) (rows : List Row) → AreShort depth_limit rows → length q ≡ depth_limit → filter (is_listed true q) rows ≡ []
no_keys_in q [] h e = refl
no_keys_in q (r ∷ rs) h e = cases (is_listed true q r) refl (no_keys_in q rs h.1 e)
  where
    cases : (t : Bool) → is_listed true q r ≡ t → filter (is_listed true q) rs ≡ [] → cond t (r ∷ filter (is_listed true q) rs) (filter (is_listed true q) rs) ≡ []
    cases true k rest = absurd (omega (arith, child_long q r.path (and_right (is_kind true r) (is_child q r.path) k), e, h.0))
    cases false k rest = rest

pub root_path : IsPath []
root_path = record { short = omega arith; names = All-nil IsName }

-- what is left: that the lines are plain
pub dump_follows : (s : Rows) → IsDatabase s → AllByRecursion IsPlainLine (dump_lines s) → DumpFollowsWalk s
dump_follows s h plain =
    let none : NoKeysAt s.rows = λ (q : List (List ℕ)) (e : length q ≡ depth_limit). no_keys_in q s.rows (short_rows s.links s.rows h.rows) e in
    follows_walk s (record { section = section_reads s [] h (inl refl) root_path; below = levels_read depth_limit s h [] (inl refl) }) (whole_walk s none) plain
