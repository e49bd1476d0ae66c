-- The lines of a dump ask for the rows of the walk, in its order.
use Rattle.std.proofs.Common.{◌≡◌, ℕ, zero, suc, ◌+◌, ◌==◌, Bool, true, false, cond, List, [], ◌∷◌, ◌++◌, length, map, refl, sym, ap, ◌∙◌, subst, arith, append_assoc, append-nil, inl}
use Rattle.std.specs.List.{flat_map, filter, AllByRecursion}
use Rattle.std.specs.Str.Lines.{lines}
use Rattle.std.proofs.lemmas.List.{map-append}
use Rattle.std.proofs.lemmas.Bool.Decides.{nat_tests}
use Rattle.odb_value.specs.Paths.{depth_limit, is_front}
use Rattle.odb_tree.specs.declared.rows.Row.{Row}
use Rattle.odb_tree.specs.Rows.{Rows, is_kind, is_child, is_listed, keys_in, dirs_in}
use Rattle.odb_tree.specs.Walks.{walk_below, walk}
use Rattle.odb_tree.proofs.WalkLaws.{and_left, and_right}
use Rattle.odb_text.specs.LineForms.{IsPassed, IsDirLine}
use Rattle.odb_text.specs.declared.acts.Act.{Act}
use Rattle.odb_text.specs.declared.acts.Act.TheVariants.{Make}
use Rattle.odb_text.specs.Dumps.{dump_text}
use Rattle.odb_text.specs.TextSteps.{TextStep, dir_after, dirs_after}
use Rattle.odb_text.specs.Grammar.{SpellsAct, SpellsSteps}
use Rattle.odb_text.specs.DumpSteps.{act_for, root_acts, dump_acts, acts_of, DumpFollowsWalk}
use Rattle.odb_text.proofs.Loads.{spells_passed, one_step, spells_step, dirs_push}
use Rattle.odb_text.proofs.DumpLines.{row_lines, keys_lines, bare_dir_line, section_lines, dirs_lines, root_section, dump_lines, dump_ended, IsPlainLine, lines_ended}

-- These lines ask for steps that do this, and leave the keys that follow in this directory.
pub record ReadsAs (links : Bool) (front : List (List ℕ)) (acts : List Act) (dir : List (List ℕ)) : Type 0 where
  pub steps : List TextStep
  pub reads : SpellsSteps links 1 [] front steps
  pub acts_are : acts_of steps ≡ acts
  pub dir_is : dirs_after [] steps ≡ dir

pub reads_nothing : (links : Bool) → ReadsAs links [] [] []
reads_nothing links = record { steps = []; reads = tt; acts_are = refl; dir_is = refl }

pub reads_passed : (links : Bool) (front : List (List ℕ)) (acts : List Act) (dir : List (List ℕ)) (line : List ℕ) → ReadsAs links front acts dir → IsPassed line → ReadsAs links (front ++ line ∷ []) acts dir
reads_passed links front acts dir line r h =
    record { steps = r.steps; reads = spells_passed links 1 [] front r.steps line r.reads h; acts_are = r.acts_are; dir_is = r.dir_is }

pub reads_act : (links : Bool) (front : List (List ℕ)) (acts : List Act) (dir own : List (List ℕ)) (act : Act) → ReadsAs links front acts dir → SpellsAct links dir own act
    → ReadsAs links (front ++ own) (acts ++ act ∷ []) (dir_after dir act)
reads_act links front acts dir own act r h =
    let step : TextStep = one_step (1 + length front) act in
    record {
      steps = r.steps ++ step ∷ [];
      reads = spells_step links 1 [] front r.steps own act r.reads (subst (λ (d : List (List ℕ)). SpellsAct links d own act) (sym r.dir_is) h);
      acts_are = map-append (λ (x : TextStep). x.act) r.steps (step ∷ []) ∙ ap (λ (l : List Act). l ++ act ∷ []) r.acts_are;
      dir_is = dirs_push [] r.steps step ∙ ap (λ (d : List (List ℕ)). dir_after d act) r.dir_is;
    }

-- the lines of a key in this directory ask for it
abbrev pub RowReads : (links : Bool) (p : List (List ℕ)) → Row → Type 0
RowReads links p r = SpellsAct links p (row_lines r) (act_for r) × (dir_after p (act_for r) ≡ p)

abbrev pub KeysRead : (links : Bool) (p : List (List ℕ)) → List Row → Type 0
KeysRead links p [] = Unit {0}
KeysRead links p (r ∷ rs) = RowReads links p r × KeysRead links p rs

reads_keys : (links : Bool) (front : List (List ℕ)) (acts : List Act) (p : List (List ℕ)) (keys : List Row) → ReadsAs links front acts p → KeysRead links p keys
    → ReadsAs links (front ++ keys_lines keys) (acts ++ map act_for keys) p
reads_keys links front acts p [] r h =
    subst (λ (l : List (List ℕ)). ReadsAs links l (acts ++ []) p) (sym (append-nil front)) (subst (λ (l : List Act). ReadsAs links front l p) (sym (append-nil acts)) r)
reads_keys links front acts p (k ∷ ks) r h =
    let one : ReadsAs links (front ++ row_lines k) (acts ++ act_for k ∷ []) p =
    subst (λ (d : List (List ℕ)). ReadsAs links (front ++ row_lines k) (acts ++ act_for k ∷ []) d) h.0.1 (reads_act links front acts p (row_lines k) (act_for k) r h.0.0) in
    subst (λ (l : List (List ℕ)). ReadsAs links l (acts ++ act_for k ∷ map act_for ks) p) (append_assoc front (row_lines k) (keys_lines ks))
    (subst (λ (l : List Act). ReadsAs links ((front ++ row_lines k) ++ keys_lines ks) l p) (append_assoc acts (act_for k ∷ []) (map act_for ks))
    (reads_keys links (front ++ row_lines k) (acts ++ act_for k ∷ []) p ks one h.1))

-- what is known of a directory and its keys
pub record SectionReads (links : Bool) (rows : List Row) (p : List (List ℕ)) : Type 0 where
  pub line : IsDirLine (bare_dir_line p) p
  pub keys : KeysRead links p (keys_in rows p)

pub reads_section : (links : Bool) (front : List (List ℕ)) (acts : List Act) (dir : List (List ℕ)) (rows : List Row) (p : List (List ℕ)) → ReadsAs links front acts dir → SectionReads links rows p
    → ReadsAs links (front ++ section_lines rows p) (acts ++ Make p ∷ map act_for (keys_in rows p)) p
reads_section links front acts dir rows p r s =
    let ks : List Row = keys_in rows p in
    let head : ReadsAs links (front ++ bare_dir_line p ∷ []) (acts ++ Make p ∷ []) p = reads_act links front acts dir (bare_dir_line p ∷ []) (Make p) r (bare_dir_line p, refl, s.line) in
    let keys : ReadsAs links ((front ++ bare_dir_line p ∷ []) ++ keys_lines ks) ((acts ++ Make p ∷ []) ++ map act_for ks) p =
    reads_keys links (front ++ bare_dir_line p ∷ []) (acts ++ Make p ∷ []) p ks head s.keys in
    let whole : ReadsAs links (((front ++ bare_dir_line p ∷ []) ++ keys_lines ks) ++ [] ∷ []) ((acts ++ Make p ∷ []) ++ map act_for ks) p =
    reads_passed links ((front ++ bare_dir_line p ∷ []) ++ keys_lines ks) ((acts ++ Make p ∷ []) ++ map act_for ks) p [] keys (inl tt) in
    subst (λ (l : List (List ℕ)). ReadsAs links l (acts ++ Make p ∷ map act_for ks) p)
    (append_assoc (front ++ bare_dir_line p ∷ []) (keys_lines ks) ([] ∷ []) ∙ append_assoc front (bare_dir_line p ∷ []) (keys_lines ks ++ [] ∷ []))
    (subst (λ (l : List Act). ReadsAs links (((front ++ bare_dir_line p ∷ []) ++ keys_lines ks) ++ [] ∷ []) l p) (append_assoc acts (Make p ∷ []) (map act_for ks)) whole)

-- Directories, each with what is below it. The acts are those of the walk, where the directories at the last level are empty.

pub record ReadsOn (links : Bool) (front : List (List ℕ)) (acts : List Act) : Type 0 where
  pub dir : List (List ℕ)
  pub reads : ReadsAs links front acts dir

-- the rows below a directory, down to so many levels of directories, but for its own keys
unfoldable pub level_rows : (depth : ℕ) → List Row → List (List ℕ) → List Row
level_rows zero rows p = []
level_rows (suc depth) rows p = flat_map (λ (d : Row). d ∷ (keys_in rows d.path ++ level_rows depth rows d.path)) (dirs_in rows p)

-- what is known of all directories there
unfoldable pub LevelsRead : (links : Bool) (depth : ℕ) → List Row → List (List ℕ) → Type 0
LevelsRead links zero rows p = Unit {0}
LevelsRead links (suc depth) rows p = AllByRecursion (λ (d : Row). (act_for d ≡ Make d.path) × SectionReads links rows d.path × LevelsRead links depth rows d.path) (dirs_in rows p)

-- lists of four parts
four_parts : {X : Type 0} (a b c d : List X) → ((a ++ b) ++ c) ++ d ≡ a ++ ((b ++ c) ++ d)
four_parts a b c d = ap (λ (l : List _). l ++ d) (append_assoc a b c) ∙ append_assoc a (b ++ c) d

mapped_parts : (d : Row) (ks vs rs : List Row) → act_for d ≡ Make d.path → (Make d.path ∷ map act_for ks ++ map act_for vs) ++ map act_for rs ≡ map act_for ((d ∷ (ks ++ vs)) ++ rs)
mapped_parts d ks vs rs is =
    ap (λ (x : Act). (x ∷ (map act_for ks ++ map act_for vs)) ++ map act_for rs) (sym is)
    ∙ ap (λ (l : List Act). (act_for d ∷ l) ++ map act_for rs) (sym (map-append act_for ks vs))
    ∙ sym (map-append act_for (d ∷ (ks ++ vs)) rs)

abbrev pub ReadsBelow : (links : Bool) (depth : ℕ) → List Row → Type 0
ReadsBelow links depth rows = (front : List (List ℕ)) (acts : List Act) (dir p : List (List ℕ)) → ReadsAs links front acts dir → LevelsRead links depth rows p
    → ReadsOn links (front ++ dirs_lines depth rows p) (acts ++ map act_for (level_rows depth rows p))

reads_each : (links : Bool) (depth : ℕ) (rows : List Row) → ReadsBelow links depth rows → (front : List (List ℕ)) (acts : List Act) (dir : List (List ℕ)) (ds : List Row) → ReadsAs links front acts dir
    → AllByRecursion (λ (d : Row). (act_for d ≡ Make d.path) × SectionReads links rows d.path × LevelsRead links depth rows d.path) ds
    → ReadsOn links (front ++ flat_map (λ (d : Row). section_lines rows d.path ++ dirs_lines depth rows d.path) ds)
    (acts ++ map act_for (flat_map (λ (d : Row). d ∷ (keys_in rows d.path ++ level_rows depth rows d.path)) ds))
reads_each links depth rows below front acts dir [] r h =
    record { dir = dir; reads = subst (λ (l : List (List ℕ)). ReadsAs links l (acts ++ []) dir) (sym (append-nil front)) (subst (λ (l : List Act). ReadsAs links front l dir) (sym (append-nil acts)) r) }
reads_each links depth rows below front acts dir (d ∷ ds) r h =
    let section : List (List ℕ) = section_lines rows d.path in
    let under : List (List ℕ) = dirs_lines depth rows d.path in
    let others : List (List ℕ) = flat_map (λ (x : Row). section_lines rows x.path ++ dirs_lines depth rows x.path) ds in
    let ks : List Row = keys_in rows d.path in
    let vs : List Row = level_rows depth rows d.path in
    let rs : List Row = flat_map (λ (x : Row). x ∷ (keys_in rows x.path ++ level_rows depth rows x.path)) ds in
    let a : ReadsAs links (front ++ section) (acts ++ Make d.path ∷ map act_for ks) d.path = reads_section links front acts dir rows d.path r h.0.1 in
    let b : ReadsOn links ((front ++ section) ++ under) ((acts ++ Make d.path ∷ map act_for ks) ++ map act_for vs) =
    below (front ++ section) (acts ++ Make d.path ∷ map act_for ks) d.path d.path a h.0.2 in
    let c : ReadsOn links (((front ++ section) ++ under) ++ others) (((acts ++ Make d.path ∷ map act_for ks) ++ map act_for vs) ++ map act_for rs) =
    reads_each links depth rows below ((front ++ section) ++ under) ((acts ++ Make d.path ∷ map act_for ks) ++ map act_for vs) b.dir ds b.reads h.1 in
    subst (λ (l : List (List ℕ)). ReadsOn links l (acts ++ map act_for ((d ∷ (ks ++ vs)) ++ rs))) (four_parts front section under others)
    (subst (λ (l : List Act). ReadsOn links (((front ++ section) ++ under) ++ others) l)
    (four_parts acts (Make d.path ∷ map act_for ks) (map act_for vs) (map act_for rs) ∙ ap (λ (l : List Act). acts ++ l) (mapped_parts d ks vs rs h.0.0)) c)

pub reads_below : (links : Bool) (depth : ℕ) (rows : List Row) → ReadsBelow links depth rows
unfolding dirs_lines level_rows LevelsRead
reads_below links zero rows = λ (front : List (List ℕ)) (acts : List Act) (dir p : List (List ℕ)) (r : ReadsAs links front acts dir) h.
    record { dir = dir; reads = subst (λ (l : List (List ℕ)). ReadsAs links l (acts ++ []) dir) (sym (append-nil front)) (subst (λ (l : List Act). ReadsAs links front l dir) (sym (append-nil acts)) r) }
reads_below links (suc depth) rows = λ (front : List (List ℕ)) (acts : List Act) (dir p : List (List ℕ)) (r : ReadsAs links front acts dir) h.
    reads_each links depth rows (reads_below links depth rows) front acts dir (dirs_in rows p) r h

-- The whole dump.

-- what is known of the root: its line and its keys, where it has keys
pub record RootReads (links : Bool) (rows : List Row) : Type 0 where
  pub section : SectionReads links rows []
  pub below : LevelsRead links depth_limit rows []

root_reads : (links : Bool) (rows keys : List Row) → keys ≡ keys_in rows [] → RootReads links rows → ReadsOn links (root_section rows keys) (root_acts keys ++ map act_for keys)
root_reads links rows [] e h = record { dir = []; reads = reads_nothing links }
root_reads links rows (k ∷ ks) e h = record {
  dir = [];
  reads = subst (λ (l : List Row). ReadsAs links (section_lines rows []) (Make [] ∷ map act_for l) []) (sym e) (reads_section links [] [] [] rows [] (reads_nothing links) h.section);
}

-- the keys of the root, and all that is below it, are the walk
pub dump_reads : (s : Rows) → RootReads s.links s.rows → keys_in s.rows [] ++ level_rows depth_limit s.rows [] ≡ walk s → ReadsOn s.links (dump_lines s) (dump_acts s)
dump_reads s h is =
    let ks : List Row = keys_in s.rows [] in
    let vs : List Row = level_rows depth_limit s.rows [] in
    let root : ReadsOn s.links (root_section s.rows ks) (root_acts ks ++ map act_for ks) = root_reads s.links s.rows ks refl h in
    let all : ReadsOn s.links (root_section s.rows ks ++ dirs_lines depth_limit s.rows []) ((root_acts ks ++ map act_for ks) ++ map act_for vs) =
    reads_below s.links depth_limit s.rows (root_section s.rows ks) (root_acts ks ++ map act_for ks) root.dir [] root.reads h.below in
    subst (λ (l : List Act). ReadsOn s.links (dump_lines s) l)
    (append_assoc (root_acts ks) (map act_for ks) (map act_for vs) ∙ ap (λ (l : List Act). root_acts ks ++ l) (sym (map-append act_for ks vs) ∙ ap (λ (l : List Row). map act_for l) is)) all

-- so the law holds of a database whose lines are plain
pub follows_walk : (s : Rows) → RootReads s.links s.rows → keys_in s.rows [] ++ level_rows depth_limit s.rows [] ≡ walk s → AllByRecursion IsPlainLine (dump_lines s) → DumpFollowsWalk s
follows_walk s h is plain =
    let r = dump_reads s h is in
    let same : lines (dump_text s) ≡ dump_lines s = ap lines (dump_ended s) ∙ lines_ended (dump_lines s) plain in
    record {
      steps = r.reads.steps;
      reads = subst (λ (l : List (List ℕ)). SpellsSteps s.links 1 [] l r.reads.steps) (sym same) r.reads.reads;
      acts_are = r.reads.acts_are;
    }

-- The levels are those of the walk, where no directory of the last level has keys.

abbrev pub all_long : ℕ → List Row → Type 0
all_long n ds = AllByRecursion (λ (d : Row). length d.path ≡ n) ds

pub child_long : (p q : List (List ℕ)) → is_child p q ≡ true → length q ≡ length p + 1
child_long p q h = grind (arith, nat_tests, and_left (length q == length p + 1) (is_front p q) h)

listed_long : (p : List (List ℕ)) (rows : List Row) → all_long (length p + 1) (filter (is_listed false p) rows)
listed_long p [] = tt
listed_long p (r ∷ rs) = cases (is_listed false p r) refl (listed_long p rs)
  where
    cases : (t : Bool) → is_listed false p r ≡ t → all_long (length p + 1) (filter (is_listed false p) rs)
        → all_long (length p + 1) (cond t (r ∷ filter (is_listed false p) rs) (filter (is_listed false p) rs))
    cases true h rest = (child_long p r.path (and_right (is_kind false r) (is_child p r.path) h), rest)
    cases false h rest = rest

-- no directory with so many names has keys
abbrev pub NoKeysAt : List Row → Type 0
NoKeysAt rows = (q : List (List ℕ)) → length q ≡ depth_limit → keys_in rows q ≡ []

abbrev pub IsWalk : (depth : ℕ) → List Row → Type 0
IsWalk depth rows = (p : List (List ℕ)) → length p + depth ≡ depth_limit → keys_in rows p ++ level_rows depth rows p ≡ walk_below depth rows p

each_walks : (depth : ℕ) (rows : List Row) (n : ℕ) → n + 1 + depth ≡ depth_limit → IsWalk depth rows → (ds : List Row) → all_long (n + 1) ds
    → flat_map (λ (d : Row). d ∷ (keys_in rows d.path ++ level_rows depth rows d.path)) ds ≡ flat_map (λ (d : Row). d ∷ walk_below depth rows d.path) ds
each_walks depth rows n e walks [] long = refl
each_walks depth rows n e walks (d ∷ ds) long =
    ap (λ (l : List Row). (d ∷ l) ++ flat_map (λ (x : Row). x ∷ (keys_in rows x.path ++ level_rows depth rows x.path)) ds) (walks d.path (omega (arith, long.0, e)))
    ∙ ap (λ (l : List Row). (d ∷ walk_below depth rows d.path) ++ l) (each_walks depth rows n e walks ds long.1)

pub levels_walk : (depth : ℕ) (rows : List Row) → NoKeysAt rows → IsWalk depth rows
unfolding level_rows walk_below
levels_walk zero rows none = λ (p : List (List ℕ)) (e : length p + 0 ≡ depth_limit). ap (λ (l : List Row). l ++ []) (none p (omega (arith, e)))
levels_walk (suc depth) rows none = λ (p : List (List ℕ)) (e : length p + suc depth ≡ depth_limit).
    ap (λ (l : List Row). keys_in rows p ++ l)
    (each_walks depth rows (length p) (omega (arith, e)) (levels_walk depth rows none) (dirs_in rows p) (listed_long p rows))

pub whole_walk : (s : Rows) → NoKeysAt s.rows → keys_in s.rows [] ++ level_rows depth_limit s.rows [] ≡ walk s
unfolding walk
whole_walk s none = levels_walk depth_limit s.rows none [] (omega arith)
