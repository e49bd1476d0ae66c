use Rattle.std.proofs.Common.{◌≡◌, ℕ, ◌+◌, ◌-◌, true, false, cond, List, [], ◌++◌, sym, ap, subst, ◌∙◌, arith, append_assoc}
use Rattle.std.specs.List.{flat_map}
use Rattle.std.proofs.lemmas.List.{append-nil, take_all}
use Rattle.odb_tree.specs.declared.children.Child.{Child}
use Rattle.odb_tree.specs.Rows.{Rows}
use Rattle.odb_tree.specs.Trees.{IsDir}
use Rattle.odb_text.specs.Dumps.{section_text, dirs_text}
use Rattle.odb_text.specs.Standing.{IsChildIn, own_path, dir_part}
use Rattle.odb_text.proofs.Parts.{dirs_whole, no_key, child_at, parts_more}
use Rattle.odb_text.proofs.dump.+add_dirs.Goals.{then-child+in_ok-own+in_ok-add_section+in_ok-add_dirs, else-child}
use Rattle.odb_text.proofs.dump.+add_dirs.Goals as goal

-- a child is a directory where it says so
leads : (s : Rows) (p own : List (List ℕ)) (child : Child) → IsChildIn s p child → child.is_dir ≡ true → own ≡ own_path p child → IsDir s.rows own
leads s p own child h dir is = subst (IsDir s.rows) (sym is) (h.dir (no_key _ (sym (ap (λ (c : Child). c.is_dir) h.is) ∙ dir)))

-- what it adds, as a directory and as a key
as_dir : (depth : ℕ) (s : Rows) (p own : List (List ℕ)) (child : Child) (before middle after : List ℕ) → child.is_dir ≡ true → own ≡ own_path p child → middle ≡ before ++ section_text s.rows own
    → after ≡ middle ++ dirs_text depth s.rows own → after ≡ before ++ dir_part depth s p child
as_dir depth s p own child before middle after dir is section below =
    below ∙ (ap (λ (l : List ℕ). l ++ dirs_text depth s.rows own) section ∙ (append_assoc before (section_text s.rows own) (dirs_text depth s.rows own)
    ∙ ap (λ (l : List ℕ). before ++ l) (ap (λ (q : List (List ℕ)). section_text s.rows q ++ dirs_text depth s.rows q) is
    ∙ ap (λ t. cond t (section_text s.rows (own_path p child) ++ dirs_text depth s.rows (own_path p child)) []) (sym dir))))

as_key : (depth : ℕ) (s : Rows) (p : List (List ℕ)) (child : Child) (before : List ℕ) → child.is_dir ≡ false → before ≡ before ++ dir_part depth s p child
as_key depth s p child before key =
    sym (append-nil before) ∙ ap (λ t. before ++ cond t (section_text s.rows (own_path p child) ++ dirs_text depth s.rows (own_path p child)) []) (sym key)

pub returns : goal.returns
returns g t c =
    let s : Rows = g.D.Database.rows c.args.database.now in
    let part = dir_part (c.args.depth - 1) s c.args.path.now in
    let children : List Child = c.as_slice-child-items.result.now in
    c.loop-child.invariant
    ∙ ap (λ (l : List ℕ). c.args.text.now ++ l)
    (ap (flat_map part) (take_all c.loop-child.child-index children c.loop-child-test.false)
    ∙ (ap (flat_map part) (c.as_slice-child-items.ensures ∙ c.in_ok-children.ensures.children)
    ∙ (dirs_whole (c.args.depth - 1) s c.args.path.now c.in_ok-children.ensures.database c.requires
    ∙ ap (λ (n : ℕ). dirs_text n s.rows c.args.path.now) {x = c.args.depth - 1 + 1} {y = c.args.depth} (omega (arith, c.if-depth-eq0.false)))))

pub returns-then-depth-eq0 : goal.returns-then-depth-eq0
unfolding dirs_text
returns-then-depth-eq0 g t c =
    let s : Rows = g.D.Database.rows c.args.database.now in
    sym (append-nil c.args.text.now) ∙ ap (λ (n : ℕ). c.args.text.now ++ dirs_text n s.rows c.args.path.now) (sym c.if-depth-eq0.true)

pub path_of_child-requires : goal.path_of_child-requires
path_of_child-requires g t c =
    child_at (g.D.Database.rows c.args.database.now) c.args.path.now c.in_ok-children.children c.as_slice-child-items.result.now c.loop-child.child-index c.child-item.result
    c.in_ok-children.ensures.stand c.as_slice-child-items.ensures c.loop-child-test.true c.child-item.is

pub add_section-requires : goal.add_section-requires
add_section-requires g t c =
    leads (g.D.Database.rows c.args.database.now) c.args.path.now c.in_ok-own.own c.child-item.result
    (child_at (g.D.Database.rows c.args.database.now) c.args.path.now c.in_ok-children.children c.as_slice-child-items.result.now c.loop-child.child-index c.child-item.result
    c.in_ok-children.ensures.stand c.as_slice-child-items.ensures c.loop-child-test.true c.child-item.is)
    c.if-child.true c.in_ok-own.ensures

pub add_dirs-requires : goal.add_dirs-requires
add_dirs-requires g t c = λ κs lasts. (
  omega (arith, c.if-depth-eq0.false),
  (
    lasts,
    leads (g.D.Database.rows c.args.database.now) c.args.path.now c.in_ok-own.own c.child-item.result
        (child_at (g.D.Database.rows c.args.database.now) c.args.path.now c.in_ok-children.children c.as_slice-child-items.result.now c.loop-child.child-index c.child-item.result
        c.in_ok-children.ensures.stand c.as_slice-child-items.ensures c.loop-child-test.true c.child-item.is)
        c.if-child.true c.in_ok-own.ensures,
  ),
)

pub loop-child-preserved : goal.loop-child-preserved
loop-child-preserved g t c =
    let s : Rows = g.D.Database.rows c.args.database.now in
    parts_more (dir_part (c.args.depth - 1) s c.args.path.now) c.as_slice-child-items.result.now c.loop-child.child-index c.child-item.result c.args.text.now c.loop-child.text c.if-child.text
    c.loop-child-test.true c.child-item.is c.loop-child.invariant
    (elim c.if-child.branch [
      | then-child+in_ok-own+in_ok-add_section+in_ok-add_dirs w ↦
          w.text-is ∙ as_dir (c.args.depth - 1) s c.args.path.now w.in_ok-own.own c.child-item.result c.loop-child.text w.add_section.new.text w.add_dirs.new.text w.if-child.true w.in_ok-own.ensures
          w.in_ok-add_section.ensures w.in_ok-add_dirs.ensures
      | else-child w ↦ w.text-is ∙ as_key (c.args.depth - 1) s c.args.path.now c.child-item.result c.loop-child.text w.if-child.false
    ])
