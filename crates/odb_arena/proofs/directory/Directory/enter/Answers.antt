use Rattle.std.proofs.Common.{◌≡◌, ◌++◌, ◌∷◌, [], List, ℕ, Bool, true, false, cond, nat_eq, None, sym, ap, ◌∙◌}
use Rattle.std.specs.Cmp.Lexicographic.{pointwise}
use Rattle.std.specs.Map.{lookup}
use Rattle.indexmap.specs.IndexMap.{insert_entry}
use Rattle.odb_tree.specs.declared.children.Child.{Child}
use Rattle.odb_arena.specs.Names.{folded, names_in, entry_of, with_child}
use Rattle.odb_arena.proofs.Padding.{insert_new}
use Rattle.odb_arena.proofs.directory.Directory.enter.Goals as goal

entered : (key : List ℕ) (child : Child) (old new : List (List ℕ × Child)) → key ≡ folded child.name → lookup (pointwise nat_eq (folded child.name)) old ≡ None
    → new ≡ insert_entry (pointwise nat_eq) old key child → new ≡ old ++ entry_of child ∷ []
entered key child old new is free put =
    put ∙ (ap (λ (k : List ℕ). insert_entry (pointwise nat_eq) old k child) is ∙ insert_new (folded child.name) child old free)

stays : {X : Type 0} (t : Bool) (x y z : X) → t ≡ true → x ≡ y → x ≡ cond t y z
stays t x y z h e = e ∙ sym (ap (λ (b : Bool). cond b y z) h)

goes : {X : Type 0} (t : Bool) (x y z : X) → t ≡ false → x ≡ z → x ≡ cond t y z
goes t x y z h e = e ∙ sym (ap (λ (b : Bool). cond b y z) h)

pub returns-in_ok-insert-clause-ok : goal.returns-in_ok-insert-clause-ok
returns-in_ok-insert-clause-ok c = λ keys.
    elim keys as (λ (k : Bool). names_in k (record { keys = c.args.self.now.keys; dirs = c.insert.new.self }) ≡ with_child k c.args.child (names_in k c.args.self.now)) [
      | true ↦ stays c.args.child.is_dir _ _ _ c.if-child.true (λ _. c.args.self.now.keys.entries)
      | false ↦ stays c.args.child.is_dir _ _ _ c.if-child.true (entered c.of-key.result c.args.child _ _ c.of-key.ensures (c.requires false) c.in_ok-insert.ensures.entries)
    ]

pub returns-in_ok-insert-2-clause-ok : goal.returns-in_ok-insert-2-clause-ok
returns-in_ok-insert-2-clause-ok c = λ keys.
    elim keys as (λ (k : Bool). names_in k (record { keys = c.insert-else-child.new.self; dirs = c.args.self.now.dirs }) ≡ with_child k c.args.child (names_in k c.args.self.now)) [
      | true ↦ goes c.args.child.is_dir _ _ _ c.if-child.false (entered c.of-key.result c.args.child _ _ c.of-key.ensures (c.requires true) c.in_ok-insert-2.ensures.entries)
      | false ↦ goes c.args.child.is_dir _ _ _ c.if-child.false (λ _. c.args.self.now.dirs.entries)
    ]
