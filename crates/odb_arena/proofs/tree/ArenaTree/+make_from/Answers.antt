use Rattle.std.proofs.Common.{◌<◌, ◌-◌, ℕ, [], ◌∷◌, length, take, drop, None, sym, subst, ap, ◌∙◌, arith}
use Rattle.odb_tree.specs.Rows.{Rows}
use Rattle.odb_tree.specs.Trees.{with_rows}
use Rattle.odb_tree.specs.Databases.{IsDatabase}
use Rattle.odb_arena.specs.Growth.{dir_path, chain, row_in_dir, CanGrow}
use Rattle.odb_arena.proofs.Chains.{add_first, all_made, split_names, rest_some, rest_long}
use Rattle.odb_arena.proofs.tree.ArenaTree.+make_from.Goals as goal

pub add-requires-2 : goal.add-requires-2
add-requires-2 t c =
    (add_first c.args.self.now c.args.at c.args.names.now c.index-names-0-2.result (take (length c.args.names.now - 1) (drop 1 c.args.names.now)) c.args.value
    (subst IsDatabase c.self.view_is c.self.invariant.database) c.requires (split_names c.args.names.now c.index-names-0-2.result c.requires.some c.index-names-0-2.is)
    (rest_some c.args.names.now c.requires.some c.if-names-eq1.false)).can

pub make_from-requires : goal.make_from-requires
make_from-requires t c =
    let first = add_first c.args.self.now c.args.at c.args.names.now c.index-names-0-2.result (take (length c.args.names.now - 1) (drop 1 c.args.names.now)) c.args.value
    (subst IsDatabase c.self.view_is c.self.invariant.database) c.requires (split_names c.args.names.now c.index-names-0-2.result c.requires.some c.index-names-0-2.is)
    (rest_some c.args.names.now c.requires.some c.if-names-eq1.false) in (
      omega (arith, c.decreases, rest_long c.args.names.now, c.requires.some),
      subst (λ (s : Rows). CanGrow s c.in_ok-made.made (take (length c.args.names.now - 1) (drop 1 c.args.names.now)) c.args.value) (sym c.in_ok-made.ensures.ok)
          (subst (λ (n : ℕ). CanGrow (with_rows c.args.self.now (row_in_dir c.args.self.now c.args.at c.index-names-0-2.result None ∷ [])) n (take (length c.args.names.now - 1) (drop 1 c.args.names.now)) c.args.value)
          (sym c.in_ok-made.ensures.number) first.rest),
    )

pub returns-in-Ok-clause-ok : goal.returns-in-Ok-clause-ok
returns-in-Ok-clause-ok t c =
    let some : 0 < length (take (length c.args.names.now - 1) (drop 1 c.args.names.now)) = rest_some c.args.names.now c.requires.some c.if-names-eq1.false in
    let split = split_names c.args.names.now c.index-names-0-2.result c.requires.some c.index-names-0-2.is in
    all_made c.args.self.now c.args.at c.args.names.now c.index-names-0-2.result (take (length c.args.names.now - 1) (drop 1 c.args.names.now)) c.args.value c.add-2.new.self c.make_from.new.self
    (add_first c.args.self.now c.args.at c.args.names.now c.index-names-0-2.result (take (length c.args.names.now - 1) (drop 1 c.args.names.now)) c.args.value
    (subst IsDatabase c.self.view_is c.self.invariant.database) c.requires split some)
    split some c.in_ok-made.ensures.ok
    (c.in-Ok.ensures.ok
    ∙ ap (λ (n : ℕ). with_rows c.add-2.new.self (chain c.add-2.new.self.next (dir_path c.add-2.new.self n) (take (length c.args.names.now - 1) (drop 1 c.args.names.now)) c.args.value)) c.in_ok-made.ensures.number)
