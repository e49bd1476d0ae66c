use Rattle.std.proofs.Common.{sym, ap, subst}
use Rattle.odb_value.specs.Paths.{IsPath}
use Rattle.odb_tree.specs.Rows.{Rows}
use Rattle.odb_tree.specs.Databases.{IsDatabase}
use Rattle.odb_arena.proofs.Accepted.{can_create}
use Rattle.odb_arena.proofs.tree.ArenaTree.create_there.Goals as goal

pub make-requires-clause-can : goal.make-requires-clause-can
make-requires-clause-can c =
    can_create c.args.self.now c.names-names.result.now c.args.kind.now c.create_fault.result c.in_ok-value.value (sym (ap (λ (s : Rows). s.links) c.self.view_is)) (subst IsDatabase c.self.view_is c.self.invariant.database)
    (subst IsPath (sym c.names-names.ensures.names) c.names-names.ensures.is_path) c.create_fault.ensures c.in_default.is c.in_ok-value.ensures
