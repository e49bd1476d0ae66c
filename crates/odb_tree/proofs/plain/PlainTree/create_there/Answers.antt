use Rattle.std.proofs.Common.{Option, sym, ap, subst}
use Rattle.odb_value.specs.Paths.{IsPath}
use Rattle.odb_value.specs.Values.{HeldValue}
use Rattle.odb_tree.specs.Rows.{Rows}
use Rattle.odb_tree.specs.Making.{created}
use Rattle.odb_tree.specs.Databases.{IsDatabase}
use Rattle.odb_tree.proofs.Sound.{database_created, unlinked_key}
use Rattle.odb_tree.proofs.plain.PlainTree.create_there.Goals as goal

pub make-requires-clause-database : goal.make-requires-clause-database
make-requires-clause-database c =
    subst (λ (v : Option HeldValue). IsDatabase (created c.args.self.now c.names-names.result.now v)) (sym c.in_ok-value.ensures)
    (database_created c.args.self.now c.names-names.result.now c.args.kind.now c.create_fault.result
    (subst IsDatabase c.self.view_is c.self.invariant) (subst IsPath (sym c.names-names.ensures.names) c.names-names.ensures.is_path)
    (unlinked_key c.args.self.now c.names-names.result.now c.args.kind.now c.create_fault.result (sym (ap (λ (s : Rows). s.links) c.self.view_is)) c.create_fault.ensures c.in_default.is)
    c.create_fault.ensures c.in_default.is)
