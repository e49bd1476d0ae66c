use Rattle.odb_arena.proofs.Shown.{listed}
use Rattle.odb_arena.proofs.tree.ArenaTree.list_there.Goals as goal

pub returns-clause-reply : goal.returns-clause-reply
returns-clause-reply c =
    listed c.self.inside c.args.self.now c.names-names.result.now c.args.path.now c.reach-at.result c.in_ok-children.children c.self.invariant c.self.view_is c.names-names.ensures.names c.reach-at.ensures
    c.in_ok-check_dir.ensures.dir c.in_ok-children.ensures
