use Rattle.std.proofs.Common.{subst, ap}
use Rattle.std.specs.Option.{option_copied}
use Rattle.odb_tree.specs.Trees.{IsTree}
use Rattle.odb_arena.proofs.Leading.{stops_here, blocked_here, goes_on, no_some}
use Rattle.odb_arena.proofs.tree.ArenaTree.reach.Goals as goal

pub returns-in_default : goal.returns-in_default
returns-in_default c =
    stops_here c.args.self.now c.args.names.now c.loop-depth.depth c.loop-depth.at c.index-names-depth.result (option_copied c.child.result) c.loop-depth.invariant c.loop-depth-test.true c.index-names-depth.is
    (c.child.ensures c.loop-depth.invariant.path c.loop-depth.invariant.there) (ap option_copied (no_some c.child.result c.in_default.not-Some))

pub returns-then-not-child : goal.returns-then-not-child
returns-then-not-child c =
    blocked_here c.args.self.now c.args.names.now c.loop-depth.depth c.loop-depth.at c.index-names-depth.result (option_copied c.child.result) c.in-Some.child.now c.loop-depth.invariant c.loop-depth-test.true c.index-names-depth.is
    (c.child.ensures c.loop-depth.invariant.path c.loop-depth.invariant.there) (ap option_copied c.in-Some.is) c.if-not-child.true

pub loop-depth-preserved : goal.loop-depth-preserved
loop-depth-preserved c =
    goes_on c.args.self.now c.args.names.now c.loop-depth.depth c.loop-depth.at c.index-names-depth.result (option_copied c.child.result) c.in-Some.child.now (subst IsTree c.self.view_is c.self.invariant.database.tree)
    c.loop-depth.invariant c.loop-depth-test.true c.index-names-depth.is
    (c.child.ensures c.loop-depth.invariant.path c.loop-depth.invariant.there) (ap option_copied c.in-Some.is) c.if-not-child.false
