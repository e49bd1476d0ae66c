use Rattle.std.proofs.Common.{arith}
use Rattle.odb_arena.proofs.Leaves.{way_begins, way_further, way_stops, way_deepest}
use Rattle.odb_arena.proofs.tree.ArenaTree.leaf_below.Goals as goal

pub loop-depth-init : goal.loop-depth-init
loop-depth-init c = λ p there. way_begins c.args.self.now p c.args.number there

pub returns-in_default : goal.returns-in_default
returns-in_default c = λ p there.
    let way = c.loop-depth.invariant p there in
    way_stops c.self.inside c.args.self.now p c.loop-depth._depth c.loop-depth.at c.self.invariant c.self.view_is way (c.in_default.ensures way.path way.there)

pub loop-depth-preserved : goal.loop-depth-preserved
loop-depth-preserved c = λ p there.
    let way = c.loop-depth.invariant p there in
    way_further c.args.self.now p c.loop-depth._depth c.loop-depth.at c.in-Some.child way (c.in-Some.ensures way.path way.there)

pub returns : goal.returns
returns c = λ p there.
    way_deepest c.self.inside c.args.self.now p c.loop-depth._depth c.loop-depth.at c.self.invariant c.self.view_is (omega (arith, c.loop-depth-test.false)) (c.loop-depth.invariant p there)
