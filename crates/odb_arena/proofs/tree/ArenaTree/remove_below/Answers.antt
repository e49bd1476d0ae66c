use Rattle.std.proofs.Common.{arith}
use Rattle.odb_arena.proofs.Leaves.{leaf_is, removal_begins, removal_goes_on, removal_of_root, removal_of_all, removal_of_top}
use Rattle.odb_arena.proofs.tree.ArenaTree.remove_below.Goals as goal

pub loop-gone-init : goal.loop-gone-init
loop-gone-init c = removal_begins c.args.self.now c.args.number c.requires

pub returns-then-leaf-eq0 : goal.returns-then-leaf-eq0
returns-then-leaf-eq0 c = λ p there.
    removal_of_root c.args.self.now c.loop-gone.self c.args.number c.loop-gone._gone c.leaf_below-leaf.result p c.loop-gone.invariant
    (c.leaf_below-leaf.ensures c.loop-gone.invariant.path c.loop-gone.invariant.there) (omega (arith, c.if-leaf-eq0.true)) there

pub remove_leaf-requires : goal.remove_leaf-requires
remove_leaf-requires c =
    leaf_is c.loop-gone.self c.loop-gone.invariant.path c.leaf_below-leaf.result (c.leaf_below-leaf.ensures c.loop-gone.invariant.path c.loop-gone.invariant.there)
    (λ e. absurd (omega (arith, c.if-leaf-eq0.false, e)))

pub returns-then-leaf-number : goal.returns-then-leaf-number
returns-then-leaf-number c = λ p there.
    removal_of_top c.args.self.now c.loop-gone.self c.remove_leaf.new.self c.args.number c.loop-gone._gone c.leaf_below-leaf.result p c.loop-gone.invariant
    (c.leaf_below-leaf.ensures c.loop-gone.invariant.path c.loop-gone.invariant.there) (λ e. absurd (omega (arith, c.if-leaf-eq0.false, e))) (omega (arith, c.if-leaf-number.true)) c.remove_leaf.ensures there

pub loop-gone-preserved : goal.loop-gone-preserved
loop-gone-preserved c =
    removal_goes_on c.args.self.now c.loop-gone.self c.remove_leaf.new.self c.args.number c.loop-gone._gone c.leaf_below-leaf.result c.loop-gone.invariant
    (c.leaf_below-leaf.ensures c.loop-gone.invariant.path c.loop-gone.invariant.there) (λ e. absurd (omega (arith, c.if-leaf-eq0.false, e)))
    (λ e. absurd (omega (arith, c.if-leaf-number.false, e))) c.remove_leaf.ensures

pub returns : goal.returns
returns c = λ p there.
    removal_of_all c.args.self.now c.loop-gone.self c.args.number c.loop-gone._gone p c.loop-gone.invariant (omega (arith, c.loop-gone-test.false, c.len-gone-end.ensures)) there
