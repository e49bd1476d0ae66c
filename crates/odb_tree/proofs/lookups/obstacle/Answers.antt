use Rattle.std.proofs.Common.{sym, ap, ◌∙◌, arith}
use Rattle.odb_tree.specs.Lookups.{obstacle_at}
use Rattle.odb_tree.proofs.Along.{obstacle_met, obstacle_passed}
use Rattle.odb_tree.proofs.lookups.obstacle.Goals as goal

pub returns-then-is_some : goal.returns-then-is_some
returns-then-is_some c =
    obstacle_met c.args.missing c.args.rows.now c.args.names.now c.loop-i.i c.obstacle_at-found.result (omega arith) c.loop-i.invariant
    (c.obstacle_at-found.ensures ∙ ap (obstacle_at c.args.missing) c.row_at.ensures) (sym c.is_some.ensures ∙ c.if-is_some.true)

pub loop-i-preserved : goal.loop-i-preserved
loop-i-preserved c =
    obstacle_passed c.args.missing c.args.rows.now c.args.names.now c.loop-i.i c.obstacle_at-found.result (omega arith) c.loop-i.invariant
    (c.obstacle_at-found.ensures ∙ ap (obstacle_at c.args.missing) c.row_at.ensures) (sym c.is_some.ensures ∙ c.if-is_some.false)
