use Rattle.std.proofs.Common.{ℕ, List, sym, subst}
use Rattle.std.specs.Option.{option_copied}
use Rattle.odb_tree.specs.Trees.{IsTree}
use Rattle.odb_arena.specs.Reaching.{IsReached}
use Rattle.odb_arena.proofs.Leading.{not_reached, reached_row}
use Rattle.odb_arena.proofs.tree.ArenaTree.row_at.Goals as goal

pub returns-then-reached-front : goal.returns-then-reached-front
returns-then-reached-front c =
    sym (not_reached c.args.self.now c.args.names.now c.parent-front.result.now c.args.reached (subst IsTree c.self.view_is c.self.invariant.database.tree) c.requires.some c.parent-front.ensures
    (subst (λ (f : List (List ℕ)). IsReached c.args.self.now.rows f c.args.reached) (sym c.parent-front.ensures) c.requires.reached) c.if-reached-front.true)

pub returns : goal.returns
returns c =
    reached_row c.args.self.now c.args.names.now c.parent-front.result.now c.args.reached c.index-names-names.result (option_copied c.row_under.result) c.requires.some c.parent-front.ensures
    c.index-names-names.is (subst (λ (f : List (List ℕ)). IsReached c.args.self.now.rows f c.args.reached) (sym c.parent-front.ensures) c.requires.reached) c.if-reached-front.false c.row_under.ensures
