use Rattle.odb_commands.proofs.Made.{ends_cut, not_begun, cut_set, sets_behind, set_cut}
use Rattle.odb_commands.proofs.commands.set_at.Goals as goal

pub returns-in_err-copy : goal.returns-in_err-copy
returns-in_err-copy g c = ends_cut _ _ _ _ c.from_residual.ensures.0 (not_begun _ _ (cut_set c.args.index c.args.text.now c.args.path))

pub returns-in_err-got : goal.returns-in_err-got
returns-in_err-got g c = ends_cut _ _ _ _ c.from_residual-in_err-got.ensures.0 (set_cut _ _ _ _ _ _ _ c.get.ensures c.in_ok-copy.ensures c.in_err-got.ensures.memory)

pub returns : goal.returns
returns g c = sets_behind _ _ _ _ _ _ _ _ _ _ c.get.ensures c.in_ok-copy.ensures c.in_ok-got.ensures.same c.in_ok-got.ensures.wanted c.set_in.ensures
