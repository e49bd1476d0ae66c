use Rattle.odb_commands.proofs.Made.{ends_cut, not_begun, cut_set_in}
use Rattle.odb_commands.proofs.commands.set_in.Goals as goal

pub returns-in_err-item-in-Ok : goal.returns-in_err-item-in-Ok
returns-in_err-item-in-Ok g c = rw c.in-Ok.is (ends_cut _ _ _ _ c.from_residual.ensures.0 (not_begun _ _ (cut_set_in c.args.path c.args.index c.args.text.now c.in-Ok.value c.in_err-item-in-Ok.ensures.memory)))
