use Rattle.odb_commands.proofs.Made.{ends_cut, item_set, item_cut}
use Rattle.odb_commands.proofs.commands.set_item.Goals as goal

pub returns-in_err-reply-in-Ok : goal.returns-in_err-reply-in-Ok
returns-in_err-reply-in-Ok g c = rw c.in-Ok.is (ends_cut _ _ _ _ c.from_residual.ensures.0 (item_cut _ _ _ _ _ _ c.set.ensures.called c.in_err-reply-in-Ok.ensures.memory))

pub returns-in_ok-reply-in-Ok : goal.returns-in_ok-reply-in-Ok
returns-in_ok-reply-in-Ok g c = rw c.in-Ok.is (item_set _ _ _ _ _ _ _ _ c.set.ensures.called c.in_ok-reply-in-Ok.ensures.same c.in_ok-reply-in-Ok.ensures.wanted c.done_or.ensures)
