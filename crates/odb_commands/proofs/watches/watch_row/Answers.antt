use Rattle.odb_commands.proofs.WatchMade.{ends_cut, row_watched, row_cut}
use Rattle.odb_commands.proofs.watches.watch_row.Goals as goal

pub returns : goal.returns
returns g c = row_watched _ _ _ _ _ _ c.watch.ensures.called c.in_ok-reply.ensures.same c.in_ok-reply.ensures.wanted c.watching_or.ensures

pub returns-in_err-reply : goal.returns-in_err-reply
returns-in_err-reply g c = ends_cut _ _ _ _ c.from_residual.ensures.0 (row_cut _ _ _ _ c.watch.ensures.called c.in_err-reply.ensures.memory)
