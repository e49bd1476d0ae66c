use Rattle.odb_commands.proofs.WatchMade.{ends_cut, find_cut, path_watched}
use Rattle.odb_commands.proofs.watches.watch_at.Goals as goal

pub returns : goal.returns
returns g c = path_watched _ _ _ _ _ _ _ c.find.ensures.called c.in_ok-found.ensures.same c.in_ok-found.ensures.wanted c.watch_found.ensures

pub returns-in_err-found : goal.returns-in_err-found
returns-in_err-found g c = ends_cut _ _ _ _ c.from_residual.ensures.0 (find_cut _ _ c.args.path _ c.find.ensures.called c.in_err-found.ensures.memory)
