use Rattle.odb_commands.proofs.WatchMade.{watch_ended}
use Rattle.odb_commands.proofs.watches.unwatch.Goals as goal

pub returns : goal.returns
returns g c = watch_ended _ _ _ _ _ c.unwatch.ensures.called c.ended_or.ensures
