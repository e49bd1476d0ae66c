use Rattle.odb_commands.proofs.Sparing.{performs_spares}
use Rattle.odb_commands.proofs.watch_laws.watch_commands_spare_runinfo.Goals as goal

pub returns : goal.returns
returns c = performs_spares
