use Rattle.odb_commands.proofs.CommandCallLaws.{performs_spares}
use Rattle.odb_commands.proofs.laws.calls_spare_runinfo.Goals as goal

pub returns : goal.returns
returns c = performs_spares
