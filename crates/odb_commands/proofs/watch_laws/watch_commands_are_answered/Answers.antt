use Rattle.odb_commands.proofs.CommandsMade.{answered}
use Rattle.odb_commands.proofs.watch_laws.watch_commands_are_answered.Goals as goal

pub returns : goal.returns
returns c = answered
