use Rattle.odb_commands.proofs.Made.{some_performs}
use Rattle.odb_commands.proofs.laws.commands_are_answered.Goals as goal

pub returns : goal.returns
returns c = some_performs
