use Rattle.odb_commands.proofs.Made.{port_stays}
use Rattle.odb_commands.proofs.commands.run_command.Goals as goal

pub returns-clause-same : goal.returns-clause-same
returns-clause-same g c = port_stays c.calls_add_up.ensures.same _ _ _ _ c.answer.ensures
