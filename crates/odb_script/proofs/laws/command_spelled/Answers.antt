use Rattle.odb_script.proofs.SpelledLaws.{command_spelled}
use Rattle.odb_script.proofs.laws.command_spelled.Goals as goal

pub returns : goal.returns
returns c = command_spelled
