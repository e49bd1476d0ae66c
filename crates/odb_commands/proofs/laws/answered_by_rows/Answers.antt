use Rattle.odb_commands.proofs.CommandCallLaws.{performs_answer}
use Rattle.odb_commands.proofs.laws.answered_by_rows.Goals as goal

pub returns : goal.returns
returns c = performs_answer
