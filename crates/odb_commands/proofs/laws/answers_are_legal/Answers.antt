use Rattle.odb_commands.proofs.AnswerLaws.{performs_answered}
use Rattle.odb_commands.proofs.laws.answers_are_legal.Goals as goal

pub returns : goal.returns
returns c = performs_answered
