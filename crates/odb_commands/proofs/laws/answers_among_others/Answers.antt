use Rattle.odb_commands.proofs.AnswerLaws.{performs_among}
use Rattle.odb_commands.proofs.laws.answers_among_others.Goals as goal

pub returns : goal.returns
returns c = performs_among
