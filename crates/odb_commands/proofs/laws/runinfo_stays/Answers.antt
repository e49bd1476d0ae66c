use Rattle.odb_commands.proofs.CommandCallLaws.{performs_answer, performs_spares}
use Rattle.odb_commands.specs.Answers.{answer_of}
use Rattle.odb_commands.proofs.laws.runinfo_stays.Goals as goal

pub returns : goal.returns
returns c = λ s command. performs_spares command (answer_of s command).calls (answer_of s command).reply (performs_answer s command)
