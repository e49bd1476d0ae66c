use Rattle.mid_logger.proofs.MarkSteps.{ended_with, ended_written, ended_files}
use Rattle.mid_logger.proofs.channel.Channel.note_ended.Goals as goal

pub returns-clause-keeps : goal.returns-clause-keeps
returns-clause-keeps c = λ opened reply head own got seen is marked once stands.
    rw (c.ended_stage-self.ensures, marked) (ended_with _ _ c.args.self.now.spec c.args.self.now.client c.args.self.now.stage opened reply own got is once stands)

pub returns-clause-file : goal.returns-clause-file
returns-clause-file c = rw c.ended_stage-self.ensures (ended_written c.args.self.now.stage c.args.ended)

pub returns-clause-few : goal.returns-clause-few
returns-clause-few c = rw c.ended_stage-self.ensures (ended_files c.args.self.now.stage c.args.ended)
