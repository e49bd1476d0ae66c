use Rattle.session_commands.proofs.ReplyLaws.{resume_plain}
use Rattle.session_commands.proofs.commands.answer_resume.Goals as goal

pub plain_reply-requires : goal.plain_reply-requires
plain_reply-requires g c = resume_plain g.M.Rounds.round _ _ _ c.resume-answer.ensures
