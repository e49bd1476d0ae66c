use Rattle.session_commands.proofs.ReplyLaws.{pause_plain}
use Rattle.session_commands.proofs.commands.answer_pause.Goals as goal

pub plain_reply-requires : goal.plain_reply-requires
plain_reply-requires g c = pause_plain g.M.Rounds.round _ _ _ c.pause-answer.ensures
