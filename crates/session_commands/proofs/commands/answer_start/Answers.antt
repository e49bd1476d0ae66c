use Rattle.session_commands.proofs.ReplyLaws.{start_plain}
use Rattle.session_commands.proofs.commands.answer_start.Goals as goal

pub plain_reply-requires : goal.plain_reply-requires
plain_reply-requires g c = start_plain g.M.Rounds.round _ _ _ _ _ c.in_ok-answer.ensures.did
