use Rattle.std.proofs.Common.{◌≡◌, ◌∙◌}
use Rattle.console.proofs.PlayingLaws.{between_new}
use Rattle.console.proofs.PlayingEnds.{ended_played, line_behind}
use Rattle.console.proofs.playing.play_script.Goals as goal

pub returns-in-Some-clause-did : goal.returns-in-Some-clause-did
returns-in-Some-clause-did g c =
    ended_played _ _ _ c.in-Some.ending _ _ _ _ _ _ _ _ _ _ _ _
    (between_new g.A.Answerer.does _ _ _ _ _ _ c.requires.unread.reader (c.next_line.ensures.refusals ∙ c.requires.unread.refusals)
    (c.next_line.ensures.number ∙ c.requires.unread.number))
    c.in-Some.ensures.read

pub returns-in-None-clause-did : goal.returns-in-None-clause-did
returns-in-None-clause-did g c =
    c.play_on.ensures.did _ _ _ (line_behind g.A.Answerer.does g.A.Answerer.breaks g.A.Answerer.withdraws _ _ _ _ _ _ _ _ _ _ _ _
    (between_new g.A.Answerer.does _ _ _ _ _ _ c.requires.unread.reader (c.next_line.ensures.refusals ∙ c.requires.unread.refusals)
    (c.next_line.ensures.number ∙ c.requires.unread.number))
    c.in-None.ensures.read)

pub returns-in-Some-clause-stays : goal.returns-in-Some-clause-stays
returns-in-Some-clause-stays g c = g.met.A.Answerer.stays_so c.args.answerer.now
