use Rattle.std.proofs.Common.{◌≡◌, true, false, sym, ◌∙◌}
use Rattle.console.proofs.closing.play_out.Goals as goal

pub returns-clause-finished : goal.returns-clause-finished
returns-clause-finished g c = λ first source_first told_first has.
    rw c.close_lines-closing.ensures.refusals
    (c.close_lines-closing.ensures.finishes first source_first _ told_first (c.in-Ended.ensures.did first source_first told_first has))

pub returns-clause-stays : goal.returns-clause-stays
returns-clause-stays g c = g.met.A.Answerer.stays_on _ _ _ c.play_on.ensures.stays c.close_lines-closing.ensures.stays

pub unreachable-requires : goal.unreachable-requires
unreachable-requires g c =
    let left = c.in-Opens.ensures.ends.left in
    cc (sym left.1 ∙ c.requires.ready.own left.0)
