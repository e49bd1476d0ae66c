use Rattle.std.proofs.Common.{◌+◌}
use Rattle.session_commands.proofs.OpeningLaws.{closes_nothing, cut_breaks, line_breaks_so, line_so, still_closed}
use Rattle.session_commands.proofs.laws.start_opens.Goals as goal

pub returns-clause-ready : goal.returns-clause-ready
returns-clause-ready g c = λ at behind now ready final ending closing opens finishes first source written opening.
    let has = opening.has in
    finishes first source written (record {
      source_old = has.source_old;
      reading_old = has.reading_old;
      stood = has.stood;
      between = has.between;
      line = has.line;
      next = has.next;
      answers_so = λ reply new does. has.answers_so reply new (line_so (at.number + 1) _ opening.left now ready opens reply new does);
      breaks_so = λ new broke. has.breaks_so new (line_breaks_so (at.number + 1) _ opening.left now ready opens new broke);
    })

pub returns-clause-cut : goal.returns-clause-cut
returns-clause-cut g c = λ at now new cut first source written opening.
    c.lines_end.ensures.quiet first new new _ source at.source written at.written at.refusals
    (c.lines_end.ensures.broken first now new source at.source written at.written at.reading at.last at.refusals at.number opening.has (cut_breaks (at.number + 1) _ opening.left now new cut))
    (closes_nothing new (still_closed now new cut))

pub returns-clause-unopened : goal.returns-clause-unopened
returns-clause-unopened g c = λ first now ending source left told_first told refusals played closed.
    c.lines_end.ensures.quiet first now now ending source left told_first told refusals played (closes_nothing now closed)
