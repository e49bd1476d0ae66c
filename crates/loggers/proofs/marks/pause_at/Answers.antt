use Rattle.loggers.proofs.StepEntries.{lent_at, called_at}
use Rattle.loggers.proofs.marks.pause_at.Goals as goal

pub returns-clause-pauses : goal.returns-clause-pauses
returns-clause-pauses g c = λ slots files. (
  c.pause.result,
  called_at g.P.BufferPort.access _ c.args.buffer slots c.args.ports.now c.in-Some.port.now c.pause.new.self files
      (lent_at c.args.ports.now c.args.buffer c.in-Some.port.now c.requires.within c.in-Some.ensures.entry.1) c.pause.ensures,
)
