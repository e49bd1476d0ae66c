use Rattle.loggers.proofs.StepEntries.{lent_at, called_at}
use Rattle.loggers.proofs.marks.begin_at.Goals as goal

pub returns-in-Ok-clause-begins : goal.returns-in-Ok-clause-begins
returns-in-Ok-clause-begins g c = λ files. (
  c.in-Ok.place,
  record {
    marks = called_at g.P.BufferPort.access _ c.args.buffer c.args.slots.now c.args.ports.now c.in-Some.port.now c.begin.new.self files
        (lent_at c.args.ports.now c.args.buffer c.in-Some.port.now c.requires.within c.in-Some.ensures.entry.1) c.in-Ok.ensures;
    noted = c.note_begun.ensures;
  },
)

pub returns-in-Err-clause-refuses : goal.returns-in-Err-clause-refuses
returns-in-Err-clause-refuses g c = λ files. (
  _,
  called_at g.P.BufferPort.access _ c.args.buffer c.args.slots.now c.args.ports.now c.in-Some.port.now c.begin.new.self files
      (lent_at c.args.ports.now c.args.buffer c.in-Some.port.now c.requires.within c.in-Some.ensures.entry.1) c.in-Err.ensures,
)
