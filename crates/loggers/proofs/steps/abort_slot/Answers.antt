use Rattle.loggers.specs.ChannelSteps.{AbortsChannel}
use Rattle.loggers.proofs.StepEntries.{lent_at, stepped, slot_steps}
use Rattle.loggers.proofs.steps.abort_slot.Goals as goal

pub abort-requires-clause-file : goal.abort-requires-clause-file
abort-requires-clause-file g c = c.requires.file c.in-Some.channel c.in-Some.is

pub abort-requires-clause-few : goal.abort-requires-clause-few
abort-requires-clause-few g c = c.requires.few c.in-Some.channel c.in-Some.is

pub returns-clause-aborts : goal.returns-clause-aborts
returns-clause-aborts g c = λ slots number at.
    slot_steps AbortsChannel number c.args.slot.now c.in-Some.channel _ _ c.in-Some.is
    (stepped AbortsChannel g.P.BufferPort.access number c.in-Some.channel c.abort.new.self slots c.args.ports.now c.in-Some-get_mut.port.now c.abort.new.port
    (g.F.Files.told c.args.files.now)
    (g.F.Files.told c.abort.new.files)
    (lent_at c.args.ports.now c.in-Some.channel.spec.buffer c.in-Some-get_mut.port.now (c.requires.served c.in-Some.channel c.in-Some.is) c.in-Some-get_mut.ensures.entry.1)
    (record {
      channel = c.abort.ensures.channel;
      cancels = c.abort.ensures.cancels;
      last = c.requires.file c.in-Some.channel c.in-Some.is;
      removes = c.abort.ensures.removes;
      failed = c.abort.ensures.failed;
      clashes = c.abort.ensures.clashes;
      first = c.abort.ensures.first;
    }))
