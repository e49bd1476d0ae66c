use Rattle.loggers.specs.ChannelSteps.{PullsChannel}
use Rattle.loggers.proofs.StepEntries.{lent_at, lent_port, stepped, slot_pulls}
use Rattle.loggers.proofs.steps.pull_slot.Goals as goal

pub pull-requires-clause-room : goal.pull-requires-clause-room
pull-requires-clause-room g c =
    c.requires.room c.in-Some.channel (g.P.BufferPort.access c.in-Some-get_mut.port.now) c.in-Some.is
    (lent_port g.P.BufferPort.access c.args.ports.now c.in-Some.channel.spec.buffer c.in-Some-get_mut.port.now
    (lent_at c.args.ports.now c.in-Some.channel.spec.buffer c.in-Some-get_mut.port.now (c.requires.served c.in-Some.channel c.in-Some.is) c.in-Some-get_mut.ensures.entry.1))

pub returns : goal.returns
returns g c = record {
  pulls = λ slots number at.
      slot_pulls c.args.dump.now c.pull.result number c.args.slot.now c.in-Some.channel _ _ c.in-Some.is
      (stepped (PullsChannel c.args.dump.now c.pull.result) g.P.BufferPort.access number c.in-Some.channel c.pull.new.self slots c.args.ports.now c.in-Some-get_mut.port.now c.pull.new.port
      (g.F.Files.told c.args.files.now)
      (g.F.Files.told c.pull.new.files)
      (lent_at c.args.ports.now c.in-Some.channel.spec.buffer c.in-Some-get_mut.port.now (c.requires.served c.in-Some.channel c.in-Some.is) c.in-Some-get_mut.ensures.entry.1)
      (record {
        spec = c.pull.ensures.spec;
        client = c.pull.ensures.client;
        room = c.pull.ensures.room;
        failed = c.pull.ensures.failed;
        pulls = c.pull.ensures.pulls;
        faults = c.pull.ensures.faults;
        clashes = c.pull.ensures.clashes;
        first = c.pull.ensures.first;
      }));
}
