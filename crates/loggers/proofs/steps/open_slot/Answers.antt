use Rattle.loggers.proofs.StepEntries.{lent_at, slot_opens, slot_refuses}
use Rattle.loggers.proofs.steps.open_slot.Goals as goal

pub returns-clause-opens : goal.returns-clause-opens
returns-clause-opens g c =
    slot_opens g.P.BufferPort.access c.args.order.now c.args.dump.now c.open.result c.args.slot.now c.in-Some.channel c.open.new.self c.args.ports.now c.in-Some-get_mut.port.now c.open.new.port
    (g.F.Files.told c.args.files.now)
    (g.F.Files.told c.open.new.files)
    c.in-Some.is
    (lent_at c.args.ports.now c.in-Some.channel.spec.buffer c.in-Some-get_mut.port.now (c.requires.served c.in-Some.channel c.in-Some.is) c.in-Some-get_mut.ensures.entry.1)
    (record {
      spec = c.open.ensures.spec;
      event = c.open.ensures.event;
      opens = c.open.ensures.opens;
      exists = c.open.ensures.exists;
      failed = c.open.ensures.failed;
      faults = c.open.ensures.faults;
      clashes = c.open.ensures.clashes;
      first = c.open.ensures.first;
    })

pub returns-clause-refuses : goal.returns-clause-refuses
returns-clause-refuses g c =
    slot_refuses g.P.BufferPort.access c.args.order.now c.args.dump.now c.open.result c.args.slot.now c.in-Some.channel c.open.new.self c.args.ports.now c.in-Some-get_mut.port.now c.open.new.port
    (g.F.Files.told c.args.files.now)
    (g.F.Files.told c.open.new.files)
    c.in-Some.is
    (lent_at c.args.ports.now c.in-Some.channel.spec.buffer c.in-Some-get_mut.port.now (c.requires.served c.in-Some.channel c.in-Some.is) c.in-Some-get_mut.ensures.entry.1)
    (record {
      spec = c.open.ensures.spec;
      event = c.open.ensures.event;
      opens = c.open.ensures.opens;
      exists = c.open.ensures.exists;
      failed = c.open.ensures.failed;
      faults = c.open.ensures.faults;
      clashes = c.open.ensures.clashes;
      first = c.open.ensures.first;
    })
