use Rattle.analyzers.proofs.CountBytes.{room_for, within_later}
use Rattle.analyzers.proofs.analyzer.receive_for.Goals as goal

pub count_reply-requires : goal.count_reply-requires
count_reply-requires g c = record {
  room = room_for c.args.run.now.client c.args.run.now.report.bytes (g.P.BufferPort.access c.args.port.now).got (g.P.BufferPort.access c.receive-reply.new.self).got c.receive-reply.result c.receive-reply.new.into.event
      c.requires.counted c.receive-reply.ensures.called.got_is (c.receive-reply.ensures.few c.args.run.now.client);
}

pub returns-clause-counted : goal.returns-clause-counted
returns-clause-counted g c =
    rw c.count_reply.ensures.client
    (within_later c.args.run.now.client c.args.run.now.report.bytes c.count_reply.new.run.report.bytes (g.P.BufferPort.access c.args.port.now).got (g.P.BufferPort.access c.receive-reply.new.self).got c.receive-reply.result c.receive-reply.new.into.event
    c.requires.counted c.receive-reply.ensures.called.got_is c.count_reply.ensures.bytes)
