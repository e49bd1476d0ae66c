use Rattle.std.proofs.Common.{◌<◌, ◌≤◌, ◌^◌, length, ap, ◌∙◌, arith, rules}
use Rattle.std.specs.Option.{option_map}
use Rattle.event.specs.Events.{slot_size, slot_of_length}
use Rattle.event.specs.Headers.{event_of}
use Rattle.buffer_core.specs.Calls.{after_send}
use Rattle.buffer_core.proofs.WindowLaws.{slot_cover}
use Rattle.ring_buffer.specs.declared.pointer.Pointer.{Pointer}
use Rattle.ring_buffer.specs.CountedWindows.{CountedWindow}
use Rattle.ring_buffer.proofs.PointerLaws.{client_at}
use Rattle.ring_buffer.proofs.Fields.{length-front_of}
use Rattle.ring_buffer.proofs.Sending.{window_seen, accepted_is, admitted, written_is, window_after_is, ring_after_is}
use Rattle.ring_buffer.proofs.ring_buffer.RingBuffer.admit.Goals as goal

pub put_at-requires-2 : goal.put_at-requires-2
put_at-requires-2 c = omega (arith, slot_cover (length c.args.body.now), c.requires.fits, ap (λ (v : CountedWindow). v.window.size) c.self.view_is, c.put_at.ensures.size)

-- no client is behind the first kept event
pub raise_behind-requires : goal.raise_behind-requires
raise_behind-requires c = λ n p lives. (c.self.invariant.window.clients n p.client (client_at c.self.inside.clients n ∙ ap (option_map (λ (q : Pointer). q.client)) lives)).from

pub overflow_add-self : goal.overflow_add-self
overflow_add-self c =
    let small : c.self.inside.count < 2 ^ 62 = omega (arith, accepted_is c.self.inside c.self.invariant, c.self.invariant.window.paid, c.self.invariant.window.spent) in
    search rules

pub invariant_of-self : goal.invariant_of-self
invariant_of-self c =
    let adm = admitted c.self.inside c.args.self.now.window c.args.way.off c.args.way.place c.args.start c.args.header.now c.args.body.now (window_seen c.self.inside c.args.self.now c.self.view_is) c.self.invariant c.requires.place c.requires.level c.requires.stated c.requires.small c.requires.fits
    c.front_bytes_of-front.ensures.fit c.ranges.start.fits c.requires.window in
    let size = ap (λ (v : CountedWindow). v.window.size) c.self.view_is in
    let fits : slot_size (event_of c.args.header.now c.args.body.now) ≤ length c.self.inside.ring.bytes = omega (arith, c.requires.fits, size) in
    let written = written_is c.self.inside.ring.bytes c.put_at.new.self.bytes c.put_at-2.new.self.bytes c.self.inside.total (slot_size (event_of c.args.header.now c.args.body.now)) c.front_bytes_of-front.result c.args.body.now
    (ap length c.front_bytes_of-front.ensures.bytes ∙ length-front_of c.args.start c.args.header.now)
    c.put_at.ensures.others c.put_at.ensures.written c.put_at.ensures.size c.put_at-2.ensures.others c.put_at-2.ensures.written c.put_at-2.ensures.size (slot_cover (length c.args.body.now)) fits in
    ring_after_is c.self.inside c.put_at.new.self.bytes c.put_at-2.new.self c.args.way.off c.args.way.place c.from.result c.args.start c.args.header.now c.args.body.now c.front_bytes_of-front.result c.raise_behind.new.clients
    c.self.invariant adm written c.front_bytes_of-front.ensures.bytes (c.from.ensures ∙ (c.slot_len.ensures ∙ ap slot_of_length c.requires.stated)) c.raise_behind.ensures

pub returns-clause-after : goal.returns-clause-after
returns-clause-after c =
    let adm = admitted c.self.inside c.args.self.now.window c.args.way.off c.args.way.place c.args.start c.args.header.now c.args.body.now (window_seen c.self.inside c.args.self.now c.self.view_is) c.self.invariant c.requires.place c.requires.level c.requires.stated c.requires.small c.requires.fits
    c.front_bytes_of-front.ensures.fit c.ranges.start.fits c.requires.window in
    let size = ap (λ (v : CountedWindow). v.window.size) c.self.view_is in
    let fits : slot_size (event_of c.args.header.now c.args.body.now) ≤ length c.self.inside.ring.bytes = omega (arith, c.requires.fits, size) in
    let written = written_is c.self.inside.ring.bytes c.put_at.new.self.bytes c.put_at-2.new.self.bytes c.self.inside.total (slot_size (event_of c.args.header.now c.args.body.now)) c.front_bytes_of-front.result c.args.body.now
    (ap length c.front_bytes_of-front.ensures.bytes ∙ length-front_of c.args.start c.args.header.now)
    c.put_at.ensures.others c.put_at.ensures.written c.put_at.ensures.size c.put_at-2.ensures.others c.put_at-2.ensures.written c.put_at-2.ensures.size (slot_cover (length c.args.body.now)) fits in
    window_after_is c.self.inside c.put_at.new.self.bytes c.put_at-2.new.self c.args.way.off c.args.way.place c.from.result c.args.start c.args.header.now c.args.body.now c.front_bytes_of-front.result c.raise_behind.new.clients
    c.self.invariant adm written c.front_bytes_of-front.ensures.bytes (c.from.ensures ∙ (c.slot_len.ensures ∙ ap slot_of_length c.requires.stated)) c.raise_behind.ensures
    ∙ ap (λ (v : CountedWindow). after_send v.window c.args.start (event_of c.args.header.now c.args.body.now)) c.self.view_is

pub returns-clause-reads : goal.returns-clause-reads
returns-clause-reads c = c.put_at-2.ensures.reads ∙ (c.put_at.ensures.reads ∙ ap (λ (v : CountedWindow). v.reads) c.self.view_is)

pub returns-clause-bytes_read : goal.returns-clause-bytes_read
returns-clause-bytes_read c = c.put_at-2.ensures.bytes_read ∙ (c.put_at.ensures.bytes_read ∙ ap (λ (v : CountedWindow). v.bytes_read) c.self.view_is)
