use Rattle.std.proofs.Common.{ℕ, ◌<◌, ◌≤◌, ◌-◌, ◌+◌, List, length, refl, sym, subst, arith}
use Rattle.ring_buffer.specs.Pointers.{clients_of}
use Rattle.ring_buffer.specs.Stored.{ring_event_at}
use Rattle.ring_buffer.proofs.Walking.{next_is, holds_read, owed_now, moved_on, small_front, walk_next, walk_blocked, walk_ends, walk_out}
use Rattle.ring_buffer.proofs.search.find_way.Goals as goal

pub read_front-front-requires : goal.read_front-front-requires
read_front-front-requires c = subst (λ (ring : List ℕ). 24 ≤ length ring) (sym c.loop-place.invariant.read.same) c.requires.least

pub slot_len-requires : goal.slot_len-requires
slot_len-requires c =
    let early : c.loop-place.place < c.args.end.place = omega arith in
    let next = next_is c.args.ring.now.bytes c.args.from c.loop-place.off c.loop-place.place c.args.end c.loop-place.invariant.on_way early in
    small_front c.read_front-front.result.header (ring_event_at c.args.ring.now.bytes c.loop-place.off) (c.read_front-front.ensures.header (ring_event_at c.args.ring.now.bytes c.loop-place.off) (holds_read c.args.ring.now.bytes c.loop-place.ring.bytes c.loop-place.off (ring_event_at c.args.ring.now.bytes c.loop-place.off) c.loop-place.invariant.read.same next.holds) next.fits) next.fits

pub loop-place-preserved : goal.loop-place-preserved
loop-place-preserved c =
    let early : c.loop-place.place < c.args.end.place = omega arith in
    let next = next_is c.args.ring.now.bytes c.args.from c.loop-place.off c.loop-place.place c.args.end c.loop-place.invariant.on_way early in
    let s = ring_event_at c.args.ring.now.bytes c.loop-place.off in
    let header = c.read_front-front.ensures.header (ring_event_at c.args.ring.now.bytes c.loop-place.off) (holds_read c.args.ring.now.bytes c.loop-place.ring.bytes c.loop-place.off (ring_event_at c.args.ring.now.bytes c.loop-place.off) c.loop-place.invariant.read.same next.holds) next.fits in
    let full : length c.args.ring.now.bytes < c.args.end.off - c.loop-place.off + c.args.slot = omega (arith, c.size.ensures.size, c.from-size.ensures, c.if-end-off.false) in
    walk_next c.args.ring.now.bytes (clients_of c.args.clients.now) c.args.from c.loop-place.off c.loop-place.place c.args.end c.args.slot c.args.ring.now c.loop-place.ring _ _
    c.loop-place.invariant early full
    (owed_now c.loop-place.place c.read_front-front.result.header s (clients_of c.args.clients.now) _ header c.in-None.ensures)
    c.read_front-front.ensures.read
    (moved_on c.loop-place.off _ c.slot_len.result c.from-off.result c.read_front-front.result.header s header c.slot_len.ensures c.from-off.ensures refl)

pub returns-in-Some-clause-owed : goal.returns-in-Some-clause-owed
returns-in-Some-clause-owed c =
    let early : c.loop-place.place < c.args.end.place = omega arith in
    let next = next_is c.args.ring.now.bytes c.args.from c.loop-place.off c.loop-place.place c.args.end c.loop-place.invariant.on_way early in
    let s = ring_event_at c.args.ring.now.bytes c.loop-place.off in
    let header = c.read_front-front.ensures.header (ring_event_at c.args.ring.now.bytes c.loop-place.off) (holds_read c.args.ring.now.bytes c.loop-place.ring.bytes c.loop-place.off (ring_event_at c.args.ring.now.bytes c.loop-place.off) c.loop-place.invariant.read.same next.holds) next.fits in
    let full : length c.args.ring.now.bytes < c.args.end.off - c.loop-place.off + c.args.slot = omega (arith, c.size.ensures.size, c.from-size.ensures, c.if-end-off.false) in
    walk_blocked c.args.ring.now.bytes (clients_of c.args.clients.now) c.args.from c.loop-place.off c.loop-place.place c.args.end c.args.slot c.args.ring.now c.loop-place.ring c.in-Some.client
    c.loop-place.invariant early full
    (owed_now c.loop-place.place c.read_front-front.result.header s (clients_of c.args.clients.now) _ header c.in-Some.ensures)

pub returns-then-end-off-clause-way : goal.returns-then-end-off-clause-way
returns-then-end-off-clause-way c = walk_ends c.args.ring.now.bytes (clients_of c.args.clients.now) c.args.from c.loop-place.off c.loop-place.place c.args.end c.args.slot c.args.ring.now c.loop-place.ring c.loop-place.invariant (omega (arith, c.size.ensures.size, c.from-size.ensures, c.if-end-off.true))

pub returns-clause-way : goal.returns-clause-way
returns-clause-way c = walk_out c.args.ring.now.bytes (clients_of c.args.clients.now) c.args.from c.loop-place.off c.loop-place.place c.args.end c.args.slot c.args.ring.now c.loop-place.ring c.loop-place.invariant (omega arith) c.requires.slot
