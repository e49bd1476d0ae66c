use Rattle.std.proofs.Common.{ℕ, ◌<◌, ◌≤◌, List, length, refl, sym, subst, ◌∙◌, arith}
use Rattle.ring_buffer.specs.Pointers.{clients_of}
use Rattle.ring_buffer.specs.Stored.{ring_event_at}
use Rattle.ring_buffer.proofs.Walking.{next_is, holds_read, wanted_now, moved_on, small_front, sought_next, sought_found, sought_nothing}
use Rattle.ring_buffer.proofs.search.find_wanted.Goals as goal

pub read_front-front-requires : goal.read_front-front-requires
read_front-front-requires c = subst (λ (ring : List ℕ). 24 ≤ length ring) (sym c.loop-place.invariant.read.same) c.requires.least

pub slot_len-requires : goal.slot_len-requires
slot_len-requires c =
    let early : c.loop-place.place < c.args.end.place = omega arith in
    let next = next_is c.args.ring.now.bytes c.args.from c.loop-place.off c.loop-place.place c.args.end c.loop-place.invariant.on_way early in
    small_front c.read_front-front.result.header (ring_event_at c.args.ring.now.bytes c.loop-place.off) (c.read_front-front.ensures.header (ring_event_at c.args.ring.now.bytes c.loop-place.off) (holds_read c.args.ring.now.bytes c.loop-place.ring.bytes c.loop-place.off (ring_event_at c.args.ring.now.bytes c.loop-place.off) c.loop-place.invariant.read.same next.holds) next.fits) next.fits

pub loop-place-preserved : goal.loop-place-preserved
loop-place-preserved c =
    let early : c.loop-place.place < c.args.end.place = omega arith in
    let next = next_is c.args.ring.now.bytes c.args.from c.loop-place.off c.loop-place.place c.args.end c.loop-place.invariant.on_way early in
    let s = ring_event_at c.args.ring.now.bytes c.loop-place.off in
    let header = c.read_front-front.ensures.header (ring_event_at c.args.ring.now.bytes c.loop-place.off) (holds_read c.args.ring.now.bytes c.loop-place.ring.bytes c.loop-place.off (ring_event_at c.args.ring.now.bytes c.loop-place.off) c.loop-place.invariant.read.same next.holds) next.fits in
    sought_next c.args.ring.now.bytes (clients_of c.args.clients.now) c.args.client c.args.from c.loop-place.off c.loop-place.place c.args.end c.args.ring.now c.loop-place.ring _ _
    c.loop-place.invariant early
    (λ k lives. wanted_now c.loop-place.place c.read_front-front.result.header s k c.is_wanted.result header (c.is_wanted.ensures k lives) ∙ c.if-is_wanted.false)
    c.read_front-front.ensures.read
    (moved_on c.loop-place.off _ c.slot_len.result c.from-off.result c.read_front-front.result.header s header c.slot_len.ensures c.from-off.ensures refl)

pub returns-then-is_wanted-clause-found : goal.returns-then-is_wanted-clause-found
returns-then-is_wanted-clause-found c =
    let early : c.loop-place.place < c.args.end.place = omega arith in
    let next = next_is c.args.ring.now.bytes c.args.from c.loop-place.off c.loop-place.place c.args.end c.loop-place.invariant.on_way early in
    let s = ring_event_at c.args.ring.now.bytes c.loop-place.off in
    let header = c.read_front-front.ensures.header (ring_event_at c.args.ring.now.bytes c.loop-place.off) (holds_read c.args.ring.now.bytes c.loop-place.ring.bytes c.loop-place.off (ring_event_at c.args.ring.now.bytes c.loop-place.off) c.loop-place.invariant.read.same next.holds) next.fits in
    record {
      on_way = c.loop-place.invariant.on_way;
      early = early;
      start = c.read_front-front.ensures.start (ring_event_at c.args.ring.now.bytes c.loop-place.off) (holds_read c.args.ring.now.bytes c.loop-place.ring.bytes c.loop-place.off (ring_event_at c.args.ring.now.bytes c.loop-place.off) c.loop-place.invariant.read.same next.holds) next.fits;
      header = header;
      found = λ k lives.
          sought_found c.args.ring.now.bytes (clients_of c.args.clients.now) c.args.client c.args.from c.loop-place.off c.loop-place.place c.args.end c.args.ring.now c.loop-place.ring c.loop-place.invariant early k lives
          (wanted_now c.loop-place.place c.read_front-front.result.header s k c.is_wanted.result header (c.is_wanted.ensures k lives) ∙ c.if-is_wanted.true);
    }

pub returns-clause-nothing : goal.returns-clause-nothing
returns-clause-nothing c k lives = sought_nothing c.args.ring.now.bytes (clients_of c.args.clients.now) c.args.client c.args.from c.loop-place.off c.loop-place.place c.args.end c.args.ring.now c.loop-place.ring c.loop-place.invariant (omega arith) k lives
