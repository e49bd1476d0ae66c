-- The walk over all kept events, for an event that is sent.
use Rattle.std.specs.Prelude.{◌≡◌, ℕ, ◌-◌}
use Rattle.std.proofs.Common.{subst, arith}
use Rattle.buffer_core.specs.Window.{level_of}
use Rattle.ring_buffer.specs.declared.ring_buffer.RingBuffer.TheInside.{Inside}
use Rattle.ring_buffer.specs.RingHolds.{HoldsEvents}
use Rattle.ring_buffer.specs.RingViews.{window_of, IsRingBuffer}
use Rattle.ring_buffer.specs.Walks.{IsWalk}
use Rattle.ring_buffer.proofs.Walking.{at}

pub whole_walk : (b : Inside) → IsRingBuffer b → IsWalk b.ring.bytes (at b.off b.first) (at b.total b.count)
whole_walk b is =
    let start : b.total - level_of (window_of b) ≡ b.off = omega (arith, is.level) in
    record {
      order = is.order;
      holds = subst (λ (o : ℕ). HoldsEvents b.ring.bytes o (window_of b).kept) start is.holds.events;
      fit = is.fit;
      level = is.level;
    }
