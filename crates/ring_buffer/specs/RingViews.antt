-- How a ring buffer keeps its window, and what its ring counts.
use Rattle.std.specs.Prelude.{◌≡◌, ◌+◌, ◌-◌, ◌≤◌, length}
use Rattle.buffer_core.specs.Window.{Window, level_of, IsWindow}
use Rattle.ring_buffer.specs.Pointers.{clients_of, AreAtOffsets}
use Rattle.ring_buffer.specs.declared.ring_buffer.RingBuffer.TheInside.{Inside}
use Rattle.ring_buffer.specs.CountedWindows.{CountedWindow}
use Rattle.ring_buffer.specs.RingHolds.{RingHolds}
use Rattle.ring_buffer.specs.Stored.{ring_events_at, AllFit}

-- the window: its kept events are those that stand in the ring
abbrev pub window_of : Inside → Window
window_of b = record {
  size = length b.ring.bytes;
  first = b.first;
  kept = ring_events_at b.ring.bytes b.off (b.count - b.first);
  clients = clients_of b.clients;
  gate = b.gate;
  last = b.last;
  total = b.total;
}

-- the window, and what the ring counts
abbrev pub counted_of : Inside → CountedWindow
counted_of b = record { window = window_of b; reads = b.ring.reads; bytes_read = b.ring.bytes_read }

-- what every ring buffer keeps
pub record IsRingBuffer (b : Inside) : Type 0 where
  pub window : IsWindow (window_of b)
  pub holds : RingHolds (window_of b) b.ring.bytes
  pub fit : AllFit (window_of b).kept
  pub least : 256 ≤ length b.ring.bytes
  pub order : b.first ≤ b.count
  pub level : b.off + level_of (window_of b) ≡ b.total
  pub placed : AreAtOffsets (window_of b) b.clients
