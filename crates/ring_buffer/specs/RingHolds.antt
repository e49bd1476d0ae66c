-- The kept events of a buffer as they stand in a ring of bytes.
use Rattle.std.specs.Prelude.{◌≡◌, ℕ, ◌+◌, ◌-◌, List, [], ◌∷◌, ◌++◌, length, ⊤}
use Rattle.std.specs.Int.{to_le_bytes, w32}
use Rattle.event.specs.declared.head.Header.{Header}
use Rattle.event.specs.Headers.{header_encoding, fields_of}
use Rattle.ring_buffer.specs.Rings.{bytes_at}
use Rattle.buffer_core.specs.Window.{Sent, Window, slot_of_sent, level_of}

-- how many bytes stand in front of an event's data
abbrev pub front_bytes : ℕ
front_bytes = 24

-- these: the start number, the length of the data, and the header
unfoldable pub front_of : (start : ℕ) → Header → List ℕ
front_of start h = to_le_bytes w32 start ++ (to_le_bytes w32 h.data_size ++ header_encoding h)

-- from this offset on stands the event: what is in front of its data, and the data. Up to the end of its slot stand any
-- bytes
pub record HoldsEvent (ring : List ℕ) (off : ℕ) (s : Sent) : Type 0 where
  pub front : bytes_at ring off front_bytes ≡ front_of s.start (fields_of s.event)
  pub body : bytes_at ring (off + front_bytes) (length s.event.body) ≡ s.event.body

-- from this offset on stand the events, each in its slot, one behind the other
abbrev pub HoldsEvents : (ring : List ℕ) (off : ℕ) → List Sent → Type 0
HoldsEvents ring off [] = ⊤
HoldsEvents ring off (s ∷ ss) = HoldsEvent ring off s × HoldsEvents ring (off + slot_of_sent s) ss

-- the ring has the window's size, and its kept events, so that they end at the offset of all slots that were ever taken
pub record RingHolds (w : Window) (ring : List ℕ) : Type 0 where
  pub size : length ring ≡ w.size
  pub events : HoldsEvents ring (w.total - level_of w) w.kept
