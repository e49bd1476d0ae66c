-- The events that stand in a ring, read off its bytes.
use Rattle.std.specs.Prelude.{ℕ, zero, suc, ◌+◌, ◌^◌, ◌<◌, ◌≤◌, List, [], ◌∷◌, length, take, drop, ⊤}
use Rattle.std.specs.Int.{from_le_bytes, w16, w32}
use Rattle.event.specs.Events.{event_limit}
use Rattle.event.specs.declared.head.Header.{Header}
use Rattle.ring_buffer.specs.Rings.{bytes_at}
use Rattle.buffer_core.specs.Window.{Sent, slot_of_sent}
use Rattle.ring_buffer.specs.RingHolds.{front_bytes}

-- the event with these bytes in front of its data
unfoldable pub event_in : (front body : List ℕ) → Sent
event_in front body = record {
  event = record {
    id = from_le_bytes w16 (take 2 (drop 8 front));
    mask = from_le_bytes w16 (take 2 (drop 10 front));
    serial = from_le_bytes w32 (take 4 (drop 12 front));
    time = from_le_bytes w32 (take 4 (drop 16 front));
    body = body;
  };
  start = from_le_bytes w32 (take 4 front);
}

-- the length of the data behind these bytes
unfoldable pub length_in : (front : List ℕ) → ℕ
length_in front = from_le_bytes w32 (take 4 (drop 4 front))

-- the event from this offset on
unfoldable pub ring_event_at : (ring : List ℕ) (off : ℕ) → Sent
ring_event_at ring off = event_in (bytes_at ring off front_bytes) (bytes_at ring (off + front_bytes) (length_in (bytes_at ring off front_bytes)))

-- so many events from this offset on
unfoldable pub ring_events_at : (ring : List ℕ) (off count : ℕ) → List Sent
ring_events_at ring off zero = []
ring_events_at ring off (suc count) = ring_event_at ring off ∷ ring_events_at ring (off + slot_of_sent (ring_event_at ring off)) count

-- the fields of an event fit where they stand
pub record FitsSlot (s : Sent) : Type 0 where
  pub id : s.event.id < 2 ^ 16
  pub mask : s.event.mask < 2 ^ 16
  pub serial : s.event.serial < 2 ^ 32
  pub time : s.event.time < 2 ^ 32
  pub start : s.start < 2 ^ 32
  pub small : length s.event.body ≤ event_limit

abbrev pub AllFit : List Sent → Type 0
AllFit [] = ⊤
AllFit (s ∷ ss) = FitsSlot s × AllFit ss

-- the fields of a header fit their bytes
pub record IsHeader (h : Header) : Type 0 where
  pub id : h.event_id < 2 ^ 16
  pub mask : h.trigger_mask < 2 ^ 16
  pub serial : h.serial_number < 2 ^ 32
  pub time : h.time_stamp < 2 ^ 32
  pub size : h.data_size < 2 ^ 32
