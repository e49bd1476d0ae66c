-- Bytes that come from a source in any pieces.
use Rattle.std.specs.Prelude.{◌≡◌, ℕ, ◌≤◌, ◌<◌, List, [], length, take, Option}
use Rattle.std.specs.Io.KnownBytes.{Consumes, IsAtEnd}
use Rattle.event.specs.Headers.{event_of}
use Rattle.event.specs.Held.{HeldEvent}
use Rattle.event.specs.declared.head.Header.{Header}

-- So many of these bytes, from the front, were taken from a source: all of them, or all that the source had.
pub record Gathers (before after : Option (List ℕ)) (bytes : List ℕ) (count : ℕ) : Type 0 where
  pub within : count ≤ length bytes
  pub consumed : Consumes before after (take count bytes)
  pub ended : count < length bytes → IsAtEnd after

-- Room that holds an event with this header, of whose data so many bytes were taken from a source.
pub record GathersBody (before after : Option (List ℕ)) (header : Header) (held : HeldEvent) (count : ℕ) : Type 0 where
  pub body : List ℕ
  pub event : held.event ≡ event_of header body
  pub stated : length body ≡ header.data_size
  pub gathers : Gathers before after body count

-- The source failed behind these bytes, which are fewer than were sought, and none lie at hand.
pub record FailsBehind (before after : Option (List ℕ)) (at_hand : List ℕ) (sought : ℕ) : Type 0 where
  pub bytes : List ℕ
  pub fewer : length bytes < sought
  pub consumed : Consumes before after bytes
  pub none_at_hand : at_hand ≡ []
