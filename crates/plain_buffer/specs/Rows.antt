-- Kept events as rows, with the data of all of them one after the other.
use Rattle.std.specs.Prelude.{◌≡◌, ℕ, ◌≤◌, List, [], ◌∷◌, take, drop, map, Option, Some}
use Rattle.std.specs.List.{All}
use Rattle.event.specs.Events.{slot_of_length, event_limit}
use Rattle.event.specs.Headers.{event_of}
use Rattle.plain_buffer.specs.declared.rows.Row.{Row}
use Rattle.buffer_core.specs.Window.{Sent}

abbrev pub size_of_row : Row → ℕ
size_of_row r = r.header.data_size

abbrev pub slot_of_row : Row → ℕ
slot_of_row r = slot_of_length r.header.data_size

-- no row states more data than an event may have
abbrev pub IsSmall : Row → Type 0
IsSmall r = r.header.data_size ≤ event_limit

abbrev pub AreSmall : List Row → Type 0
AreSmall rows = All IsSmall rows

-- a row with this data
abbrev pub sent_of : Row → List ℕ → Sent
sent_of r body = record { event = event_of r.header body; start = r.start }

-- the events of the rows, whose data are these bytes
abbrev pub kept_of : List Row → List ℕ → List Sent
kept_of [] bytes = []
kept_of (r ∷ rs) bytes = sent_of r (take r.header.data_size bytes) ∷ kept_of rs (drop r.header.data_size bytes)

-- the events of the rows without their data
abbrev pub bare : List Row → List Sent
bare rows = map (λ (r : Row). sent_of r []) rows

-- what was found stands at this place, with this row and this data
abbrev pub IsFound : Option (ℕ × Sent) → ℕ → Row → List ℕ → Type 0
IsFound found place row body = found ≡ Some (place, sent_of row body)
