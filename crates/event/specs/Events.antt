-- Events, their bytes, their room in a buffer, and which requests want them.
use Rattle.std.specs.Prelude.{ℕ, ◌+◌, ◌*◌, ◌/◌, ◌==◌, Bool, ◌||◌, ◌&&◌, nat_lt, bit_and, IsTrue, List, [], ◌∷◌, ◌++◌, length}
use Rattle.std.specs.Int.{to_le_bytes, w16, w32}
use Rattle.daq_types.specs.declared.events.Event.{Event}

-- the 16 bytes of an event's header: each field with its low byte first, and the length of the data last
unfoldable pub header_bytes : (id mask serial time size : ℕ) → List ℕ
header_bytes id mask serial time size = to_le_bytes w16 id ++ (to_le_bytes w16 mask ++ (to_le_bytes w32 serial ++ (to_le_bytes w32 time ++ to_le_bytes w32 size)))

-- the header with the length of the data
abbrev pub header_of : Event → List ℕ
header_of e = header_bytes e.id e.mask e.serial e.time (length e.body)

-- an event as it stands in a run file: its header and its data, without padding
abbrev pub encoding : Event → List ℕ
encoding e = header_of e ++ e.body

-- events one after the other
abbrev pub all_encoded : List Event → List ℕ
all_encoded [] = []
all_encoded (e ∷ es) = encoding e ++ all_encoded es

-- the room that an event takes of a buffer: 24 bytes, and its data up to a multiple of 8
unfoldable pub slot_of_length : ℕ → ℕ
slot_of_length size = 24 + (size + 7) / 8 * 8

abbrev pub slot_size : Event → ℕ
slot_size e = slot_of_length (length e.body)

-- the id, or the mask, of a request for events of any
abbrev pub any : ℕ
any = 65535

-- whether a request for this id and mask wants the event: the id is that of any or the event's, and
-- the mask is that of any or has a bit in common with the event's
unfoldable pub matches : (id mask : ℕ) → Event → Bool
matches id mask e =
    ((id == any) || (id == e.id)) && ((mask == any) || nat_lt 0 (bit_and mask e.mask))

abbrev pub Matches : (id mask : ℕ) → Event → Type 0
Matches id mask e = IsTrue (matches id mask e)

-- the ids of the two records of a run file
abbrev pub begin_id : ℕ
begin_id = 32768

abbrev pub end_id : ℕ
end_id = 32769

-- the ids that a front-end cannot send: those of the two records, and those that mark fragments
abbrev pub is_reserved : ℕ → Bool
is_reserved id = (id == begin_id) || ((id == end_id) || (((id / 4096) == 12) || ((id / 4096) == 13)))

-- the most data that an event has, and that one of the two records has
abbrev pub event_limit : ℕ
event_limit = 4194304

abbrev pub record_limit : ℕ
record_limit = 268435456
