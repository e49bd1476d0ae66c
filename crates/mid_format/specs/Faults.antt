-- The faults of bytes that are no run file, in their order.
use Rattle.std.specs.Prelude.{ℕ, ◌+◌, ◌^◌, ◌==◌, nat_lt, ◌||◌, if◌then◌else◌, not, List, length, take, drop, Option, Some, None, is_some, ⊤}
use Rattle.std.specs.Int.{from_le_bytes, w16, w32}
use Rattle.event.specs.Events.{begin_id, end_id, event_limit, record_limit}
use Rattle.event.specs.RunFile.{record_mask}
use Rattle.event.specs.declared.head.Header.{Header}
use Rattle.mid_format.specs.declared.faults.MidFault.{MidFault}
use Rattle.mid_format.specs.declared.faults.MidFault.TheVariants.{Truncated, NoBegin, NoEnd, AfterEnd, TooBig, ReadFault, BadRecord, TooLong}

-- the header in front of some bytes
abbrev pub header_at : List ℕ → Header
header_at bytes = record {
  event_id = from_le_bytes w16 (take 2 bytes);
  trigger_mask = from_le_bytes w16 (take 2 (drop 2 bytes));
  serial_number = from_le_bytes w32 (take 4 (drop 4 bytes));
  time_stamp = from_le_bytes w32 (take 4 (drop 8 bytes));
  data_size = from_le_bytes w32 (take 4 (drop 12 bytes));
}

-- a header at this place with more data than may be there, or with data that would end behind byte 2^62
abbrev pub size_fault : (at limit : ℕ) → Header → Option MidFault
size_fault at limit h = if nat_lt limit h.data_size then Some (TooBig at h.data_size) else (if nat_lt (2 ^ 62) (at + 16 + h.data_size) then Some (TooLong at) else None)

-- A header at this place that may not stand there: at the begin of a file any but a begin record's; in the file of a
-- run a begin record's, and an end record's with another mask or another run number.
abbrev pub header_fault : (run : Option ℕ) (at : ℕ) → Header → Option MidFault
header_fault None at h =
    if (not (h.event_id == begin_id)) || (not (h.trigger_mask == record_mask)) then Some (NoBegin at)
    else size_fault at record_limit h
header_fault (Some run) at h =
    if h.event_id == begin_id then Some (BadRecord at)
    else (if not (h.event_id == end_id) then size_fault at event_limit h
    else (if (not (h.trigger_mask == record_mask)) || (not (h.serial_number == run)) then Some (BadRecord at)
    else size_fault at record_limit h))

-- the bytes end in place of a header
abbrev pub nothing_left : (run : Option ℕ) (at : ℕ) → MidFault
nothing_left None at = NoBegin at
nothing_left (Some run) at = NoEnd at

-- the first of two faults that might be there
abbrev pub or_else : Option MidFault → Option MidFault → Option MidFault
or_else None second = second
or_else (Some first) second = Some first

-- The first fault of the header at this place and of its data, where these are all the bytes from there on.
abbrev pub fault_at : (run : Option ℕ) (at : ℕ) → List ℕ → Option MidFault
fault_at run at rest =
    if length rest == 0 then Some (nothing_left run at)
    else (if nat_lt (length rest) 16 then Some (Truncated (at + length rest))
    else or_else (header_fault run at (header_at rest))
    (if nat_lt (length rest) (16 + (header_at rest).data_size) then Some (Truncated (at + length rest)) else None))

-- the number of the run of a file that begins at this place, where its begin record stands there whole and nothing is wrong
-- with it
abbrev pub run_at : (start : ℕ) → List ℕ → Option ℕ
run_at start bytes = if is_some (fault_at None start bytes) then None else Some (header_at bytes).serial_number

-- A fact of the source, at its fault.
abbrev pub OfSource : MidFault → Type 0 → Type 0
OfSource (Truncated at) fact = ⊤
OfSource (NoBegin at) fact = ⊤
OfSource (NoEnd at) fact = ⊤
OfSource (AfterEnd at) fact = ⊤
OfSource (TooBig at size) fact = ⊤
OfSource ReadFault fact = fact
OfSource (BadRecord at) fact = ⊤
OfSource (TooLong at) fact = ⊤

-- A fact of the bytes, at each fault but that of the source.
abbrev pub OfBytes : MidFault → Type 0 → Type 0
OfBytes (Truncated at) fact = fact
OfBytes (NoBegin at) fact = fact
OfBytes (NoEnd at) fact = fact
OfBytes (AfterEnd at) fact = fact
OfBytes (TooBig at size) fact = fact
OfBytes ReadFault fact = ⊤
OfBytes (BadRecord at) fact = fact
OfBytes (TooLong at) fact = fact
