-- The parts of a run file as they are read from a source.
use Rattle.std.specs.Prelude.{◌≡◌, ℕ, ◌+◌, ◌^◌, ◌<◌, ◌≤◌, List, [], length, Option, None, IfSome, Result, OnOk, IfErr}
use Rattle.std.specs.Io.KnownBytes.{Consumes, IsAtEnd}
use Rattle.daq_io.specs.Counts.{Rose}
use Rattle.event.specs.Headers.{header_encoding, event_of}
use Rattle.event.specs.Held.{HeldEvent}
use Rattle.event.specs.declared.head.Header.{Header}
use Rattle.mid_format.specs.Faults.{header_at, header_fault, OfBytes}
use Rattle.mid_format.specs.declared.faults.MidFault.{MidFault}
use Rattle.mid_format.specs.declared.faults.MidFault.TheVariants.{Truncated, NoBegin, NoEnd, AfterEnd, TooBig, ReadFault, BadRecord, TooLong}

-- Each field of a header fits in its bytes.
pub record IsInRange (h : Header) : Type 0 where
  pub event_id : h.event_id < 2 ^ 16
  pub trigger_mask : h.trigger_mask < 2 ^ 16
  pub serial_number : h.serial_number < 2 ^ 32
  pub time_stamp : h.time_stamp < 2 ^ 32
  pub data_size : h.data_size < 2 ^ 32

-- A header was read that may stand at this place.
pub record ReadsHead (before after : Option (List ℕ)) (run : Option ℕ) (at : ℕ) (h : Header) : Type 0 where
  pub consumed : Consumes before after (header_encoding h)
  pub fine : header_fault run at h ≡ None
  pub in_range : IsInRange h

-- So much of some data was passed: all of them, or all that the source had.
pub record PassesOver (before after : Option (List ℕ)) (size count : ℕ) : Type 0 where
  pub bytes : List ℕ
  pub length : length bytes ≡ count
  pub within : count ≤ size
  pub consumed : Consumes before after bytes
  pub ended : count < size → IsAtEnd after

-- So much data was passed.
pub record PassesAll (before after : Option (List ℕ)) (size : ℕ) : Type 0 where
  pub bytes : List ℕ
  pub length : length bytes ≡ size
  pub consumed : Consumes before after bytes

-- The data of this header were read, and the room holds the event.
pub record ReadsBody (before after : Option (List ℕ)) (h : Header) (held : HeldEvent) : Type 0 where
  pub body : List ℕ
  pub length : length body ≡ h.data_size
  pub consumed : Consumes before after body
  pub event : held.event ≡ event_of h body

-- No record lies whole at the front of these bytes: they end in its header, or in its data.
abbrev pub LacksRecord : List ℕ → Type 0
LacksRecord bytes = 16 ≤ length bytes → length bytes < 16 + (header_at bytes).data_size

-- The source failed inside a record, of which it gave these bytes, and none lie at hand.
pub record FailsInside (before after : Option (List ℕ)) (at_hand : List ℕ) : Type 0 where
  pub part : List ℕ
  pub lacks : LacksRecord part
  pub consumed : Consumes before after part
  pub none_at_hand : at_hand ≡ []

-- Of so much data at this place, where these bytes are left, some are missing.
abbrev pub LacksBytes : Option (List ℕ) → (place size : ℕ) → MidFault → Type 0
LacksBytes before place size fault = OfBytes fault (IfSome before (λ rest. (length rest < size) × (fault ≡ Truncated (place + length rest))))

-- Nothing was left.
pub record IsEnd (before after : Option (List ℕ)) : Type 0 where
  pub consumed : Consumes before after []
  pub ended : IsAtEnd after

-- Bytes are left at this place, behind the end record.
abbrev pub IsBehindEnd : Option (List ℕ) → (at : ℕ) → MidFault → Type 0
IsBehindEnd before at fault = OfBytes fault (IfSome before (λ rest. (0 < length rest) × (fault ≡ AfterEnd at)))

-- the source's count of faults at this fault
abbrev pub CountedBy : MidFault → ℕ → ℕ → Type 0
CountedBy (Truncated at) old new = new ≡ old
CountedBy (NoBegin at) old new = new ≡ old
CountedBy (NoEnd at) old new = new ≡ old
CountedBy (AfterEnd at) old new = new ≡ old
CountedBy (TooBig at size) old new = new ≡ old
CountedBy ReadFault old new = Rose old new
CountedBy (BadRecord at) old new = new ≡ old
CountedBy (TooLong at) old new = new ≡ old

-- The source's count of faults rose at `ReadFault`, and is as it was at any other answer.
pub record CountsReads {T : Type 0} (old new : ℕ) (result : Result T MidFault) : Type 0 where
  pub done : OnOk result (new ≡ old)
  pub fault : IfErr result (λ fault. CountedBy fault old new)
