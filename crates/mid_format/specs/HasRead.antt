-- What a reader of a run file has given so far, and what that says of the bytes of its source. Places count from `start` on:
-- how many bytes the files of the run have that were read before it.
use Rattle.std.specs.Prelude.{◌≡◌, ℕ, ◌+◌, ◌^◌, ◌<◌, ◌≤◌, ◌⊎◌, List, [], ◌∷◌, ◌++◌, length, All, Option, Some, None, IfSome}
use Rattle.std.specs.Io.KnownBytes.{Consumes, IsAtEnd}
use Rattle.daq_types.specs.declared.events.Event.{Event}
use Rattle.event.specs.Events.{encoding, record_limit}
use Rattle.event.specs.RunFile.{begin_record, end_record, begun_file, IsFileEvent}
use Rattle.event.specs.Headers.{fields_of}
use Rattle.event.specs.declared.head.Header.{Header}
use Rattle.mid_format.specs.Faults.{fault_at, OfBytes}
use Rattle.mid_format.specs.Parts.{IsInRange, LacksRecord}
use Rattle.mid_format.specs.declared.faults.MidFault.{MidFault}
use Rattle.mid_format.specs.declared.faults.MidFault.TheVariants.{AfterEnd, ReadFault}
use Rattle.mid_format.specs.declared.progress.Progress.{Progress}

-- Each field of an event's header fits in its bytes.
abbrev pub IsStorable : Event → Type 0
IsStorable e = IsInRange (fields_of e)

-- The begin record of a run file and some of its events.
pub record IsBegunFile (bytes : List ℕ) (run time : ℕ) (dump : List ℕ) (events : List Event) : Type 0 where
  pub bytes_are : bytes ≡ begun_file run time dump events
  pub small : length dump ≤ record_limit
  pub storable : IsStorable (begin_record run time dump)
  pub fine : All IsFileEvent events
  pub all_storable : All IsStorable events

-- A whole run file, but for its length.
pub record IsEndedFile (bytes : List ℕ) (run time0 : ℕ) (dump0 : List ℕ) (events : List Event) (time1 : ℕ) (dump1 : List ℕ) : Type 0 where
  pub front : List ℕ
  pub begun : IsBegunFile front run time0 dump0 events
  pub bytes_are : bytes ≡ front ++ encoding (end_record run time1 dump1)
  pub small : length dump1 ≤ record_limit
  pub storable : IsStorable (end_record run time1 dump1)

-- The bytes are wrong behind the begin record and some events.
pub record IsFaultBehind (start : ℕ) (text : List ℕ) (fault : MidFault) : Type 0 where
  pub front : List ℕ
  pub rest : List ℕ
  pub text_is : text ≡ front ++ rest
  pub run : ℕ
  pub time : ℕ
  pub dump : List ℕ
  pub events : List Event
  pub begun : IsBegunFile front run time dump events
  pub counted : start + length front ≤ 2 ^ 62
  pub fault_is : fault_at (Some run) (start + length front) rest ≡ Some fault

-- A byte follows the end record.
pub record IsFaultAfter (start : ℕ) (text : List ℕ) (fault : MidFault) : Type 0 where
  pub front : List ℕ
  pub rest : List ℕ
  pub text_is : text ≡ front ++ rest
  pub run : ℕ
  pub time0 : ℕ
  pub dump0 : List ℕ
  pub events : List Event
  pub time1 : ℕ
  pub dump1 : List ℕ
  pub ended : IsEndedFile front run time0 dump0 events time1 dump1
  pub counted : start + length front ≤ 2 ^ 62
  pub more : 0 < length rest
  pub fault_is : fault ≡ AfterEnd (start + length front)

-- The first fault of bytes that are no run file: of the first header, of a later one behind the begin record and some
-- events, or of what follows the end record.
abbrev pub IsMidFault : (start : ℕ) (text : List ℕ) → MidFault → Type 0
IsMidFault start text fault = (fault_at None start text ≡ Some fault) ⊎ (IsFaultBehind start text fault ⊎ IsFaultAfter start text fault)

-- The bytes of a begin record with this header and of these events.
pub record BeginsWith (done : List ℕ) (begin : Header) (events : List Event) : Type 0 where
  pub dump : List ℕ
  pub header : begin ≡ fields_of (begin_record begin.serial_number begin.time_stamp dump)
  pub begun : IsBegunFile done begin.serial_number begin.time_stamp dump events

-- The bytes of records with these headers and of these events between them.
pub record EndsWith (done : List ℕ) (begin end : Header) (events : List Event) : Type 0 where
  pub dump0 : List ℕ
  pub dump1 : List ℕ
  pub header : begin ≡ fields_of (begin_record begin.serial_number begin.time_stamp dump0)
  pub last : end ≡ fields_of (end_record begin.serial_number end.time_stamp dump1)
  pub ended : IsEndedFile done begin.serial_number begin.time_stamp dump0 events end.time_stamp dump1

-- the bytes of what was read, by the headers of the two records that were read, and the events
abbrev pub IsReadSoFar : List ℕ → Option Header → Option Header → List Event → Type 0
IsReadSoFar done None None events = (done ≡ []) × (events ≡ [])
IsReadSoFar done None (Some end) events = ⊥
IsReadSoFar done (Some begin) None events = BeginsWith done begin events
IsReadSoFar done (Some begin) (Some end) events = EndsWith done begin end events

-- This fault is the first of the bytes at this place, by the headers of the two records that were read in front of it:
-- behind the end record any byte is one, and else it is that of the next header and its data.
abbrev pub IsFaultAt : (last begin : Option Header) (at : ℕ) → List ℕ → MidFault → Type 0
IsFaultAt (Some end) begin at rest fault = (0 < length rest) × (fault ≡ AfterEnd at)
IsFaultAt None None at rest fault = fault_at None at rest ≡ Some fault
IsFaultAt None (Some begin) at rest fault = fault_at (Some begin.serial_number) at rest ≡ Some fault

-- A fault stands right behind what was read of the bytes.
pub record StandsBehind (start : ℕ) (text done : List ℕ) (last begin : Option Header) (fault : MidFault) : Type 0 where
  pub rest : List ℕ
  pub text_is : text ≡ done ++ rest
  pub stands : IsFaultAt last begin (start + length done) rest fault

-- No record lies whole behind what was read, and behind the end record no byte.
abbrev pub LacksNext : (last : Option Header) → List ℕ → Type 0
LacksNext None rest = LacksRecord rest
LacksNext (Some end) rest = rest ≡ []

-- The source failed behind what was read, and behind bytes in which no record lies whole.
pub record FailsAfter (first now : Option (List ℕ)) (done : List ℕ) (last : Option Header) : Type 0 where
  pub part : List ℕ
  pub lacks : LacksNext last part
  pub consumed : Consumes first now (done ++ part)

-- Where the source first told its bytes: these events were read of it, and it has `now` left.
pub record HasRead (start : ℕ) (first now : Option (List ℕ)) (progress : Progress) (events : List Event) : Type 0 where
  pub done : List ℕ
  -- what was read is the front of the bytes
  pub begins : IfSome first (λ text. (rest : List ℕ) × (text ≡ done ++ rest))
  -- and has been taken from the source, where it went no further
  pub consumed : progress.fault ≡ None → Consumes first now done
  pub place : progress.at ≡ start + length done
  pub within : progress.at ≤ 2 ^ 62
  -- it is the records and the events
  pub is_done : IsReadSoFar done progress.begin progress.last events
  -- behind the end record nothing is left, or there is a fault
  pub at_end : progress.fault ≡ None → (end : Header) → progress.last ≡ Some end → IsAtEnd now
  -- a fault is the first one of the bytes, or the source's
  pub fault_is : (fault : MidFault) → progress.fault ≡ Some fault → OfBytes fault (IfSome first (λ text. IsMidFault start text fault))
  -- and stands right behind what was read
  pub here : (fault : MidFault) → progress.fault ≡ Some fault → OfBytes fault (IfSome first (λ text. StandsBehind start text done progress.last progress.begin fault))
  -- where the source failed, all that it gave was read, but for a part of a record
  pub unread : progress.fault ≡ Some ReadFault → FailsAfter first now done progress.last

-- nothing was read of a file that begins at this place
abbrev pub begins_at : (start : ℕ) → Progress
begins_at start = record { begin = None; last = None; at = start; fault = None }

-- nothing was read of a run's first file, or of its only one
abbrev pub nothing_read : Progress
nothing_read = begins_at 0

-- the events after an answer: one more, or the same
abbrev pub and_given : List Event → Option (Unit {0}) → Event → List Event
and_given events None event = events
and_given events (Some given) event = events ++ event ∷ []
