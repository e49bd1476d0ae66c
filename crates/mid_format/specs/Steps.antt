-- What the steps of a reader of a run file do.
use Rattle.std.specs.Prelude.{◌≡◌, ℕ, ◌+◌, ◌⊎◌, List, ◌++◌, length, Option, Some, None, IfSome}
use Rattle.std.specs.Io.KnownBytes.{Consumes, IsAtEnd}
use Rattle.daq_types.specs.declared.events.Event.{Event}
use Rattle.event.specs.Headers.{header_encoding}
use Rattle.event.specs.Pieces.{FailsBehind}
use Rattle.event.specs.declared.head.Header.{Header}
use Rattle.mid_format.specs.Faults.{header_fault, fault_at, OfBytes, OfSource}
use Rattle.mid_format.specs.Parts.{IsInRange, LacksBytes, IsBehindEnd}
use Rattle.mid_format.specs.HasRead.{HasRead, and_given}
use Rattle.mid_format.specs.declared.faults.MidFault.{MidFault}
use Rattle.mid_format.specs.declared.progress.Progress.{Progress}

-- no fault was met, and no end record was read
pub record IsGoing (progress : Progress) : Type 0 where
  pub no_fault : progress.fault ≡ None
  pub no_end : progress.last ≡ None

-- The begin record was read: its header, which may stand there, and its data.
pub record BeginsNow (before after : Option (List ℕ)) (old new : Progress) (h : Header) : Type 0 where
  pub none : old.begin ≡ None
  pub dump : List ℕ
  pub length : length dump ≡ h.data_size
  pub consumed : Consumes before after (header_encoding h ++ dump)
  pub fine : header_fault None old.at h ≡ None
  pub in_range : IsInRange h
  pub progress : new ≡ record old { begin = Some h; at = old.at + 16 + h.data_size }

-- It was read before, and nothing changed.
pub record HasBegun (before after : Option (List ℕ)) (old new : Progress) (h : Header) : Type 0 where
  pub begin : old.begin ≡ Some h
  pub same : after ≡ before
  pub progress : new ≡ old

abbrev pub BeginsReading : Option (List ℕ) → Option (List ℕ) → Progress → Progress → Header → Type 0
BeginsReading before after old new h = BeginsNow before after old new h ⊎ HasBegun before after old new h

-- The begin record was not read.
pub record BeginStops (before : Option (List ℕ)) (old new : Progress) (fault : MidFault) : Type 0 where
  pub none : old.begin ≡ None
  pub progress : new ≡ old
  pub fault_is : OfBytes fault (IfSome before (λ rest. fault_at None old.at rest ≡ Some fault))

-- The data of the end record were passed, and nothing is left.
pub record FinishesReading (before after : Option (List ℕ)) (old new : Progress) (h : Header) : Type 0 where
  pub dump : List ℕ
  pub length : length dump ≡ h.data_size
  pub consumed : Consumes before after dump
  pub ended : IsAtEnd after
  pub progress : new ≡ record old { last = Some h; at = old.at + 16 + h.data_size }

-- The data of the end record were not passed.
pub record FinishCut (before after : Option (List ℕ)) (at_hand : List ℕ) (old new : Progress) (h : Header) (fault : MidFault) : Type 0 where
  pub progress : new ≡ old
  pub fault_is : LacksBytes before (old.at + 16) h.data_size fault
  pub fails : OfSource fault (FailsBehind before after at_hand h.data_size)

-- They were passed, and more is left.
pub record FinishMore (before after : Option (List ℕ)) (at_hand : List ℕ) (old new : Progress) (h : Header) (fault : MidFault) : Type 0 where
  pub dump : List ℕ
  pub length : length dump ≡ h.data_size
  pub middle : Option (List ℕ)
  pub consumed : Consumes before middle dump
  pub progress : new ≡ record old { last = Some h; at = old.at + 16 + h.data_size }
  pub fault_is : IsBehindEnd middle (old.at + 16 + h.data_size) fault
  pub fails : OfSource fault (FailsBehind middle after at_hand 1)

abbrev pub FinishStops : (before after : Option (List ℕ)) (at_hand : List ℕ) → Progress → Progress → Header → MidFault → Type 0
FinishStops before after at_hand old new h fault = FinishCut before after at_hand old new h fault ⊎ FinishMore before after at_hand old new h fault

-- An answer, and what was read: whatever was read before, one event more or, at the end, no more.
abbrev pub StepReads : Option (List ℕ) → Option (List ℕ) → Progress → Progress → Option (Unit {0}) → Event → Type 0
StepReads before after old new given event = (start : ℕ) (first : Option (List ℕ)) (events : List Event) → HasRead start first before old events → HasRead start first after new (and_given events given event)

-- A fault, and what was read: whatever was read before, and no more.
abbrev pub Stops : Option (List ℕ) → Option (List ℕ) → Progress → Progress → MidFault → Type 0
Stops before after old new fault = (start : ℕ) (first : Option (List ℕ)) (events : List Event) → HasRead start first before old events → HasRead start first after (record new { fault = Some fault }) events
