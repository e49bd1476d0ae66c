-- A reader of a run file, and what its next call does.
use Rattle.std.specs.Prelude.{◌≡◌, ℕ, List, Option, Some, None, Result, Ok, Err}
use Rattle.daq_types.specs.declared.events.Event.{Event}
use Rattle.event.specs.declared.head.Header.{Header}
use Rattle.mid_format.specs.Parts.{CountsReads}
use Rattle.mid_format.specs.HasRead.{HasRead, and_given}
use Rattle.mid_format.specs.declared.faults.MidFault.{MidFault}
use Rattle.mid_format.specs.declared.progress.Progress.{Progress}

-- the source, and how far its run file was read
pub record OpenedReader (S : Type 0) : Type 0 where
  pub source : S
  pub progress : Progress

-- the events after an answer: one more, or the same
abbrev pub events_after : List Event → Result (Option (Unit {0})) MidFault → Event → List Event
events_after events (Ok given) event = and_given events given event
events_after events (Err fault) event = events

-- The bytes are read on: whatever was read before, one event more, or no more at the end and at a fault.
abbrev pub ReadsOn : Option (List ℕ) → Option (List ℕ) → Progress → Progress → Result (Option (Unit {0})) MidFault → Event → Type 0
ReadsOn before after old new result event = (start : ℕ) (first : Option (List ℕ)) (events : List Event) → HasRead start first before old events → HasRead start first after new (events_after events result event)

-- the fault of an answer
abbrev pub fault_of : {T : Type 0} → Result T MidFault → Option MidFault
fault_of (Ok given) = None
fault_of (Err fault) = Some fault

-- the source's count of faults: it rose exactly where the source failed in this call, and none is made after a fault
abbrev pub CountsNext : {T : Type 0} → Option MidFault → ℕ → ℕ → Result T MidFault → Type 0
CountsNext None old new result = CountsReads old new result
CountsNext (Some fault) old new result = new ≡ old

-- the run number of a begin record
abbrev pub run_number_of : Option Header → Option ℕ
run_number_of None = None
run_number_of (Some begin) = Some begin.serial_number
