-- Bytes that lie at hand before they are taken, and an event that lies whole among them.
use Rattle.std.specs.Prelude.{◌≡◌, ◌≢◌, ℕ, ◌+◌, ◌^◌, ◌≤◌, List, [], ◌∷◌, ◌++◌, length, take, drop, Option, Some, None, Result}
use Rattle.daq_types.specs.declared.events.Event.{Event}
use Rattle.event.specs.Events.{all_encoded, end_id}
use Rattle.event.specs.Headers.{header_encoding, event_of}
use Rattle.event.specs.declared.head.Header.{Header}
use Rattle.mid_format.specs.Faults.{header_fault}
use Rattle.mid_format.specs.Parts.{IsInRange}
use Rattle.mid_format.specs.Steps.{IsGoing}
use Rattle.mid_format.specs.Opened.{events_after}
use Rattle.mid_format.specs.HasRead.{HasRead}
use Rattle.mid_format.specs.declared.faults.MidFault.{MidFault}
use Rattle.mid_format.specs.declared.progress.Progress.{Progress}

-- a source, the bytes that were read of it and not taken yet, and those that were taken
pub record Blockwise (S : Type 0) : Type 0 where
  pub source : S
  pub at_hand : List ℕ
  pub gave : List ℕ

-- The next event of a run file stands at the front of these bytes, with all of its data, and nothing is wrong with it.
pub record StandsWhole (progress : Progress) (bytes : List ℕ) (h : Header) : Type 0 where
  pub going : IsGoing progress
  pub begin : Header
  pub begun : progress.begin ≡ Some begin
  pub head : header_encoding h ≡ take 16 bytes
  pub in_range : IsInRange h
  pub fine : header_fault (Some begin.serial_number) progress.at h ≡ None
  pub no_end : h.event_id ≢ end_id
  pub whole : 16 + h.data_size ≤ length bytes

-- the event with this header at the front of some bytes
abbrev pub event_at_front : Header → List ℕ → Event
event_at_front h bytes = event_of h (take h.data_size (drop 16 bytes))

-- A taker may take an event: those that it has and this one have at most 2^62 bytes together.
pub record MayTake (HasTaken : List Event → Type 0) (event : Event) : Type 0 where
  pub events : List Event
  pub taken : HasTaken events
  pub within : length (all_encoded (events ++ event ∷ [])) ≤ 2 ^ 62

-- A taker has the events of the files before, which have no more bytes than these files, and behind them just the events
-- that were read since the source told some bytes.
pub record TakesSoFar (HasTaken : List Event → Type 0) (now : Option (List ℕ)) (progress : Progress) : Type 0 where
  pub start : ℕ
  pub first : Option (List ℕ)
  pub before : List Event
  pub few : length (all_encoded before) ≤ start
  pub events : List Event
  pub read : HasRead start first now progress events
  pub taken : HasTaken (before ++ events)

-- One event more was read and taken; or none at the end and at a fault.
pub record TakesNext (HasTaken : List Event → Type 0) (start : ℕ) (first now : Option (List ℕ)) (progress : Progress) (before events : List Event) (result : Result (Option (Unit {0})) MidFault) : Type 0 where
  pub event : Event
  pub read : HasRead start first now progress (events_after events result event)
  pub taken : HasTaken (events_after (before ++ events) result event)
