-- What a tool has summed up of the events that were read so far.
use Rattle.std.specs.Prelude.{◌≡◌, ℕ, List, Option, None}
use Rattle.daq_types.specs.declared.events.Event.{Event}
use Rattle.mid_format.specs.HasRead.{HasRead}
use Rattle.mid_format.specs.declared.progress.Progress.{Progress}

-- It is the summary of the events that were read, and no fault was met.
pub record SumsSome (Sums : List Event → Type 0) (start : ℕ) (first now : Option (List ℕ)) (progress : Progress) : Type 0 where
  pub events : List Event
  pub sums : Sums events
  pub read : HasRead start first now progress events
  pub sound : progress.fault ≡ None
