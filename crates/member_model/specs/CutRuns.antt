-- A run whose reading went no further than some point of the caller's calls.
use Rattle.std.specs.Prelude.{◌≡◌, ℕ, List, ◌∷◌, ◌++◌, Ok, Err, ◌⊎◌}
use Rattle.daq_types.specs.declared.events.Event.{Event}
use Rattle.buffer_core.specs.declared.replies.MarkRefusal.{MarkRefusal}
use Rattle.buffer_core.specs.declared.entry.BufferEntry.{BufferEntry}
use Rattle.buffer_core.specs.declared.entry.BufferEntry.TheVariants.{End}
use Rattle.buffer_core.specs.Ports.{GotEvent}
use Rattle.member_model.specs.ReadRuns.{IsReading, IsDraining}

-- The client read the run up to some point, by which no end of it was marked: these are the events that it had got by then,
-- from the begin of the run on. Any calls may follow.
pub record HasReadOn (own : List BufferEntry) (got : List GotEvent) (client id mask number start begun : ℕ) (events : List Event) : Type 0 where
  pub calls : List BufferEntry
  pub later : List BufferEntry
  pub got_by : List GotEvent
  pub got_later : List GotEvent
  pub own_is : own ≡ calls ++ later
  pub got_is : got ≡ got_by ++ got_later
  pub reads : IsReading calls got_by client id mask number start begun events

-- one of these calls ended the run at this place
pub record MarksEnd (calls : List BufferEntry) (start ended : ℕ) : Type 0 where
  pub before : List BufferEntry
  pub after : List BufferEntry
  pub is : calls ≡ before ++ End start (Ok ended) ∷ after

-- one of these calls was to end the run, and was refused
pub record RefusesEnd (calls : List BufferEntry) (start : ℕ) : Type 0 where
  pub before : List BufferEntry
  pub after : List BufferEntry
  pub why : MarkRefusal
  pub is : calls ≡ before ++ End start (Err why) ∷ after

-- The client read the run up to some point: these are the events of the run that it had got by then. The run was ended
-- before that point or behind it. Any calls may follow.
pub record HasCutRun (own : List BufferEntry) (got : List GotEvent) (client id mask number start begun ended : ℕ) (events : List Event) : Type 0 where
  pub calls : List BufferEntry
  pub later : List BufferEntry
  pub got_by : List GotEvent
  pub got_later : List GotEvent
  pub own_is : own ≡ calls ++ later
  pub got_is : got ≡ got_by ++ got_later
  pub stage : (IsReading calls got_by client id mask number start begun events × MarksEnd later start ended) ⊎ IsDraining calls got_by client id mask number start begun ended events
