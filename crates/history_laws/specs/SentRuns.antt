-- What one caller sent in a run, and the events of that run that it sent.
use Rattle.std.specs.Prelude.{ℕ, ◌==◌, if◌then◌else◌, List, [], ◌∷◌, ◌++◌, Ok}
use Rattle.std.specs.List.{filter, list_any}
use Rattle.buffer_core.specs.declared.entry.BufferEntry.{BufferEntry}
use Rattle.buffer_core.specs.declared.entry.BufferEntry.TheVariants.{SendInRun}
use Rattle.buffer_core.specs.Window.{Sent}

-- the place that was replied to an accepted send in the run with this start number
abbrev pub place_sent : BufferEntry → (start : ℕ) → List ℕ
place_sent (SendInRun s stated e (Ok place)) start = if s == start then place ∷ [] else []
place_sent entry start = []

-- the places of the events that these calls sent in the run with this start number, in order
abbrev pub places_sent : List BufferEntry → (start : ℕ) → List ℕ
places_sent [] start = []
places_sent (e ∷ es) start = place_sent e start ++ places_sent es start

-- those of the events that stand at one of these places
abbrev pub events_at_places : (places : List ℕ) → (events : List (ℕ × Sent)) → List (ℕ × Sent)
events_at_places places events = filter (λ e. list_any (λ p. p == e.0) places) events
