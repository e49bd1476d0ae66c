-- The report over a list of events.
use Rattle.std.specs.Prelude.{◌≡◌, List, length, refl}
use Rattle.daq_types.specs.declared.events.Event.{Event}
use Rattle.event.specs.Events.{all_encoded}
use Rattle.event_report.specs.Reports.{report_of}

-- what one may still add depends on how long the events were
pub report_bytes : (events : List Event) → (report_of events).bytes ≡ length (all_encoded events)
unfolding report_of
report_bytes events = refl
