-- What a client got of a run, as more is got.
use Rattle.std.specs.Prelude.{◌≡◌, ℕ, List, [], ◌∷◌, ◌++◌, refl}
use Rattle.std.proofs.Common.{ap, sym, ◌∙◌, append_assoc}
use Rattle.daq_types.specs.declared.events.Event.{Event}
use Rattle.buffer_core.specs.Ports.{GotEvent}
use Rattle.member_model.specs.GotRuns.{event_of_start, events_of_start}

pub events_of_start-append : (client start : ℕ) (xs ys : List GotEvent) → events_of_start client start (xs ++ ys) ≡ events_of_start client start xs ++ events_of_start client start ys
events_of_start-append client start [] ys = refl
events_of_start-append client start (x ∷ xs) ys =
    ap (λ (es : List Event). event_of_start client start x ++ es) (events_of_start-append client start xs ys)
    ∙ sym (append_assoc (event_of_start client start x) (events_of_start client start xs) (events_of_start client start ys))
