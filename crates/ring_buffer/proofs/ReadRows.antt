-- The reads of sample calls.
use Rattle.std.specs.Prelude.{◌≡◌, [], ◌∷◌, ◌++◌, refl}
use Rattle.daq_types.specs.declared.runs.Kind.TheVariants.{All, NonBlocking}
use Rattle.event.specs.Events.{slot_of_length, matches}
use Rattle.buffer_core.specs.Window.{opening, no_clients, no_requests}
use Rattle.buffer_core.specs.Histories.{IsLegal, replay}
use Rattle.ring_buffer.specs.LifeReads.{reads_by_call}
use Rattle.ring_buffer.specs.ReadSamples.{eight_sent, dropped_and_refused, pushed_and_received, none_received}

pub sends_legal : IsLegal (opening 256) (eight_sent 2 2 All ++ dropped_and_refused)
unfolding no_clients no_requests slot_of_length matches
sends_legal = (refl, (refl, (refl, (refl, (refl, (refl, (refl, (refl, (refl, (refl, (refl, (refl, tt))))))))))))

pub sends_read : reads_by_call (replay (opening 256) (eight_sent 2 2 All)) dropped_and_refused ≡ 1 ∷ 1 ∷ []
unfolding no_clients no_requests slot_of_length matches
sends_read = refl

pub pushes_legal : IsLegal (opening 256) (eight_sent 1 1 NonBlocking ++ pushed_and_received)
unfolding no_clients no_requests slot_of_length matches
pushes_legal = (refl, (refl, (refl, (refl, (refl, (refl, (refl, (refl, (refl, (refl, (refl, (refl, tt))))))))))))

pub receives_read : reads_by_call (replay (opening 256) (eight_sent 1 1 NonBlocking)) pushed_and_received ≡ 1 ∷ 2 ∷ []
unfolding no_clients no_requests slot_of_length matches
receives_read = refl

pub passes_legal : IsLegal (opening 256) (eight_sent 2 1 All ++ none_received)
unfolding no_clients no_requests slot_of_length matches
passes_legal = (refl, (refl, (refl, (refl, (refl, (refl, (refl, (refl, (refl, (refl, (refl, tt)))))))))))

pub none_read : reads_by_call (replay (opening 256) (eight_sent 2 1 All)) none_received ≡ 8 ∷ []
unfolding no_clients no_requests slot_of_length matches
none_read = refl
