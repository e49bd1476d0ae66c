-- An event builder of two front-ends with its ports between two calls of a row.
use Rattle.std.specs.Prelude.{◌≡◌, ◌≤◌, ℕ, length}
use Rattle.event.specs.Events.{slot_of_length}
use Rattle.buffer_core.specs.Ports.{Access}
use Rattle.event_builder.specs.Builders.{BuilderState}

-- two inputs with as many ports, and an output that has room for each built event
pub record IsBuilderRow (b : BuilderState) (ports : ℕ) (output : Access) : Type 0 where
  pub two : length b.inputs ≡ 2
  pub many : ports ≡ 2
  pub size : slot_of_length b.limit ≤ output.size
