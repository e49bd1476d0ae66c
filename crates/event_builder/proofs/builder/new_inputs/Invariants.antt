-- So far the inputs of the first front-ends are made.
use Rattle.std.proofs.Common.{◌≡◌, map, take}
use Rattle.event_builder.specs.Inputs.{new_input}
use Rattle.event_builder.proofs.builder.new_inputs.Given as goal

abbrev pub invariant-loop-place : goal.invariant-loop-place
invariant-loop-place l = l.inputs ≡ map (new_input l.room) (take l.place l.fronts)
