-- So far the inputs with lower numbers are read no more.
use Rattle.std.proofs.Common.{◌≡◌, length, map}
use Rattle.event_builder.specs.Inputs.{StepsBelow, CancelsInput, inputs_at}
use Rattle.event_builder.proofs.asking.cancel_first.Given as goal

abbrev pub invariant-loop-number : goal.invariant-loop-number
invariant-loop-number g l = record {
  so_far : StepsBelow CancelsInput l.number (inputs_at l.fn.inputs (map g.P.BufferPort.access l.fn.ports)) (inputs_at l.inputs (map g.P.BufferPort.access l.ports));
  many : length l.ports ≡ length l.fn.ports;
}
