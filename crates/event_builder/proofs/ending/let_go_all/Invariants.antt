-- So far the inputs with lower numbers hold nothing.
use Rattle.std.proofs.Common.{◌≡◌, ◌++◌, length, map, take, drop}
use Rattle.event_builder.specs.Inputs.{let_go}
use Rattle.event_builder.proofs.ending.let_go_all.Given as goal

abbrev pub invariant-loop-number : goal.invariant-loop-number
invariant-loop-number l = record {
  so_far : l.inputs ≡ map let_go (take l.number l.fn.inputs) ++ drop l.number l.fn.inputs;
  many : length l.inputs ≡ length l.fn.inputs;
}
