-- Between two acts all stands as a row needs it.
use Rattle.std.specs.Prelude.{length}
use Rattle.member_rows.specs.BuilderRows.{IsBuilderRow}
use Rattle.member_rows.proofs.builder_tests.count_right.Given as goal

abbrev pub invariant-loop-place : goal.invariant-loop-place
invariant-loop-place g l = IsBuilderRow l.builder (length l.ports) (g.P.BufferPort.access l.output)
