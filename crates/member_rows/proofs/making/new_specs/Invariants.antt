use Rattle.member_rows.specs.LoggerRows.{AreRowSpecs}
use Rattle.member_rows.proofs.making.new_specs.Given as goal

abbrev pub invariant-loop-number : goal.invariant-loop-number
invariant-loop-number l = AreRowSpecs l.number l.buffers l.specs
