use Rattle.std.proofs.Common.{arith}
use Rattle.std.proofs.lemmas.List.Sums.{sum_by-take-drop}
use Rattle.plain_buffer.specs.Rows.{slot_of_row}
use Rattle.plain_buffer.proofs.RowLaws.{no_row, counted_here}
use Rattle.plain_buffer.proofs.rows.count_to_drop.Goals as goal

pub overflow_add-left : goal.overflow_add-left
overflow_add-left c = record { fits = omega (arith, c.loop-gone.invariant.sum, c.requires.level, sum_by-take-drop slot_of_row c.args.rows.now c.loop-gone.gone) }

pub returns-then-left-slot-clause-value : goal.returns-then-left-slot-clause-value
returns-then-left-slot-clause-value c =
    counted_here c.args.rows.now c.args.size c.args.slot c.loop-gone.gone c.loop-gone.left no_row (omega arith) c.loop-gone.invariant c.if-left-slot.true
