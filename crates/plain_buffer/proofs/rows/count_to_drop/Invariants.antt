use Rattle.plain_buffer.proofs.RowLaws.{IsCounted}
use Rattle.plain_buffer.proofs.rows.count_to_drop.Given as goal

abbrev pub invariant-loop-gone : goal.invariant-loop-gone
invariant-loop-gone l = IsCounted l.rows l.size l.slot l.gone l.left
