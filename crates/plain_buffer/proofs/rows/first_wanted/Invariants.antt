use Rattle.plain_buffer.proofs.RowLaws.{IsSearched}
use Rattle.plain_buffer.proofs.rows.first_wanted.Given as goal

abbrev pub invariant-loop-index : goal.invariant-loop-index
invariant-loop-index l = IsSearched l.client l.first l.rows l.bytes l.index l.rest
