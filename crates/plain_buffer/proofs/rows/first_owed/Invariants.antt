use Rattle.std.proofs.Common.{◌≡◌, ◌+◌, drop}
use Rattle.buffer_core.specs.Calls.{owed_in}
use Rattle.plain_buffer.specs.Rows.{bare}
use Rattle.plain_buffer.proofs.rows.first_owed.Given as goal

abbrev pub invariant-loop-index : goal.invariant-loop-index
invariant-loop-index l = owed_in l.clients l.first (bare l.rows) ≡ owed_in l.clients (l.first + l.index) (bare (drop l.index l.rows))
