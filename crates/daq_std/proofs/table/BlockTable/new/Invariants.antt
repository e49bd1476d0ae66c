use Rattle.std.proofs.Common.{◌≡◌, ℕ, [], length}
use Rattle.daq_std.specs.BlockTables.{given_at}
use Rattle.daq_std.proofs.table.BlockTable.new.Given as goal

abbrev pub invariant-loop : goal.invariant-loop
invariant-loop g l = (length l.blocks.items ≡ l.counter) × ((number : ℕ) → given_at l.blocks.items number ≡ [])
