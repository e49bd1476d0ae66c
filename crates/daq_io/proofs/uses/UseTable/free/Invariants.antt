use Rattle.std.proofs.Common.{◌≡◌, take}
use Rattle.daq_io.specs.Uses.{free_numbers}
use Rattle.daq_io.proofs.uses.UseTable.free.Given as goal

abbrev pub invariant-loop-number : goal.invariant-loop-number
invariant-loop-number l = free_numbers (take l.number l.self.uses.items) ≡ 0
