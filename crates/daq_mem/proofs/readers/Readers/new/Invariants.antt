use Rattle.std.proofs.Common.{◌≡◌, length, All}
use Rattle.daq_mem.proofs.readers.Readers.new.Given as goal

abbrev pub invariant-loop : goal.invariant-loop
invariant-loop l = record {
  count : length l.readers.items ≡ l.counter;
  sized : All (λ reader. reader.bytes.room ≡ l.room) l.readers.items;
}
