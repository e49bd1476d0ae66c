use Rattle.std.proofs.Common.{◌≡◌, length, All}
use Rattle.std.specs.Prelude.{[]}
use Rattle.daq_io.proofs.traces.ByteTraces.new.Given as goal

abbrev pub invariant-loop : goal.invariant-loop
invariant-loop l = record {
  count : length l.traces.items ≡ l.counter;
  empty : All (λ bytes. bytes ≡ []) l.traces.items;
}
