use Rattle.std.proofs.Common.{◌≡◌, length, All}
use Rattle.daq_io.specs.Uses.{free_numbers}
use Rattle.daq_io.specs.declared.uses.Usage.TheVariants.{Free}
use Rattle.daq_io.proofs.uses.UseTable.new.Given as goal

abbrev pub invariant-loop : goal.invariant-loop
invariant-loop l = record {
  count : length l.uses.items ≡ l.counter;
  free : All (λ usage. usage ≡ Free) l.uses.items;
  all_free : free_numbers l.uses.items ≡ l.counter;
}
