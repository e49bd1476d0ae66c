-- So far the banks that were given are written.
use Rattle.std.proofs.Common.{◌≡◌, ◌++◌, length}
use Rattle.bank_format.specs.declared.formats.Format.TheVariants.{Bank32A}
use Rattle.event_builder.proofs.joining.add_banks.Given as goal

abbrev pub invariant-loop-bank : goal.invariant-loop-bank
invariant-loop-bank l = record {
  all : l.body.banks ++ l.banks.left ≡ l.initial.body.banks ++ l.initial.banks.left;
  format : l.body.format ≡ Bank32A;
  limit : l.body.limit ≡ l.initial.body.limit;
}

abbrev pub decreases-loop-bank : goal.decreases-loop-bank
decreases-loop-bank l = length l.banks.left
