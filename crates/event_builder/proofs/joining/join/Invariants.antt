-- So far the banks of the first events are written.
use Rattle.std.proofs.Common.{◌≡◌}
use Rattle.bank_format.specs.declared.formats.Format.TheVariants.{Bank32A}
use Rattle.event_builder.proofs.JoinedBanks.{WrittenTo}
use Rattle.event_builder.proofs.joining.join.Given as goal

abbrev pub invariant-loop-input : goal.invariant-loop-input
invariant-loop-input l = record {
  written : WrittenTo l.inputs l.input-index l.body.limit l.body.banks;
  format : l.body.format ≡ Bank32A;
  limit : l.body.limit ≡ l.fn.body.limit;
}
