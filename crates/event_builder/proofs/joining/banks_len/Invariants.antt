-- So far the banks that were given are counted.
use Rattle.std.proofs.Common.{◌≡◌, ◌+◌, length}
use Rattle.bank_format.specs.declared.formats.Format.TheVariants.{Bank32A}
use Rattle.bank_format.specs.BankAreas.{plain_area}
use Rattle.event_builder.proofs.joining.banks_len.Given as goal

abbrev pub invariant-loop-bank : goal.invariant-loop-bank
invariant-loop-bank l = l.len + length (plain_area Bank32A l.banks.left) ≡ length (plain_area Bank32A l.initial.banks.left)

abbrev pub decreases-loop-bank : goal.decreases-loop-bank
decreases-loop-bank l = length l.banks.left
