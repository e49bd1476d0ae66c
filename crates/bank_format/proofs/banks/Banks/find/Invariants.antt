use Rattle.std.proofs.Common.{◌≡◌, [], length}
use Rattle.bank_format.specs.BankAreas.{BanksBefore}
use Rattle.bank_format.specs.Places.{banks_in, first_named}
use Rattle.bank_format.proofs.banks.Banks.find.Given as goal

abbrev pub invariant-loop-left : goal.invariant-loop-left
invariant-loop-left l =
    let f = l.self-inside.format in
    record {
      whole : BanksBefore f (banks_in f l.left) [] l.left;
      same : first_named l.name (banks_in f l.left) ≡ first_named l.name (banks_in f l.self-inside.area.now);
    }

abbrev pub decreases-loop-left : goal.decreases-loop-left
decreases-loop-left l = length l.left
