use Rattle.std.proofs.Common.{◌≤◌, ◌++◌, List, length, ap, sym, ◌∙◌, arith}
use Rattle.std.proofs.lemmas.List.{append-nil}
use Rattle.bank_format.specs.declared.formats.Format.TheVariants.{Bank32A}
use Rattle.bank_format.specs.BankAreas.{BankValue, bank_value, plain_banks}
use Rattle.event_builder.proofs.JoinedBanks.{takes_bank}
use Rattle.event_builder.proofs.joining.add_banks.Goals as goal

pub loop-bank-preserved : goal.loop-bank-preserved
loop-bank-preserved c =
    let fits : length (plain_banks Bank32A (c.args.body.now.banks ++ c.args.banks.left)) ≤ c.loop-bank.body.limit = omega (arith, c.requires.fits, c.loop-bank.invariant.limit) in
    let takes = takes_bank c.add.result c.loop-bank.body c.add.new.self (bank_value c.in-Some.bank.name c.in-Some.bank.tid c.in-Some.bank.body.now) c.loop-bank.banks.left c.next.new.self.left (c.args.body.now.banks ++ c.args.banks.left)
    c.loop-bank.invariant.format c.in-Some.ensures.bank c.loop-bank.invariant.all fits c.add.ensures.added c.add.ensures.refused in
    record { all = takes.banks; format = takes.format; limit = takes.limit ∙ c.loop-bank.invariant.limit }

pub returns-clause-banks : goal.returns-clause-banks
returns-clause-banks c = sym (append-nil c.loop-bank.body.banks) ∙ (ap (λ (l : List BankValue). c.loop-bank.body.banks ++ l) (sym c.in_default.ensures.bank) ∙ c.loop-bank.invariant.all)
