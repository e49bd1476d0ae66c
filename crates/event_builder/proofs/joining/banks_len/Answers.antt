use Rattle.std.proofs.Common.{◌≡◌, List, length, ap, arith, rules}
use Rattle.bank_format.specs.declared.formats.Format.TheVariants.{Bank32A}
use Rattle.bank_format.specs.BankAreas.{BankValue, plain_area}
use Rattle.event_builder.proofs.JoinedBanks.{length_grown}
use Rattle.event_builder.proofs.joining.banks_len.Goals as goal

pub overflow_add-len : goal.overflow_add-len
overflow_add-len c =
    let four : length c.in-Some.bank.name ≡ 4 = search rules in
    let grown = length_grown c.loop-bank.banks.left c.next.new.self.left c.in-Some.bank.name c.in-Some.bank.tid c.in-Some.bank.body.now c.in-Some.ensures.bank four in
    omega (arith, grown, c.loop-bank.invariant, c.requires, c.bank_len-len.ensures)

pub loop-bank-preserved : goal.loop-bank-preserved
loop-bank-preserved c =
    let four : length c.in-Some.bank.name ≡ 4 = search rules in
    let grown = length_grown c.loop-bank.banks.left c.next.new.self.left c.in-Some.bank.name c.in-Some.bank.tid c.in-Some.bank.body.now c.in-Some.ensures.bank four in
    omega (arith, grown, c.loop-bank.invariant, c.bank_len-len.ensures)

pub returns : goal.returns
returns c =
    let none : length (plain_area Bank32A c.loop-bank.banks.left) ≡ 0 = ap (λ (l : List BankValue). length (plain_area Bank32A l)) c.in_default.ensures.bank in
    omega (arith, none, c.loop-bank.invariant)
