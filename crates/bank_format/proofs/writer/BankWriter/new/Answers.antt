use Rattle.std.proofs.Common.{[], length, ap, arith}
use Rattle.bank_format.proofs.PlainLaws.{plain_back, length-plain_banks}
use Rattle.bank_format.proofs.Holding.{held, written}
use Rattle.bank_format.proofs.writer.BankWriter.new.Goals as goal

pub invariant_of-result : goal.invariant_of-result
invariant_of-result c =
    let made = c.in_ok-new_area in
    held c.args.format c.args.limit made.field-0 [] tt made.ensures.bytes
    (omega (arith, made.ensures.len, ap length made.ensures.bytes, length-plain_banks c.args.format []))
    (omega (arith, made.ensures.len, c.requires.front)) c.requires.front c.requires.most made.ensures.room

pub returns : goal.returns
returns c = ap (written c.args.format c.args.limit) (plain_back c.args.format [] c.in_ok-new_area.field-0.items tt c.in_ok-new_area.ensures.bytes)
