use Rattle.event_report.proofs.Loops.{counted_more, within_all, room_for_next}
use Rattle.event_report.proofs.banks.BankTable.count_all.Goals as goal

pub count-requires-clause-within : goal.count-requires-clause-within
count-requires-clause-within c =
    room_for_next c.args.self.now c.loop-bank.self c.args.banks.left c.loop-bank.banks.left c.next.new.self.left _ c.in-Some.ensures.bank c.requires.long c.requires.within c.loop-bank.invariant

pub loop-bank-preserved : goal.loop-bank-preserved
loop-bank-preserved c =
    counted_more c.args.self.now c.loop-bank.self c.count.new.self c.args.banks.left c.loop-bank.banks.left c.next.new.self.left _ c.in-Some.ensures.bank c.count.ensures.counted c.count.ensures.within c.loop-bank.invariant

pub returns-clause-within : goal.returns-clause-within
returns-clause-within c = λ m within.
    within_all c.args.self.now c.loop-bank.self c.args.banks.left c.loop-bank.banks.left m c.in_default.ensures.bank c.loop-bank.invariant within
