use Rattle.std.proofs.Common.{sym, arith}
use Rattle.ring_buffer.proofs.Raising.{none_raised}
use Rattle.ring_buffer.proofs.ring_buffer.raise_behind.Goals as goal

pub returns-else-way-first : goal.returns-else-way-first
returns-else-way-first c =
    sym (none_raised c.args.way.off c.args.way.place c.args.clients.now (λ n p lives. omega (arith, c.requires n p lives, c.if-way-first.false)))
