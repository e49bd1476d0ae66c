use Rattle.buffer_lock.specs.SharedBuffers.{lock_of}
use Rattle.lock_bench.proofs.Popped.{popped_length}
use Rattle.lock_bench.proofs.exchange.next_port.Goals as goal

pub new-requires-clause-own : goal.new-requires-clause-own
new-requires-clause-own g c = c.in-Some.ensures.taken_own (lock_of c.args.shared.now) c.requires.own

pub new-requires-clause-idle : goal.new-requires-clause-idle
new-requires-clause-idle g c = (c.in-Some.ensures.taken_fresh c.requires.fresh).idle

pub returns-clause-own : goal.returns-clause-own
returns-clause-own g c = c.in-Some.ensures.own (lock_of c.args.shared.now) c.requires.own

pub returns-clause-fresh : goal.returns-clause-fresh
returns-clause-fresh g c = c.in-Some.ensures.fresh c.requires.fresh

pub returns-clause-left : goal.returns-clause-left
returns-clause-left g c = popped_length _ _ _ c.in-Some.ensures.some
