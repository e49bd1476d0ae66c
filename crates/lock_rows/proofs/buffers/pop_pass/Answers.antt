use Rattle.buffer_lock.specs.SharedBuffers.{lock_of}
use Rattle.lock_rows.proofs.buffers.pop_pass.Goals as goal

pub returns-clause-own : goal.returns-clause-own
returns-clause-own g c = c.in-Some.ensures.own (lock_of c.args._shared.now) c.requires.own

pub returns-clause-taken : goal.returns-clause-taken
returns-clause-taken g c = c.in-Some.ensures.taken_own (lock_of c.args._shared.now) c.requires.own

pub returns-clause-idle : goal.returns-clause-idle
returns-clause-idle g c = (c.in-Some.ensures.taken_fresh c.requires.fresh).idle
