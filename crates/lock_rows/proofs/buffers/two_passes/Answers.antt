use Rattle.buffer_lock.specs.SharedBuffers.{lock_of}
use Rattle.lock_rows.proofs.buffers.two_passes.Goals as goal

pub returns-clause-own : goal.returns-clause-own
returns-clause-own c = let lock = lock_of c.args._shared.now in
    (c.in-Some-pop.ensures.taken_own lock (c.in-Some.ensures.own lock c.requires.own), c.in-Some.ensures.taken_own lock c.requires.own)
