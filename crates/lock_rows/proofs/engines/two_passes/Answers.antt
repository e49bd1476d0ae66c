use Rattle.transition_lock.specs.SharedEngines.{engine_lock_of}
use Rattle.lock_rows.proofs.engines.two_passes.Goals as goal

pub returns-clause-own : goal.returns-clause-own
returns-clause-own c = let lock = engine_lock_of c.args._shared.now in
    (c.in-Some-pop.ensures.taken_own lock (c.in-Some.ensures.own lock c.requires.own), c.in-Some.ensures.taken_own lock c.requires.own)
