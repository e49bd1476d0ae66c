use Rattle.transition_lock.specs.SharedEngines.{engine_lock_of}
use Rattle.lock_rows.proofs.engines.three_passes.Goals as goal

pub returns-clause-own : goal.returns-clause-own
returns-clause-own g c = let lock = engine_lock_of c.args._shared.now in
    let left = c.take-main.ensures.own lock c.requires.own in
    (c.take-main.ensures.taken_own lock c.requires.own, c.in-Some-pop.ensures.taken_own lock (c.in-Some.ensures.own lock left), c.in-Some.ensures.taken_own lock left)
