use Rattle.lock_rows.proofs.turns.two_passes.Goals as goal

pub returns-clause-own : goal.returns-clause-own
returns-clause-own c = let lock = c.args._lock.now in
    (c.in-Some-pop.ensures.taken_own lock (c.in-Some.ensures.own lock c.requires.own), c.in-Some.ensures.taken_own lock c.requires.own)
