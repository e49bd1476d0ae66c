use Rattle.lock_bench.proofs.counter.two_passes.Goals as goal

pub returns-clause-own : goal.returns-clause-own
returns-clause-own c = let lock = c.args.lock.now in
    (c.in-Some-pop.ensures.taken_own lock (c.in-Some.ensures.own lock c.requires.own), c.in-Some.ensures.taken_own lock c.requires.own)
