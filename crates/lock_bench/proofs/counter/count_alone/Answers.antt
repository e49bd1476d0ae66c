use Rattle.lock_bench.proofs.Popped.{complete_one}
use Rattle.lock_bench.proofs.counter.count_alone.Goals as goal

pub increment_times-pass-requires-clause-own : goal.increment_times-pass-requires-clause-own
increment_times-pass-requires-clause-own g c = c.in-Some.ensures.taken_own c.in_ok-lock.lock c.in_ok-lock.ensures.own

pub end-requires-clause-own : goal.end-requires-clause-own
end-requires-clause-own g c = c.push.ensures.own c.in_ok-lock.lock (c.in-Some.ensures.own c.in_ok-lock.lock c.in_ok-lock.ensures.own) c.increment_times-pass.ensures.own

pub end-requires-clause-complete : goal.end-requires-clause-complete
end-requires-clause-complete g c = complete_one _ _ _ _ _ _ c.in_ok-lock.ensures.numbers c.in-Some.ensures.numbers c.push.ensures.numbers c.increment_times-pass.ensures.number c.in_ok-lock.ensures.count
