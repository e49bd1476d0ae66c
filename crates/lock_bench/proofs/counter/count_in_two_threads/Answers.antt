use Rattle.std.proofs.Common.{◌∙◌, map, ap}
use Rattle.turn_lock.specs.Passes.{number_of, passes_of}
use Rattle.turn_lock.specs.Roster.{numbers_of}
use Rattle.lock_bench.proofs.Popped.{complete_two}
use Rattle.lock_bench.proofs.counter.count_in_two_threads.Goals as goal

pub end-requires-clause-complete : goal.end-requires-clause-complete
end-requires-clause-complete g c = let given = c.two_passes-first.ensures in let back = c.increment_in_two_threads-first.ensures.number in
    complete_two (numbers_of c.two_passes-first.new.passes) (numbers_of c.push.new.self) (numbers_of c.push-2.new.self) _ _ (passes_of c.in_ok-lock.lock)
    (ap (map number_of) given.left.1) c.push.ensures.numbers c.push-2.ensures.numbers (back.0 ∙ given.numbers.0) (back.1 ∙ given.numbers.1) c.in_ok-lock.ensures.count
