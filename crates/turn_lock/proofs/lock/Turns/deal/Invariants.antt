use Rattle.std.proofs.Common.{◌≤◌, vec_capacity}
use Rattle.turn_lock.specs.Passes.{passes_of}
use Rattle.turn_lock.proofs.Dealing.{Deals}
use Rattle.turn_lock.proofs.lock.Turns.deal.Given as goal

abbrev pub invariant-loop-number : goal.invariant-loop-number
invariant-loop-number g l = Deals l.self l.zero l.items.items l.number × (passes_of l.self ≤ vec_capacity l.items)
