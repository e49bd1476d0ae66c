use Rattle.std.proofs.Common.{◌≡◌, ◌≢◌, vec_capacity}
use Rattle.std.specs.List.{AllWithin}
use Rattle.turn_lock.specs.Passes.{number_of}
use Rattle.turn_lock.proofs.lock.Pass.take_numbered.Given as goal

abbrev pub invariant-loop-index : goal.invariant-loop-index
invariant-loop-index g l = (l.fn.items.items ≡ l.items.items) × AllWithin (λ pass. number_of pass ≢ l.number) l.items.items 0 l.index × (vec_capacity l.items ≡ vec_capacity l.fn.items)
