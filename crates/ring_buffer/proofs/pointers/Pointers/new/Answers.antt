use Rattle.std.proofs.Common.{arith}
use Rattle.ring_buffer.proofs.GivenNumbers.{none_given}
use Rattle.ring_buffer.proofs.pointers.Pointers.new.Goals as goal

pub invariant_of-result : goal.invariant_of-result
invariant_of-result c = (omega arith, none_given)
