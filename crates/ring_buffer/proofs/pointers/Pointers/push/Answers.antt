use Rattle.ring_buffer.specs.Pointers.{raised}
use Rattle.ring_buffer.proofs.GivenNumbers.{changed_free}
use Rattle.ring_buffer.proofs.pointers.Pointers.push.Goals as goal

pub invariant_of-self : goal.invariant_of-self
invariant_of-self c =
    (c.self.invariant.0, changed_free (raised c.args.off c.args.place) c.self.inside.given c.self.inside.slots c.raise_all.new.slots c.raise_all.ensures c.self.invariant.1)
