use Rattle.daq_mem.proofs.SlotLemmas.{nothing_stored, nothing_twice}
use Rattle.daq_mem.proofs.slots.Slots.new.Goals as goal

pub invariant_of-result : goal.invariant_of-result
invariant_of-result c = record { sized = c.loop.invariant.sized; distinct = nothing_twice _ c.loop.invariant.unnamed }

pub returns-clause-none : goal.returns-clause-none
returns-clause-none c = nothing_stored _ c.loop.invariant.unnamed
