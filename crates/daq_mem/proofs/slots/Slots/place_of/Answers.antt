use Rattle.std.proofs.Common.{arith}
use Rattle.daq_mem.proofs.SlotLemmas.{none_named}
use Rattle.daq_mem.proofs.slots.Slots.place_of.Goals as goal

pub returns-clause-none : goal.returns-clause-none
returns-clause-none c = none_named _ _ c.loop-place.place (omega arith) c.loop-place.invariant
