use Rattle.daq_mem.proofs.SlotLemmas.{named_file}
use Rattle.daq_mem.proofs.slots.Slots.file.Goals as goal

pub returns-in-Some-clause-found : goal.returns-in-Some-clause-found
returns-in-Some-clause-found c = named_file _ _ _ _ c.in-Some.ensures.found c.index.ensures
