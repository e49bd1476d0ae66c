use Rattle.daq_io.proofs.UseLemmas.{use_counted}
use Rattle.daq_io.proofs.uses.UseTable.assign.Goals as goal

pub returns-clause-counted : goal.returns-clause-counted
returns-clause-counted c = use_counted _ _ _ c.requires
