use Rattle.history_laws.proofs.PortParts.{port_tells}
use Rattle.history_laws.proofs.callers.port_tells.Goals as goal

pub returns : goal.returns
returns c = port_tells c.of_buffers.ensures
