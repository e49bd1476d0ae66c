use Rattle.history_laws.proofs.GoingOn.{part_goes_on, read_goes_on, cut_goes_on, own_go_on}
use Rattle.history_laws.proofs.callers.goes_on.Goals as goal

pub returns : goal.returns
returns c = record { part = part_goes_on c.of_buffers.ensures; read = read_goes_on; cut = cut_goes_on; own = own_go_on }
