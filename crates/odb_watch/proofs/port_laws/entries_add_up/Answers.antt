use Rattle.odb_watch.proofs.CallLaws.{adds_same, adds_own_calls, adds_seen, adds_legal}
use Rattle.odb_watch.proofs.port_laws.entries_add_up.Goals as goal

pub returns : goal.returns
returns c = record { same = adds_same; own = adds_own_calls; begins = adds_seen; legal = adds_legal }
