use Rattle.odb_watch.proofs.CallLaws.{adds_are, calls_same, calls_watched, calls_own}
use Rattle.odb_watch.proofs.port_laws.calls_add_up.Goals as goal

pub returns : goal.returns
returns c = record { are = adds_are; same = calls_same; watched = calls_watched; own = calls_own }
