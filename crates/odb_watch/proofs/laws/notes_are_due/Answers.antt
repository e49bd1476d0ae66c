use Rattle.odb_watch.proofs.Due.{notes_are_due}
use Rattle.odb_watch.proofs.laws.notes_are_due.Goals as goal

pub returns : goal.returns
returns c = notes_are_due
