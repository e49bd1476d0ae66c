use Rattle.odb_commands.proofs.WatchMade.{IsTelling}
use Rattle.odb_commands.proofs.watches.tell_notes.Given as goal

abbrev pub invariant-loop-note : goal.invariant-loop-note
invariant-loop-note g l = IsTelling (g.P.DatabasePort.access l.initial.port) (g.P.DatabasePort.access l.port) l.notes l.told l.note-index
