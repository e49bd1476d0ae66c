use Rattle.std.proofs.Common.{◌≡◌, take}
use Rattle.odb_watch.proofs.copying.copy_notes.Given as goal

abbrev pub invariant-loop-note : goal.invariant-loop-note
invariant-loop-note l = l.copy ≡ take l.note-index l.notes
