use Rattle.odb_commands.proofs.WatchMade.{ends_cut, telling_more, telling_cut}
use Rattle.odb_commands.proofs.watches.tell_notes.Goals as goal

pub returns-in_err-path : goal.returns-in_err-path
returns-in_err-path g c = ends_cut _ _ _ _ c.from_residual.ensures.0 (telling_cut _ _ _ _ _ _ c.loop-note.note-index _ _ _ c.loop-note.invariant c.loop-note-test.true c.path_of.ensures c.in_err-path.was)

pub loop-note-preserved : goal.loop-note-preserved
loop-note-preserved g c = telling_more _ _ _ _ _ _ c.loop-note.note-index _ _ _ c.loop-note.invariant c.loop-note-test.true c.path_of.ensures c.in_ok-path.was c.push.ensures
