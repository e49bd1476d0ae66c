use Rattle.odb_commands.proofs.WatchMade.{ends_cut, not_begun, cut_notes, notes_taken}
use Rattle.odb_commands.proofs.watches.notes.Goals as goal

pub returns-in_err-notes : goal.returns-in_err-notes
returns-in_err-notes g c = ends_cut _ _ _ _ c.from_residual.ensures.0 (not_begun _ _ (cut_notes c.args.watch))

pub returns-in_err-told : goal.returns-in_err-told
returns-in_err-told g c = ends_cut _ _ _ _ c.from_residual-in_err-told.ensures.0 (not_begun _ _ (cut_notes c.args.watch))

pub returns : goal.returns
returns g c = notes_taken _ _ _ _ _ _ _ _ c.notes-taken.ensures.called c.as_slice.ensures c.tell_taken.ensures
