use Rattle.sub_files.proofs.FilesGone.{dropped, undone}
use Rattle.sub_files.proofs.record_files.drop_file.Goals as goal

pub returns-in-Ok-clause-drops : goal.returns-in-Ok-clause-drops
returns-in-Ok-clause-drops g c = dropped c.remove-removed.result (c.close-closed.ensures.written c.requires.writes) c.requires.named c.remove-removed.ensures.removed c.remove-removed.ensures.kept

pub returns-in-Ok-clause-gone : goal.returns-in-Ok-clause-gone
returns-in-Ok-clause-gone g c = undone _ _ c.remove-removed.result (c.close-closed.ensures.written c.requires.writes) c.remove-removed.ensures.removed
