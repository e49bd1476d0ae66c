use Rattle.loggers.proofs.FilesLeft.{FileChanges, turns_leave_files, pulls_leave_files, finishes_leave_files}
use Rattle.loggers.proofs.laws.other_files.Goals as goal

pub returns : goal.returns
returns c =
    let laws : FileChanges = record {
      opens = c.opens_kept.ensures.change;
      aborts = c.aborts_kept.ensures.change;
      pulls = c.pulls_kept.ensures.change;
      closes = c.closes_kept.ensures.change;
    } in
    record { turns = turns_leave_files laws; pulls = pulls_leave_files laws; finishes = finishes_leave_files laws }
