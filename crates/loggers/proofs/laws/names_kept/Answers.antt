use Rattle.loggers.proofs.FilesLeft.{FileChanges}
use Rattle.loggers.proofs.NamesKept.{turns_keep_names, pulls_keep_names, finishes_keep_names, standing_has_started, standing_has_stopped, pulls_keep_stopped}
use Rattle.loggers.proofs.laws.names_kept.Goals as goal

pub returns : goal.returns
returns c =
    let laws : FileChanges = record {
      opens = c.opens_kept.ensures.change;
      aborts = c.aborts_kept.ensures.change;
      pulls = c.pulls_kept.ensures.change;
      closes = c.closes_kept.ensures.change;
    } in
    record {
      turns = turns_keep_names laws;
      pulls = pulls_keep_names laws;
      finishes = finishes_keep_names laws;
      started = standing_has_started;
      stopped = standing_has_stopped;
      still_stopped = pulls_keep_stopped laws;
    }
