use Rattle.session_laws.proofs.MarksEnd.{marks_end}
use Rattle.session_laws.proofs.laws.marks_end.Goals as goal

pub returns : goal.returns
returns c = marks_end (record {
  gives = c.gives_turns.ensures;
  once = c.gives_once.ensures;
  senders = c.ends_runs.ensures.senders;
  paused = c.keeps_pauses.ensures.pauses;
  resumed = c.keeps_pauses.ensures.resumes;
  kept = c.keeps_pauses.ensures.kept;
  keep = c.members_keep.ensures;
})
