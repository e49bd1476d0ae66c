use Rattle.session_runs.proofs.Fits.{answered_start, answered_stop, stopped_fits, answered_pause, answered_resume}
use Rattle.session_runs.proofs.laws.commands_fit.Goals as goal
use Rattle.std.specs.Prelude.{Err}

pub returns-clause-start : goal.returns-clause-start
returns-clause-start g c = answered_start g.M.Rounds.round c.entries_add_up.ensures.own

pub returns-clause-stop : goal.returns-clause-stop
returns-clause-stop g c = answered_stop g.M.Rounds.round c.entries_add_up.ensures.own

pub returns-clause-unsaved : goal.returns-clause-unsaved
returns-clause-unsaved g c = λ before after old new does. stopped_fits g.M.Rounds.round c.entries_add_up.ensures.own does.0 (Err (record {})) before after old new does.1

pub returns-clause-pause : goal.returns-clause-pause
returns-clause-pause g c = answered_pause g.M.Rounds.round c.entries_add_up.ensures.own

pub returns-clause-resume : goal.returns-clause-resume
returns-clause-resume g c = answered_resume g.M.Rounds.round c.entries_add_up.ensures.own
