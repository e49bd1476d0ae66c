use Rattle.session_commands.proofs.CommandsKept.{start_kept, cut_kept, stops_kept, unsaved_kept, pause_kept, resume_kept}
use Rattle.session_commands.proofs.command_laws.commands_keep.Goals as goal

pub returns-clause-start : goal.returns-clause-start
returns-clause-start g c = start_kept g.M.Rounds.round

pub returns-clause-cut : goal.returns-clause-cut
returns-clause-cut g c = cut_kept g.M.Rounds.round

pub returns-clause-stop : goal.returns-clause-stop
returns-clause-stop g c = stops_kept g.M.Rounds.round

pub returns-clause-unsaved : goal.returns-clause-unsaved
returns-clause-unsaved g c = unsaved_kept g.M.Rounds.round

pub returns-clause-pause : goal.returns-clause-pause
returns-clause-pause g c = pause_kept g.M.Rounds.round

pub returns-clause-resume : goal.returns-clause-resume
returns-clause-resume g c = resume_kept g.M.Rounds.round
