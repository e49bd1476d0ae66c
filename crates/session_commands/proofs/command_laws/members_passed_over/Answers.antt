use Rattle.session_commands.proofs.PassedOverLaws.{start_over, cut_over, stops_over, unsaved_over, pause_over, resume_over}
use Rattle.session_commands.proofs.command_laws.members_passed_over.Goals as goal

pub returns-clause-start : goal.returns-clause-start
returns-clause-start g c = start_over g.M.Rounds.round

pub returns-clause-cut : goal.returns-clause-cut
returns-clause-cut g c = cut_over

pub returns-clause-stop : goal.returns-clause-stop
returns-clause-stop g c = stops_over g.M.Rounds.round

pub returns-clause-unsaved : goal.returns-clause-unsaved
returns-clause-unsaved g c = unsaved_over g.M.Rounds.round

pub returns-clause-pause : goal.returns-clause-pause
returns-clause-pause g c = pause_over g.M.Rounds.round

pub returns-clause-resume : goal.returns-clause-resume
returns-clause-resume g c = resume_over g.M.Rounds.round
