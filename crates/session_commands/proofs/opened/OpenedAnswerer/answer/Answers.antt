use Rattle.std.proofs.Common.{refl, ap, ◌∙◌, inl, inr}
use Rattle.std.specs.Prelude.{Ok}
use Rattle.std.proofs.Math.Logic.{⊎_elim}
use Rattle.std.proofs.lemmas.Result.{IfOk-weaker, on_err_weaker}
use Rattle.odb_script.specs.declared.commands.Command.TheVariants.{Run}
use Rattle.session_runs.specs.declared.replies.RunReply.TheVariants as answer
use Rattle.session_commands.proofs.LineKinds.{called_line, cut_called}
use Rattle.session_commands.proofs.OpenedLaws.{command_stays, cut_runs, either, pause_line, resume_line, start_cut, start_line, stop_cut, stop_line}
use Rattle.session_commands.proofs.opened.OpenedAnswerer.answer.Goals as goal

pub returns-in-Run-Start-clause-did : goal.returns-in-Run-Start-clause-did
returns-in-Run-Start-clause-did g c =
    IfOk-weaker c.answer_start.result _ _ (λ reply a.
    start_line _ _ _ _ _ _ _ c.args.number c.args.line (c.in-Ok.is ∙ ap Ok (c.in-Run-Start.is ∙ ap Run (rw c.in-Run-Start.is at c.in-Run-Start.command-is))) reply a.0
    (c.members_passed_over.ensures.start a.0 _ _ _ _ a.1) a.2 (c.commands_keep.ensures.start a.0 _ _ _ _ a.1).quota)
    c.answer_start.ensures.did

pub returns-in-Run-Start-clause-broke : goal.returns-in-Run-Start-clause-broke
returns-in-Run-Start-clause-broke g c =
    on_err_weaker c.answer_start.result (λ cut.
    start_cut _ _ _ _ _ _ _ c.args.number c.args.line (c.in-Ok.is ∙ ap Ok (c.in-Run-Start.is ∙ ap Run (rw c.in-Run-Start.is at c.in-Run-Start.command-is)))
    (c.members_passed_over.ensures.cut _ _ _ _ cut) (cut_runs _ _ _ _ cut))
    c.answer_start.ensures.cut

pub returns-in-Run-Start-clause-stays : goal.returns-in-Run-Start-clause-stays
returns-in-Run-Start-clause-stays g c =
    command_stays g.M.Rounds.round _ _ _ _ c.begin_line.ensures.rounds.0 c.begin_line.ensures.rounds.2
    (either c.answer_start.result _ _ _ (λ reply a. c.commands_keep.ensures.start a.0 _ _ _ _ a.1) (λ cut. c.commands_keep.ensures.cut _ _ _ _ cut) c.answer_start.ensures.did c.answer_start.ensures.cut)

pub returns-in-Run-Stop-clause-did : goal.returns-in-Run-Stop-clause-did
returns-in-Run-Stop-clause-did g c =
    IfOk-weaker c.answer_stop.result _ _ (λ reply a.
    stop_line _ _ _ _ _ _ _ c.args.number c.args.line (c.in-Ok.is ∙ ap Ok (c.in-Run-Stop.is ∙ ap Run (rw c.in-Run-Stop.is at c.in-Run-Stop.command-is))) reply a.0
    (c.members_passed_over.ensures.stop a.0 _ _ _ _ a.1) a.2 (c.commands_keep.ensures.stop a.0 _ _ _ _ a.1).quota)
    c.answer_stop.ensures.did

pub returns-in-Run-Stop-clause-broke : goal.returns-in-Run-Stop-clause-broke
returns-in-Run-Stop-clause-broke g c =
    on_err_weaker c.answer_stop.result (λ cut.
    stop_cut _ _ _ _ _ _ _ c.args.number c.args.line (c.in-Ok.is ∙ ap Ok (c.in-Run-Stop.is ∙ ap Run (rw c.in-Run-Stop.is at c.in-Run-Stop.command-is)))
    (⊎_elim (λ stopped. inl (stopped.0, c.members_passed_over.ensures.stop (answer.Stopped stopped.0) _ _ _ _ stopped.1)) (λ unsaved. inr (c.members_passed_over.ensures.unsaved _ _ _ _ unsaved)) cut)
    (⊎_elim (λ stopped. (c.commands_keep.ensures.stop (answer.Stopped stopped.0) _ _ _ _ stopped.1).quota) (λ unsaved. (c.commands_keep.ensures.unsaved _ _ _ _ unsaved).quota) cut))
    c.answer_stop.ensures.cut

pub returns-in-Run-Stop-clause-stays : goal.returns-in-Run-Stop-clause-stays
returns-in-Run-Stop-clause-stays g c =
    command_stays g.M.Rounds.round _ _ _ _ c.begin_line.ensures.rounds.0 c.begin_line.ensures.rounds.2
    (either c.answer_stop.result _ _ _ (λ reply a. c.commands_keep.ensures.stop a.0 _ _ _ _ a.1)
    (λ cut. ⊎_elim (λ stopped. c.commands_keep.ensures.stop (answer.Stopped stopped.0) _ _ _ _ stopped.1) (λ unsaved. c.commands_keep.ensures.unsaved _ _ _ _ unsaved) cut)
    c.answer_stop.ensures.did c.answer_stop.ensures.cut)

pub returns-in-Run-Pause-clause-did : goal.returns-in-Run-Pause-clause-did
returns-in-Run-Pause-clause-did g c =
    let a = c.answer_pause.ensures in
    pause_line _ _ _ _ _ _ c.args.number c.args.line (c.in-Ok.is ∙ ap Ok (c.in-Run-Pause.is ∙ ap Run (rw c.in-Run-Pause.is at c.in-Run-Pause.command-is))) _ a.0
    (c.members_passed_over.ensures.pause a.0 _ _ a.1) a.2 (c.commands_keep.ensures.pause a.0 _ _ a.1).quota

pub returns-in-Run-Pause-clause-stays : goal.returns-in-Run-Pause-clause-stays
returns-in-Run-Pause-clause-stays g c =
    let a = c.answer_pause.ensures in
    command_stays g.M.Rounds.round _ _ _ _ c.begin_line.ensures.rounds.0 c.begin_line.ensures.rounds.2 (c.commands_keep.ensures.pause a.0 _ _ a.1)

pub returns-in-Run-Resume-clause-did : goal.returns-in-Run-Resume-clause-did
returns-in-Run-Resume-clause-did g c =
    let a = c.answer_resume.ensures in
    resume_line _ _ _ _ _ _ c.args.number c.args.line (c.in-Ok.is ∙ ap Ok (c.in-Run-Resume.is ∙ ap Run (rw c.in-Run-Resume.is at c.in-Run-Resume.command-is))) _ a.0
    (c.members_passed_over.ensures.resume a.0 _ _ a.1) a.2 (c.commands_keep.ensures.resume a.0 _ _ a.1).quota

pub returns-in-Run-Resume-clause-stays : goal.returns-in-Run-Resume-clause-stays
returns-in-Run-Resume-clause-stays g c =
    let a = c.answer_resume.ensures in
    command_stays g.M.Rounds.round _ _ _ _ c.begin_line.ensures.rounds.0 c.begin_line.ensures.rounds.2 (c.commands_keep.ensures.resume a.0 _ _ a.1)

pub returns-in-Database-clause-did : goal.returns-in-Database-clause-did
returns-in-Database-clause-did g c =
    IfOk-weaker c.answer.result _ _ (λ reply does. called_line c.args.number c.args.line c.in-Database.command _ reply _ (c.in-Ok.is ∙ ap Ok c.in-Database.is) does refl) c.answer.ensures.did

pub returns-in-Database-clause-broke : goal.returns-in-Database-clause-broke
returns-in-Database-clause-broke g c =
    on_err_weaker c.answer.result (λ broke. cut_called c.args.number c.args.line c.in-Database.command _ _ (c.in-Ok.is ∙ ap Ok c.in-Database.is) broke refl) c.answer.ensures.broke
