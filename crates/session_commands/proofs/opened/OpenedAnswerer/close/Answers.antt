use Rattle.std.proofs.Common.{ap, sym, ◌∙◌, inl, inr}
use Rattle.std.specs.Prelude.{is_some, not}
use Rattle.std.proofs.Math.Logic.{⊎_elim}
use Rattle.session_runs.specs.declared.replies.RunReply.TheVariants as answer
use Rattle.session_commands.proofs.OpenedLaws.{on_err, some_on, stop_broken, stop_command}
use Rattle.session_commands.proofs.opened.OpenedAnswerer.close.Goals as goal

pub returns-clause-closed : goal.returns-clause-closed
returns-clause-closed g c =
    let run = some_on c.args.self.now.runs.on (ap is_some (sym c.on.ensures.on) ∙ (c.is_none.ensures ∙ ap not c.if-is_none.false)) in
    let a = c.in_ok-reply.ensures.did in
    ((run.0, run.1), stop_command _ _ _ _ _ _ _ c.in_ok-reply.reply a.0 (c.members_passed_over.ensures.stop a.0 _ _ _ _ a.1) a.2 (c.commands_keep.ensures.stop a.0 _ _ _ _ a.1).quota)

pub returns-in_err-reply-clause-gave_up : goal.returns-in_err-reply-clause-gave_up
returns-in_err-reply-clause-gave_up g c =
    let run = some_on c.args.self.now.runs.on (ap is_some (sym c.on.ensures.on) ∙ (c.is_none.ensures ∙ ap not c.if-is_none.false)) in
    let cut = c.in_err-reply.ensures.cut in
    on_err c.from_residual.result _ (
      (run.0, run.1),
      stop_broken _ _ _ _ _ _ _
          (⊎_elim (λ stopped. inl (stopped.0, c.members_passed_over.ensures.stop (answer.Stopped stopped.0) _ _ _ _ stopped.1)) (λ unsaved. inr (c.members_passed_over.ensures.unsaved _ _ _ _ unsaved)) cut)
          (⊎_elim (λ stopped. (c.commands_keep.ensures.stop (answer.Stopped stopped.0) _ _ _ _ stopped.1).quota) (λ unsaved. (c.commands_keep.ensures.unsaved _ _ _ _ unsaved).quota) cut),
    )
