use Rattle.std.proofs.Common.{refl, ap, ◌∙◌}
use Rattle.std.specs.Prelude.{Ok}
use Rattle.std.proofs.lemmas.Result.{IfOk-weaker, on_err_weaker}
use Rattle.session_commands.proofs.LineKinds.{called_line, cut_called}
use Rattle.session_commands.proofs.unopened.UnopenedAnswerer.answer.Goals as goal

pub returns-in-Database-clause-did : goal.returns-in-Database-clause-did
returns-in-Database-clause-did g c =
    IfOk-weaker c.answer.result _ _ (λ reply does. called_line c.args.number c.args.line c.in-Database.command _ reply _ (c.in-Ok.is ∙ ap Ok c.in-Database.is) does refl) c.answer.ensures.did

pub returns-in-Database-clause-broke : goal.returns-in-Database-clause-broke
returns-in-Database-clause-broke g c =
    on_err_weaker c.answer.result (λ broke. cut_called c.args.number c.args.line c.in-Database.command _ _ (c.in-Ok.is ∙ ap Ok c.in-Database.is) broke refl) c.answer.ensures.broke
