use Rattle.std.proofs.Common.{◌≡◌, OnOk, sym, ap, ◌∙◌, subst}
use Rattle.odb_tree.specs.Noting.{all_noted}
use Rattle.odb_tree.proofs.Noted.{none_noted}
use Rattle.odb_text.specs.declared.acts.Act.{Act}
use Rattle.odb_text.specs.TextSteps.{changes_of_act}
use Rattle.odb_text.proofs.loading.do_act.Goals as goal

pub returns-in-Skip-clause-noted : goal.returns-in-Skip-clause-noted
returns-in-Skip-clause-noted g c =
    let s = g.D.Database.rows c.args.database.now in
    let slots = g.D.Database.watches c.args.database.now in
    sym (none_noted slots) ∙ ap (λ (act : Act). all_noted (changes_of_act s act) slots) (sym c.in-Skip.is)

pub returns-in-Write-clause-noted : goal.returns-in-Write-clause-noted
returns-in-Write-clause-noted g c =
    let s = g.D.Database.rows c.args.database.now in
    let slots = g.D.Database.watches c.args.database.now in
    subst (λ (act : Act). OnOk c.write_key.result (g.D.Database.watches c.write_key.new.database ≡ all_noted (changes_of_act s act) slots)) (sym c.in-Write.is) c.write_key.ensures.noted
