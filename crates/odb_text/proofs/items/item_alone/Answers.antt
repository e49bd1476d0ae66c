use Rattle.std.proofs.Common.{ℕ, List, IsOk, sym, ◌∙◌, subst}
use Rattle.std.proofs.lemmas.Result.{on_err_weaker}
use Rattle.odb_value.specs.ItemTexts.{item_read}
use Rattle.odb_text.proofs.KeyLines.{alone_number}
use Rattle.odb_text.proofs.items.item_alone.Goals as goal

pub returns-clause-memory : goal.returns-clause-memory
returns-clause-memory c =
    on_err_weaker c.sized.result
    (λ (spelled : IsOk (item_read c.args.tid c.behind_blank-2.result.now)).
    alone_number c.args.tid c.args.text.now (sym c.is_string.ensures ∙ c.if-is_string.false)
    (subst (λ (text : List ℕ). IsOk (item_read c.args.tid text)) c.behind_blank-2.ensures spelled))
    c.sized.ensures.memory
