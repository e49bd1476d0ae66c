use Rattle.std.proofs.Common.{◌≡◌, ℕ, Bool, List, Ok, IsOk, sym, subst, ap, ◌∙◌}
use Rattle.std.proofs.lemmas.Result.{on_err_weaker}
use Rattle.odb_value.specs.declared.items.Item.{Item}
use Rattle.odb_value.specs.ItemTexts.{item_read}
use Rattle.odb_text.specs.LineForms.{behind_blank}
use Rattle.odb_text.specs.ItemLines.{is_string, IsFrontNumber}
use Rattle.odb_text.proofs.KeyLines.{no_item, if_ok_none, some_item}
use Rattle.odb_text.proofs.items.item_line.Goals as goal

pub returns-in-None-front_number-clause-none : goal.returns-in-None-front_number-clause-none
returns-in-None-front_number-clause-none c =
    no_item c.args.tid c.args.index c.args.line.now c.in-Some.digits.now c.in-Some.rest.now c.in-Some.ensures.some
    (λ (size : ℕ) (item : Item) (n : IsFrontNumber (is_string c.args.tid) c.args.index c.in-Some.digits.now size) (e : item_read c.args.tid (behind_blank c.in-Some.rest.now) ≡ Ok item).
    c.in-None-front_number.ensures.none size (subst (λ (b : Bool). IsFrontNumber b c.args.index c.in-Some.digits.now size) (sym c.is_string.ensures) n))

pub returns-in-Some-front_number-clause-none : goal.returns-in-Some-front_number-clause-none
returns-in-Some-front_number-clause-none c =
    if_ok_none c.sized.result
    (λ (never : (item : Item) → item_read c.args.tid c.behind_blank.result.now ≡ Ok item → ⊥).
    no_item c.args.tid c.args.index c.args.line.now c.in-Some.digits.now c.in-Some.rest.now c.in-Some.ensures.some
    (λ (size : ℕ) (item : Item) (n : IsFrontNumber (is_string c.args.tid) c.args.index c.in-Some.digits.now size) (e : item_read c.args.tid (behind_blank c.in-Some.rest.now) ≡ Ok item).
    never item (ap (item_read c.args.tid) c.behind_blank.ensures ∙ e)))
    c.sized.ensures.none

pub returns-in-Some-front_number-clause-memory : goal.returns-in-Some-front_number-clause-memory
returns-in-Some-front_number-clause-memory c =
    let front = c.in-Some-front_number.ensures.some in
    on_err_weaker c.sized.result
    (λ (spelled : IsOk (item_read c.args.tid c.behind_blank.result.now)).
    some_item c.args.tid c.args.index c.args.line.now c.in-Some.digits.now c.in-Some.rest.now front.0 c.in-Some.ensures.some
    (subst (λ (b : Bool). IsFrontNumber b c.args.index c.in-Some.digits.now front.0) c.is_string.ensures front.1.0)
    (subst (λ (text : List ℕ). IsOk (item_read c.args.tid text)) c.behind_blank.ensures spelled))
    c.sized.ensures.memory
