use Rattle.std.proofs.Common.{◌≡◌, ℕ, ◌+◌, List, ◌++◌, take, get_or, ap, sym, ◌∙◌, append_assoc, arith}
use Rattle.odb_value.specs.declared.items.Item.{Item}
use Rattle.odb_value.specs.KeyTexts.{item_line, item_lines}
use Rattle.odb_value.proofs.KeyLines.{item_lines-next}
use Rattle.odb_value.proofs.key_texts.add_item_lines.Goals as goal

pub loop-index-preserved : goal.loop-index-preserved
loop-index-preserved c =
    let size = c.args.size in
    let items = c.args.items.now in
    let index = c.loop-index.index in
    let item = c.index-items-index.result in
    let is : item ≡ get_or items index item = c.index-items-index.is in
    let next : item_lines size 0 (take (index + 1) items) ≡ item_lines size 0 (take index items) ++ item_line size index item =
    item_lines-next size items index item (omega arith) ∙ ap (λ (x : Item). item_lines size 0 (take index items) ++ item_line size index x) (sym is)
    in
    c.in_ok-add_item_line.ensures
    ∙ ap (λ (text : List ℕ). text ++ item_line size index item) c.loop-index.invariant
    ∙ append_assoc c.args.text.now (item_lines size 0 (take index items)) (item_line size index item)
    ∙ ap (λ (text : List ℕ). c.args.text.now ++ text) (sym next)
