use Rattle.std.proofs.Common.{◌∙◌, ap, List, [], ◌∷◌, ◌++◌}
use Rattle.std.specs.Prelude.{replicate}
use Rattle.std.proofs.lemmas.List.{replicate_more}
use Rattle.odb_value.specs.declared.items.Item.{Item}
use Rattle.odb_value.specs.ValueChanges.{default_item}
use Rattle.odb_value.proofs.values.new_items.Goals as goal

pub loop-i-preserved : goal.loop-i-preserved
loop-i-preserved c =
    let item = default_item c.args.tid in
    c.in_ok-push.ensures.items ∙ ap (λ (items : List Item). items ++ c.new_item.result ∷ []) c.loop-i.invariant
    ∙ ap (λ (new : Item). replicate c.loop-i.i item ++ new ∷ []) c.new_item.ensures ∙ replicate_more c.loop-i.i item
