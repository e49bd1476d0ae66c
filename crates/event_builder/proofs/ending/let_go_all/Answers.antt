use Rattle.std.proofs.Common.{◌<◌, List, length, ap, ◌∙◌, arith}
use Rattle.std.proofs.lemmas.List.{length-set}
use Rattle.std.proofs.lemmas.List.Edits.{map_over_more}
use Rattle.event_builder.specs.declared.inputs.BuilderInput.{BuilderInput}
use Rattle.event_builder.specs.Inputs.{let_go}
use Rattle.event_builder.proofs.InputLists.{read_there}
use Rattle.event_builder.proofs.ending.let_go_all.Goals as goal

pub loop-number-preserved : goal.loop-number-preserved
loop-number-preserved c =
    let within : c.loop-number.number < length c.args.inputs.now = omega (arith, c.loop-number-test.true, c.len-number-end.ensures) in
    let x : BuilderInput = c.let_go_at.ensures.0 in
    record {
      so_far = c.let_go_at.ensures.2 ∙ map_over_more let_go c.args.inputs.now c.loop-number.inputs c.loop-number.number x within c.loop-number.invariant.so_far (read_there c.loop-number.inputs c.loop-number.number x c.let_go_at.ensures.1);
      many = ap (λ (l : List BuilderInput). length l) c.let_go_at.ensures.2 ∙ (length-set c.loop-number.inputs c.loop-number.number (let_go x) ∙ c.loop-number.invariant.many);
    }
