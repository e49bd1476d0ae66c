use Rattle.std.proofs.Common.{◌≤◌, length, arith}
use Rattle.event_builder.proofs.Readiness.{new_ready}
use Rattle.event_builder.proofs.builder.Builder.new.Goals as goal

pub invariant_of-result : goal.invariant_of-result
invariant_of-result c =
    let some : 2 ≤ length c.args.spec.fronts = omega (arith, c.len-count.ensures.len, c.len-count.ensures.some) in
    let few : length c.args.spec.fronts ≤ 8 = omega (arith, c.len-count.ensures.len, c.len-count.ensures.few) in
    new_ready c.args.spec.id c.args.spec.limit c.args.spec.room c.args.spec.fronts c.in_ok-inputs.inputs c.in_ok-body.body c.in_ok-inputs.ensures c.in_ok-body.ensures some few c.requires.id_some c.requires.id_free c.requires.least c.requires.most
