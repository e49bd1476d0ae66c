use Rattle.std.proofs.Common.{◌∙◌, rules}
use Rattle.event.proofs.Gathering.{more_gathered}
use Rattle.event.proofs.pieces.read_full.Goals as goal

pub loop-done-preserved : goal.loop-done-preserved
loop-done-preserved g c = record {
  within = search rules;
  consumed = more_gathered _ _ _ c.loop-done.into c.split_at_mut-rest.result.0.now c.read.new.into c.loop-done.done c.in_ok-count.count
      c.split_at_mut-rest.ensures.front (search rules) c.loop-done.invariant.consumed c.in_ok-count.ensures.bytes.0;
  same = search rules;
  faults = c.in_ok-count.ensures.faults.done ∙ c.loop-done.invariant.faults;
  origin = search rules;
}
