use Rattle.std.proofs.Common.{refl, ◌∙◌}
use Rattle.turn_lock.specs.Passes.{found_by}
use Rattle.turn_lock.proofs.LockLaws.{prefix_self, prefix_through}
use Rattle.turn_lock.proofs.lock.Turns.take_when_free.Goals as goal

pub loop-init : goal.loop-init
loop-init g c = record {
  own = c.requires.own;
  number = refl;
  seen = refl;
  idle = c.requires.idle;
  found = prefix_self (found_by c.args.pass.now);
}

pub loop-preserved : goal.loop-preserved
loop-preserved g c = record {
  own = c.spin.ensures.own;
  number = c.spin.ensures.number ∙ c.loop.invariant.number;
  seen = c.spin.ensures.seen ∙ c.loop.invariant.seen;
  idle = c.in_default.ensures.idle;
  found = prefix_through (found_by c.args.pass.now) (found_by c.loop.pass) (found_by c.spin.new.pass) c.loop.invariant.found c.spin.ensures.found;
}

pub returns-in-Some-spin-clause-found : goal.returns-in-Some-spin-clause-found
returns-in-Some-spin-clause-found g c = prefix_through (found_by c.args.pass.now) (found_by c.loop.pass) (found_by c.spin.new.pass) c.loop.invariant.found c.spin.ensures.found
