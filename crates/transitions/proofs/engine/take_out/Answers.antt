use Rattle.std.proofs.Common.{eqb, not, arith, rules, tests}
use Rattle.std.proofs.lemmas.Fn.{filter_same}
use Rattle.transitions.specs.declared.called.Called.{Called}
use Rattle.transitions.proofs.engine.take_out.Goals as goal

pub returns-clause-left : goal.returns-clause-left
returns-clause-left c =
    filter_same _ (λ (x : Called). not (eqb x.client c.args.client)) _ (λ x b q k. search (rules, tests)) c.args.called.now.items c.retain.new.self.items c.retain.ensures.filtered

pub returns-clause-room : goal.returns-clause-room
returns-clause-room c = record {
  counted = c.retain.new.self.ok.0;
  fits = omega (arith, c.retain.ensures.bound, c.requires.room.fits);
  room = omega (arith, c.retain.ensures.capacity, c.requires.room.room);
}
