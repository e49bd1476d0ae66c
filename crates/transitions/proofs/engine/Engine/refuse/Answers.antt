use Rattle.std.proofs.Common.{◌≡◌, ◌≤◌, length, ap, refl, arith}
use Rattle.transitions.specs.EngineCalls.{without}
use Rattle.transitions.specs.EngineInside.{most_at}
use Rattle.transitions.proofs.Stands.{without_within}
use Rattle.transitions.proofs.EngineKept.{never_unrefused, most_in}
use Rattle.transitions.proofs.engine.Engine.refuse.Goals as goal

pub invariant_of-self : goal.invariant_of-self
invariant_of-self g c =
    let kept = c.self.invariant in
    let i = c.self.inside in
    let left : length c.take_out.new.called.items ≡ length (without c.args.client i.polled.items) = ap length c.take_out.ensures.left in
    let within : length (without c.args.client i.polled.items) ≤ length i.polled.items = without_within c.args.client i.polled.items in
    let none : length c.clear.new.self.items ≡ 0 = ap length c.clear.ensures.items in
    record {
      clients_fit = kept.clients_fit;
      called_fit = record {
        counted = c.clear.new.self.ok.0;
        fits = omega (arith, c.clear.ensures.len);
        room = omega (arith, c.clear.ensures.capacity, kept.called_fit.room);
      };
      polled_fit = c.take_out.ensures.room;
      open_fit = omega (arith, left, within, none, kept.open_fit);
      tallies_fit = λ now e.
          let at : most_at c.in-Some.stage ≡ most_at now = ap most_in e in
          let before = kept.tallies_fit c.in-Some.stage c.in-Some.is in
          omega (arith, left, within, none, at, before);
      allowed = λ now e unrefused more. absurd (never_unrefused _ now c.keep_first.result e refl unrefused);
      short = kept.short;
      blank = kept.blank;
    }
