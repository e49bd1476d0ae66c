use Rattle.std.proofs.Common.{◌≡◌, ◌+◌, ◌<◌, List, length, length-append, true, ap, sym, ◌∙◌, arith, rules}
use Rattle.transitions.specs.declared.called.Called.{Called}
use Rattle.transitions.specs.EngineCalls.{stands_with, without}
use Rattle.transitions.proofs.Stands.{with_stands, without_less}
use Rattle.transitions.proofs.engine.Engine.poll.Goals as goal

pub invariant_of-self : goal.invariant_of-self
invariant_of-self g c =
    let kept = c.self.invariant in
    let i = c.self.inside in
    let next : stands_with c.find_group-sequence.result i.called.items c.args.client ≡ true =
    sym (c.if-not-stands_with.ensures ∙ ap (λ (cs : List Called). stands_with c.find_group-sequence.result cs c.args.client) c.as_slice-5.ensures.value) in
    let left : length c.take_out.new.called.items ≡ length (without c.args.client i.called.items) = ap length c.take_out.ensures.left in
    let less : length (without c.args.client i.called.items) < length i.called.items = without_less c.args.client i.called.items (with_stands c.find_group-sequence.result i.called.items c.args.client next) in
    let more : length c.push_reserved.new.self.items ≡ length i.polled.items + 1 = ap length c.push_reserved.ensures.items ∙ length-append i.polled.items _ in
    record {
      clients_fit = kept.clients_fit;
      called_fit = c.take_out.ensures.room;
      polled_fit = record {
        counted = c.push_reserved.new.self.ok.0;
        fits = omega (arith, left, less, more, kept.open_fit, c.push_reserved.new.self.ok.0);
        room = omega (arith, c.push_reserved.ensures.capacity, kept.polled_fit.room);
      };
      open_fit = omega (arith, left, less, more, kept.open_fit);
      tallies_fit = λ now e.
          let before = kept.tallies_fit now e in
          omega (arith, left, less, more, before);
      allowed = λ now e none some. kept.allowed now e none (omega (arith, less));
      short = search rules;
      blank = search rules;
    }
