use Rattle.std.proofs.Common.{◌≡◌, ◌+◌, ◌<◌, length, length-append, ap, true, ◌∙◌, arith}
use Rattle.transitions.specs.Engines.{EngineState}
use Rattle.transitions.specs.EngineCalls.{owes_answer, stands_in, without}
use Rattle.transitions.specs.EngineInside.{underway_of}
use Rattle.transitions.proofs.Stands.{without_less}
use Rattle.transitions.proofs.EngineKept.{owes_stands, tally_fits}
use Rattle.transitions.proofs.engine.Engine.tell.Goals as goal

pub push-requires : goal.push-requires
push-requires g c =
    let kept = c.self.invariant in
    let i = c.self.inside in
    let owes : owes_answer (underway_of i.stage i.dump i.blanks i.called.items i.polled.items i.tallies) c.args.client ≡ true =
    ap (λ (s : EngineState _). owes_answer s.underway c.args.client) c.self.view_is ∙ c.requires in
    (omega arith, tally_fits i.stage i.dump i.blanks i.called.items i.polled.items i.tallies c.args.client owes kept.tallies_fit)

pub invariant_of-self : goal.invariant_of-self
invariant_of-self g c =
    let kept = c.self.invariant in
    let i = c.self.inside in
    let owes : owes_answer (underway_of i.stage i.dump i.blanks i.called.items i.polled.items i.tallies) c.args.client ≡ true =
    ap (λ (s : EngineState _). owes_answer s.underway c.args.client) c.self.view_is ∙ c.requires in
    let stands : stands_in i.polled.items c.args.client ≡ true = owes_stands i.stage i.dump i.blanks i.called.items i.polled.items i.tallies c.args.client owes in
    let left : length c.take_out.new.called.items ≡ length (without c.args.client i.polled.items) = ap length c.take_out.ensures.left in
    let less : length (without c.args.client i.polled.items) < length i.polled.items = without_less c.args.client i.polled.items stands in
    record {
      clients_fit = kept.clients_fit;
      called_fit = kept.called_fit;
      polled_fit = c.take_out.ensures.room;
      open_fit = omega (arith, left, less, kept.open_fit);
      tallies_fit = λ now e.
          let before = kept.tallies_fit now e in
          let count : length c.push.new.self ≡ length i.tallies + 1 = ap length c.push.ensures ∙ length-append i.tallies _ in
          omega (arith, left, less, before, count);
      allowed = λ now e none more. kept.allowed now e none (omega (arith, left, less, more));
      short = kept.short;
      blank = kept.blank;
    }
