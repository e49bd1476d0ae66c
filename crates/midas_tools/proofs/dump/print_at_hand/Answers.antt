use Rattle.std.proofs.Common.{◌∙◌, ℕ, List, Err, Ok, subst, arith}
use Rattle.std.proofs.lemmas.Result.{err_from_is_err_and}
use Rattle.event.specs.Headers.{event_of}
use Rattle.midas_tools.specs.Areas.{PassesLines, AreEventLines}
use Rattle.midas_tools.proofs.Dumping.{one_more, one_cut, stepped_on}
use Rattle.midas_tools.proofs.dump.print_at_hand.Goals as goal

pub loop-header-preserved : goal.loop-header-preserved
loop-header-preserved g c = record {
  printing = λ first told_first before.
      one_more first (g.S.Source.told c.pass_event.new.self.source).left c.pass_event.new.self.progress told_first (g.O.Sink.told c.loop-header.out).written (g.O.Sink.told c.print_event-printed.new.out).written c.loop-header.page c.print_event-printed.new.page tt c.in_ok-printed.field-0 _
      (stepped_on _ _ _ _ _ _ _ _ _ _ (c.loop-header.invariant.printing first told_first before) c.in-Some.ensures.whole c.pass_event.ensures.reads c.pass_event.ensures.begun)
      (subst (λ (b : List ℕ). PassesLines (AreEventLines (event_of c.in-Some.header b)) (g.O.Sink.told c.loop-header.out).written (g.O.Sink.told c.print_event-printed.new.out).written c.loop-header.page c.print_event-printed.new.page (Ok c.in_ok-printed.field-0)) c.in-Some.ensures.data c.in_ok-printed.ensures.passes)
      c.pass_event.ensures.fault c.pass_event.ensures.end;
  origin = c.pass_event.ensures.origin ∙ c.loop-header.invariant.origin;
  source = c.pass_event.ensures.faults ∙ c.loop-header.invariant.source;
  sink = c.in_ok-printed.ensures.faults.done ∙ c.loop-header.invariant.sink;
  onward = omega (arith, c.pass_event.ensures.onward, c.loop-header.invariant.onward);
}

pub returns-in_err-printed-clause-prints : goal.returns-in_err-printed-clause-prints
returns-in_err-printed-clause-prints g c = λ first told_first before.
    let p = err_from_is_err_and c.from_residual.result c.from_residual.ensures.1 in
    rw p.1 (one_cut first (g.S.Source.told c.pass_event.new.self.source).left c.pass_event.new.self.progress told_first (g.O.Sink.told c.loop-header.out).written (g.O.Sink.told c.print_event-printed.new.out).written c.loop-header.page c.print_event-printed.new.page tt c.in_err-printed.field-0.0 _
    (stepped_on _ _ _ _ _ _ _ _ _ _ (c.loop-header.invariant.printing first told_first before) c.in-Some.ensures.whole c.pass_event.ensures.reads c.pass_event.ensures.begun)
    (subst (λ (b : List ℕ). PassesLines (AreEventLines (event_of c.in-Some.header b)) (g.O.Sink.told c.loop-header.out).written (g.O.Sink.told c.print_event-printed.new.out).written c.loop-header.page c.print_event-printed.new.page (Err c.in_err-printed.field-0.0)) c.in-Some.ensures.data c.in_err-printed.ensures.passes))
