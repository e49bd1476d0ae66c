use Rattle.std.proofs.Common.{◌≡◌, ℕ, Some, None, ap, sym, subst, ◌∙◌, arith}
use Rattle.std.specs.Prelude.{Ok}
use Rattle.odb_script.specs.Lines.{Reading}
use Rattle.console.specs.declared.going.Going.TheVariants as going
use Rattle.console.specs.Halts.{SinkBy}
use Rattle.console.proofs.PlayingEnds.{halted_at, stopped_at, goes_next, ends_next, left_next}
use Rattle.console.proofs.playing.play_on.Goals as goal

pub returns-in-Err-clause-did : goal.returns-in-Err-clause-did
returns-in-Err-clause-did g c = λ first source_first told_first has.
    halted_at _ _ g.A.Answerer.withdraws g.A.Answerer.leaves c.in-Err.halt _ first source_first _ told_first _ _ _ _ _ _ _ _ (c.loop-line.invariant.has first source_first told_first has) c.in-Err.ensures.did

pub returns-in-Ok-Opens-clause-did : goal.returns-in-Ok-Opens-clause-did
returns-in-Ok-Opens-clause-did g c = λ first source_first told_first has.
    let opens = c.in-Ok-Opens.field-0-is in
    let given : c.handle.result ≡ Ok going.Opens = c.in-Ok-Opens.is ∙ ap Ok opens in
    left_next _ _ g.A.Answerer.withdraws g.A.Answerer.leaves _ _ first source_first _ told_first _ _ _ _ _ _ _ _ _ _ (c.loop-line.invariant.has first source_first told_first has)
    (rw given at c.handle.ensures.did) c.handle.ensures.reader c.handle.ensures.last (rw given at c.handle.ensures.number)

pub returns-in-Ok-End-clause-did : goal.returns-in-Ok-End-clause-did
returns-in-Ok-End-clause-did g c = λ first source_first told_first has.
    let ends = c.in-Ok-End.field-0-is in
    let given : c.handle.result ≡ Ok going.End = c.in-Ok-End.is ∙ ap Ok ends in
    stopped_at _ _ g.A.Answerer.withdraws g.A.Answerer.leaves _ first source_first _ told_first _ _ _ _ _ _ _ _ (c.loop-line.invariant.has first source_first told_first has)
    (rw given at c.handle.ensures.did)

pub returns-in-Some-clause-did : goal.returns-in-Some-clause-did
returns-in-Some-clause-did g c = λ first source_first told_first has.
    let on = c.in-Ok-On.field-0-is in
    let given : c.handle.result ≡ Ok going.On = c.in-Ok-On.is ∙ ap Ok on in
    ends_next _ _ g.A.Answerer.withdraws g.A.Answerer.leaves c.in-Some.ending _ _ first source_first _ _ told_first _ _ _ _ _ _ _ _ _ _ _ (c.loop-line.invariant.has first source_first told_first has)
    (rw given at c.handle.ensures.did) c.handle.ensures.reader c.in-Some.ensures.read c.next_line.ensures.refusals

pub loop-line-preserved : goal.loop-line-preserved
loop-line-preserved g c =
    let on = c.in-Ok-On.field-0-is in
    let given : c.handle.result ≡ Ok going.On = c.in-Ok-On.is ∙ ap Ok on in
    let number = rw given at c.handle.ensures.number in
    record {
      has = λ first source_first told_first has.
          goes_next _ _ g.A.Answerer.withdraws g.A.Answerer.leaves _ _ first source_first _ _ told_first _ _ _ _ _ _ _ _ _ _ _ _ _ (c.loop-line.invariant.has first source_first told_first has)
          (rw given at c.handle.ensures.did) c.handle.ensures.reader number c.in-None.ensures.read c.next_line.ensures.number c.next_line.ensures.refusals;
      fits = c.in-None.ensures.fits;
      count = omega (arith, c.loop-line.invariant.count, number, c.next_line.ensures.number);
      stays = g.met.A.Answerer.stays_on _ _ _ c.loop-line.invariant.stays c.handle.ensures.stays;
      source = c.in-None.ensures.faults ∙ c.loop-line.invariant.source;
      sink = (rw given at c.handle.ensures.sink.done) ∙ c.loop-line.invariant.sink;
    }

pub returns-in-Err-clause-stays : goal.returns-in-Err-clause-stays
returns-in-Err-clause-stays g c = g.met.A.Answerer.stays_on _ _ _ c.loop-line.invariant.stays c.handle.ensures.stays

pub returns-in-Ok-Opens-clause-stays : goal.returns-in-Ok-Opens-clause-stays
returns-in-Ok-Opens-clause-stays g c = g.met.A.Answerer.stays_on _ _ _ c.loop-line.invariant.stays c.handle.ensures.stays

pub returns-in-Ok-End-clause-stays : goal.returns-in-Ok-End-clause-stays
returns-in-Ok-End-clause-stays g c = g.met.A.Answerer.stays_on _ _ _ c.loop-line.invariant.stays c.handle.ensures.stays

pub returns-in-Some-clause-stays : goal.returns-in-Some-clause-stays
returns-in-Some-clause-stays g c = g.met.A.Answerer.stays_on _ _ _ c.loop-line.invariant.stays c.handle.ensures.stays

pub returns-in-Err-clause-ends : goal.returns-in-Err-clause-ends
returns-in-Err-clause-ends g c =
    let now = (g.O.Sink.told c.handle.new.out).faults in
    record {
      fits = tt;
      left = tt;
      source_counts = c.loop-line.invariant.source;
      sink_counts = subst (λ (n : ℕ). SinkBy c.in-Err.halt n now) c.loop-line.invariant.sink c.in-Err.ensures.sink.halted;
    }

pub returns-in-Ok-Opens-clause-ends : goal.returns-in-Ok-Opens-clause-ends
returns-in-Ok-Opens-clause-ends g c =
    let opens = c.in-Ok-Opens.field-0-is in
    let given : c.handle.result ≡ Ok going.Opens = c.in-Ok-Opens.is ∙ ap Ok opens in
    let number = rw given at c.handle.ensures.number in
    record {
      fits = omega (arith, c.loop-line.invariant.fits, number, ap (λ (r : Reading). r.taken) c.handle.ensures.reader);
      left = (_, (rw given at c.handle.ensures.did).left);
      source_counts = c.loop-line.invariant.source;
      sink_counts = (rw given at c.handle.ensures.sink.done) ∙ c.loop-line.invariant.sink;
    }
