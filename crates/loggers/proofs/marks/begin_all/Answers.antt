use Rattle.std.proofs.Common.{◌≡◌, length, map, refl, ◌∙◌, arith}
use Rattle.std.proofs.lemmas.List.{length-map}
use Rattle.loggers.proofs.InTurns.{turn_more}
use Rattle.loggers.proofs.ReadySteps.{begins_ready, refuses_ready, files_with}
use Rattle.loggers.proofs.marks.begin_all.Goals as goal

pub loop-buffer-init : goal.loop-buffer-init
loop-buffer-init g c = record { begins = λ files. refl; ready = λ seen ready. ready; count = refl }

pub begin_at-requires : goal.begin_at-requires
begin_at-requires g c = record { within = omega (arith, c.loop-buffer-test.true, c.len-buffer-end.ensures, c.loop-buffer.invariant.count) }

pub loop-buffer-preserved : goal.loop-buffer-preserved
loop-buffer-preserved g c = record {
  begins = λ files. turn_more _ c.loop-buffer.buffer _ _ _ (c.loop-buffer.invariant.begins files) (c.in-Ok.ensures.begins files);
  ready = λ seen ready. begins_ready _ _ _ _ (c.in-Ok.ensures.begins (files_with seen)) (c.loop-buffer.invariant.ready seen ready);
  count = c.begin_at.ensures.count ∙ c.loop-buffer.invariant.count;
}

pub returns-in-Err-clause-refuses : goal.returns-in-Err-clause-refuses
returns-in-Err-clause-refuses g c = λ files. record {
  begun = record { slots = c.loop-buffer.slots; ports = map g.P.BufferPort.access c.loop-buffer.ports; files = files };
  within = omega (arith, c.loop-buffer-test.true, c.len-buffer-end.ensures, length-map c.args.ports.now g.P.BufferPort.access);
  begins = c.loop-buffer.invariant.begins files;
  refuses = c.in-Err.ensures.refuses files;
}

pub returns-in-Err-clause-ready : goal.returns-in-Err-clause-ready
returns-in-Err-clause-ready g c = λ seen ready. refuses_ready _ _ _ _ (c.in-Err.ensures.refuses (files_with seen)) (c.loop-buffer.invariant.ready seen ready)

pub returns-clause-begins : goal.returns-clause-begins
returns-clause-begins g c =
    let end : c.loop-buffer.buffer ≡ length c.args.ports.now = omega (arith, c.loop-buffer-test.false, c.len-buffer-end.ensures) in
    rw (← end) c.loop-buffer.invariant.begins

pub returns-clause-ready : goal.returns-clause-ready
returns-clause-ready g c = c.loop-buffer.invariant.ready

pub returns-clause-count : goal.returns-clause-count
returns-clause-count g c = c.loop-buffer.invariant.count
