use Rattle.std.proofs.Common.{◌≡◌, refl, ◌∙◌, arith}
use Rattle.loggers.proofs.InTurns.{turn_more}
use Rattle.loggers.proofs.ReadySteps.{ends_ready, files_with}
use Rattle.loggers.proofs.marks.end_first.Goals as goal

pub loop-buffer-init : goal.loop-buffer-init
loop-buffer-init g c = record { ends = λ files. refl; ready = λ seen ready. ready; count = refl }

pub end_at-requires : goal.end_at-requires
end_at-requires g c = record { within = omega (arith, c.loop-buffer-test.true, c.requires.within, c.loop-buffer.invariant.count) }

pub loop-buffer-preserved : goal.loop-buffer-preserved
loop-buffer-preserved g c = record {
  ends = λ files. turn_more _ c.loop-buffer.buffer _ _ _ (c.loop-buffer.invariant.ends files) (c.end_at.ensures.ends files);
  ready = λ seen ready. ends_ready _ _ _ _ (c.end_at.ensures.ends (files_with seen)) (c.loop-buffer.invariant.ready seen ready);
  count = c.end_at.ensures.count ∙ c.loop-buffer.invariant.count;
}

pub returns-clause-ends : goal.returns-clause-ends
returns-clause-ends g c =
    let end : c.loop-buffer.buffer ≡ c.args.count = omega (arith, c.loop-buffer-test.false) in
    rw (← end) c.loop-buffer.invariant.ends

pub returns-clause-ready : goal.returns-clause-ready
returns-clause-ready g c = c.loop-buffer.invariant.ready

pub returns-clause-count : goal.returns-clause-count
returns-clause-count g c = c.loop-buffer.invariant.count
