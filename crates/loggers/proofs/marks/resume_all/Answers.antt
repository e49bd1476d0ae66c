use Rattle.std.proofs.Common.{◌≡◌, length, refl, ◌∙◌, arith}
use Rattle.loggers.proofs.InTurns.{turn_more}
use Rattle.loggers.proofs.marks.resume_all.Goals as goal

pub loop-buffer-init : goal.loop-buffer-init
loop-buffer-init g c = record { marks = λ slots files. refl; count = refl }

pub resume_at-requires : goal.resume_at-requires
resume_at-requires g c = record { within = omega (arith, c.loop-buffer-test.true, c.len-buffer-end.ensures, c.loop-buffer.invariant.count) }

pub loop-buffer-preserved : goal.loop-buffer-preserved
loop-buffer-preserved g c = record {
  marks = λ slots files. turn_more _ c.loop-buffer.buffer _ _ _ (c.loop-buffer.invariant.marks slots files) (c.resume_at.ensures.resumes slots files);
  count = c.resume_at.ensures.count ∙ c.loop-buffer.invariant.count;
}

pub returns-clause-resumes : goal.returns-clause-resumes
returns-clause-resumes g c =
    let end : c.loop-buffer.buffer ≡ length c.args.ports.now = omega (arith, c.loop-buffer-test.false, c.len-buffer-end.ensures) in
    rw (← end) c.loop-buffer.invariant.marks

pub returns-clause-count : goal.returns-clause-count
returns-clause-count g c = c.loop-buffer.invariant.count
