use Rattle.std.proofs.Common.{◌≡◌, length, refl, ◌∙◌, arith}
use Rattle.loggers.proofs.InTurns.{turn_more}
use Rattle.loggers.proofs.marks.pause_all.Goals as goal

pub loop-buffer-init : goal.loop-buffer-init
loop-buffer-init g c = record { marks = λ slots files. refl; count = refl }

pub pause_at-requires : goal.pause_at-requires
pause_at-requires g c = record { within = omega (arith, c.loop-buffer-test.true, c.len-buffer-end.ensures, c.loop-buffer.invariant.count) }

pub loop-buffer-preserved : goal.loop-buffer-preserved
loop-buffer-preserved g c = record {
  marks = λ slots files. turn_more _ c.loop-buffer.buffer _ _ _ (c.loop-buffer.invariant.marks slots files) (c.pause_at.ensures.pauses slots files);
  count = c.pause_at.ensures.count ∙ c.loop-buffer.invariant.count;
}

pub returns-clause-pauses : goal.returns-clause-pauses
returns-clause-pauses g c =
    let end : c.loop-buffer.buffer ≡ length c.args.ports.now = omega (arith, c.loop-buffer-test.false, c.len-buffer-end.ensures) in
    rw (← end) c.loop-buffer.invariant.marks

pub returns-clause-count : goal.returns-clause-count
returns-clause-count g c = c.loop-buffer.invariant.count
