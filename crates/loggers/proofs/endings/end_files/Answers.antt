use Rattle.std.proofs.Common.{◌≡◌, length, refl, ◌∙◌, arith}
use Rattle.loggers.proofs.InTurns.{turn_more}
use Rattle.loggers.proofs.endings.end_files.Goals as goal

pub loop-number-init : goal.loop-number-init
loop-number-init g c = record { ends = refl; files = c.requires.files; many = refl }

pub end_file_at-requires-clause-number : goal.end_file_at-requires-clause-number
end_file_at-requires-clause-number g c = omega (arith, c.loop-number-test.true, c.len-number-end.ensures, c.requires.many)

pub loop-number-preserved : goal.loop-number-preserved
loop-number-preserved g c = record {
  ends = turn_more _ c.loop-number.number _ _ _ c.loop-number.invariant.ends c.end_file_at.ensures.ends;
  files = c.end_file_at.ensures.files;
  many = c.end_file_at.ensures.many ∙ c.loop-number.invariant.many;
}

pub returns-clause-ends : goal.returns-clause-ends
returns-clause-ends g c =
    let end : c.loop-number.number ≡ length c.args.slots.now = omega (arith, c.loop-number-test.false, c.len-number-end.ensures) in
    rw (← end) c.loop-number.invariant.ends
