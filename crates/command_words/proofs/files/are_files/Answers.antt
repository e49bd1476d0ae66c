use Rattle.std.proofs.Common.{refl, arith}
use Rattle.command_words.proofs.FormParts.{files_all}
use Rattle.command_words.proofs.files.are_files.Goals as goal

pub returns : goal.returns
returns c = (λ is. files_all c.args.words.now (λ k d low inside. c.loop-at.invariant k d low (omega (arith, inside, c.loop-at-test.false, c.len-at-end.ensures))), λ files. refl)
