use Rattle.std.proofs.Common.{sym}
use Rattle.odb_arena.proofs.Words.{four_words}
use Rattle.odb_arena.proofs.folded.same_bytes.Goals as goal

pub returns : goal.returns
returns c =
    rw (c.word.ensures, c.word-2.ensures, c.word-3.ensures, c.word-4.ensures, c.word-5.ensures, c.word-6.ensures, c.word-7.ensures, c.word-8.ensures)
    (sym (four_words c.args.own.now c.args.others.now c.requires.own c.requires.others (λ i. (c.type_inv.own i).fits) (λ i. (c.type_inv.others i).fits)))
