use Rattle.std.proofs.Common.{sym, subst}
use Rattle.odb_script.specs.NextWords.{IsNextWord}
use Rattle.odb_script.proofs.WordLaws.{first_ended, first_quoted, first_plain}
use Rattle.odb_script.proofs.words.first_word.Goals as goal

pub returns-in-None : goal.returns-in-None
returns-in-None c =
    first_ended c.args.at c.args.bytes.now c.split_part.result.0.now c.split_part.result.1.now c.split_part.ensures.whole c.split_part.ensures.front c.in-None.ensures.cases

pub returns-then-byte-eq34 : goal.returns-then-byte-eq34
returns-then-byte-eq34 c =
    subst (λ ws. IsNextWord c.quoted_word.result.0 ws c.quoted_word.result.1)
    (sym (first_quoted c.args.at c.args.bytes.now c.split_part.result.0.now c.split_part.result.1.now c.in-Some.byte.now c.in-Some.behind.now
    c.split_part.ensures.whole c.split_part.ensures.front c.in-Some.ensures.cases.0 c.if-byte-eq34.true))
    c.quoted_word.ensures

pub returns-else-byte-eq34 : goal.returns-else-byte-eq34
returns-else-byte-eq34 c =
    subst (λ ws. IsNextWord c.plain_word.result.0 ws c.plain_word.result.1)
    (sym (first_plain c.args.at c.args.bytes.now c.split_part.result.0.now c.split_part.result.1.now c.in-Some.byte.now c.in-Some.behind.now
    c.split_part.ensures.whole c.split_part.ensures.front c.split_part.ensures.behind c.in-Some.ensures.cases.0 c.if-byte-eq34.false))
    c.plain_word.ensures
