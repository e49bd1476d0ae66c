use Rattle.std.proofs.Common.{sym, subst}
use Rattle.odb_script.specs.NextWords.{IsNextWord}
use Rattle.odb_script.proofs.WordLaws.{quoted_open, quoted_closes}
use Rattle.odb_script.proofs.words.quoted_word.Goals as goal

pub returns-in-None : goal.returns-in-None
returns-in-None c =
    quoted_open c.args.at c.args.bytes.now c.split_part.result.0.now c.split_part.result.1.now c.split_part.ensures.whole c.split_part.ensures.front c.in-None.ensures.cases

pub returns-in-Some : goal.returns-in-Some
returns-in-Some c =
    subst (λ ws. IsNextWord c.closed_word.result.0 ws c.closed_word.result.1)
    (sym (quoted_closes c.args.at c.args.bytes.now c.split_part.result.0.now c.split_part.result.1.now c.in-Some.field-0-0.now c.in-Some.behind.now
    c.split_part.ensures.whole c.split_part.ensures.front c.split_part.ensures.behind c.in-Some.ensures.cases.0))
    c.closed_word.ensures
