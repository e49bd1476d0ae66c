use Rattle.std.proofs.Common.{sym, ◌∙◌, ◌+◌, [], length, subst}
use Rattle.odb_script.specs.LineWords.{between, inside, words_from}
use Rattle.odb_script.specs.NextWords.{IsNextWord}
use Rattle.odb_script.proofs.WordLaws.{plain_ends, plain_broken}
use Rattle.odb_script.proofs.words.plain_word.Goals as goal

pub returns-then-ends_word : goal.returns-then-ends_word
returns-then-ends_word c =
    let text = c.split_part.result.0.now in
    let rest = c.split_part.result.1.now in
    subst (λ w. IsNextWord w (words_from (inside c.args.at []) c.args.at c.args.bytes.now) (words_from between (c.args.at + length text) rest)) (sym c.word.ensures)
    (plain_ends c.args.at c.args.bytes.now text rest c.split_part.ensures.whole c.split_part.ensures.front (sym c.ends_word.ensures ∙ c.if-ends_word.true))

pub returns-else-ends_word : goal.returns-else-ends_word
returns-else-ends_word c =
    plain_broken c.args.at c.args.bytes.now c.split_part.result.0.now c.split_part.result.1.now c.split_part.ensures.whole c.split_part.ensures.front c.split_part.ensures.behind
    (sym c.ends_word.ensures ∙ c.if-ends_word.false)
