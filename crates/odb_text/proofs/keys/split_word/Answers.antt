use Rattle.std.proofs.Common.{◌≡◌, length, sym, ◌∙◌, subst, true, rules}
use Rattle.std.specs.List.{AllByRecursion}
use Rattle.std.proofs.lemmas.List.{take_all, drop_all}
use Rattle.odb_text.specs.LineForms.{is_of_word}
use Rattle.odb_text.proofs.KeyLines.{front_all, behind_all, front_at, behind_at}
use Rattle.odb_text.proofs.keys.split_word.Goals as goal

pub returns-then-not-is_of_word-clause-word : goal.returns-then-not-is_of_word-clause-word
returns-then-not-is_of_word-clause-word c =
    c.split_at.ensures.front ∙ sym (front_at c.args.text.now c.loop-place.place 0 c.loop-place-test.true c.loop-place.invariant (sym c.is_of_word.ensures ∙ c.if-not-is_of_word.true))

pub returns-then-not-is_of_word-clause-rest : goal.returns-then-not-is_of_word-clause-rest
returns-then-not-is_of_word-clause-rest c =
    c.split_at.ensures.back ∙ sym (behind_at c.args.text.now c.loop-place.place 0 c.loop-place-test.true c.loop-place.invariant (sym c.is_of_word.ensures ∙ c.if-not-is_of_word.true))

pub returns-clause-word : goal.returns-clause-word
returns-clause-word c =
    let all = subst (AllByRecursion (λ b. is_of_word b ≡ true)) (take_all c.loop-place.place c.args.text.now c.loop-place-test.false) c.loop-place.invariant in
    c.split_at-2.ensures.front ∙ take_all (length c.args.text.now) c.args.text.now (search rules) ∙ sym (front_all c.args.text.now all)

pub returns-clause-rest : goal.returns-clause-rest
returns-clause-rest c =
    let all = subst (AllByRecursion (λ b. is_of_word b ≡ true)) (take_all c.loop-place.place c.args.text.now c.loop-place-test.false) c.loop-place.invariant in
    c.split_at-2.ensures.back ∙ drop_all (length c.args.text.now) c.args.text.now (search rules) ∙ sym (behind_all c.args.text.now all)
