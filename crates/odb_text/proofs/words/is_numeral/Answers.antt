use Rattle.std.proofs.Common.{◌≡◌, true, false, IsTrue, sym, ◌∙◌}
use Rattle.std.specs.Str.Parse.{IsNumeral}
use Rattle.odb_text.proofs.Splitting.{digit_at, digits_next, numeral_test}
use Rattle.odb_text.proofs.words.is_numeral.Goals as goal

pub returns-then-not-is_digit : goal.returns-then-not-is_digit
returns-then-not-is_digit c = (
  λ (yes : IsTrue false). absurd (let k : false ≡ true = yes in cc),
  λ (n : IsNumeral 10 c.args.text.now). sym c.if-not-is_digit.true ∙ c.is_digit.ensures.1 (digit_at c.args.text.now c.loop-byte.byte-index 0 c.loop-byte-test.true n.1),
)

pub returns : goal.returns
returns c = numeral_test c.args.text.now c.loop-byte.byte-index c.is_empty.result c.loop-byte-test.false c.loop-byte.invariant c.is_empty.ensures

pub loop-byte-preserved : goal.loop-byte-preserved
loop-byte-preserved c = digits_next c.args.text.now c.loop-byte.byte-index 0 c.loop-byte-test.true c.loop-byte.invariant (c.is_digit.ensures.0 c.if-not-is_digit.false)
