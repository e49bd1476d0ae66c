use Rattle.std.proofs.Common.{ℕ, ◌*◌, sym, ap, ◌∙◌, arith}
use Rattle.std.proofs.lemmas.Int.Digits.{digits_value_more}
use Rattle.daq_text.proofs.Steps.{digits_value-past}
use Rattle.daq_text.proofs.numbers.value_of.Goals as goal

pub returns-in_err-front-clause-value : goal.returns-in_err-front-clause-value
returns-in_err-front-clause-value c =
    c.from_residual.ensures
    ∙ sym (digits_value-past c.args.most c.args.base c.args.digits.now c.loop-byte.byte-index (omega arith) c.requires c.loop-byte-test.true
    (omega (arith, c.in_err-front.ensures, ap (λ (v : ℕ). v * c.args.base) c.loop-byte.invariant.0)))

pub returns-in_err-value-clause-value : goal.returns-in_err-value-clause-value
returns-in_err-value-clause-value c =
    c.from_residual-in_err-value.ensures
    ∙ sym (digits_value-past c.args.most c.args.base c.args.digits.now c.loop-byte.byte-index (omega arith) c.requires c.loop-byte-test.true
    (omega (arith, c.in_err-value.ensures, c.in_ok-front.ensures.1, c.digit_of.ensures, ap (λ (v : ℕ). v * c.args.base) c.loop-byte.invariant.0)))

pub loop-byte-preserved : goal.loop-byte-preserved
loop-byte-preserved c = (
  omega (
    arith,
    c.in_ok-value.ensures.1,
    c.in_ok-front.ensures.1,
    c.digit_of.ensures,
    ap (λ (v : ℕ). v * c.args.base) c.loop-byte.invariant.0,
    digits_value_more c.args.base c.args.digits.now c.loop-byte.byte-index c.loop-byte-test.true,
  ),
  omega (arith, c.in_ok-value.ensures.0, c.in_ok-value.ensures.1),
)
