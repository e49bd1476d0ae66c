use Rattle.std.proofs.Common.{◌≡◌, List, ℕ, true, false, sym, subst, ◌∙◌}
use Rattle.std.specs.Str.Parse.{IsNumeral}
use Rattle.odb_text.specs.LineForms.{IsBracketed}
use Rattle.odb_text.proofs.Splitting.{if_any, digits_no, bracketed_once}
use Rattle.odb_text.proofs.words.bracketed.Goals as goal

pub returns-in_err-digits-clause-none : goal.returns-in_err-digits-clause-none
returns-in_err-digits-clause-none c =
    if_any c.from_residual.result (λ (digits rest : List ℕ) (b : IsBracketed c.args.line.now digits rest). c.in_err-digits.ensures.none digits rest (digits_no digits b.numeral.1) b.spelled)

pub returns-then-not-is_numeral-clause-none : goal.returns-then-not-is_numeral-clause-none
returns-then-not-is_numeral-clause-none c = λ (digits rest : List ℕ) (b : IsBracketed c.args.line.now digits rest).
    let same = bracketed_once c.args.line.now c.in_ok-digits.digits.now c.in_ok-digits.rest.now digits rest c.in_ok-digits.ensures.some c.in_ok-digits.ensures.first b in
    let wrong : false ≡ true = sym c.if-not-is_numeral.true ∙ c.is_numeral.ensures.1 (subst (IsNumeral 10) (sym same.0) b.numeral) in
    absurd (cc)
