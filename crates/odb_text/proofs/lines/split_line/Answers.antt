use Rattle.std.proofs.Common.{◌≡◌, ℕ, ◌<◌, ◌==◌, false, List, [], ◌∷◌, length, sym, ap, ◌∙◌, arith}
use Rattle.std.specs.Str.Lines.{lines}
use Rattle.std.proofs.lemmas.Bool.Decides.{nat_tests}
use Rattle.std.proofs.lemmas.List.{take_all, drop_all}
use Rattle.odb_text.proofs.Texts.{first_line, last_line}
use Rattle.odb_text.proofs.lines.split_line.Goals as goal

pub returns-in-None-clause-some : goal.returns-in-None-clause-some
returns-in-None-clause-some c =
    let some : (length c.args.text.now == 0) ≡ false = sym c.is_empty.ensures ∙ c.if-is_empty.false in
    let k : 0 < length c.args.text.now = grind (arith, nat_tests, some) in
    let whole : c.split_at.result.0.now ≡ c.args.text.now = c.split_at.ensures.front ∙ take_all (length c.args.text.now) c.args.text.now (omega arith) in
    let left : c.split_at.result.1.now ≡ [] = c.split_at.ensures.back ∙ drop_all (length c.args.text.now) c.args.text.now (omega arith) in
    last_line c.args.text.now k c.in-None.ensures.none ∙ ap (λ (l : List ℕ). l ∷ []) (sym whole) ∙ ap (λ (l : List ℕ). c.split_at.result.0.now ∷ lines l) (sym left)

pub returns-in-Some-clause-some : goal.returns-in-Some-clause-some
returns-in-Some-clause-some c =
    first_line c.args.text.now c.in-Some.line.now c.in-Some.rest.now c.in-Some.ensures.some c.in-Some.ensures.first
    ∙ ap (λ (l : List ℕ). l ∷ lines c.in-Some.rest.now) (sym c.without_return.ensures)
