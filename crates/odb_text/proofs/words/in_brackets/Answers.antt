use Rattle.std.proofs.Common.{◌≡◌, ◌++◌, ◌∷◌, List, ℕ}
use Rattle.odb_text.specs.LineForms.{HasNo}
use Rattle.odb_text.proofs.Splitting.{if_none, not_begun}
use Rattle.odb_text.proofs.words.in_brackets.Goals as goal

pub returns-clause-none : goal.returns-clause-none
returns-clause-none c =
    if_none c.split_once.result
    (λ (no : HasNo 93 c.in_ok-first.inside.now) (inside rest : List ℕ) (h : HasNo 93 inside) (e : c.args.line.now ≡ 91 ∷ (inside ++ 93 ∷ rest)).
    not_begun c.args.line.now inside c.in_ok-first.inside.now c.in_ok-first.first.now rest c.in_ok-first.ensures.cases.0 no e)
    c.split_once.ensures.none
