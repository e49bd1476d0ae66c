use Rattle.std.proofs.Common.{◌≡◌, ℕ, List, drop, ap, ◌∙◌, sym, subst, [], ◌∷◌, ℤ, to_z, of_z, arith, rules}
use Rattle.std.specs.Prelude.{FitsSigned}
use Rattle.std.specs.Int.{w128}
use Rattle.std.proofs.lemmas.Int.{to_z-of_z}
use Rattle.event_report.specs.declared.rows.Figures.{Figures}
use Rattle.event_report.specs.Held.{FiguresWithin}
use Rattle.event_report.specs.Integers.{first_item}
use Rattle.event_report.specs.Tallies.{figures_of}
use Rattle.event_report.proofs.Sums.{size_some, summed_first, summed_more, summed_all}
use Rattle.event_report.proofs.figures.read_wide.Goals as goal

pub loop-left-init : goal.loop-left-init
loop-left-init c =
    let body : List ℕ = c.args.body.now in
    let size = c.size-size.ensures in
    let fits : FitsSigned w128 c.first_item.result = search rules in
    let item : to_z w128 (of_z w128 c.first_item.result) ≡ first_item c.args.kind body = grind (arith, to_z-of_z, c.first_item.ensures.item) in
    summed_first c.args.kind body c.split_at.result.1.now c.figures_of_one-figures.result (omega arith)
    (c.split_at.ensures.back ∙ ap (λ (n : ℕ). drop n body) size)
    (c.figures_of_one-figures.ensures.figures ∙ ap (λ (x : ℤ). figures_of (x ∷ [])) item)
    c.figures_of_one-figures.ensures.within

pub loop-left-smaller : goal.loop-left-smaller
loop-left-smaller c =
    omega (arith, size_some c.args.kind, c.size-size.ensures, c.split_at-in-loop-left.ensures.back_len)

pub loop-left-preserved : goal.loop-left-preserved
loop-left-preserved c =
    let left : List ℕ = c.loop-left.left.now in
    let size = c.size-size.ensures in
    let fits : FitsSigned w128 c.first_item-in-loop-left.result = search rules in
    let item : to_z w128 (of_z w128 c.first_item-in-loop-left.result) ≡ first_item c.args.kind left = grind (arith, to_z-of_z, c.first_item-in-loop-left.ensures.item) in
    summed_more c.args.kind c.args.body.now left c.split_at-in-loop-left.result.1.now c.loop-left.figures c.figures_of_one-item.result c.join-figures.result (omega arith)
    (c.split_at-in-loop-left.ensures.back ∙ ap (λ (n : ℕ). drop n left) size)
    (c.figures_of_one-item.ensures.figures ∙ ap (λ (x : ℤ). figures_of (x ∷ [])) item)
    c.join-figures.ensures.joined
    (subst (λ (n : ℕ). FiguresWithin n c.join-figures.result) (sym (ap (λ (f : Figures). f.count) c.join-figures.ensures.joined)) c.join-figures.ensures.within)
    c.loop-left.invariant

pub returns-clause-figures : goal.returns-clause-figures
returns-clause-figures c =
    let size = c.size-size.ensures in
    summed_all c.args.kind c.args.body.now c.loop-left.left.now c.loop-left.figures (omega arith) (omega arith) c.loop-left.invariant
