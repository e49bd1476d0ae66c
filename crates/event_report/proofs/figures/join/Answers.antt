use Rattle.std.proofs.Common.{◌≡◌, ◌+ℤ◌, refl, arith, rules, to_z, of_z}
use Rattle.std.specs.Prelude.{FitsSigned}
use Rattle.std.specs.Int.{int_min, int_max, w128}
use Rattle.std.proofs.lemmas.Int.{ints, to_z-of_z}
use Rattle.event_report.specs.declared.rows.Figures.{Figures}
use Rattle.event_report.proofs.Sums.{figures_same}
use Rattle.event_report.proofs.figures.join.Goals as goal

pub returns-clause-joined : goal.returns-clause-joined
returns-clause-joined c =
    let a : Figures = c.args.first.now in
    let b : Figures = c.args.second.now in
    let low : FitsSigned w128 c.min.result = search rules in
    let high : FitsSigned w128 c.max.result = search rules in
    let sum : to_z w128 (of_z w128 (to_z w128 (of_z w128 a.sum) +ℤ to_z w128 (of_z w128 b.sum))) ≡ a.sum +ℤ b.sum = omega (arith, ints, c.requires.first.low, c.requires.first.high, c.requires.second.low, c.requires.second.high, c.requires.fits) in
    let least : to_z w128 (of_z w128 c.min.result) ≡ int_min a.least b.least = grind (arith, to_z-of_z, c.min.ensures.value) in
    let greatest : to_z w128 (of_z w128 c.max.result) ≡ int_max a.greatest b.greatest = grind (arith, to_z-of_z, c.max.ensures.value) in
    figures_same _ _ refl sum least greatest
