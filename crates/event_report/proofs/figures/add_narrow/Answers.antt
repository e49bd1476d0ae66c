use Rattle.std.proofs.Common.{◌≡◌, ◌+ℤ◌, pos, refl, arith, rules, to_z, of_z}
use Rattle.std.specs.Prelude.{FitsSigned}
use Rattle.std.specs.Int.{int_min, int_max, w64, w128}
use Rattle.std.proofs.lemmas.Int.{ints, to_z-of_z}
use Rattle.event_report.proofs.Sums.{figures_same}
use Rattle.event_report.proofs.figures.add_narrow.Goals as goal

pub returns-clause-joined : goal.returns-clause-joined
returns-clause-joined c =
    let a = c.args.figures.now in
    let low : FitsSigned w64 c.min.result = search rules in
    let high : FitsSigned w64 c.max.result = search rules in
    let sum : to_z w128 (of_z w128 (to_z w128 (of_z w128 a.sum) +ℤ to_z w128 (of_z w128 (to_z w64 (of_z w64 c.args.item))))) ≡ a.sum +ℤ (pos 0 +ℤ c.args.item) =
    omega (arith, ints, c.requires.within.low, c.requires.within.high, c.requires.fits) in
    let least : to_z w64 (of_z w64 c.min.result) ≡ int_min a.least c.args.item = grind (arith, to_z-of_z, c.min.ensures.value) in
    let greatest : to_z w64 (of_z w64 c.max.result) ≡ int_max a.greatest c.args.item = grind (arith, to_z-of_z, c.max.ensures.value) in
    figures_same _ _ refl sum least greatest
