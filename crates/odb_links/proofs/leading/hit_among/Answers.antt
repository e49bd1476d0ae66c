use Rattle.std.proofs.Common.{ℕ, List, ◌+◌, ◌∙◌, sym, ap, refl, get_or, arith}
use Rattle.std.specs.Option.{option_copied, option_map}
use Rattle.odb_tree.specs.Links.{Met}
use Rattle.odb_links.specs.Seen.{link_numbered}
use Rattle.odb_links.specs.Places.{hit_at}
use Rattle.odb_links.proofs.Following.{hit_here, hit_passed, behind}
use Rattle.odb_links.proofs.leading.hit_among.Goals as goal

pub returns-in-Some-clause-first : goal.returns-in-Some-clause-first
returns-in-Some-clause-first c =
    hit_here c.args.links.now c.args.last c.args.numbers.now c.args.names.now c.loop-i.i (get_or c.args.numbers.now c.loop-i.i 0) c.in-Some.target.now c.loop-i-test.true c.requires.within refl c.loop-i.invariant
    (sym (ap option_copied c.in-Some.is) ∙ (c.target_met.ensures
    ∙ ap (λ (rest : List (List ℕ)). option_map (λ (m : Met). m.target) (hit_at c.args.last rest (link_numbered c.args.links.now (get_or c.args.numbers.now c.loop-i.i 0)))) (behind c.args.names.now (c.loop-i.i + 1) (omega (arith, c.loop-i-test.true, c.requires.within)))))

pub loop-i-preserved : goal.loop-i-preserved
loop-i-preserved c =
    hit_passed c.args.links.now c.args.last c.args.numbers.now c.args.names.now c.loop-i.i (get_or c.args.numbers.now c.loop-i.i 0) c.loop-i-test.true c.requires.within refl c.loop-i.invariant
    (sym (ap option_copied c.in_default.is) ∙ (c.target_met.ensures
    ∙ ap (λ (rest : List (List ℕ)). option_map (λ (m : Met). m.target) (hit_at c.args.last rest (link_numbered c.args.links.now (get_or c.args.numbers.now c.loop-i.i 0)))) (behind c.args.names.now (c.loop-i.i + 1) (omega (arith, c.loop-i-test.true, c.requires.within)))))
