use Rattle.std.proofs.Common.{◌∙◌, sym, ap, subst, List, ℕ}
use Rattle.std.specs.Prelude.{Contains}
use Rattle.turn_lock.specs.Roster.{numbers_below}
use Rattle.session_objects.proofs.RosterLaws.{below_all}
use Rattle.session_objects.proofs.opening.open_engine.Goals as goal

pub take_main-main-requires : goal.take_main-main-requires
take_main-main-requires c = let P : List ℕ → Type 0 = λ ns. Contains ns 0 in
    subst P (sym c.in_ok-engine.ensures.numbers) (below_all c.args.callers 0 c.requires.some)

pub returns-clause-passes : goal.returns-clause-passes
returns-clause-passes c =
    let made = c.in_ok-engine.ensures in
    c.take_main-main.ensures.left _ made.own made.fresh (made.numbers ∙ ap numbers_below (sym made.count))

pub returns-clause-own : goal.returns-clause-own
returns-clause-own c = c.take_main-main.ensures.own _ c.in_ok-engine.ensures.own
