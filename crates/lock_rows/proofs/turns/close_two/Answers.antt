use Rattle.std.proofs.Common.{◌∙◌, length, ap, arith}
use Rattle.lock_rows.proofs.TwoParts.{two_parts}
use Rattle.lock_rows.proofs.turns.close_two.Goals as goal

pub returns-clause-first : goal.returns-clause-first
returns-clause-first c = (two_parts _ _ _ _ _ _ c.requires.none.1 c.push.ensures.items c.push-2.ensures.items c.requires.numbers.0 c.requires.numbers.1 c.in-Ok.ensures.parts).0

pub returns-clause-second : goal.returns-clause-second
returns-clause-second c = (two_parts _ _ _ _ _ _ c.requires.none.1 c.push.ensures.items c.push-2.ensures.items c.requires.numbers.0 c.requires.numbers.1 c.in-Ok.ensures.parts).1

pub returns-clause-all : goal.returns-clause-all
returns-clause-all c =
    let both = two_parts _ _ _ _ _ _ c.requires.none.1 c.push.ensures.items c.push-2.ensures.items c.requires.numbers.0 c.requires.numbers.1 c.in-Ok.ensures.parts in
    let first = ap length both.0 in
    let second = ap length both.1 in
    c.in-Ok.ensures.length ∙ rw c.requires.two (omega (arith, first, second))
