use Rattle.std.proofs.Common.{arith, sym, subst}
use Rattle.event_report.specs.Tallies.{IdTally}
use Rattle.event_report.specs.Held.{IdsWithin}
use Rattle.event_report.proofs.ids.IdTable.count.Goals as goal

pub returns-then-not-count_id-clause-within : goal.returns-then-not-count_id-clause-within
returns-then-not-count_id-clause-within c = λ m within.
    let before : IdsWithin m (record { rows = c.self.inside.rows.items; rest = c.self.inside.rest }) = subst (λ (t : IdTally). IdsWithin m t) (sym c.self.view_is) within in
    record { rows = c.count_id.ensures.within m before.rows; rest = omega (arith, before.rest) }

pub returns-else-not-count_id-clause-within : goal.returns-else-not-count_id-clause-within
returns-else-not-count_id-clause-within c = λ m within.
    let before : IdsWithin m (record { rows = c.self.inside.rows.items; rest = c.self.inside.rest }) = subst (λ (t : IdTally). IdsWithin m t) (sym c.self.view_is) within in
    record { rows = c.count_id.ensures.within m before.rows; rest = omega (arith, before.rest) }
