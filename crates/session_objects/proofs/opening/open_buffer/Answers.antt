use Rattle.std.proofs.Common.{ap, sym, ◌∙◌}
use Rattle.turn_lock.specs.Roster.{numbers_below}
use Rattle.session_objects.proofs.RosterLaws.{new_keeps}
use Rattle.session_objects.proofs.opening.open_buffer.Goals as goal

pub returns-clause-passes : goal.returns-clause-passes
returns-clause-passes c = let e = c.in_ok-shared.ensures in new_keeps _ _ e.own e.fresh (e.numbers ∙ ap numbers_below (sym e.count))
