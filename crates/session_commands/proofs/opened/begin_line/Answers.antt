use Rattle.std.proofs.Common.{Bool, if◌then◌else◌, refl, sym, ap}
use Rattle.session_commands.proofs.opened.begin_line.Goals as goal

pub returns-then-begun-clause-rounds : goal.returns-then-begun-clause-rounds
returns-then-begun-clause-rounds g c = (1, sym (ap (λ (b : Bool). if b then 1 else 0) c.if-begun.true), (_, refl, c.round.ensures))
