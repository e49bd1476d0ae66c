use Rattle.std.proofs.Common.{subst}
use Rattle.buffer_core.specs.Window.{Window}
use Rattle.buffer_core.specs.Histories.{IsLegal}
use Rattle.turn_lock.specs.Closing.{history_of}
use Rattle.buffer_lock.proofs.SharedLaws.{leads_legal, leads_replay}
use Rattle.buffer_lock.proofs.shared.SharedBuffer.close.Goals as goal

pub returns-in-Ok-clause-legal : goal.returns-in-Ok-clause-legal
returns-in-Ok-clause-legal g c = leads_legal _ _ _ c.in-Ok.ensures.legal

pub returns-in-Ok-clause-replayed : goal.returns-in-Ok-clause-replayed
returns-in-Ok-clause-replayed g c = leads_replay _ _ _ c.in-Ok.ensures.legal

pub returns-in-Ok-clause-delivers : goal.returns-in-Ok-clause-delivers
returns-in-Ok-clause-delivers g c = λ size opens. c.delivers.ensures size (history_of c.in-Ok.closed)
    (subst (λ (w : Window). IsLegal w (history_of c.in-Ok.closed)) opens (leads_legal _ _ _ c.in-Ok.ensures.legal))

pub returns-in-Ok-clause-runs : goal.returns-in-Ok-clause-runs
returns-in-Ok-clause-runs g c = λ size opens. c.ordered.ensures size (history_of c.in-Ok.closed)
    (subst (λ (w : Window). IsLegal w (history_of c.in-Ok.closed)) opens (leads_legal _ _ _ c.in-Ok.ensures.legal))
