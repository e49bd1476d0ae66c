use Rattle.session_laws.specs.ClosedSessions.{session_of}
use Rattle.session_laws.proofs.laws.ends_composed.Goals as goal

pub returns : goal.returns
returns c = λ closed ends. c.composed.ensures (session_of closed ends.moments) (c.members_keep.ensures closed ends)
