use Rattle.mid_format.proofs.ReadLaws.{events_so_far}
use Rattle.mid_format.proofs.laws.first_events.Goals as goal

pub returns : goal.returns
returns c = events_so_far
