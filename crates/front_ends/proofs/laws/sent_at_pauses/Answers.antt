use Rattle.front_ends.proofs.FrontMoments.{sent_at_pauses}
use Rattle.front_ends.proofs.laws.sent_at_pauses.Goals as goal

pub returns : goal.returns
returns c = sent_at_pauses
