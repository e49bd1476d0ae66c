use Rattle.buffer_core.proofs.Continuing.{sent_goes_on, segment_goes_on}
use Rattle.buffer_core.proofs.laws.goes_on.Goals as goal

pub returns : goal.returns
returns c = record { events = sent_goes_on; run = segment_goes_on }
