use Rattle.buffer_core.proofs.Reading.{got_read, drained_read}
use Rattle.buffer_core.proofs.laws.has_read.Goals as goal

pub returns : goal.returns
returns c = record { got = got_read; drained = drained_read }
