use Rattle.buffer_lock.proofs.ForeignLaws.{given_whole}
use Rattle.buffer_lock.proofs.laws.got_all.Goals as goal

pub returns : goal.returns
returns c = given_whole
