use Rattle.mid_format.proofs.ReadLaws.{run_of_whole, run_read, run_unread}
use Rattle.mid_format.proofs.laws.run_was_read.Goals as goal

pub returns : goal.returns
returns c = record { read = run_read; unread = run_unread; whole = run_of_whole }
