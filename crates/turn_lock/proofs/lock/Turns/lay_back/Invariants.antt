use Rattle.std.proofs.Common.{Some}
use Rattle.turn_lock.proofs.lock.Turns.lay_back.Given as goal

abbrev pub ghosts-count : goal.ghosts-count
ghosts-count g a = record { entry = Some (g.C.MadeCall.entry a.call.now); after = Some (g.M.Machine.state a.value.now) }
