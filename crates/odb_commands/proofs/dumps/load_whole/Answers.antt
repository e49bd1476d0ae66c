use Rattle.odb_commands.proofs.WatchMade.{ends_cut}
use Rattle.odb_commands.proofs.DumpMade.{whole_loaded, whole_cut}
use Rattle.odb_commands.proofs.dumps.load_whole.Goals as goal

pub returns-clause-ends : goal.returns-clause-ends
returns-clause-ends g c = whole_loaded _ _ _ _ _ _ c.load.ensures.called c.in_ok-reply.ensures.same c.in_ok-reply.ensures.wanted c.loaded_or.ensures.answer

pub returns-in_err-reply-clause-ends : goal.returns-in_err-reply-clause-ends
returns-in_err-reply-clause-ends g c = ends_cut _ _ _ _ c.from_residual.ensures.0 (whole_cut _ _ _ _ c.load.ensures.called c.in_err-reply.ensures.memory)
