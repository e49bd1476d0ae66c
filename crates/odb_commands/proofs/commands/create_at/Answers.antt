use Rattle.odb_commands.proofs.Made.{ends_cut, created, create_cut}
use Rattle.odb_commands.proofs.commands.create_at.Goals as goal

pub returns : goal.returns
returns g c = created _ _ _ _ _ _ _ c.create.ensures c.in_ok-reply.ensures.same c.in_ok-reply.ensures.wanted c.done_or.ensures

pub returns-in_err-reply : goal.returns-in_err-reply
returns-in_err-reply g c = ends_cut _ _ _ _ c.from_residual.ensures.0 (create_cut _ _ _ _ _ c.create.ensures c.in_err-reply.ensures.memory)
