use Rattle.odb_commands.proofs.Made.{ends_cut, listed, list_cut}
use Rattle.odb_commands.proofs.commands.list_at.Goals as goal

pub returns : goal.returns
returns g c = listed _ _ _ _ _ _ c.list.ensures c.in_ok-children.ensures.same c.in_ok-children.ensures.wanted c.listed_or.ensures

pub returns-in_err-children : goal.returns-in_err-children
returns-in_err-children g c = ends_cut _ _ _ _ c.from_residual.ensures.0 (list_cut _ _ _ _ c.list.ensures c.in_err-children.ensures.memory)
