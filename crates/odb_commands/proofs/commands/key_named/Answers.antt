use Rattle.std.proofs.Common.{rules}
use Rattle.odb_commands.proofs.Made.{ends_cut, named, name_cut}
use Rattle.odb_commands.proofs.commands.key_named.Goals as goal

pub returns : goal.returns
returns g c = named _ _ _ _ _ _ _ c.path_of.ensures c.in_ok-path.was (search rules)

pub returns-in_err-path : goal.returns-in_err-path
returns-in_err-path g c = ends_cut _ _ _ _ c.from_residual.ensures.0 (name_cut _ _ _ _ _ _ c.path_of.ensures c.in_err-path.was)
