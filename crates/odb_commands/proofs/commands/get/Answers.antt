use Rattle.odb_value.specs.PathText.{path_reply}
use Rattle.odb_commands.specs.CommandCalls.{Gets}
use Rattle.odb_commands.proofs.Made.{ends_cut, not_begun, cut_at_path, cut_get}
use Rattle.odb_commands.proofs.commands.get.Goals as goal

pub returns-in_err-why : goal.returns-in_err-why
returns-in_err-why g c = ends_cut _ _ _ _ c.from_residual.ensures.0 (not_begun _ _ (cut_at_path (path_reply c.args.path.now) (Gets c.args.index) c.in_err-why.ensures.memory (cut_get c.args.index)))
