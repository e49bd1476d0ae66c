use Rattle.odb_value.specs.PathText.{path_reply}
use Rattle.odb_commands.proofs.WatchMade.{ends_cut, not_begun, cut_on_path}
use Rattle.odb_commands.proofs.watches.watch.Goals as goal

pub returns-in_err-why : goal.returns-in_err-why
returns-in_err-why g c = ends_cut _ _ _ _ c.from_residual.ensures.0 (not_begun _ _ (cut_on_path (path_reply c.args.path.now) c.in_err-why.ensures.memory))
