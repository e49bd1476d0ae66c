use Rattle.odb_commands.proofs.Made.{ends_cut, not_begun, cut_link}
use Rattle.odb_commands.proofs.commands.link_at.Goals as goal

pub returns-in_err-why : goal.returns-in_err-why
returns-in_err-why g c = ends_cut _ _ _ _ c.from_residual.ensures.0 (not_begun _ _ (cut_link c.args.target.now c.args.path c.in_err-why.ensures.memory))
