use Rattle.odb_value.specs.PathText.{path_reply}
use Rattle.odb_commands.specs.CommandCalls.{LinksTo}
use Rattle.odb_commands.proofs.Made.{not_begun, cut_at_path, cut_link, target_refused}
use Rattle.odb_commands.proofs.commands.link.Goals as goal

pub returns-in-Some : goal.returns-in-Some
returns-in-Some g c = target_refused _ (path_reply c.args.path.now) c.args.target.now c.in-Some.why _ c.in-Err.ensures.memory c.in-Some.ensures.fault c.no_path.ensures

pub returns-in-None : goal.returns-in-None
returns-in-None g c =
    not_begun _ _ (cut_at_path (path_reply c.args.path.now) (LinksTo c.args.target.now) c.in-Err.ensures.memory (λ p. cut_link c.args.target.now p c.in-None.ensures.none))
