use Rattle.std.proofs.Common.{rules, refl}
use Rattle.odb_commands.proofs.Made.{not_removed, was_removed}
use Rattle.odb_commands.specs.declared.replies.CommandRefusal.TheVariants.{Protected}
use Rattle.odb_commands.specs.declared.replies.CommandReply.TheVariants.{Refused}
use Rattle.odb_commands.proofs.commands.remove_at.Goals as goal

pub returns-then-is_protected : goal.returns-then-is_protected
returns-then-is_protected g c = not_removed (g.P.DatabasePort.access c.args.port.now) c.args.path (Refused Protected) (search rules) refl

pub returns : goal.returns
returns g c = was_removed _ _ _ _ _ (search rules) c.delete.ensures.called c.delete.ensures.memory c.done_or.ensures
