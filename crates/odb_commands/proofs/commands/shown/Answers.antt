use Rattle.odb_commands.proofs.Made.{ends_cut, find_cut, one_not_begun, shows_behind}
use Rattle.odb_commands.proofs.commands.shown.Goals as goal

pub returns-in_ok-found-in-None : goal.returns-in_ok-found-in-None
returns-in_ok-found-in-None g c = rw c.in-None.is (shows_behind _ _ _ _ _ _ _ _ c.find.ensures.called c.in_ok-found-in-None.ensures.same c.in_ok-found-in-None.ensures.wanted c.key_found.ensures)

pub returns-in_err-found-in-None : goal.returns-in_err-found-in-None
returns-in_err-found-in-None g c =
    rw c.in-None.is (ends_cut _ _ _ _ c.from_residual.ensures.0 (find_cut _ _ c.args.path c.args.value _ c.find.ensures.called c.in_err-found-in-None.ensures.memory))

pub returns-in-Some : goal.returns-in-Some
returns-in-Some g c = rw c.in-Some.is (one_not_begun _ c.args.path c.in-Some.index c.args.value _ c.one_of.ensures.reply c.one_of.ensures.memory)
