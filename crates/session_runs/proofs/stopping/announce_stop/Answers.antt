use Rattle.session_runs.specs.MainKnowledge.{known_from}
use Rattle.session_runs.proofs.Calls.{stop_announced}
use Rattle.session_runs.proofs.stopping.announce_stop.Goals as goal

pub returns-clause-calls : goal.returns-clause-calls
returns-clause-calls g c = stop_announced c.calls_add_up.ensures.are _ _ _ (known_from c.args.seat.now.own).state c.now-time.result c.save-saved.result c.set_stopping.ensures c.save-saved.ensures.called
