use Rattle.session_runs.proofs.Calls.{announced}
use Rattle.session_runs.proofs.starting.announce.Goals as goal

pub returns-clause-calls : goal.returns-clause-calls
returns-clause-calls g c = announced c.calls_add_up.ensures.are _ _ _ c.args.run c.now-time.result c.save-saved.result c.set_starting.ensures c.save-saved.ensures.called
