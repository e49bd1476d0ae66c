use Rattle.std.specs.Prelude.{◌++◌, [], ◌∷◌}
use Rattle.std.proofs.Common.{ap, ◌∙◌}
use Rattle.transitions.specs.declared.entry.EngineEntry.TheVariants.{Close}
use Rattle.turn_lock.specs.Passes.{number_of, seen_by, own_entries}
use Rattle.transition_lock.specs.SharedEngines.{first_engine}
use Rattle.session_runs.proofs.KnownCalls.{at_call}
use Rattle.session_runs.proofs.MadeLaws.{closes}
use Rattle.session_runs.proofs.opening.close.Goals as goal

pub returns-clause-closed : goal.returns-clause-closed
returns-clause-closed g c =
    let main = c.args.main.now in
    let entered = c.close.ensures.entered in
    let at = at_call (first_engine c.args.engine.now) (number_of main) (seen_by main) (seen_by c.close.new.pass) (Close c.close.result) c.requires.opening c.requires.main entered.appends c.close.ensures.legal in
    entered.mine ∙ ap (λ r. own_entries main ++ Close r ∷ []) (closes (own_entries main) c.close.result at c.requires.none_going)
