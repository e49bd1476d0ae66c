use Rattle.std.specs.Prelude.{◌++◌, [], ◌∷◌, length}
use Rattle.std.proofs.Common.{ap, ◌∙◌}
use Rattle.member_model.specs.RunEngines.{EngineEntry}
use Rattle.transitions.specs.declared.entry.EngineEntry.TheVariants.{Register}
use Rattle.turn_lock.specs.Passes.{number_of, seen_by, own_entries}
use Rattle.transition_lock.specs.SharedEngines.{first_engine}
use Rattle.session_runs.specs.MainKnowledge.{known_from}
use Rattle.session_runs.proofs.KnownCalls.{at_call}
use Rattle.session_runs.proofs.MadeLaws.{registers, registered_so}
use Rattle.session_runs.proofs.opening.register_one.Goals as goal

pub returns-clause-registered : goal.returns-clause-registered
returns-clause-registered g c =
    let main = c.args.main.now in
    let m = c.args.member.now in
    let reply = c.register.result in
    let entered = c.register.ensures.entered in
    let entry = Register m.name c.sequences.result c.wants_dump-dump.result c.wants_report-report.result reply in
    let at = at_call (first_engine c.args.engine.now) (number_of main) (seen_by main) (seen_by c.register.new.pass) entry c.requires.opening c.requires.main entered.appends c.register.ensures.legal in
    let is = registers (own_entries main) m.name c.sequences.result c.wants_dump-dump.result c.wants_report-report.result reply at c.requires.open_yet c.requires.none_going c.requires.room in
    entered.mine ∙ ap (λ (e : EngineEntry). own_entries main ++ e ∷ [])
    (registered_so (length (known_from (own_entries main)).clients) m c.sequences.result c.wants_dump-dump.result c.wants_report-report.result reply c.sequences.ensures c.wants_dump-dump.ensures c.wants_report-report.ensures is)
