use Rattle.std.specs.Prelude.{List, IsOk, Ok, Err}
use Rattle.std.proofs.Common.{ap, subst, ◌∙◌}
use Rattle.member_model.specs.RunEngines.{EngineEntry}
use Rattle.transitions.specs.declared.entry.EngineEntry.TheVariants.{Begin}
use Rattle.turn_lock.specs.Passes.{number_of, seen_by, own_entries}
use Rattle.transition_lock.specs.SharedEngines.{first_engine}
use Rattle.session_runs.specs.MainKnowledge.{known_from}
use Rattle.session_runs.proofs.KnownCalls.{at_call}
use Rattle.session_runs.proofs.MadeLaws.{begun_so, known_begun, known_made, made_whole}
use Rattle.session_runs.proofs.SeatLaws.{completes}
use Rattle.session_runs.proofs.engine_making.make_transition.Goals as goal

pub unreachable-requires : goal.unreachable-requires
unreachable-requires g c =
    let main = c.args.main.now in
    let refused = Err c.in-Err.field-0.0 in
    let entered = c.in-Err.ensures.entered in
    let at = at_call (first_engine c.args.engine.now) (number_of main) (seen_by main) (seen_by c.begin.new.pass) (Begin c.args.transition c.args.sheet refused) c.requires.opening c.requires.main entered.appends c.in-Err.ensures.legal in
    absurd (cc (subst IsOk (begun_so (own_entries main) c.args.transition c.args.sheet refused at) c.requires.begins))

pub wait_for_end-outcome-requires-clause-going : goal.wait_for_end-outcome-requires-clause-going
wait_for_end-outcome-requires-clause-going g c =
    (c.args.transition, ap (λ (es : List EngineEntry). (known_from es).going) c.in-Ok.ensures.entered.mine ∙ known_begun (own_entries c.args.main.now) c.args.transition c.args.sheet c.in-Ok.start)

pub returns-clause-begun : goal.returns-clause-begun
returns-clause-begun g c =
    let main = c.args.main.now in
    let reply = Ok c.in-Ok.start in
    let entered = c.in-Ok.ensures.entered in
    let at = at_call (first_engine c.args.engine.now) (number_of main) (seen_by main) (seen_by c.begin.new.pass) (Begin c.args.transition c.args.sheet reply) c.requires.opening c.requires.main entered.appends c.in-Ok.ensures.legal in
    begun_so (own_entries main) c.args.transition c.args.sheet reply at

pub returns-clause-known : goal.returns-clause-known
returns-clause-known g c =
    let waited = c.wait_for_end-outcome in
    known_made g.M.Rounds.round (own_entries c.args.main.now) (own_entries c.begin.new.pass) (own_entries waited.new.main) c.args.members.now waited.new.members c.args.transition c.args.sheet c.in-Ok.start waited.result waited.new.tallies
    c.in-Ok.ensures.entered.mine waited.ensures.waits

pub returns-clause-completed : goal.returns-clause-completed
returns-clause-completed g c =
    let main = c.args.main.now in
    let waited = c.wait_for_end-outcome in
    let later = waited.new.main in
    let drives = made_whole g.M.Rounds.round (own_entries main) (own_entries c.begin.new.pass) (own_entries later) c.args.members.now waited.new.members c.args.transition c.args.sheet c.in-Ok.start waited.result waited.new.tallies
    c.in-Ok.ensures.entered.mine waited.ensures.waits in
    completes g.M.Rounds.round (first_engine c.args.engine.now) (number_of later) (own_entries main) (seen_by later) c.args.members.now waited.new.members c.args.transition c.args.sheet c.in-Ok.start waited.result waited.new.tallies
    c.main_has_transition.ensures c.tallies_answered.ensures.completed c.requires.opening waited.ensures.main waited.ensures.legal drives
