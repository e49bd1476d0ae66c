use Rattle.std.proofs.Common.{◌≤◌, ◌+◌, List, length, map, refl, ap, ◌∙◌, sym, subst, arith}
use Rattle.std.proofs.lemmas.List.{length-map}
use Rattle.mid_logger.specs.ChannelTurns.{logger_name}
use Rattle.transitions.specs.Limits.{most_clients}
use Rattle.member_model.specs.RunEngines.{EngineEntry}
use Rattle.session_runs.specs.MainKnowledge.{known_from}
use Rattle.session_runs.specs.Members.{reporter_count, sender_count}
use Rattle.session_setup.specs.declared.declared.AnalyzerDeclared.{AnalyzerDeclared}
use Rattle.session_setup.specs.declared.declared.FrontDeclared.{FrontDeclared}
use Rattle.daq_session.proofs.MembersLaws.{members_few, names_listed, registered}
use Rattle.daq_session.proofs.opening.open_runs.Goals as goal

pub new-seat-requires-clause-idle : goal.new-seat-requires-clause-idle
new-seat-requires-clause-idle g c = c.requires.fresh.idle

pub new-seat-requires-clause-fresh : goal.new-seat-requires-clause-fresh
new-seat-requires-clause-fresh g c = rw c.requires.fresh.seen refl

pub register_all-requires : goal.register_all-requires
register_all-requires g c =
    let P : List EngineEntry → Type 0 = λ own. length (known_from own).clients + length c.deref.result.now ≤ most_clients in
    let few : length c.deref.result.now ≤ most_clients =
    members_few c.args.lists.now c.requires.few c.requires.few_analyzers c.deref.result.now (c.deref.ensures.value ∙ c.in_ok-members.ensures) in
    let none : 0 + length c.deref.result.now ≤ most_clients = omega (arith, few) in
    record { room = subst P (sym c.new-seat.ensures.calls) none }

pub new-requires-clause-stopped : goal.new-requires-clause-stopped
new-requires-clause-stopped g c = c.register_all.ensures.state ∙ ap (λ (own : List EngineEntry). (known_from own).state) c.new-seat.ensures.calls

pub new-requires-clause-few : goal.new-requires-clause-few
new-requires-clause-few g c =
    let lists = c.args.lists.now in
    let fronts = map (λ (front : FrontDeclared). front.name) lists.fronts in
    let analyzers = map (λ (analyzer : AnalyzerDeclared). analyzer.name) lists.analyzers in
    let all = ap sender_count (c.in_ok-members.ensures ∙ names_listed lists) ∙ c.members_counted.ensures.senders fronts logger_name analyzers in
    omega (arith, c.requires.few, all, length-map lists.fronts (λ (front : FrontDeclared). front.name))

pub new-requires-clause-few_reports : goal.new-requires-clause-few_reports
new-requires-clause-few_reports g c =
    let lists = c.args.lists.now in
    let fronts = map (λ (front : FrontDeclared). front.name) lists.fronts in
    let analyzers = map (λ (analyzer : AnalyzerDeclared). analyzer.name) lists.analyzers in
    let all = ap reporter_count (c.in_ok-members.ensures ∙ names_listed lists) ∙ c.members_counted.ensures.reporters fronts logger_name analyzers in
    omega (arith, c.requires.few_analyzers, all, length-map lists.analyzers (λ (analyzer : AnalyzerDeclared). analyzer.name))

pub returns : goal.returns
returns g c =
    let seat = registered c.args.objects.now.engine c.deref.result.now c.new-seat.result c.register_all.new.self c.new-seat.ensures.engine c.new-seat.ensures.calls
    c.register_all.ensures.registered c.register_all.ensures.engine in
    rw (c.as_slice.ensures, seat, c.deref.ensures.value, c.in_ok-members.ensures) at c.new.ensures
