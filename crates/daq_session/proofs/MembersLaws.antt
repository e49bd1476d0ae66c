-- How the members of a session that opens are registered, and what the main thread keeps of its runs then.
use Rattle.std.proofs.Common.{◌≡◌, ◌≤◌, suc, ◌+◌, List, [], ◌++◌, length, map, ap, ◌∙◌, arith, length-append}
use Rattle.std.proofs.lemmas.List.{length-map, map-append}
use Rattle.std.proofs.lemmas.Simd.{map-map}
use Rattle.transitions.specs.Limits.{most_clients}
use Rattle.member_model.specs.RunEngines.{EngineEntry}
use Rattle.transition_lock.specs.declared.shared.SharedEngine.{SharedEngine}
use Rattle.session_runs.specs.declared.opening.MemberName.{MemberName}
use Rattle.session_runs.specs.MainKnowledge.{known_from}
use Rattle.session_runs.specs.MainSeats.{MainSeen}
use Rattle.mid_logger.specs.ChannelTurns.{logger_name}
use Rattle.session_runs.specs.Members.{members_named, registrations}
use Rattle.session_setup.specs.declared.declared.AnalyzerDeclared.{AnalyzerDeclared}
use Rattle.session_setup.specs.declared.declared.DeclaredLists.{DeclaredLists}
use Rattle.session_setup.specs.declared.declared.FrontDeclared.{FrontDeclared}
use Rattle.session_setup.specs.DeclaredMembers.{member_count}
use Rattle.session_objects.specs.Names.{member_names}

-- how many members were declared
pub many_members : (lists : DeclaredLists) → member_count lists ≡ length lists.fronts + suc (length lists.analyzers)
many_members lists = simp (length-append, length-map)

many_named : (lists : DeclaredLists) → length (member_names lists) ≡ length lists.fronts + suc (length lists.analyzers)
many_named lists = simp (length-append, length-map)

-- They are registered as the front-ends, the logger and the analyzers that were declared.
pub names_listed : (lists : DeclaredLists) →
    member_names lists ≡ members_named (map (λ (f : FrontDeclared). f.name) lists.fronts) logger_name (map (λ (a : AnalyzerDeclared). a.name) lists.analyzers)
names_listed lists = simp (map-append, map-map)

-- They are not more than an engine has clients.
pub members_few : (lists : DeclaredLists) → length lists.fronts ≤ 32 → length lists.analyzers ≤ 8 → (members : List MemberName) → members ≡ member_names lists → length members ≤ most_clients
members_few lists few few_analyzers members are =
    let same : length members ≡ length (member_names lists) = ap length are in
    omega (arith, few, few_analyzers, same, many_named lists)

abbrev main_seen : SharedEngine → List EngineEntry → MainSeen
main_seen engine own = record { engine = engine; own = own }

-- the main thread at the engine of a session that opens, once it registered the members
pub registered : (engine : SharedEngine) (members : List MemberName) (old new : MainSeen) → old.engine ≡ engine → old.own ≡ []
    → new.own ≡ old.own ++ registrations (length (known_from old.own).clients) members → new.engine ≡ old.engine → new ≡ main_seen engine (registrations 0 members)
registered engine members old new at_engine unseen registers same =
    ap (λ (e : SharedEngine). main_seen e new.own) (same ∙ at_engine)
    ∙ ap (main_seen engine) (registers ∙ ap (λ (own : List EngineEntry). own ++ registrations (length (known_from own).clients) members) unseen)
