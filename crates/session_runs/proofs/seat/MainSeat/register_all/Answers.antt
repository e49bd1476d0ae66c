use Rattle.std.specs.Prelude.{◌≡◌, List, length}
use Rattle.std.proofs.Common.{ap, subst, sym, ◌∙◌, ◌++◌}
use Rattle.member_model.specs.RunEngines.{EngineEntry}
use Rattle.turn_lock.specs.Passes.{own_entries}
use Rattle.session_runs.specs.declared.opening.MemberName.{MemberName}
use Rattle.session_runs.specs.MainKnowledge.{known_from}
use Rattle.session_runs.specs.MainSeats.{MainSeen}
use Rattle.session_runs.specs.Members.{registrations}
use Rattle.session_runs.proofs.SeatLaws.{KnowsSame, registered_same}
use Rattle.session_runs.proofs.seat.MainSeat.register_all.Goals as goal

same : (own later : List EngineEntry) (members : List MemberName) → later ≡ own ++ registrations (length (known_from own).clients) members → KnowsSame own later
same own later members is = subst (KnowsSame own) (sym is) (registered_same own (length (known_from own).clients) members)

pub invariant_of-self : goal.invariant_of-self
invariant_of-self g c =
    let made = c.register_all.ensures in
    let is = c.self.invariant in
    let keeps = same (own_entries c.self.inside.pass) (own_entries c.register_all.new.main) c.args.members.now made.registered in
    (made.main, made.own, made.idle, is.3, keeps.closed ∙ is.4, keeps.going ∙ is.5, keeps.state ∙ is.6, keeps.starts ∙ is.7)

pub returns-clause-state : goal.returns-clause-state
returns-clause-state g c = (same (own_entries c.self.inside.pass) (own_entries c.register_all.new.main) c.args.members.now c.register_all.ensures.registered).state ∙ ap (λ (s : MainSeen). (known_from s.own).state) c.self.view_is

pub returns-clause-starts : goal.returns-clause-starts
returns-clause-starts g c = (same (own_entries c.self.inside.pass) (own_entries c.register_all.new.main) c.args.members.now c.register_all.ensures.registered).starts ∙ ap (λ (s : MainSeen). (known_from s.own).starts) c.self.view_is
