-- What always holds of a front-end in a session holds behind a turn.
use Rattle.std.specs.Prelude.{◌≡◌, ◌≤◌, ℕ, Bool, true, is_some, List, ◌∷◌, length, Option, Some, None}
use Rattle.std.proofs.Common.{ap, sym, subst, ◌∙◌}
use Rattle.daq_types.specs.Callers.{caller_of_client}
use Rattle.daq_types.specs.declared.events.Event.{Event}
use Rattle.daq_types.specs.declared.runs.Order.{Order}
use Rattle.daq_types.specs.declared.runs.Transition.{Transition}
use Rattle.event_report.specs.Reports.{Totals}
use Rattle.odb_watch.specs.DatabasePorts.{own_watched}
use Rattle.transitions.specs.declared.replies.Polled.TheVariants.{Turn}
use Rattle.member_model.specs.RunEngines.{Answer, Polled, EngineEntry}
use Rattle.member_model.specs.Turns.{IsOfRun, AreEngineTurns, latest_answered}
use Rattle.member_model.specs.TurnCalls.{member_turns}
use Rattle.member_model.specs.Moments.{moments_answered}
use Rattle.member_model.specs.SentCalls.{own_sent}
use Rattle.front_ends.specs.declared.front_run.FrontRun.{FrontRun}
use Rattle.front_ends.specs.Fronts.{front_turn, finish_answer, events_sent}
use Rattle.front_ends.specs.FrontKept.{FrontStands, KeepsMoments, IsInRun}
use Rattle.daq_members.specs.OwnTurns.{start_owed, asked_so, are_calls_for, GivesAnswer}
use Rattle.daq_members.specs.SentSets.{number_set_at, number_if, AddsNumberIf}
use Rattle.daq_members.specs.FrontTaken.{FrontMemberStands}
use Rattle.daq_members.specs.FrontSeats.{FrontSeen, IsSeated, IsSameFront}
use Rattle.daq_members.proofs.OwnTurnLaws.{none_open, taken_turns, finished_turns}
use Rattle.daq_members.proofs.FrontMemberLaws.{same_turns_stand, taken_stands, finished_stands, engine_unanswered}

module _ {E : Type 0} (takes : E → Order → Bool) (makes : E → Order → ℕ → Event) (before later : FrontSeen E) (seated : IsSeated takes makes before) (same : IsSameFront takes makes before later)
    (speaks : are_calls_for later.client later.calls ≡ true) where
  seated_so : FrontMemberStands before.client before.name (takes before.equipment) (makes before.equipment) later.run later.calls later.port.own later.moments (own_watched later.database) → IsSeated takes makes later
  seated_so stands = record {
    speaks = speaks;
    caller = same.port.1 ∙ (seated.caller ∙ ap caller_of_client (sym same.client));
    database_caller = same.database.caller ∙ (seated.database_caller ∙ ap caller_of_client (sym same.client));
    size = subst (λ (n : ℕ). 104 ≤ n) (sym same.port.2) seated.size;
    stands = rw (same.client, same.name, same.takes_as, same.makes_as) stands;
  }

  -- it only asked, and maybe made its step, and no turn was told
  pub seated_asked : (reply : Polled) → later.calls ≡ asked_so before.client before.calls reply → member_turns before.client (asked_so before.client before.calls reply) ≡ member_turns before.client before.calls
      → later.moments ≡ before.moments
      → FrontMemberStands before.client before.name (takes before.equipment) (makes before.equipment) later.run before.calls later.port.own before.moments (own_watched later.database) → IsSeated takes makes later
  seated_asked reply asked told noted stepped =
      seated_so (rw noted (same_turns_stand before.client before.name (takes before.equipment) (makes before.equipment) later.run before.calls later.calls later.port.own before.moments (own_watched later.database)
      (ap (member_turns before.client) asked ∙ told) stepped))

  -- what it kept behind its step, if it made one, with this run
  module _ (run : Option FrontRun) (stepped : FrontMemberStands before.client before.name (takes before.equipment) (makes before.equipment) run before.calls later.port.own before.moments (own_watched before.database))
      (polled : List EngineEntry) (transition : Transition) (order : Order) (dump : Option (List ℕ)) (blank : Option Totals) (answer : Option Answer) (asked : polled ≡ asked_so before.client before.calls (Turn transition order dump blank))
      (gives : GivesAnswer before.client answer polled later.calls) where
    -- a new turn was taken
    pub seated_taken : start_owed before.client before.calls ≡ None
        → later.moments ≡ length later.port.own ∷ before.moments
        → FrontStands (takes later.equipment) (makes later.equipment) later.run later.port.own (front_turn dump transition order answer ∷ member_turns before.client before.calls)
        → KeepsMoments later.port.own (front_turn dump transition order answer ∷ member_turns before.client before.calls) (length later.port.own ∷ before.moments)
        → (AreEngineTurns (member_turns before.client before.calls) → IsOfRun order.start (member_turns before.client before.calls) → length (own_sent later.port.own order.start) ≡ events_sent run order.start)
        → AddsNumberIf before.name (number_set_at transition (is_some answer) (events_sent run order.start)) (own_watched before.database) (own_watched later.database)
        → IsSeated takes makes later
    seated_taken owed noted stands kept sent adds =
        seated_so (rw noted (taken_stands before.client before.name (takes before.equipment) (makes before.equipment) run later.run before.calls later.calls later.port.own before.moments (own_watched before.database) (own_watched later.database)
        transition order dump answer stepped (none_open (member_turns before.client before.calls) owed) (taken_turns before.client before.calls polled later.calls transition order dump blank answer owed asked gives)
        (rw (← same.takes_as, ← same.makes_as) stands) kept sent adds))

    -- the turn that was owed was answered, if it could be
    pub seated_finished : (start : ℕ) → start_owed before.client before.calls ≡ Some start → answer ≡ finish_answer run
        → later.moments ≡ moments_answered before.moments answer (length later.port.own)
        → FrontStands (takes later.equipment) (makes later.equipment) later.run later.port.own (latest_answered (member_turns before.client before.calls) answer)
        → KeepsMoments later.port.own (latest_answered (member_turns before.client before.calls) answer) (moments_answered before.moments answer (length later.port.own))
        → (AreEngineTurns (member_turns before.client before.calls) → IsInRun run start → length (own_sent later.port.own start) ≡ events_sent run start)
        → AddsNumberIf before.name (number_if (is_some answer) (events_sent run start)) (own_watched before.database) (own_watched later.database)
        → IsSeated takes makes later
    seated_finished start owed is noted stands kept sent adds =
        seated_so (rw noted (finished_stands before.client before.name (takes before.equipment) (makes before.equipment) run later.run before.calls later.calls later.port.own before.moments (own_watched before.database) (own_watched later.database)
        start answer stepped is owed (finished_turns before.client before.calls polled later.calls transition order dump blank start answer owed asked gives)
        (rw (← same.takes_as, ← same.makes_as) stands) kept sent adds (engine_unanswered (member_turns before.client before.calls) answer)))
