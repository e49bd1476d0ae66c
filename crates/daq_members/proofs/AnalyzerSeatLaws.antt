-- What always holds of an analyzer in a session holds behind a turn.
use Rattle.std.specs.Prelude.{◌≡◌, ◌≤◌, ◌-◌, ℕ, min, true, List, ◌∷◌, Option, Some, None}
use Rattle.std.proofs.Common.{ap, sym, subst, ◌∙◌}
use Rattle.daq_types.specs.Callers.{caller_of_client}
use Rattle.daq_types.specs.declared.runs.Order.{Order}
use Rattle.daq_types.specs.declared.runs.Transition.{Transition}
use Rattle.event.specs.Events.{event_limit}
use Rattle.event_report.specs.Reports.{Totals}
use Rattle.transitions.specs.declared.replies.Polled.TheVariants.{Turn}
use Rattle.member_model.specs.RunEngines.{Answer, Polled, EngineEntry}
use Rattle.member_model.specs.Turns.{latest_answered}
use Rattle.member_model.specs.TurnCalls.{member_turns}
use Rattle.analyzers.specs.Analyzers.{AnalyzerState, IsWithinGot}
use Rattle.analyzers.specs.AnalyzerTurns.{TurnsBy, analyzer_turn, report_answer}
use Rattle.analyzers.specs.AnalyzerKept.{AnalyzerStands, AnalyzerTells}
use Rattle.loggers.specs.Moments.{IsSameAccess}
use Rattle.daq_members.specs.OwnTurns.{start_owed, asked_so, are_calls_for, GivesAnswer}
use Rattle.daq_members.specs.AnalyzerTaken.{analyzer_at, AnalyzerMemberStands}
use Rattle.daq_members.specs.SeatedAnalyzers.{AnalyzerSeen, IsAnalyzerSeated}
use Rattle.daq_members.proofs.OwnTurnLaws.{taken_turns, finished_turns}
use Rattle.daq_members.proofs.BareLaws.{bare_asked, no_blank, bare_taken, reported_ready, bare_finished}
use Rattle.daq_members.proofs.AnalyzerLaws.{stands_with}

module _ (before later : AnalyzerSeen) (seated : IsAnalyzerSeated before) (client : later.client ≡ before.client) (speaks : are_calls_for later.client later.calls ≡ true) (same : IsSameAccess before.port later.port)
    (room : later.analyzer.room ≡ before.analyzer.room) (counted : IsWithinGot later.analyzer.run later.port.got) where
  seated_so : AnalyzerMemberStands before.client later.analyzer later.calls later.port.own later.port.got → IsAnalyzerSeated later
  seated_so stands = record {
    speaks = speaks;
    caller = same.1 ∙ (seated.caller ∙ ap caller_of_client (sym client));
    room = subst (λ (n : ℕ). min event_limit (n - 24) ≤ later.analyzer.room) (sym same.2) (subst (λ (n : ℕ). min event_limit (before.port.size - 24) ≤ n) (sym room) seated.room);
    counted = counted;
    stands = subst (λ (n : ℕ). AnalyzerMemberStands n later.analyzer later.calls later.port.own later.port.got) (sym client) stands;
  }

  -- it only asked, and maybe pulled, and no turn was told
  pub seated_asked : (reply : Polled) → later.calls ≡ asked_so before.client before.calls reply → member_turns before.client (asked_so before.client before.calls reply) ≡ member_turns before.client before.calls
      → AnalyzerMemberStands before.client later.analyzer before.calls later.port.own later.port.got → IsAnalyzerSeated later
  seated_asked reply asked told pulled =
      let turns = ap (member_turns before.client) asked ∙ told in
      seated_so (stands_with before.client later.analyzer later.calls (member_turns before.client before.calls) later.port.own later.port.got turns pulled.stands pulled.tells (bare_asked before.client before.calls later.calls reply asked turns pulled.blanks))

  module _ (polled : List EngineEntry) (transition : Transition) (order : Order) (dump : Option (List ℕ)) (blank : Option Totals) (answer : Option Answer) (asked : polled ≡ asked_so before.client before.calls (Turn transition order dump blank))
      (gives : GivesAnswer before.client answer polled later.calls) where
    -- a new turn was taken
    pub seated_taken : start_owed before.client before.calls ≡ None → TurnsBy transition before.analyzer.wanted order blank (analyzer_at before.analyzer before.port) (analyzer_at later.analyzer later.port) answer
        → AnalyzerStands later.analyzer.wanted later.analyzer.client later.analyzer.run later.port.own later.port.got (analyzer_turn dump transition order answer ∷ member_turns before.client before.calls)
        → AnalyzerTells later.analyzer.run (analyzer_turn dump transition order answer ∷ member_turns before.client before.calls) → IsAnalyzerSeated later
    seated_taken owed turned stands tells =
        let turns = taken_turns before.client before.calls polled later.calls transition order dump blank answer owed asked gives in
        seated_so (stands_with before.client later.analyzer later.calls _ later.port.own later.port.got turns stands tells
        (bare_taken before.client before.calls polled later.calls transition order dump blank answer owed asked gives (no_blank transition before.analyzer.wanted order blank (analyzer_at before.analyzer before.port) (analyzer_at later.analyzer later.port) answer turned) turns seated.stands.blanks))

    -- the turn that was owed was answered, if it could be
    pub seated_finished : (start : ℕ) (reading : AnalyzerState) → start_owed before.client before.calls ≡ Some start → answer ≡ report_answer reading.run
        → AnalyzerStands later.analyzer.wanted later.analyzer.client later.analyzer.run later.port.own later.port.got (latest_answered (member_turns before.client before.calls) answer)
        → AnalyzerTells later.analyzer.run (latest_answered (member_turns before.client before.calls) answer) → IsAnalyzerSeated later
    seated_finished start reading owed told stands tells =
        let turns = finished_turns before.client before.calls polled later.calls transition order dump blank start answer owed asked gives in
        seated_so (stands_with before.client later.analyzer later.calls _ later.port.own later.port.got turns stands tells
        (bare_finished before.client before.calls polled later.calls _ answer asked gives (reported_ready reading.run answer told) turns seated.stands.blanks))
