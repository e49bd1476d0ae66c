-- How an analyzer's calls leave its port, and what it keeps as a member.
use Rattle.std.specs.Prelude.{◌≡◌, ℕ, ◌==◌, Bool, true, false, IfSome, List, [], Option, Some, None, refl}
use Rattle.std.proofs.Common.{ap, sym, subst, ◌∙◌}
use Rattle.daq_types.specs.declared.runs.Order.{Order}
use Rattle.daq_types.specs.declared.runs.Transition.{Transition}
use Rattle.daq_types.specs.declared.runs.Transition.TheVariants.{Start, Stop, Pause, Resume, StartAbort}
use Rattle.event_report.specs.Reports.{Totals, report_of}
use Rattle.buffer_core.specs.declared.entry.BufferEntry.{BufferEntry}
use Rattle.buffer_core.specs.Ports.{Access, GotEvent, PortCalled}
use Rattle.transitions.specs.declared.replies.Polled.TheVariants.{Turn}
use Rattle.member_model.specs.RunEngines.{Answer, EngineEntry, IsFairTurn}
use Rattle.member_model.specs.Turns.{MemberTurn}
use Rattle.member_model.specs.TurnCalls.{member_turns}
use Rattle.analyzers.specs.declared.analyzer_pull.AnalyzerPull.{AnalyzerPull}
use Rattle.analyzers.specs.declared.analyzer_run.AnalyzerRun.{AnalyzerRun}
use Rattle.analyzers.specs.declared.analyzer_run.AnalyzerStage.{AnalyzerStage}
use Rattle.analyzers.specs.declared.analyzer_run.AnalyzerStage.TheVariants.{Counting, Draining, Drained}
use Rattle.analyzers.specs.declared.analyzer_run.EventRequest.{EventRequest}
use Rattle.analyzers.specs.Analyzers.{AnalyzerState, AnalyzerAt, IsWithinGot}
use Rattle.analyzers.specs.AnalyzerTurns.{CancelsIn, DropsRun, GetsClient, RequestsRun, StartsAnalyzer, StopsRun, StopsOwn, StopsAnalyzer, TurnsBy, run_reported}
use Rattle.analyzers.specs.AnalyzerPulls.{EndsReading, CountsOnce, CountsIn, PullsBy, drains_by}
use Rattle.analyzers.specs.AnalyzerKept.{AnalyzerStands, AnalyzerTells, KeepsAnalyzer}
use Rattle.loggers.specs.Moments.{IsSameAccess}
use Rattle.daq_members.specs.OwnTurns.{start_owed}
use Rattle.daq_members.specs.AnalyzerTaken.{AnalyzerTaken, TakesAnalyzerTurn, FinishesAnalyzer, TakesAnalyzerBy, TakesAnalyzer, AnalyzerMemberStands}
use Rattle.daq_members.specs.BareTurns.{AreBare}

-- The port leads to the same buffer, and is the same caller's.

stays_same : (a b : Access) → b ≡ a → IsSameAccess a b
stays_same a b is = (ap (λ (x : Access). x.buffer) is, ap (λ (x : Access). x.caller) is, ap (λ (x : Access). x.size) is)

called_same : (a b : Access) (entry : BufferEntry) (got : List GotEvent) → PortCalled a b entry got → IsSameAccess a b
called_same a b entry got called = (called.buffer, called.caller, called.size)

pub same_then : (a b c : Access) → IsSameAccess a b → IsSameAccess b c → IsSameAccess a c
same_then a b c one two = (two.0 ∙ one.0, two.1 ∙ one.1, two.2 ∙ one.2)

cancels_same : (stage : AnalyzerStage) (r : AnalyzerRun) (a b : Access) → CancelsIn stage r a b → IsSameAccess a b
cancels_same Drained r a b stays = stays_same a b stays
cancels_same Counting r a b cancels = called_same a b _ _ cancels.1
cancels_same (Draining accepted) r a b cancels = called_same a b _ _ cancels.1

drops_same : (run : Option AnalyzerRun) (a b : Access) → DropsRun run a b → IsSameAccess a b
drops_same None a b stays = stays_same a b stays
drops_same (Some r) a b drops = cancels_same r.stage r a b drops

gets_same : (client later : Option ℕ) (a b : Access) → GetsClient client later a b → IsSameAccess a b
gets_same (Some client) later a b has = stays_same a b has.1
gets_same None (Some client) a b attaches = called_same a b _ _ attaches
gets_same None None a b refused = called_same a b _ _ refused.1

requests_same : (wanted : EventRequest) (start : ℕ) (blank : Totals) (client : Option ℕ) (run : Option AnalyzerRun) (answer : Answer) (a b : Access) → RequestsRun wanted start blank client run answer a b → IsSameAccess a b
requests_same wanted start blank None run answer a b none = stays_same a b none.2
requests_same wanted start blank (Some client) run answer a b requests = called_same a b _ _ requests.1

starts_same : (blank : Option Totals) (wanted : EventRequest) (start : ℕ) (a b : AnalyzerAt) (answer : Answer) → StartsAnalyzer blank wanted start a b answer → IsSameAccess a.port b.port
starts_same None wanted start a b answer refused = stays_same a.port b.port refused.1.2
starts_same (Some blank) wanted start a b answer starts =
    same_then a.port starts.dropped b.port (drops_same a.run a.port starts.dropped starts.drops)
    (same_then starts.dropped starts.attached b.port (gets_same a.client b.client starts.dropped starts.attached starts.client)
    (requests_same wanted start blank b.client b.run answer starts.attached b.port starts.request))

stops_same : (stage : AnalyzerStage) (r later : AnalyzerRun) (a b : Access) → StopsRun stage r later a b → IsSameAccess a b
stops_same Counting r later a b stops = called_same a b _ _ stops.1
stops_same (Draining accepted) r later a b stays = stays_same a b stays.1
stops_same Drained r later a b stays = stays_same a b stays.1

own_stop_same : (own : Bool) (r : AnalyzerRun) (a b : AnalyzerAt) (answer : Option Answer) → StopsOwn own r a b answer → IsSameAccess a.port b.port
own_stop_same true r a b answer stops = stops_same r.stage r stops.later a.port b.port stops.stops
own_stop_same false r a b answer plain = stays_same a.port b.port plain.1.2

answered_stop_same : (run : Option AnalyzerRun) (start : ℕ) (a b : AnalyzerAt) (answer : Option Answer) → StopsAnalyzer run start a b answer → IsSameAccess a.port b.port
answered_stop_same None start a b answer plain = stays_same a.port b.port plain.1.2
answered_stop_same (Some r) start a b answer stops = own_stop_same (r.start == start) r a b answer stops

-- behind a turn
pub turn_same : (transition : Transition) (wanted : EventRequest) (order : Order) (blank : Option Totals) (a b : AnalyzerAt) (answer : Option Answer) → TurnsBy transition wanted order blank a b answer → IsSameAccess a.port b.port
turn_same Start wanted order blank a b answer turns = starts_same blank wanted order.start a b turns.0 turns.2
turn_same Stop wanted order blank a b answer turns = answered_stop_same a.run order.start a b answer turns
turn_same Pause wanted order blank a b answer turns = stays_same a.port b.port turns.1.2
turn_same Resume wanted order blank a b answer turns = stays_same a.port b.port turns.1.2
turn_same StartAbort wanted order blank a b answer turns = drops_same a.run a.port b.port turns.3

ends_same : (drained : Bool) (r : AnalyzerRun) (later : Option AnalyzerRun) (a b : Access) → EndsReading drained r later a b → IsSameAccess a b
ends_same true r later a b ends = called_same a b _ _ ends.1.1
ends_same false r later a b ends = stays_same a b ends.1

once_same : (r : AnalyzerRun) (room : ℕ) (a b : AnalyzerAt) (pulled : AnalyzerPull) → CountsOnce r room a b pulled → IsSameAccess a.port b.port
once_same r room a b pulled once =
    same_then a.port once.middle b.port (called_same a.port once.middle _ _ once.receives.received)
    (ends_same (drains_by r.stage once.reply) once.counted b.run once.middle b.port once.ends)

counts_same : (stage : AnalyzerStage) (r : AnalyzerRun) (room : ℕ) (a b : AnalyzerAt) (pulled : AnalyzerPull) → CountsIn stage r room a b pulled → IsSameAccess a.port b.port
counts_same Drained r room a b pulled stays = stays_same a.port b.port stays.1.2
counts_same Counting r room a b pulled once = once_same r room a b pulled once
counts_same (Draining accepted) r room a b pulled once = once_same r room a b pulled once

-- behind a pull
pub pull_same : (run : Option AnalyzerRun) (room : ℕ) (a b : AnalyzerAt) (pulled : AnalyzerPull) → PullsBy run room a b pulled → IsSameAccess a.port b.port
pull_same None room a b pulled stays = stays_same a.port b.port stays.1.2
pull_same (Some r) room a b pulled counts = counts_same r.stage r room a b pulled counts

-- What a turn gives.

-- a blank that comes with a turn counts no event
pub blank_so : (transition : Transition) (order : Order) (dump : Option (List ℕ)) (blank : Option Totals) → IsFairTurn (Turn transition order dump blank) → IfSome blank (λ report. report ≡ report_of [])
blank_so transition order dump None fair = tt
blank_so transition order dump (Some report) fair = fair.1 report refl

-- What is counted is still no more than was got once the run is reported.
pub reported_within : (run : Option AnalyzerRun) (answer : Option Answer) (got : List GotEvent) → IsWithinGot run got → IsWithinGot (run_reported run answer) got
reported_within run None got within = within
reported_within run (Some answer) got within = tt

-- What the analyzer keeps.

-- with calls that tell these turns
pub stands_with : (client : ℕ) (a : AnalyzerState) (later : List EngineEntry) (turns : List MemberTurn) (own : List BufferEntry) (got : List GotEvent) → member_turns client later ≡ turns
    → AnalyzerStands a.wanted a.client a.run own got turns → AnalyzerTells a.run turns → AreBare client later → AnalyzerMemberStands client a later own got
stands_with client a later turns own got same stands tells bare = record {
  stands = subst (λ (ts : List MemberTurn). AnalyzerStands a.wanted a.client a.run own got ts) (sym same) stands;
  tells = subst (λ (ts : List MemberTurn). AnalyzerTells a.run ts) (sym same) tells;
  blanks = bare;
}

pub member_keeps : (client : ℕ) (a : AnalyzerState) (calls : List EngineEntry) (own : List BufferEntry) (got : List GotEvent) → AnalyzerMemberStands client a calls own got → KeepsAnalyzer a.wanted own got (member_turns client calls)
member_keeps client a calls own got member = record {
  calls = member.stands.holds.calls;
  once = member.stands.holds.once;
  asked = member.stands.holds.asked;
  reports = member.stands.holds.reports;
  starts = member.tells.starts;
  stops = member.tells.stops;
}

-- A turn, by what the engine replied and what was owed.
module _ (transition : Transition) (order : Order) (dump : Option (List ℕ)) (blank : Option Totals) where
  pub analyzer_told : (t : AnalyzerTaken) → start_owed t.client t.calls ≡ None → TakesAnalyzerTurn t transition order blank (Turn transition order dump blank) → TakesAnalyzer t
  analyzer_told t none turn = record {
    reply = Turn transition order dump blank;
    takes = subst (λ (o : Option ℕ). TakesAnalyzerBy (Turn transition order dump blank) o t) (sym none) turn;
  }

  pub analyzer_finished : (t : AnalyzerTaken) (start : ℕ) → start_owed t.client t.calls ≡ Some start → FinishesAnalyzer t (Turn transition order dump blank) → TakesAnalyzer t
  analyzer_finished t start owed turn = record {
    reply = Turn transition order dump blank;
    takes = subst (λ (o : Option ℕ). TakesAnalyzerBy (Turn transition order dump blank) o t) (sym owed) turn;
  }
