-- What an analyzer does in one turn of its own: its calls on the engine and on its buffer, and what it came to.
use Rattle.std.specs.Prelude.{◌≡◌, ℕ, Bool, true, false, ◌||◌, is_some, List, Option, Some, None}
use Rattle.daq_types.specs.declared.runs.Order.{Order}
use Rattle.daq_types.specs.declared.runs.Transition.{Transition}
use Rattle.event_report.specs.Reports.{Totals}
use Rattle.buffer_core.specs.declared.entry.BufferEntry.{BufferEntry}
use Rattle.buffer_core.specs.Ports.{Access, GotEvent}
use Rattle.transitions.specs.declared.replies.Polled.TheVariants.{Turn, Idle as NoTurn, Closed, NoClient}
use Rattle.member_model.specs.RunEngines.{Answer, Polled, EngineEntry}
use Rattle.member_model.specs.TurnCalls.{member_turns}
use Rattle.analyzers.specs.declared.analyzer_pull.AnalyzerPull.{AnalyzerPull}
use Rattle.analyzers.specs.declared.analyzer_pull.AnalyzerPull.TheVariants.{Folded, Dropped, Nothing}
use Rattle.analyzers.specs.Analyzers.{AnalyzerState, AnalyzerAt}
use Rattle.analyzers.specs.AnalyzerTurns.{TurnsBy, report_answer, run_reported}
use Rattle.analyzers.specs.AnalyzerPulls.{PullsBy}
use Rattle.analyzers.specs.AnalyzerKept.{AnalyzerStands, AnalyzerTells, KeepsAnalyzer}
use Rattle.member_crew.specs.declared.turned.Turned.{Turned}
use Rattle.member_crew.specs.declared.turned.Turned.TheVariants.{Worked, Idle, Ended}
use Rattle.daq_members.specs.OwnTurns.{start_owed, asked_so, GivesAnswer, AnswersLast}
use Rattle.daq_members.specs.FrontTaken.{turned_by}
use Rattle.daq_members.specs.BareTurns.{AreBare}

-- A turn of an analyzer: its client number; its calls on the engine, the analyzer, and its access to its buffer, before and
-- behind; its access to the buffer as it stood when it answered last; and what it came to.
pub record AnalyzerTaken : Type 0 where
  pub client : ℕ
  pub calls : List EngineEntry
  pub later_calls : List EngineEntry
  pub analyzer : AnalyzerState
  pub later : AnalyzerState
  pub port : Access
  pub later_port : Access
  pub stood : Access
  pub turned : Turned

-- the pull got an event
abbrev pub has_got : AnalyzerPull → Bool
has_got (Folded place) = true
has_got (Dropped place) = true
has_got Nothing = false

-- the analyzer's client and run, with this port
abbrev pub analyzer_at : AnalyzerState → Access → AnalyzerAt
analyzer_at a port = record { client = a.client; run = a.run; port = port }

-- the analyzer pulls once, by this port
abbrev pub PullsAnalyzer : (before after : AnalyzerState) → (port later_port : Access) → AnalyzerPull → Type 0
PullsAnalyzer before after port later_port pulled =
    PullsBy before.run before.room (analyzer_at before port) (analyzer_at after later_port) pulled

-- Nothing is done but to ask.
pub record LeavesAnalyzer (t : AnalyzerTaken) (reply : Polled) (turned : Turned) : Type 0 where
  pub asks : t.later_calls ≡ asked_so t.client t.calls reply
  pub analyzer : t.later ≡ t.analyzer
  pub port : t.later_port ≡ t.port
  pub turned_is : t.turned ≡ turned

-- The analyzer has no turn: it pulls once.
pub record WorksAnalyzer (t : AnalyzerTaken) (reply : Polled) : Type 0 where
  pub asks : t.later_calls ≡ asked_so t.client t.calls reply
  pub pulled : AnalyzerPull
  pub pulls : PullsAnalyzer t.analyzer t.later t.port t.later_port pulled
  pub turned_is : t.turned ≡ turned_by (has_got pulled)

-- The analyzer is given a turn: it takes it, and then gives the answer, if there is one yet.
pub record TakesAnalyzerTurn (t : AnalyzerTaken) (transition : Transition) (order : Order) (blank : Option Totals)
    (reply : Polled) : Type 0 where
  pub answer : Option Answer
  pub turns : TurnsBy transition t.analyzer.wanted order blank (analyzer_at t.analyzer t.port)
      (analyzer_at t.later t.later_port) answer
  pub gives : GivesAnswer t.client answer (asked_so t.client t.calls reply) t.later_calls
  pub last : AnswersLast answer t.stood t.later_port
  pub turned_is : t.turned ≡ Worked

-- The analyzer has yet to answer its turn: it pulls once; and where it can tell then what it counted, it gives that as the
-- answer.
pub record FinishesAnalyzer (t : AnalyzerTaken) (reply : Polled) : Type 0 where
  pub pulled : AnalyzerPull
  pub reading : AnalyzerState
  pub pulls : PullsAnalyzer t.analyzer reading t.port t.later_port pulled
  pub answer : Option Answer
  pub answer_is : answer ≡ report_answer reading.run
  pub gives : GivesAnswer t.client answer (asked_so t.client t.calls reply) t.later_calls
  pub last : AnswersLast answer t.stood t.later_port
  pub later : t.later ≡ record reading { run = run_reported reading.run answer }
  pub turned_is : t.turned ≡ turned_by (is_some answer || has_got pulled)

-- by what the engine replied, and whether a turn was owed before
abbrev pub TakesAnalyzerBy : Polled → (owed : Option ℕ) → AnalyzerTaken → Type 0
TakesAnalyzerBy Closed owed t = LeavesAnalyzer t Closed Ended
TakesAnalyzerBy NoClient owed t = LeavesAnalyzer t NoClient Idle
TakesAnalyzerBy (NoTurn state) owed t = WorksAnalyzer t (NoTurn state)
TakesAnalyzerBy (Turn transition order dump blank) None t =
    TakesAnalyzerTurn t transition order blank (Turn transition order dump blank)
TakesAnalyzerBy (Turn transition order dump blank) (Some start) t =
    FinishesAnalyzer t (Turn transition order dump blank)

-- The analyzer asks the engine once, and goes on by the reply.
pub record TakesAnalyzer (t : AnalyzerTaken) : Type 0 where
  pub reply : Polled
  pub takes : TakesAnalyzerBy reply (start_owed t.client t.calls) t

-- What is kept at every moment between two turns.

-- An analyzer as a member, with its calls on the engine, its calls on its buffer, and what it got there: it keeps its
-- contract over the turns that its calls on the engine tell, and refused a turn as not ready only where that came without a
-- blank report.
pub record AnalyzerMemberStands (client : ℕ) (analyzer : AnalyzerState) (calls : List EngineEntry) (own : List BufferEntry)
    (got : List GotEvent) : Type 0 where
  pub stands : AnalyzerStands analyzer.wanted analyzer.client analyzer.run own got (member_turns client calls)
  pub tells : AnalyzerTells analyzer.run (member_turns client calls)
  pub blanks : AreBare client calls

-- Where that held before a pull, it holds behind it, whatever the calls on the engine are.
abbrev pub KeepsAtPull : (before after : AnalyzerState) → (port later_port : Access) → Type 0
KeepsAtPull before after port later_port = (client : ℕ) → (calls : List EngineEntry) →
    AnalyzerMemberStands client before calls port.own port.got →
    AnalyzerMemberStands client after calls later_port.own later_port.got

-- So each analyzer that is a member has the analyzer's contract over its own calls.
abbrev pub MemberAnalyzersKeep : Type 0
MemberAnalyzersKeep = (client : ℕ) → (analyzer : AnalyzerState) → (calls : List EngineEntry) → (own : List BufferEntry) →
    (got : List GotEvent) → AnalyzerMemberStands client analyzer calls own got →
    KeepsAnalyzer analyzer.wanted own got (member_turns client calls)
