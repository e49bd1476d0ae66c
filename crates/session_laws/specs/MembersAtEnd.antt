-- What is known of a session's members when its objects are closed: each history is legal, and each caller's calls are those
-- of a member that keeps its contract, or of the main thread.
use Rattle.std.specs.Prelude.{◌≡◌, ◌≢◌, ℕ, ◌<◌, ◌≤◌, true, List, [], ◌++◌, length, slice_get, Option, Some}
use Rattle.std.specs.List.{AllByRecursion}
use Rattle.daq_types.specs.Callers.{caller_of_client, main_caller}
use Rattle.buffer_core.specs.Window.{opening}
use Rattle.buffer_core.specs.Histories.{History, IsLegal}
use Rattle.buffer_core.specs.Ports.{Access}
use Rattle.buffer_core.specs.CallersView.{given_in, taken_back_in}
use Rattle.transitions.specs.Engines.{engine_opening}
use Rattle.member_model.specs.RunEngines.{EngineEntry, IsLegalEngine}
use Rattle.odb_watch.specs.Steps.{IsLegalDatabase}
use Rattle.turn_lock.specs.History.{IsPartOf}
use Rattle.daq_types.specs.Callers.{entries_by}
use Rattle.member_model.specs.TurnCalls.{member_turns}
use Rattle.front_ends.specs.declared.front_run.FrontRun.{FrontRun}
use Rattle.loggers.specs.declared.logged_run.LoggedRun.{LoggedRun}
use Rattle.loggers.specs.declared.logged_run.RunDumps.{RunDumps}
use Rattle.loggers.specs.NewLoggers.{GiveEachOnce}
use Rattle.loggers.specs.LoggerStands.{LoggerStands}
use Rattle.loggers.specs.OtherFiles.{specs_in, KeepsOtherFiles}
use Rattle.session_runs.specs.declared.opening.MemberName.{MemberName}
use Rattle.session_runs.specs.Members.{member_in, registrations, reporter_count}
use Rattle.transitions.specs.declared.sequences.Role.TheVariants.{FrontEnd, Logger, Analyzer}
use Rattle.mid_logger.specs.ChannelTurns.{logger_name}
use Rattle.session_runs.specs.RunsFit.{SteersEngine}
use Rattle.daq_members.specs.OwnTurns.{are_calls_for}
use Rattle.daq_members.specs.StartedRuns.{started_runs}
use Rattle.daq_members.specs.FrontTaken.{FrontMemberStands}
use Rattle.analyzers.specs.Analyzers.{AnalyzerState}
use Rattle.daq_members.specs.AnalyzerTaken.{AnalyzerMemberStands}
use Rattle.session_laws.specs.ClosedSessions.{ClosedAnalyzer, ClosedBuffer, ClosedFront, ClosedSession, logger_client, logger_caller, analyzer_client, last_caller, engine_calls, calls_on_buffer, calls_on_database, got_from_buffer}

-- The front-end with this client number, with these moments of its turns: it keeps its contract over its calls on the engine, on its
-- buffer and on the database; and it called on no other buffer.
pub record FrontAtEnd (c : ClosedSession) (client : ℕ) (f : ClosedFront) (moments : List ℕ) : Type 0 where
  pub run : Option FrontRun
  pub stands : FrontMemberStands client f.name f.takes f.makes run (engine_calls c (caller_of_client client))
      (calls_on_buffer c (caller_of_client client) f.buffer) moments (calls_on_database c (caller_of_client client))
  pub elsewhere : (buffer : ℕ) → buffer ≢ f.buffer → calls_on_buffer c (caller_of_client client) buffer ≡ []

-- What this caller's port to the buffer told it: a beginning of the buffer's history, with all of its own calls.
pub record IsAccessTo (caller : ℕ) (b : ClosedBuffer) (a : Access) : Type 0 where
  pub seen : History
  pub part : IsPartOf b.history caller seen
  pub own : a.own ≡ entries_by caller seen
  pub got : a.got ≡ given_in caller (opening b.size) seen
  pub known : a.taken_back ≡ taken_back_in caller 0 seen

-- The logger has a port to each buffer. Where these gave it no client that it has, it keeps its contract over its calls on the engine,
-- what its ports told it, and the run files; and it left all files but those of its channels in the runs that it was told to start.
pub record LoggerAtEnd (c : ClosedSession) : Type 0 where
  pub run : Option LoggedRun
  pub dumps : RunDumps
  pub ports : List Access
  pub many : length ports ≡ length c.buffers
  pub access : (buffer : ℕ) → (a : Access) → (b : ClosedBuffer) → slice_get ports buffer ≡ Some a →
      slice_get c.buffers buffer ≡ Some b → IsAccessTo (logger_caller c) b a
  pub stands : GiveEachOnce ports →
      LoggerStands run dumps c.slots ports (member_turns (logger_client c) (engine_calls c (logger_caller c))) c.files
  pub others : GiveEachOnce ports →
      KeepsOtherFiles (specs_in c.slots) (started_runs (member_turns (logger_client c) (engine_calls c (logger_caller c))))
      c.first_files c.files

-- The analyzer with this client number: it keeps its contract over its calls on the engine and on its buffer, and what these
-- gave; and it called on no other buffer.
pub record AnalyzerAtEnd (c : ClosedSession) (client : ℕ) (a : ClosedAnalyzer) : Type 0 where
  pub analyzer : AnalyzerState
  pub wanted : analyzer.wanted ≡ a.wanted
  pub stands : AnalyzerMemberStands client analyzer (engine_calls c (caller_of_client client))
      (calls_on_buffer c (caller_of_client client) a.buffer) (got_from_buffer c (caller_of_client client) a.buffer)
  pub elsewhere : (buffer : ℕ) → buffer ≢ a.buffer → calls_on_buffer c (caller_of_client client) buffer ≡ []

-- Each front-end, the logger and each analyzer is registered by its name at its client number, and no other member as the logger;
-- and as many count in reports as there are analyzers.
pub record NamesMembers (c : ClosedSession) : Type 0 where
  pub fronts : (client : ℕ) → (f : ClosedFront) → slice_get c.fronts client ≡ Some f →
      slice_get c.registered client ≡ Some (member_in FrontEnd f.name)
  pub logger : slice_get c.registered (logger_client c) ≡ Some (member_in Logger logger_name)
  pub analyzers : (place : ℕ) → (a : ClosedAnalyzer) → slice_get c.analyzers place ≡ Some a →
      slice_get c.registered (analyzer_client c place) ≡ Some (member_in Analyzer a.name)
  pub one_logger : (client : ℕ) → (m : MemberName) → slice_get c.registered client ≡ Some m → m.role ≡ Logger →
      client ≡ logger_client c
  pub reporters : reporter_count c.registered ≡ length c.analyzers

-- The main thread: on the engine it registered the members, and then made and ended transitions; and it called on no buffer.
pub record MainAtEnd (c : ClosedSession) : Type 0 where
  pub later : List EngineEntry
  pub calls : engine_calls c main_caller ≡ registrations 0 c.registered ++ later
  pub steers : AllByRecursion SteersEngine later
  pub buffers : (buffer : ℕ) → calls_on_buffer c main_caller buffer ≡ []

-- There are no callers of the engine and of the buffers but the main thread and the members, and none of the database but the
-- main thread and the front-ends, whose callers are the numbers from 1 on.
pub record NoOthers (c : ClosedSession) : Type 0 where
  pub engine : (by : ℕ) → last_caller c < by → engine_calls c by ≡ []
  pub buffers : (by : ℕ) → last_caller c < by → (buffer : ℕ) → calls_on_buffer c by buffer ≡ []
  pub database : (by : ℕ) → length c.fronts < by → calls_on_database c by ≡ []

-- All that, with the moments of each front-end's turns, by its client number; and on the engine each client polls and answers for
-- itself alone.
pub record MembersAtEnd (c : ClosedSession) : Type 0 where
  pub buffers : (number : ℕ) → (b : ClosedBuffer) → slice_get c.buffers number ≡ Some b →
      IsLegal (opening b.size) b.history
  pub engine : IsLegalEngine engine_opening c.engine
  pub database : IsLegalDatabase c.opened c.database
  pub speaks : (client : ℕ) → are_calls_for client (engine_calls c (caller_of_client client)) ≡ true
  pub moments : (client : ℕ) → List ℕ
  pub fronts : (client : ℕ) → (f : ClosedFront) → slice_get c.fronts client ≡ Some f → FrontAtEnd c client f (moments client)
  pub logger : LoggerAtEnd c
  pub analyzers : (place : ℕ) → (a : ClosedAnalyzer) → slice_get c.analyzers place ≡ Some a →
      AnalyzerAtEnd c (analyzer_client c place) a
  pub few_analyzers : length c.analyzers ≤ 8
  pub named : NamesMembers c
  pub main : MainAtEnd c
  pub others : NoOthers c
