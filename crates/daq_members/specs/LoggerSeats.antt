-- The logger in a session, with its own ports to the buffers and the run files.
use Rattle.std.specs.Prelude.{◌≡◌, ◌≤◌, ℕ, true, List, [], length, Option}
use Rattle.daq_types.specs.Callers.{caller_of_client}
use Rattle.daq_io.specs.Told.{FilesTold}
use Rattle.buffer_core.specs.Ports.{Access}
use Rattle.member_model.specs.RunEngines.{EngineEntry}
use Rattle.transition_lock.specs.declared.shared.SharedEngine.{SharedEngine}
use Rattle.member_model.specs.TurnCalls.{member_turns}
use Rattle.mid_logger.specs.declared.channel.Channel.{Channel}
use Rattle.loggers.specs.declared.logged_run.LoggedRun.{LoggedRun}
use Rattle.loggers.specs.declared.logged_run.RunDumps.{RunDumps}
use Rattle.loggers.specs.declared.logger.Logger.{Logger}
use Rattle.loggers.specs.Moments.{IsLoggerReady, AreSamePorts, AreIdleChannels}
use Rattle.loggers.specs.NewLoggers.{GiveEachOnce}
use Rattle.loggers.specs.SlotPulls.{HasEventRoom}
use Rattle.loggers.specs.Turning.{IsIdleOutside, DumpsFit, buffers_begun}
use Rattle.loggers.specs.LoggerStands.{LoggerStands}
use Rattle.loggers.specs.Reasons.{GivesReasons}
use Rattle.loggers.specs.LeftNames.{KeepsNames}
use Rattle.loggers.specs.OtherFiles.{specs_in, KeepsOtherFiles}
use Rattle.member_crew.specs.declared.turned.Turned.{Turned}
use Rattle.daq_members.specs.OwnTurns.{are_calls_for}
use Rattle.daq_members.specs.EngineClients.{EngineClientSeen, MemberClientSeen, at_first}
use Rattle.daq_members.specs.StartedRuns.{started_runs}
use Rattle.daq_members.specs.LoggerTaken.{LoggerTaken, HaveCaller}
use Rattle.daq_members.specs.ConnectedLoggers.{ConnectedSeen, connected, moment_at}

-- A logger in a session: the engine that it asks, its client number, and its run, with the dumps of its start and of its stop; its
-- calls on the engine; its channels, its access to each buffer, and the run files, as they are; the files as they were when it took
-- its seat; and the logger with all these as it stood when it answered last.
pub record LoggerSeen (F : Type 0) : Type 0 where
  pub engine : SharedEngine
  pub client : ℕ
  pub run : Option LoggedRun
  pub dumps : RunDumps
  pub calls : List EngineEntry
  pub slots : List (Option Channel)
  pub ports : List Access
  pub files : F
  pub first : F
  pub stood : ConnectedSeen F

-- a connected logger with its client at the engine, and the files as they were when it took its seat
abbrev pub logger_by : {F : Type 0} → MemberClientSeen (ConnectedSeen F) → ConnectedSeen F → (first : F) → LoggerSeen F
logger_by engine logger first = record {
  engine = engine.engine;
  client = engine.client;
  run = logger.run;
  dumps = logger.dumps;
  calls = engine.calls;
  slots = logger.slots;
  ports = logger.ports;
  files = logger.files;
  first = first;
  stood = engine.stood;
}

-- what is seen of a logger that gave no answer yet, by its client at the engine, the logger, its ports, and the run files, as they
-- are and as they were when it took its seat
abbrev pub logger_seen : {F : Type 0} → EngineClientSeen → Logger → List Access → (files first : F) → LoggerSeen F
logger_seen engine logger ports files first =
    logger_by (at_first engine (connected logger ports files)) (connected logger ports files) first

-- On the engine the logger polls and answers for its own client alone; the ports are the client's own, and it is ready for
-- each turn. Where its ports gave it no client that it has, it keeps its contract over its own calls on engine,
-- buffers and files; and all files but those of its channels in the runs that it was told to start are as they were when
-- it took its seat.
pub record IsLoggerSeated {F : Type 0} (read : F → FilesTold) (logger : LoggerSeen F) : Type 0 where
  pub speaks : are_calls_for logger.client logger.calls ≡ true
  pub caller : HaveCaller (caller_of_client logger.client) logger.ports
  pub ready : IsLoggerReady logger.slots logger.ports (read logger.files).seen
  pub room : (number : ℕ) → HasEventRoom number logger.slots logger.ports
  pub idle : IsIdleOutside logger.run logger.slots
  pub begun : buffers_begun logger.run ≤ length logger.ports
  pub small : DumpsFit logger.dumps
  pub stands : GiveEachOnce logger.ports →
      LoggerStands logger.run logger.dumps logger.slots logger.ports (member_turns logger.client logger.calls)
      (read logger.files).seen
  pub others : GiveEachOnce logger.ports →
      KeepsOtherFiles (specs_in logger.slots) (started_runs (member_turns logger.client logger.calls))
      (read logger.first).seen (read logger.files).seen

-- Each answer of the logger rests on the counts of the run files, as they were when it took its seat and as they are: a
-- start was refused for a name only where a clash was counted, for a fault only where one was, and for a buffer only where that
-- refused a call; and a channel broke off only where a fault was counted. And each clash that was counted is told, and so is each
-- fault, by an answer or by a channel that broke off, or else a start was undone.
abbrev pub HasLoggerReasons : {F : Type 0} → (read : F → FilesTold) → LoggerSeen F → Type 0
HasLoggerReasons read logger =
    GivesReasons logger.slots logger.ports (read logger.first) (read logger.files) (member_turns logger.client logger.calls)

-- Where names are told, the logger left all names of run files as they were when it took its seat, but those of its channels in the
-- runs that were started and stopped in its turns, in the run that it has, and, where more faults were counted than it told, in those
-- whose start was undone. So it is where its ports gave it no client that it has.
abbrev pub KeepsLoggerNames : {F : Type 0} → (read : F → FilesTold) → LoggerSeen F → Type 0
KeepsLoggerNames read logger = GiveEachOnce logger.ports →
    KeepsNames logger.slots (read logger.first) (read logger.files) (member_turns logger.client logger.calls)

-- All that.
pub record IsLoggerAtSeat {F : Type 0} (read : F → FilesTold) (logger : LoggerSeen F) : Type 0 where
  pub seated : IsLoggerSeated read logger
  pub reasons : HasLoggerReasons read logger
  pub names : KeepsLoggerNames read logger

-- A logger that made no call on the engine yet, and whose channels are idle, is ready for its seat: the ports are its client's own,
-- it is ready for each turn and keeps its contract over its calls, and its answers rest on the counts of any run files.
pub record IsFirstLogger {F : Type 0} (read : F → FilesTold) (logger : LoggerSeen F) : Type 0 where
  pub stands : GiveEachOnce logger.ports →
      LoggerStands logger.run logger.dumps logger.slots logger.ports (member_turns logger.client logger.calls)
      (read logger.files).seen
  pub caller : HaveCaller (caller_of_client logger.client) logger.ports
  pub ready : IsLoggerReady logger.slots logger.ports (read logger.files).seen
  pub room : (number : ℕ) → HasEventRoom number logger.slots logger.ports
  pub fresh : logger.calls ≡ []
  pub idle : AreIdleChannels logger.slots
  pub begun : buffers_begun logger.run ≤ length logger.ports
  pub small : DumpsFit logger.dumps
  pub reasons : (told : FilesTold) →
      GivesReasons logger.slots logger.ports told told (member_turns logger.client logger.calls)

-- a turn of the logger, by what is seen of it before and behind
abbrev pub logger_taken : {F : Type 0} → (read : F → FilesTold) → (before after : LoggerSeen F) → Turned → LoggerTaken
logger_taken read before after turned = record {
  client = before.client;
  calls = before.calls;
  later_calls = after.calls;
  run = before.run;
  later_run = after.run;
  dumps = before.dumps;
  later_dumps = after.dumps;
  before = record { slots = before.slots; ports = before.ports; files = read before.files };
  after = record { slots = after.slots; ports = after.ports; files = read after.files };
  stood = moment_at read after.stood;
  turned = turned;
}

-- The same logger: it asks the same engine by the same client number, leads to the same buffers, has the same channels,
-- and took its seat at the same files.
pub record IsSameLogger {F : Type 0} (before after : LoggerSeen F) : Type 0 where
  pub engine : after.engine ≡ before.engine
  pub client : after.client ≡ before.client
  pub ports : AreSamePorts before.ports after.ports
  pub specs : specs_in after.slots ≡ specs_in before.slots
  pub first : after.first ≡ before.first
