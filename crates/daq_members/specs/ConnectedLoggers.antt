-- The logger connected to its buffers and to the run files, and what its calls leave.
use Rattle.std.specs.Prelude.{◌≡◌, ◌≤◌, ℕ, List, length, Option}
use Rattle.daq_types.specs.declared.runs.Order.{Order}
use Rattle.daq_types.specs.declared.runs.Transition.{Transition}
use Rattle.daq_io.specs.Told.{FilesTold}
use Rattle.buffer_core.specs.Ports.{Access}
use Rattle.member_model.specs.RunEngines.{Answer}
use Rattle.member_model.specs.Turns.{MemberTurn}
use Rattle.mid_logger.specs.declared.channel.Channel.{Channel}
use Rattle.loggers.specs.declared.logged_run.LoggedRun.{LoggedRun}
use Rattle.loggers.specs.declared.logged_run.RunDumps.{RunDumps}
use Rattle.loggers.specs.declared.logger.Logger.{Logger}
use Rattle.loggers.specs.Moments.{LoggerMoment, IsLoggerReady, AreSamePorts, moment_of}
use Rattle.loggers.specs.SlotPulls.{HasEventRoom}
use Rattle.loggers.specs.Turning.{LoggerTurn, IsIdleOutside, DumpsFit, buffers_begun}
use Rattle.loggers.specs.Finishing.{LoggerFinish}
use Rattle.loggers.specs.LoggerStands.{LoggerStands}
use Rattle.member_crew.specs.declared.turned.Turned.{Turned}
use Rattle.daq_members.specs.EngineClients.{MemberClientSeen}
use Rattle.daq_members.specs.LoggerTaken.{LoggerTaken}

-- A logger connected to its buffers and the run files: its run, with the dumps of its start and of its stop, its channels, its access
-- to each buffer, and the files.
pub record ConnectedSeen (F : Type 0) : Type 0 where
  pub run : Option LoggedRun
  pub dumps : RunDumps
  pub slots : List (Option Channel)
  pub ports : List Access
  pub files : F

-- this logger with these ports and these files
abbrev pub connected : {F : Type 0} → Logger → List Access → (files : F) → ConnectedSeen F
connected logger ports files = record {
  run = logger.run;
  dumps = logger.dumps;
  slots = logger.channels;
  ports = ports;
  files = files;
}

-- the logger's moment, by what is told of its files
abbrev pub moment_at : {F : Type 0} → (read : F → FilesTold) → ConnectedSeen F → LoggerMoment
moment_at read logger = moment_of logger.slots logger.ports (read logger.files)

-- It is ready for each turn: each channel's port and file are there, with room for an event; where no run is on, the channels are
-- idle; the run is begun in no buffer but those that it has a port to; and each dump of the run fits into a record.
pub record IsConnected {F : Type 0} (read : F → FilesTold) (logger : ConnectedSeen F) : Type 0 where
  pub ready : IsLoggerReady logger.slots logger.ports (read logger.files).seen
  pub room : (number : ℕ) → HasEventRoom number logger.slots logger.ports
  pub idle : IsIdleOutside logger.run logger.slots
  pub begun : buffers_begun logger.run ≤ length logger.ports
  pub small : DumpsFit logger.dumps

-- it keeps its contract over these turns
abbrev pub StandsOver : {F : Type 0} → (read : F → FilesTold) → List MemberTurn → ConnectedSeen F → Type 0
StandsOver read turns logger =
    LoggerStands logger.run logger.dumps logger.slots logger.ports turns (read logger.files).seen

-- What pulls leave as it is: the run, its dumps and the buffers that the ports lead to; and the contract, over whatever turns it was
-- kept.
pub record StaysAtPulls {F : Type 0} (read : F → FilesTold) (before after : ConnectedSeen F) : Type 0 where
  pub run : after.run ≡ before.run
  pub dumps : after.dumps ≡ before.dumps
  pub same : AreSamePorts before.ports after.ports
  pub keeps : (turns : List MemberTurn) → StandsOver read turns before → StandsOver read turns after

-- a turn that the logger is given, with its answer
abbrev pub connected_turned : {F : Type 0} → (read : F → FilesTold) → Transition → Order → (dump : Option (List ℕ)) →
    Option Answer → (before after : ConnectedSeen F) → LoggerTurn
connected_turned read transition order dump answer before after = record {
  transition = transition;
  order = order;
  dump = dump;
  answer = answer;
  run = before.run;
  later_run = after.run;
  dumps = before.dumps;
  later_dumps = after.dumps;
  before = moment_at read before;
  after = moment_at read after;
}

-- a try to answer the stop that waits
abbrev pub connected_finish : {F : Type 0} → (read : F → FilesTold) → Option Answer → (before after : ConnectedSeen F) →
    LoggerFinish
connected_finish read answer before after = record {
  run = before.run;
  later_run = after.run;
  dumps = before.dumps;
  later_dumps = after.dumps;
  slots = before.slots;
  later_slots = after.slots;
  files = read before.files;
  later_files = read after.files;
  answer = answer;
}

-- a turn of the member, with its client at the engine, and what it came to
abbrev pub connected_taken : {F : Type 0} → (read : F → FilesTold) → (engine later_engine : MemberClientSeen (ConnectedSeen F)) →
    (before after : ConnectedSeen F) → Turned → LoggerTaken
connected_taken read engine later_engine before after turned = record {
  client = engine.client;
  calls = engine.calls;
  later_calls = later_engine.calls;
  run = before.run;
  later_run = after.run;
  dumps = before.dumps;
  later_dumps = after.dumps;
  before = moment_at read before;
  after = moment_at read after;
  stood = moment_at read later_engine.stood;
  turned = turned;
}
