-- So far each channel below the number pulled once, with the dump of the run.
use Rattle.std.specs.Prelude.{◌≤◌, [], unwrap_or}
use Rattle.daq_members.specs.LoggerTaken.{PullsBelow}
use Rattle.daq_members.specs.ConnectedLoggers.{StaysAtPulls, moment_at}
use Rattle.daq_members.proofs.connected_logger.ConnectedLogger.pull_all.Given as goal

abbrev pub invariant-loop-channel : goal.invariant-loop-channel
invariant-loop-channel g l = record {
  pulls : PullsBelow (unwrap_or l.initial.self.dumps.start []) l.channel l.got
      (moment_at g.F.Files.told l.initial.self)
      (moment_at g.F.Files.told l.self);
  within : l.channel ≤ l.bound;
  stays : StaysAtPulls g.F.Files.told l.initial.self l.self;
}
