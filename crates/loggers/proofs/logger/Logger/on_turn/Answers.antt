use Rattle.std.specs.Prelude.{◌≤◌, ℕ, IfSome, List, [], length, unwrap_or, Option, Some, None}
use Rattle.std.proofs.Common.{arith, map}
use Rattle.event.specs.Events.{record_limit}
use Rattle.loggers.specs.Moments.{moment_of}
use Rattle.loggers.specs.Turning.{LoggerTurn}
use Rattle.loggers.proofs.SameShape.{turn_ports, turn_room}
use Rattle.loggers.proofs.TurnsOwn.{turn_own}
use Rattle.loggers.proofs.FaultsNoted.{turn_faults}
use Rattle.loggers.proofs.logger.Logger.on_turn.Goals as goal

-- a turn without a dump has a small one
small_dump : (dump : Option (List ℕ)) → IfSome dump (λ bytes. length bytes ≤ record_limit) → length (unwrap_or dump []) ≤ record_limit
small_dump None small = omega arith
small_dump (Some bytes) small = small

pub returns : goal.returns
returns g c =
    let t : LoggerTurn = record {
      transition = c.args.transition;
      order = c.args.order.now;
      dump = c.args.dump;
      answer = c.take_turn.result;
      run = c.args.self.now.run;
      later_run = c.take_turn.new.self.run;
      dumps = c.args.self.now.dumps;
      later_dumps = c.take_turn.new.self.dumps;
      before = moment_of c.args.self.now.channels (map g.P.BufferPort.access c.args.ports.now) (g.F.Files.told c.args.files.now);
      after = moment_of c.take_turn.new.self.channels (map g.P.BufferPort.access c.take_turn.new.ports) (g.F.Files.told c.take_turn.new.files);
    } in
    record {
      takes = c.take_turn.ensures.takes;
      ready = c.take_turn.ensures.ready;
      idle = c.take_turn.ensures.idle;
      begun = c.take_turn.ensures.begun;
      small = c.take_turn.ensures.small;
      own = turn_own t c.take_turn.ensures.takes;
      failed = turn_faults t c.take_turn.ensures.takes;
      same = turn_ports t c.take_turn.ensures.takes;
      room = turn_room t c.take_turn.ensures.takes;
      keeps = λ turns answered none stands.
          c.turns_keep.ensures t turns c.take_turn.ensures.takes (small_dump c.args.dump c.requires.small) c.requires.ready c.take_turn.ensures.ready c.requires.idle c.take_turn.ensures.idle answered none stands;
    }
