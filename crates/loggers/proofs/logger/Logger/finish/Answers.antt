use Rattle.loggers.proofs.EndedReady.{ended_room}
use Rattle.loggers.proofs.TurnsOwn.{finish_own}
use Rattle.loggers.proofs.FaultsNoted.{finish_faults}
use Rattle.loggers.specs.Finishing.{LoggerFinish}
use Rattle.loggers.proofs.logger.Logger.finish.Goals as goal

pub returns : goal.returns
returns g c =
    let f : LoggerFinish = record {
      run = c.args.self.now.run;
      later_run = c.end_run.new.self.run;
      dumps = c.args.self.now.dumps;
      later_dumps = c.end_run.new.self.dumps;
      slots = c.args.self.now.channels;
      later_slots = c.end_run.new.self.channels;
      files = g.F.Files.told c.args.files.now;
      later_files = g.F.Files.told c.end_run.new.files;
      answer = c.end_run.result;
    } in
    record {
      finishes = c.end_run.ensures.finishes;
      ready = c.end_run.ensures.ready;
      idle = c.end_run.ensures.idle;
      begun = c.end_run.ensures.begun;
      small = c.end_run.ensures.small;
      room = λ ports room. ended_room f ports c.end_run.ensures.finishes room;
      own = λ ports kept. finish_own f ports c.end_run.ensures.finishes kept;
      failed = finish_faults f c.end_run.ensures.finishes;
      keeps = λ ports turns stands. c.finishes_keep.ensures f ports turns c.end_run.ensures.finishes c.requires.files stands;
    }
