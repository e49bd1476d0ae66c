use Rattle.std.proofs.Common.{Some, map, ap, refl}
use Rattle.member_model.specs.RunEngines.{Answer}
use Rattle.loggers.specs.Turning.{buffers_begun, is_of_start}
use Rattle.loggers.proofs.InTurns.{turns_as_many}
use Rattle.loggers.proofs.TurnParts.{abort_taken, found_of, found_is}
use Rattle.loggers.proofs.logger.Logger.on_abort.Goals as goal

pub returns-clause-takes : goal.returns-clause-takes
returns-clause-takes g c = λ dump.
    abort_taken _ _ (found_of (is_of_start c.args.self.now.run c.args.order.now.start) (buffers_begun c.args.self.now.run) c.in-Some.begun c.in-Some.ensures) (record {
      answer_is = ap (λ (a : Answer). Some a) c.plain-2.ensures;
      ended = record {
        slots = c.end_first.new.slots;
        ports = map g.P.BufferPort.access c.end_first.new.ports;
        files = g.F.Files.told c.args.files.now;
      };
      ends = turns_as_many _ _ _ _ _ (found_is (is_of_start c.args.self.now.run c.args.order.now.start) (buffers_begun c.args.self.now.run) c.in-Some.begun c.in-Some.ensures)
          (c.end_first.ensures.ends (g.F.Files.told c.args.files.now));
      aborts = c.abort_all.ensures.aborts;
      run = refl;
      dumps = c.without_dumps.ensures;
    })
