use Rattle.std.proofs.Common.{sym, ◌∙◌, refl}
use Rattle.std.proofs.lemmas.List.{length-map}
use Rattle.loggers.proofs.InTurns.{turns_as_many}
use Rattle.loggers.proofs.TurnParts.{stop_taken}
use Rattle.loggers.proofs.logger.Logger.on_stop.Goals as goal

pub returns-clause-takes : goal.returns-clause-takes
returns-clause-takes g c =
    stop_taken _ _ c.if-not-goes_on.ensures (record {
      answer_is = refl;
      ends = turns_as_many _ _ _ _ _ (c.len-count.ensures ∙ sym (length-map c.args.ports.now g.P.BufferPort.access))
          (c.end_first.ensures.ends (g.F.Files.told c.args.files.now));
      run = refl;
      dumps = refl;
    })
