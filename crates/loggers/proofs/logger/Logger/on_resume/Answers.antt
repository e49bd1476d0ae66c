use Rattle.std.proofs.Common.{Some, ap, sym, refl}
use Rattle.std.proofs.lemmas.List.{length-map}
use Rattle.member_model.specs.RunEngines.{Answer}
use Rattle.loggers.proofs.InTurns.{turns_as_many}
use Rattle.loggers.proofs.TurnParts.{mark_taken}
use Rattle.loggers.proofs.logger.Logger.on_resume.Goals as goal

pub returns-clause-takes : goal.returns-clause-takes
returns-clause-takes g c = λ dump.
    mark_taken _ _ _ c.if-not-goes_on.ensures (record {
      answer_is = ap (λ (a : Answer). Some a) c.plain-2.ensures;
      marks = turns_as_many _ _ _ _ _ (sym (length-map c.args.ports.now g.P.BufferPort.access))
          (c.resume_all.ensures.resumes c.args.self.now.channels (g.F.Files.told c.args.files.now));
      run = refl;
      dumps = refl;
    })
