use Rattle.std.proofs.Common.{◌∙◌, refl, sym}
use Rattle.session_objects.specs.Returns.{logger_end}
use Rattle.session_objects.proofs.ChangeLaws.{some_same}
use Rattle.session_objects.proofs.ListedLaws.{logger_left}
use Rattle.session_objects.proofs.membership.Membership.take_back.Goals as goal

pub take_back_all-requires : goal.take_back_all-requires
take_back_all-requires g c = λ κs bounds. (bounds.0, (bounds.1, (refl, (c.requires.members, (c.requires.out, (c.requires.engine, c.requires.database))))))

pub returns : goal.returns
returns g c =
    let m = c.args.self.now in record {
      calls = c.take_back_all.ensures.calls;
      logger = λ logger has. some_same c.take_back_all.result.logger (logger_end logger)
          (sym c.take_back_all.ensures.logger ∙ logger_left m.lists.now m.objects.now m.database.now c.args.members c.requires.members logger has);
    }
