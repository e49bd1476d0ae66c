use Rattle.std.proofs.Common.{sym, ◌∙◌}
use Rattle.front_ends.proofs.FrontMoments.{sent_in_own, sent_of_run}
use Rattle.front_ends.proofs.front_end.FrontEnd.sent_in.Goals as goal

pub returns-clause-in_run : goal.returns-clause-in_run
returns-clause-in_run g c = λ own turns stands are in_run.
    sent_in_own (g.X.Equipment.takes c.self.inside.equipment) (g.X.Equipment.makes c.self.inside.equipment) c.self.inside.run own turns c.args.start
    (rw (← c.self.view_is) at stands) are (rw (← c.self.view_is) at in_run)
    ∙ sym c.sent_of.ensures

pub returns-clause-of_run : goal.returns-clause-of_run
returns-clause-of_run g c = λ own turns stands are of_run.
    sent_of_run (g.X.Equipment.takes c.self.inside.equipment) (g.X.Equipment.makes c.self.inside.equipment) c.self.inside.run own turns c.args.start
    (rw (← c.self.view_is) at stands) are of_run
    ∙ sym c.sent_of.ensures
