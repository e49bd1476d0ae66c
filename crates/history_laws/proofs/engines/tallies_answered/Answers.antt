use Rattle.history_laws.proofs.LoneNos.{lone_nos_are_refusals}
use Rattle.history_laws.proofs.NosRefuse.{nos_are_refusals}
use Rattle.history_laws.proofs.StopsCompleted.{others_complete}
use Rattle.history_laws.proofs.Tallied.{dones_have_begins, tallies_are_answers, refusals_are_answers}
use Rattle.history_laws.proofs.engines.tallies_answered.Goals as goal

pub returns : goal.returns
returns c =
    record {
      begins = dones_have_begins c.tallies_belong.ensures;
      completed = others_complete c.follows.ensures;
      tallies = tallies_are_answers c.follows.ensures;
      refusals = refusals_are_answers c.follows.ensures;
      nos = nos_are_refusals;
      lone = lone_nos_are_refusals c.called_in_order.ensures;
    }
