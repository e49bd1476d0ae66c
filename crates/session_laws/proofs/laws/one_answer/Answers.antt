use Rattle.session_laws.proofs.OneEach.{one_each}
use Rattle.session_laws.proofs.laws.one_answer.Goals as goal

pub returns : goal.returns
returns c =
    one_each (record {
      main = c.main_has_transition.ensures;
      refusals = c.tallies_answered.ensures.refusals;
      tallies = c.tallies_answered.ensures.tallies;
      rise = c.start_numbers_rise.ensures;
      counts = c.counts_tell.ensures;
      once = c.gives_once.ensures;
    })
