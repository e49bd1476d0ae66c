use Rattle.composition.proofs.SessionTurns.{EngineFacts}
use Rattle.session_laws.proofs.CountsTold.{counts_tell}
use Rattle.session_laws.proofs.RunTurns.{TurnLaws}
use Rattle.session_laws.proofs.laws.counts_tell.Goals as goal

pub returns : goal.returns
returns c =
    let facts : EngineFacts = record {
      gives = c.gives_turns.ensures;
      begun = c.turns_begun.ensures.begun;
      from = c.turns_begun.ensures.starts;
      tallies = c.tallies_answered.ensures.tallies;
      told = c.called_told.ensures;
      rise = c.start_numbers_rise.ensures;
    } in
    let turns : TurnLaws = record {
      main = c.main_has_transition.ensures;
      facts = facts;
      calls_off = c.called_off.ensures;
      started = c.names_kept.ensures.started;
      keep = c.members_keep.ensures;
      once = c.gives_once.ensures;
    } in
    counts_tell (record {
      main = c.main_has_transition.ensures;
      refusals = c.tallies_answered.ensures.refusals;
      tallies = c.tallies_answered.ensures.tallies;
      tell = c.reasons_given.ensures.tell;
      composed = c.ends_composed.ensures;
      stopped = c.made_are_stopped.ensures;
      turns = turns;
      over = c.runs_over.ensures;
      asking = record {
        attaches = c.refuses_for_cause.ensures.attaches;
        sum = c.refuses_for_cause.ensures.sum;
        requests = c.refuses_for_cause.ensures.requests;
        begins = c.refuses_for_cause.ensures.begins;
        fits = c.fits_members.ensures.all;
        senders = c.ends_runs.ensures.senders;
      };
      blanks = c.blanks_suffice.ensures;
    })
