use Rattle.composition.proofs.SessionTurns.{EngineFacts}
use Rattle.session_laws.proofs.RisesTold.{rises_told}
use Rattle.session_laws.proofs.RunTurns.{TurnLaws}
use Rattle.session_laws.proofs.laws.rises_told.Goals as goal

pub returns : goal.returns
returns c =
    let facts : EngineFacts = record {
      gives = c.gives_turns.ensures;
      begun = c.turns_begun.ensures.begun;
      from = c.turns_begun.ensures.starts;
      tallies = c.tallies_answered.ensures.tallies;
      told = c.called_told.ensures;
      rise = c.start_numbers_rise.ensures;
    } in
    let turns : TurnLaws = record {
      main = c.main_has_transition.ensures;
      facts = facts;
      calls_off = c.called_off.ensures;
      started = c.names_kept.ensures.started;
      keep = c.members_keep.ensures;
      once = c.gives_once.ensures;
    } in
    rises_told (record { turns = turns; nos = c.tallies_answered.ensures.lone; names = c.reasons_given.ensures.names })
