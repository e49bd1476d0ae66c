use Rattle.composition.proofs.SessionTurns.{EngineFacts}
use Rattle.composition.proofs.SentTogether.{fronts_tell, fronts_sent, fronts_stand, only_fronts_sent, segments_are_made}
use Rattle.composition.proofs.laws.fronts.Goals as goal

pub returns : goal.returns
returns c =
    let laws : EngineFacts = record {
      gives = c.gives_turns.ensures;
      begun = c.turns_begun.ensures.begun;
      from = c.turns_begun.ensures.starts;
      tallies = c.tallies_answered.ensures.tallies;
      told = c.called_told.ensures;
      rise = c.start_numbers_rise.ensures;
    } in
    record {
      tell = fronts_tell laws;
      sent = fronts_sent laws;
      stand = fronts_stand laws c.sent_by.ensures.order;
      only = only_fronts_sent c.sent_by.ensures.sent c.fits_members.ensures.all;
      made = segments_are_made laws c.sent_by.ensures.sent c.sent_by.ensures.among c.fits_members.ensures.all;
    }
