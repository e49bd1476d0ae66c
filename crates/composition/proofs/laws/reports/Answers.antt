use Rattle.composition.proofs.SessionTurns.{EngineFacts}
use Rattle.composition.proofs.ReportsTogether.{reports_told, reports_so, reports_whole, got_whole}
use Rattle.composition.proofs.laws.reports.Goals as goal

pub returns : goal.returns
returns c =
    let laws : EngineFacts = record {
      gives = c.gives_turns.ensures;
      begun = c.turns_begun.ensures.begun;
      from = c.turns_begun.ensures.starts;
      tallies = c.tallies_answered.ensures.tallies;
      told = c.called_told.ensures;
      rise = c.start_numbers_rise.ensures;
    } in
    record {
      told = reports_told laws;
      so = reports_so laws;
      whole = reports_whole c.sees_events.ensures c.sees_since.ensures c.fits_members.ensures.all;
      got = got_whole c.sees_events.ensures c.fits_members.ensures.all;
    }
