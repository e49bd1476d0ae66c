use Rattle.composition.proofs.SessionTurns.{EngineFacts}
use Rattle.composition.proofs.FilesTogether.{CallerFacts, channels_told, ends_told, ends_so, files_hold_runs, files_hold_parts, runs_are_ended, no_end_refused}
use Rattle.composition.proofs.laws.files.Goals as goal

pub returns : goal.returns
returns c =
    let laws : EngineFacts = record {
      gives = c.gives_turns.ensures;
      begun = c.turns_begun.ensures.begun;
      from = c.turns_begun.ensures.starts;
      tallies = c.tallies_answered.ensures.tallies;
      told = c.called_told.ensures;
      rise = c.start_numbers_rise.ensures;
    } in
    let callers : CallerFacts = record {
      places = c.reads_places.ensures;
      events = c.reads_events.ensures;
      cut = c.cut_short.ensures;
      fits_file = c.file_fits.ensures;
      fits = c.fits_members.ensures.all;
      ends = c.ends_runs.ensures.ended;
      senders = c.ends_runs.ensures.senders;
    } in
    record {
      told = channels_told laws;
      ends = ends_told laws;
      so = ends_so laws;
      ended = runs_are_ended laws callers;
      unrefused = no_end_refused laws callers;
      hold = files_hold_runs laws callers c.files_of_run.ensures;
      parts = files_hold_parts laws callers;
    }
