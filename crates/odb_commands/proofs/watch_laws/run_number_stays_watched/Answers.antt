use Rattle.odb_commands.proofs.NumberStays.{number_stays}
use Rattle.odb_commands.proofs.watch_laws.run_number_stays_watched.Goals as goal

pub returns : goal.returns
returns c =
    number_stays (record {
      calls = c.run_number_stays.ensures.calls;
      put = c.run_number_stays.ensures.put;
      sound = c.texts_are_sound.ensures.acts;
      links = c.texts_are_sound.ensures.links;
    })
