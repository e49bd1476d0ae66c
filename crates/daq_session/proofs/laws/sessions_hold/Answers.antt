use Rattle.std.specs.Prelude.{true}
use Rattle.daq_session.proofs.NumberLaws.{RunLaws}
use Rattle.daq_session.proofs.SessionsEnd.{EndedLaws, keeps}
use Rattle.daq_session.proofs.laws.sessions_hold.Goals as goal

pub returns : goal.returns
returns g c = λ first_files final run_files is.
    let numbers : RunLaws = record {
      stays = c.run_number_stays_watched.ensures;
      given = c.run_number_given.ensures.value;
      opens = c.run_number_opens.ensures true;
      sets = c.own_calls_spare.ensures.sets;
      listed = c.members_listed.ensures;
      among = c.sent_by.ensures.among;
      differ = c.starts_differ.ensures;
    } in
    let laws : EndedLaws g.F.Files.told c.args.kept.now = record {
      ends = c.members_end.ensures;
      holds = c.session_ended.ensures;
      starts = c.starts_end.ensures;
      counts = c.counts_end.ensures;
      one_answer = c.one_answer_end.ensures;
      rises = c.rises_end.ensures;
      names = c.names_end.ensures;
      records = c.records_end.ensures;
      refusals = c.refusals_end.ensures;
    } in
    keeps _ first_files final run_files c.args.kept.now is c.members_counted.ensures numbers laws
