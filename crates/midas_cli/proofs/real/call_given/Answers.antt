use Rattle.std.proofs.Common.{Ok, refl}
use Rattle.midas_cli.proofs.Given.{ran_of, words_of}
use Rattle.midas_cli.proofs.real.call_given.Goals as goal

pub returns-clause-words : goal.returns-clause-words
returns-clause-words g c =
    let w = c.in_ok-words in
    rw c.of-called.ensures (words_of _ _ _ (Ok w.words) w.words refl w.ensures.words w.ensures.no_text w.ensures.none)

pub returns-clause-ran : goal.returns-clause-ran
returns-clause-ran g c =
    let m = c.midas-outcome.ensures in
    ran_of _ _ _ _ _ _ _ _ _ c.of-called.ensures c.of-before.ensures c.of-after.ensures c.of-end.ensures (record {
      status = m.status;
      usage = m.usage;
      usage_whole = m.usage_line;
      usage_part = m.usage_part;
      usage_files = m.usage_files;
      tool = m.tool;
      generated = m.generated;
      generated_files = m.generated_files;
      files = m.files;
      database_files = m.database_files;
      source = m.source;
      clock = m.clock;
      picks = m.picks;
      session = m.session;
      file_replies = m.file_replies;
      one_history = m.one_history;
      delivery = m.delivery;
      front_end_sends = m.front_end_sends;
      run_files = m.run_files;
      reports = m.reports;
      records = m.records;
      database = m.database;
      other_files = m.other_files;
      one_answer = m.one_answer;
      completeness = m.completeness;
      console = m.console;
      ends_well = m.ends_well;
      ran = m.ran;
    })
