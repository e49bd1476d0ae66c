use Rattle.std.proofs.Common.{rules, refl}
use Rattle.daq_session.proofs.NothingLaws.{nothing_ran}
use Rattle.daq_session.proofs.Promises.{console_wrote, database_kept, delivery_kept, ends_kept, ends_well, one_answer_kept, one_history_kept, other_files_kept, records_kept, reports_kept, run_files_kept, sends_kept}
use Rattle.daq_session.proofs.run.run_script.Goals as goal

pub returns-in_default : goal.returns-in_default
returns-in_default g c = let ran = nothing_ran _ c.args.outside _ c.empty.ensures.empty in record {
  ran = ran;
  one_history = tt;
  delivery = tt;
  front_end_sends = tt;
  run_files = tt;
  reports = tt;
  records = tt;
  database = tt;
  other_files = tt;
  one_answer = tt;
  completeness = λ memory. tt;
  console = console_wrote _ c.args.outside c.args.outside _ _ _ ran;
  well = λ memory. absurd (memory refl);
}

pub run_session-requires-clause-unread : goal.run_session-requires-clause-unread
run_session-requires-clause-unread g c = λ κs lives. record { reader = search rules; refusals = search rules; number = search rules }

pub returns-clause-one_history : goal.returns-clause-one_history
returns-clause-one_history g c = one_history_kept _ c.args.outside _ _ _ _ c.run_session.ensures.ran

pub returns-clause-delivery : goal.returns-clause-delivery
returns-clause-delivery g c = delivery_kept _ c.args.outside _ _ _ _ c.run_session.ensures.ran

pub returns-clause-front_end_sends : goal.returns-clause-front_end_sends
returns-clause-front_end_sends g c = sends_kept _ c.args.outside _ _ _ _ c.run_session.ensures.ran

pub returns-clause-run_files : goal.returns-clause-run_files
returns-clause-run_files g c = run_files_kept _ c.args.outside _ _ _ _ c.run_session.ensures.ran

pub returns-clause-reports : goal.returns-clause-reports
returns-clause-reports g c = reports_kept _ c.args.outside _ _ _ _ c.run_session.ensures.ran

pub returns-clause-records : goal.returns-clause-records
returns-clause-records g c = records_kept _ c.args.outside _ _ _ _ c.run_session.ensures.ran

pub returns-clause-database : goal.returns-clause-database
returns-clause-database g c = database_kept _ c.args.outside _ _ _ _ c.run_session.ensures.ran

pub returns-clause-other_files : goal.returns-clause-other_files
returns-clause-other_files g c = other_files_kept _ c.args.outside _ _ _ _ c.run_session.ensures.ran

pub returns-clause-one_answer : goal.returns-clause-one_answer
returns-clause-one_answer g c = one_answer_kept _ c.args.outside _ _ _ _ c.run_session.ensures.ran

pub returns-clause-completeness : goal.returns-clause-completeness
returns-clause-completeness g c = ends_kept _ c.args.outside _ _ _ _ c.run_session.ensures.ran

pub returns-clause-console : goal.returns-clause-console
returns-clause-console g c = console_wrote _ c.args.outside _ _ _ _ c.run_session.ensures.ran

pub returns-clause-well : goal.returns-clause-well
returns-clause-well g c = ends_well _ c.args.outside _ _ _ _ c.run_session.ensures.ran
