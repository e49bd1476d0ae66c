use Rattle.session_runs.proofs.MadeCalls.{cut_announced, not_saved, run_announced}
use Rattle.session_runs.proofs.starting.announce_run.Goals as goal

pub returns-in_default-clause-interrupted : goal.returns-in_default-clause-interrupted
returns-in_default-clause-interrupted g c =
    cut_announced c.args.run c.announce-time.result.0 c.announce-time.result.1 _ _ _ _ c.announce-time.ensures.reading c.announce-time.ensures.calls (not_saved c.announce-time.result.1 c.in_default.not-Ok)

pub returns-clause-announced : goal.returns-clause-announced
returns-clause-announced g c =
    run_announced c.args.run c.announce-time.result.0 c.args.quota c.args.count c.announce-time.result.1 c.in-Ok.dump c.in_ok-blanks.blanks c.start_sheet.result _ _ _ _ c.announce-time.ensures.reading c.announce-time.ensures.calls c.in-Ok.is
    c.start_sheet.ensures.is c.in_ok-blanks.ensures.made
