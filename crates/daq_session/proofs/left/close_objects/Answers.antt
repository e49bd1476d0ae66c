use Rattle.daq_session.proofs.ClosedLaws.{recorded}
use Rattle.daq_session.proofs.left.close_objects.Goals as goal

pub returns : goal.returns
returns g c = record {
  kept = λ first_files final run_files rows kept over spares ends.
      c.sessions_hold.ensures first_files final run_files
      (recorded _ c.args.shared first_files final run_files c.args.ended c.close-record.result rows kept over spares ends c.close-record.ensures.histories c.close-record.ensures.calls c.close-record.ensures.runs);
}
