use Rattle.std.proofs.Common.{subst}
use Rattle.odb_lock.specs.SharedOdbs.{odb_lock_of}
use Rattle.session_objects.proofs.ClosingLaws.{all_kept}
use Rattle.daq_session.specs.Played.{IsBack, SessionEnds, seen_by_main}
use Rattle.daq_session.proofs.left.close_left.Goals as goal

pub close_objects-requires : goal.close_objects-requires
close_objects-requires g c = record { back = subst (IsBack c.args.shared) c.in-Session.is c.requires.back }

pub close_database-requires-clause-all : goal.close_database-requires-clause-all
close_database-requires-clause-all g c =
    let back = subst (IsBack c.args.shared) c.in-Unopened.is c.requires.back in
    all_kept (seen_by_main back.0) (odb_lock_of c.args.shared) _ back.1

pub returns-in-Session : goal.returns-in-Session
returns-in-Session g c = record {
  kept = λ first_files final run_files rows kept over spares ends.
      c.close_objects.ensures.kept first_files final run_files rows kept over spares (subst (SessionEnds _ c.args.shared first_files final run_files) c.in-Session.is ends);
}

pub returns-in-Unopened : goal.returns-in-Unopened
returns-in-Unopened g c = record {
  kept = λ first_files final run_files rows kept over spares ends.
      let unopened = subst (SessionEnds _ c.args.shared first_files final run_files) c.in-Unopened.is ends in
      record { closed = unopened.closed; files = unopened.files; alone = c.close_database.ensures.alone final.database.access.seen unopened.alone };
}
