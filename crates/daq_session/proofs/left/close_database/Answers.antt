use Rattle.turn_lock.specs.Passes.{passes_of}
use Rattle.odb_lock.specs.SharedOdbs.{odb_lock_of}
use Rattle.session_objects.proofs.ClosingLaws.{parts_held}
use Rattle.daq_session.specs.Played.{seen_by_main}
use Rattle.daq_session.proofs.AloneLaws.{main_alone}
use Rattle.daq_session.proofs.left.close_database.Goals as goal

pub returns : goal.returns
returns g c = record {
  alone = λ seen kept.
      let closed = c.in-Ok.ensures in
      main_alone (passes_of (odb_lock_of c.args.shared)) seen _ c.requires.some
      (parts_held (seen_by_main seen) (odb_lock_of c.args.shared) c.args.passes _ kept (record { parts = closed.parts; others = closed.known }));
}
