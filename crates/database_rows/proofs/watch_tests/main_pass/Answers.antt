use Rattle.odb_lock.specs.SharedOdbs.{odb_lock_of}
use Rattle.database_rows.proofs.watch_tests.main_pass.Goals as goal

pub returns-clause-own : goal.returns-clause-own
returns-clause-own g c = c.in-Some.ensures.taken_own (odb_lock_of c.args.shared.now) c.requires.own

pub returns-clause-idle : goal.returns-clause-idle
returns-clause-idle g c = (c.in-Some.ensures.taken_fresh c.requires.fresh).idle
