use Rattle.odb_lock.specs.SharedOdbs.{odb_lock_of}
use Rattle.odb_journal.proofs.owning.OwningAccess.new.Goals as goal

pub invariant_of-result : goal.invariant_of-result
invariant_of-result g c = record {
  own = c.in-Some.ensures.taken_own (odb_lock_of c.in_ok-database.database) c.in_ok-database.ensures.own;
  idle = (c.in-Some.ensures.taken_fresh c.in_ok-database.ensures.fresh).idle;
}
