-- What contracts see of a shared database.
use Rattle.odb_tree.specs.Noting.{Watched}
use Rattle.odb_watch.specs.declared.entry.WatchEntry.{WatchEntry}
use Rattle.turn_lock.specs.declared.lock.Turns.{Turns}
use Rattle.turn_lock.specs.Passes.{first_value}
use Rattle.odb_lock.specs.declared.locked.LockedDatabase.{LockedDatabase}
use Rattle.odb_lock.specs.declared.shared.SharedOdb.{SharedOdb}

module _ {D : Type 0} where
  -- the lock, whose passes the calls take
  abbrev pub odb_lock_of : SharedOdb D → Turns (LockedDatabase D) Watched WatchEntry
  odb_lock_of shared = shared.turns

  -- the rows and the watches of the database as it came to be shared
  abbrev pub first_database : SharedOdb D → Watched
  first_database shared = (first_value (odb_lock_of shared)).database
