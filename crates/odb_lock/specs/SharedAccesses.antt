-- What a port to a shared database tells its caller.
use Rattle.std.specs.Prelude.{ℕ, List}
use Rattle.odb_tree.specs.Noting.{Watched}
use Rattle.odb_watch.specs.declared.entry.WatchEntry.{WatchEntry}
use Rattle.odb_watch.specs.DatabasePorts.{DatabaseAccess, DatabaseIdentity}
use Rattle.turn_lock.specs.declared.lock.Pass.{Pass}
use Rattle.turn_lock.specs.Passes.{number_of, seen_by, passes_of, lock_numbers}
use Rattle.odb_lock.specs.declared.locked.LockedDatabase.{LockedDatabase}
use Rattle.odb_lock.specs.declared.shared.SharedOdb.{SharedOdb}
use Rattle.odb_lock.specs.declared.access.SharedAccess.{SharedAccess}
use Rattle.odb_lock.specs.SharedOdbs.{odb_lock_of, first_database}

-- the access of this caller, who has seen these calls, to this database
abbrev pub shared_access : DatabaseIdentity → (caller : ℕ) → List (ℕ × WatchEntry) → DatabaseAccess
shared_access database caller seen = record { database = database; caller = caller; seen = seen }

-- which database a shared one is: the rows and the watches that it had as it came to be shared, its passes, and the numbers of
-- its lock
abbrev pub odb_identity : {D : Type 0} → SharedOdb D → DatabaseIdentity
odb_identity shared = record { opened = first_database shared; ports = passes_of (odb_lock_of shared); numbers = lock_numbers (odb_lock_of shared) }

module _ {D : Type 0} {g : _} where
  -- the pass by which the port calls
  abbrev pub odb_pass_of : SharedAccess D g → Pass (LockedDatabase D) Watched WatchEntry g
  odb_pass_of port = port.pass

  -- the shared database that it leads to
  abbrev pub odb_of : SharedAccess D g → SharedOdb D
  odb_of port = port.shared.now

  -- the caller is the pass's number, and has seen what the pass has seen of the one history of the database
  abbrev pub access_by_pass : SharedAccess D g → DatabaseAccess
  access_by_pass port = shared_access (odb_identity (odb_of port)) (number_of port.pass) (seen_by port.pass)
