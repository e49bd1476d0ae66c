-- What a port tells that owns its database.
use Rattle.odb_watch.specs.DatabasePorts.{DatabaseAccess}
use Rattle.turn_lock.specs.Passes.{number_of, seen_by}
use Rattle.odb_lock.specs.SharedAccesses.{shared_access, odb_identity}
use Rattle.odb_journal.specs.declared.owning.OwningAccess.{OwningAccess}

-- The caller is the pass's number, and has seen what the pass has seen of the history of the database.
abbrev pub owned_database : {D : Type 0} {g : _} → OwningAccess D g → DatabaseAccess
owned_database port = shared_access (odb_identity port.database) (number_of port.pass) (seen_by port.pass)
