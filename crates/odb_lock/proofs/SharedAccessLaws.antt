-- Each call by a port to a shared database is one of the port's caller.
use Rattle.std.specs.Prelude.{◌≡◌, ℕ, List, refl}
use Rattle.odb_watch.specs.declared.entry.WatchEntry.{WatchEntry}
use Rattle.odb_watch.specs.Steps.{IsLegalDatabase}
use Rattle.odb_watch.specs.DatabasePorts.{DatabaseIdentity, AddsEntry}
use Rattle.turn_lock.specs.History.{Appends}
use Rattle.odb_lock.specs.SharedAccesses.{shared_access}

pub shared_adds : (database : DatabaseIdentity) (caller after_caller : ℕ) (seen after : List (ℕ × WatchEntry)) (entry : WatchEntry) → after_caller ≡ caller → Appends caller entry seen after
    → IsLegalDatabase database.opened after → AddsEntry (shared_access database caller seen) (shared_access database after_caller after) entry
shared_adds database caller after_caller seen after entry same a legal = record {
  same = record { database = refl; caller = same };
  between = a.others;
  seen = a.list;
  foreign = a.foreign;
  legal = legal;
}
