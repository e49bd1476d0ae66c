-- The online database of a session that no start opened yet, and that session.
use Rattle.std.specs.Prelude.{◌≡◌, ℕ, ◌∷◌, []}
use Rattle.daq_types.specs.Callers.{main_caller}
use Rattle.turn_lock.specs.declared.lock.Pass.{Pass}
use Rattle.turn_lock.specs.declared.roster.Passes.{Passes}
use Rattle.turn_lock.specs.Passes.{IsOf, number_of, passes_of}
use Rattle.turn_lock.specs.Roster.{IsFresh}
use Rattle.odb_tree.specs.Noting.{Watched}
use Rattle.odb_watch.specs.declared.entry.WatchEntry.{WatchEntry}
use Rattle.odb_watch.specs.Steps.{unwatched}
use Rattle.daq_session.specs.SessionRows.{session_rows}
use Rattle.odb_lock.specs.declared.locked.LockedDatabase.{LockedDatabase}
use Rattle.odb_lock.specs.declared.shared.SharedOdb.{SharedOdb}
use Rattle.odb_lock.specs.SharedOdbs.{first_database, odb_lock_of}
use Rattle.odb_lock.specs.declared.access.SharedAccess.{SharedAccess}
use Rattle.odb_lock.specs.SharedAccesses.{access_by_pass, odb_identity, shared_access}
use Rattle.session_setup.specs.Setup.{nothing_declared}
use Rattle.session_commands.specs.declared.unopened.Unopened.{Unopened}
use Rattle.session_objects.specs.Rosters.{KeepsFresh}

-- how many passes the database has: one for the main thread, and one for each front-end that may be declared
abbrev pub database_passes : ℕ
database_passes = 33

-- The database has the run's parameters and no watch, and nobody called it yet: these are the main thread's pass and all others.
pub record IsNewDatabase {D : Type 0} {g : _} (shared : SharedOdb D) (main : Pass (LockedDatabase D) Watched WatchEntry g)
    (passes : Passes (LockedDatabase D) Watched WatchEntry g) : Type 0 where
  pub rows : first_database shared ≡ unwatched session_rows
  pub callers : passes_of (odb_lock_of shared) ≡ database_passes
  pub main_is : number_of main ≡ main_caller
  pub own : IsOf (odb_lock_of shared) main
  pub fresh : IsFresh main
  pub others : KeepsFresh (main_caller ∷ []) (odb_lock_of shared) passes

-- Nothing was declared of the session, and no line of its script answered; the main thread's port leads to this database, and nothing
-- was called by it; and these are its files and its clock.
pub record IsUnopenedSession {D E C : Type 0} {g : _} {d : _} {e : _} {c : _} (shared : SharedOdb D) (files : E) (clock : C)
    (session : Unopened (SharedAccess D g) E C d e c) : Type 0 where
  pub quota : session.quota ≡ 0
  pub nothing : session.declarations ≡ nothing_declared
  pub access : access_by_pass session.side.database.access ≡ shared_access (odb_identity shared) main_caller []
  pub files_are : session.side.database.files ≡ files
  pub replies : session.side.database.replies.replies ≡ []
  pub clock_is : session.side.clock ≡ clock

-- Such a session over a new database, of which these are the passes but for the main thread's.
pub record IsNewSession {D E C : Type 0} {g : _} {d : _} {e : _} {c : _} (shared : SharedOdb D)
    (passes : Passes (LockedDatabase D) Watched WatchEntry g) (session : Unopened (SharedAccess D g) E C d e c) : Type 0 where
  pub callers : passes_of (odb_lock_of shared) ≡ database_passes
  pub others : KeepsFresh (main_caller ∷ []) (odb_lock_of shared) passes
  pub unopened : IsUnopenedSession shared session.side.database.files session.side.clock session
