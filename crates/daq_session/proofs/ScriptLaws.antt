-- A whole script, from the parts that play it.
use Rattle.daq_io.specs.Told.{AheadTold}
use Rattle.std.proofs.Common.{◌≡◌, ℕ, ◌<◌, List, [], refl, subst, inl, arith, length}
use Rattle.std.specs.Prelude.{Result, Ok, Err}
use Rattle.frontend_kit.specs.declared.generator.Generator.{Generator}
use Rattle.turn_lock.specs.Passes.{passes_of}
use Rattle.turn_lock.specs.declared.roster.Passes.{Passes}
use Rattle.odb_tree.specs.Noting.{Watched}
use Rattle.odb_watch.specs.declared.entry.WatchEntry.{WatchEntry}
use Rattle.odb_lock.specs.declared.locked.LockedDatabase.{LockedDatabase}
use Rattle.odb_lock.specs.declared.shared.SharedOdb.{SharedOdb}
use Rattle.odb_lock.specs.SharedOdbs.{odb_lock_of}
use Rattle.daq_members.specs.Members.{MemberTold}
use Rattle.session_runs.specs.declared.records.RunRecord.{RunRecord}
use Rattle.session_setup.specs.Setup.{AreSound, Declared, declared_by}
use Rattle.session_setup.specs.declared.declared.DeclaredLists.{DeclaredLists}
use Rattle.session_objects.specs.declared.objects.SessionObjects.{SessionObjects}
use Rattle.session_objects.specs.declared.passes.SessionPasses.{SessionPasses}
use Rattle.session_objects.specs.Objects.{AreObjectsOf, HaveCallers}
use Rattle.console.specs.DatabaseStages.{DatabaseStage}
use Rattle.session_commands.specs.Stages.{SessionStage, unopened_stage}
use Rattle.session_commands.specs.RunLines.{CutsOpening}
use Rattle.daq_session.specs.declared.left.EndedObjects.{EndedObjects}
use Rattle.daq_session.specs.NewDatabases.{database_passes}
use Rattle.daq_session.specs.Played.{IsEndedSession, NoneOpened, ObjectsEnd}

-- the database has a pass for each front-end
pub few_fronts : {D : Type 0} (shared : SharedOdb D) (lists : DeclaredLists) → passes_of (odb_lock_of shared) ≡ database_passes → AreSound (declared_by lists) → length lists.fronts < passes_of (odb_lock_of shared)
few_fronts shared lists many sound = omega (arith, many, sound.few_fronts)

-- A session was to open, and there was no memory for its objects.
pub nothing_opened : (quota : ℕ) (declared : Declared) (database : DatabaseStage) (clock : AheadTold) → CutsOpening (unopened_stage quota declared database clock) (unopened_stage quota declared database clock)
nothing_opened quota declared database clock = record {
  closed = refl;
  keys = record {
    count = 0;
    keys = [];
    makes = refl;
    between = database.access;
    adds = refl;
    next = inl refl;
  };
  same = refl;
}

-- The objects of an open session, behind its script.
module _ {D F : Type 0} {g : _} (told : MemberTold Generator F) (lists : DeclaredLists) (objects : SessionObjects) (shared : SharedOdb D) (first_files : F) (final : SessionStage) (run_files : F) where
  pub none_ended : (session : Result (SessionPasses D g × List RunRecord) (Passes (LockedDatabase D) Watched WatchEntry g)) (passes : Passes (LockedDatabase D) Watched WatchEntry g) → session ≡ Err passes → ObjectsEnd told lists objects shared first_files final run_files session → NoneOpened shared first_files final run_files passes
  none_ended session passes is ends = subst (ObjectsEnd told lists objects shared first_files final run_files) is ends

  abbrev objects_left : SessionPasses D g → List RunRecord → EndedObjects D g
  objects_left passes records = record { objects = objects; passes = passes; runs = records }

  pub some_ended : (session : Result (SessionPasses D g × List RunRecord) (Passes (LockedDatabase D) Watched WatchEntry g)) (passes : SessionPasses D g) (records : List RunRecord) → session ≡ Ok (passes, records)
      → AreSound (declared_by lists) → AreObjectsOf lists objects → HaveCallers lists objects shared
      → ObjectsEnd told lists objects shared first_files final run_files session → IsEndedSession told shared first_files final run_files (objects_left passes records)
  some_ended session passes records is sound are callers ends =
      let all = subst (ObjectsEnd told lists objects shared first_files final run_files) is ends in
      record {
        lists = lists;
        declared = all.0;
        sound = subst AreSound all.0 sound;
        are = are;
        callers = callers;
        last = all.1.0;
        is_open = all.1.1;
        ends = all.1.2;
      }
