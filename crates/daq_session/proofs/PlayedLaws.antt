-- The end of a session that was open, or that was to open.
use Rattle.daq_io.specs.Told.{AheadTold}
use Rattle.std.proofs.Common.{◌≡◌, ℕ, List, length, refl, sym, ap, subst, inl, arith}
use Rattle.std.specs.Prelude.{Some, Err}
use Rattle.std.proofs.lemmas.List.{take_all}
use Rattle.transitions.specs.Engines.{engine_opening}
use Rattle.transition_lock.specs.declared.shared.SharedEngine.{SharedEngine}
use Rattle.transition_lock.specs.SharedEngines.{first_engine}
use Rattle.turn_lock.specs.declared.roster.Passes.{Passes}
use Rattle.odb_tree.specs.Noting.{Watched}
use Rattle.odb_watch.specs.DatabasePorts.{DatabaseAccess}
use Rattle.odb_watch.specs.declared.entry.WatchEntry.{WatchEntry}
use Rattle.odb_lock.specs.declared.locked.LockedDatabase.{LockedDatabase}
use Rattle.odb_lock.specs.declared.access.SharedAccess.{SharedAccess}
use Rattle.odb_lock.specs.SharedAccesses.{access_by_pass}
use Rattle.console.specs.DatabaseStages.{DatabaseStage}
use Rattle.session_setup.specs.Setup.{Declared, declared_by}
use Rattle.session_setup.specs.SetupLines.{opened_with_defaults}
use Rattle.session_setup.specs.declared.declared.DeclaredLists.{DeclaredLists}
use Rattle.session_runs.specs.KeptRuns.{RunsSeen}
use Rattle.session_commands.specs.Stages.{SessionStage, front_names, open_stage, opened_runs, unopened_stage}
use Rattle.session_commands.specs.RunLines.{CutsKeys, CutsOpening, KeysMade, MakesKeys, OpensSession}
use Rattle.console.specs.declared.endings.Ending.TheVariants.{Halted}
use Rattle.console.specs.declared.halts.Halt.TheVariants.{NoMemory as no_memory}
use Rattle.session_commands.specs.declared.side.MainSide.{MainSide}
use Rattle.session_commands.specs.Finishing.{database_at}
use Rattle.session_commands.specs.FirstStarts.{CutFinish}
use Rattle.daq_session.specs.declared.places.Places.{Places}
use Rattle.daq_session.specs.declared.places.Scene.{Scene}
use Rattle.daq_session.specs.Environments.{OutsideTold}
use Rattle.daq_session.specs.Opened.{FrontKeysCut}
use Rattle.daq_session.specs.Played.{IsMainAlone, PlaysObjects, TellsScriptEnd, side_of, unopened_lines}

-- keys that were all made are cut behind the last
pub keys_cut : (fronts : List (List ℕ)) (old new : DatabaseAccess) → KeysMade fronts old new → CutsKeys fronts old new
keys_cut fronts old new made = record {
  count = length fronts;
  keys = made.0;
  makes = subst (λ (names : List (List ℕ)). MakesKeys names made.0) (sym (take_all (length fronts) fronts (omega arith))) made.1;
  between = new;
  adds = made.2;
  next = inl refl;
}

module _ (quota : ℕ) (declared : Declared) (lists : DeclaredLists) (database : DatabaseStage) (access : DatabaseAccess) (clock : AheadTold) (opened : opened_with_defaults declared ≡ declared_by lists) where
  -- The session was to open, and there was no memory for it.
  pub opening_cut : CutsKeys (front_names (declared_by lists)) database.access access
      → CutsOpening (unopened_stage quota declared database clock) (unopened_stage quota declared (record database { access = access }) clock)
  opening_cut keys = record {
    closed = refl;
    keys = subst (λ (d : Declared). CutsKeys (front_names d) database.access access) (sym opened) keys;
    same = refl;
  }

  -- It opens.
  pub opens_so : (engine : SharedEngine) (runs : RunsSeen) → first_engine engine ≡ engine_opening → KeysMade (front_names (declared_by lists)) database.access access → runs ≡ opened_runs quota (declared_by lists) engine
      → OpensSession (unopened_stage quota declared database clock) (open_stage (declared_by lists) (record database { access = access }) clock runs)
  opens_so engine runs fresh keys are = record {
    closed = refl;
    declared = sym opened;
    keys = keys;
    engine = engine;
    fresh = fresh;
    runs = ap (λ (r : RunsSeen). Some r) are;
    quota = ap (λ (r : RunsSeen). r.quota) are;
    clock = refl;
    files = refl;
    replies = refl;
  }

-- A session was to open, and there was no memory for it: nothing was read, written or done to the run files.
pub cut_tells : {P S O F E C K G : Type 0} {d : _} {e : _} (told : OutsideTold S O F E C) (side : MainSide P E C d e) (scene : Scene S O F K G) (final : SessionStage)
    → final.database.files ≡ told.dumps side.database.files → final.database.replies ≡ side.database.replies.replies → final.clock ≡ told.clock side.clock
    → TellsScriptEnd told scene.script scene.members.run_files (unopened_lines (Halted no_memory) side scene) final
cut_tells told side scene final files_are replies_are clock_is = record {
  counts = record { may = tt; source_counts = refl; lines = (told.sink scene.script.out).faults; sink_counts = refl; behind = refl };
  failed = omega arith;
  files_are = files_are;
  replies_are = replies_are;
  clock_is = clock_is;
}

-- So its script ended there, with the front-ends' keys that were made.
pub cut_plays : {D S O F E C K G : Type 0} {g : _} {d : _} {e : _} (told : OutsideTold S O F E C) (places : Places D G) (side : MainSide (SharedAccess D g) E C d e) (access : DatabaseAccess) (scene : Scene S O F K G)
    (passes : Passes (LockedDatabase D) Watched WatchEntry g) → CutFinish → FrontKeysCut places.lists.now (access_by_pass side.database.access) access → IsMainAlone places.shared.now access.seen passes
    → PlaysObjects told places side scene (record { lines = unopened_lines (Halted no_memory) side scene; session = Err passes })
cut_plays told places side access scene passes cut keys alone = λ declared opened.
    let database : DatabaseStage = database_at (side_of told) side in
    record {
      final = unopened_stage places.quota declared (record database { access = access }) (told.clock side.clock);
      tells = cut_tells told side scene _ refl refl refl;
      ends = record { closed = refl; files = refl; alone = alone };
      finishes = cut _ _ _ (opening_cut places.quota declared places.lists.now database access (told.clock side.clock) opened keys);
    }
