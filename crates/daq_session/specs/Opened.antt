-- What the parts that play an open session are given: its objects with their passes, its members, and the main thread's part.
use Rattle.std.specs.Prelude.{◌≡◌, List}
use Rattle.daq_types.specs.Callers.{main_caller}
use Rattle.daq_io.specs.Told.{SinkTold, SourceTold}
use Rattle.turn_lock.specs.declared.lock.Pass.{Pass}
use Rattle.turn_lock.specs.Passes.{IsOf, number_of}
use Rattle.turn_lock.specs.Roster.{IsFresh}
use Rattle.frontend_kit.specs.declared.generator.Generator.{Generator}
use Rattle.member_model.specs.RunEngines.{EngineEntry, EngineState}
use Rattle.transitions.specs.Engines.{engine_opening}
use Rattle.transition_lock.specs.declared.locked.LockedEngine.{LockedEngine}
use Rattle.transition_lock.specs.SharedEngines.{engine_lock_of, first_engine}
use Rattle.odb_watch.specs.DatabasePorts.{DatabaseAccess}
use Rattle.odb_lock.specs.declared.access.SharedAccess.{SharedAccess}
use Rattle.odb_lock.specs.SharedAccesses.{access_by_pass, odb_identity}
use Rattle.daq_members.specs.Members.{MemberSeen}
use Rattle.session_setup.specs.declared.declared.DeclaredLists.{DeclaredLists}
use Rattle.session_setup.specs.Setup.{declared_by}
use Rattle.session_objects.specs.declared.passes.SessionPasses.{SessionPasses}
use Rattle.session_objects.specs.Kept.{HasFreshBut, out_to, out_to_members}
use Rattle.session_objects.specs.Members.{HasNewMembers}
use Rattle.session_objects.specs.Objects.{SuitMembers}
use Rattle.session_runs.specs.KeptRuns.{RunsSeen}
use Rattle.session_commands.specs.RunLines.{CutsKeys, KeysMade}
use Rattle.session_commands.specs.Stages.{front_names, opened_runs}
use Rattle.console.specs.Closing.{EndCounts}
use Rattle.session_commands.specs.declared.main_play.MainEnd.{MainEnd}
use Rattle.session_commands.specs.declared.main_play.MainPlay.{MainPlay}
use Rattle.session_commands.specs.Finishing.{SideTold, script_point}
use Rattle.session_commands.specs.MainEnds.{MainEnds}
use Rattle.daq_session.specs.declared.places.MemberSide.{MemberSide}
use Rattle.daq_session.specs.declared.places.Places.{Places}

-- the keys of the declared front-ends were all made
abbrev pub FrontKeysMade : DeclaredLists → (old new : DatabaseAccess) → Type 0
FrontKeysMade lists = KeysMade (front_names (declared_by lists))

-- so many as memory was there for
abbrev pub FrontKeysCut : DeclaredLists → (old new : DatabaseAccess) → Type 0
FrontKeysCut lists = CutsKeys (front_names (declared_by lists))

-- A session opens over these objects: its members can be had for them, the engine is new, and these are all passes, of which none
-- made a call, with the main thread's of the engine by itself.
pub record AreOpenFor {D G : Type 0} {g : _} {h : _} (places : Places D G) (main : Pass LockedEngine EngineState EngineEntry h)
    (others : SessionPasses D g) : Type 0 where
  pub suit : SuitMembers places.lists.now places.objects.now places.shared.now
  pub opening : first_engine places.objects.now.engine ≡ engine_opening
  pub main_is : number_of main ≡ main_caller
  pub own : IsOf (engine_lock_of places.objects.now.engine) main
  pub fresh : IsFresh main
  pub out : HasFreshBut (out_to places.lists.now 0) places.objects.now places.shared.now others

-- The main thread registered the members, which were made with these run files and made no call, and has the passes that are not
-- with them.
pub record OpensMembers {D F K G : Type 0} {g : _} (places : Places D G) (side : MemberSide F K G) (passes : SessionPasses D g)
    (opened : RunsSeen × List (MemberSeen Generator F) × K) : Type 0 where
  pub runs : opened.0 ≡ opened_runs places.quota (declared_by places.lists.now) places.objects.now.engine
  pub new : HasNewMembers places.lists.now places.objects.now places.shared.now side.run_files opened.1
  pub out : HasFreshBut (out_to_members places.lists.now) places.objects.now places.shared.now passes
  pub pick : opened.2 ≡ side.pick

-- Such members, with these run files, and the passes that are not with them.
pub record HasMembersAt {D F G : Type 0} {g : _} (places : Places D G) (files : F) (members : List (MemberSeen Generator F))
    (passes : SessionPasses D g) : Type 0 where
  pub suit : SuitMembers places.lists.now places.objects.now places.shared.now
  pub new : HasNewMembers places.lists.now places.objects.now places.shared.now files members
  pub out : HasFreshBut (out_to_members places.lists.now) places.objects.now places.shared.now passes

-- The main thread's part is that of a session over these objects: it knows what was declared, steers the engine, and has a port to
-- the database.
pub record IsMainOf {D S O E C G : Type 0} {g : _} {s : _} {o : _} {d : _} {e : _} {c : _} (places : Places D G)
    (main : MainPlay S O (SharedAccess D g) E C s o d e c) : Type 0 where
  pub lists : main.lists.now ≡ places.lists.now
  pub engine : main.runs.main.engine ≡ places.objects.now.engine
  pub database : (access_by_pass main.side.database.access).database ≡ odb_identity places.shared.now

-- The main thread's part was played to its end, with these counts of faults of its source and its sink.
pub record PlaysMain {P S O E C : Type 0} {s : _} {o : _} {d : _} {e : _} {c : _} (source : S → SourceTold) (sink : O → SinkTold)
    (told : SideTold P E C) (main : MainPlay S O P E C s o d e c) (end : MainEnd S O P E C d e) : Type 0 where
  pub ends : MainEnds told main.lists.now main.runs main.side end.side (script_point source sink main.script)
      (script_point source sink end.script) end.ending end.closing end.records end.main
  pub counts : EndCounts end.ending end.closing (source main.script.src).faults (source end.script.src).faults
      (sink main.script.out).faults (sink end.script.out).faults
