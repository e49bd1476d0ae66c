-- How a script is played, part by part: what each part leaves to the next.
use Rattle.std.specs.Prelude.{◌≡◌, ℕ, zero, suc, false, List, [], Option, Some, None, Result, Ok, Err}
use Rattle.std.specs.List.{AllByRecursion}
use Rattle.daq_types.specs.Callers.{main_caller}
use Rattle.frontend_kit.specs.declared.generator.Generator.{Generator}
use Rattle.loggers.specs.OtherFiles.{AreDeclared}
use Rattle.turn_lock.specs.declared.roster.Passes.{Passes}
use Rattle.odb_tree.specs.Noting.{Watched}
use Rattle.odb_watch.specs.DatabasePorts.{DatabaseAccess, own_watched}
use Rattle.daq_session.specs.SessionRows.{session_rows}
use Rattle.odb_watch.specs.Steps.{unwatched}
use Rattle.odb_watch.specs.declared.entry.WatchEntry.{WatchEntry}
use Rattle.odb_lock.specs.declared.access.SharedAccess.{SharedAccess}
use Rattle.odb_lock.specs.declared.locked.LockedDatabase.{LockedDatabase}
use Rattle.odb_lock.specs.declared.shared.SharedOdb.{SharedOdb}
use Rattle.odb_lock.specs.SharedAccesses.{access_by_pass, odb_identity, shared_access}
use Rattle.odb_lock.specs.SharedOdbs.{first_database, odb_lock_of}
use Rattle.session_runs.specs.declared.records.RunRecord.{RunRecord}
use Rattle.daq_members.specs.Members.{MemberSeen, MemberTold}
use Rattle.daq_members.specs.LoggerSeats.{LoggerSeen}
use Rattle.daq_members.specs.Stay.{KeepContracts}
use Rattle.session_setup.specs.declared.declared.DeclaredLists.{DeclaredLists}
use Rattle.session_setup.specs.Setup.{AreSound, Declared, declared_by}
use Rattle.session_setup.specs.SetupLines.{opened_with_defaults}
use Rattle.session_objects.specs.declared.objects.SessionObjects.{SessionObjects}
use Rattle.session_objects.specs.declared.passes.SessionPasses.{SessionPasses}
use Rattle.session_objects.specs.declared.record.SessionRecord.{SessionRecord}
use Rattle.session_objects.specs.Calls.{SessionCalls}
use Rattle.session_objects.specs.Members.{AreMembersOf, HasLogger, HasNewMembers, session_calls}
use Rattle.session_objects.specs.Objects.{AreObjectsOf, HaveCallers}
use Rattle.session_objects.specs.Records.{HasCalls, HoldsCalls, HoldsHistories}
use Rattle.session_objects.specs.Rosters.{KeepsPasses}
use Rattle.session_runs.specs.KeptRuns.{RunsSeen}
use Rattle.session_commands.specs.Stages.{SessionStage, first_stage}
use Rattle.console.specs.declared.endings.Ending.{Ending}
use Rattle.console.specs.Closing.{EndCounts}
use Rattle.session_commands.specs.declared.main_play.MainPlay.{MainPlay}
use Rattle.session_commands.specs.declared.script.Script.{Script}
use Rattle.session_commands.specs.declared.side.MainSide.{MainSide}
use Rattle.session_commands.specs.declared.unopened.Unopened.{Unopened as Setup}
use Rattle.session_commands.specs.Endings.{NotesFailed, closing_calls}
use Rattle.session_commands.specs.Finishing.{FinishedAt, FinishesLine, FinishesOpening, ScriptAt, SideTold, script_point, stage_open, stage_unopened}
use Rattle.session_commands.specs.Keeping.{EndsOver, KnowsRuns, RunsKept, StageKept, StageSpares}
use Rattle.daq_session.specs.declared.left.EndedObjects.{EndedObjects}
use Rattle.daq_session.specs.declared.left.LeftBehind.{LeftBehind}
use Rattle.daq_session.specs.declared.left.LeftBehind.TheVariants.{Session, Unopened}
use Rattle.daq_session.specs.declared.places.Places.{Places}
use Rattle.daq_session.specs.declared.places.Scene.{Scene}
use Rattle.daq_session.specs.declared.played.LinesEnd.{LinesEnd}
use Rattle.daq_session.specs.declared.played.OpenedEnd.{OpenedEnd}
use Rattle.daq_session.specs.Environments.{OutsideTold}
use Rattle.daq_session.specs.Sessions.{KeepsSession, SessionKept}

-- The script and the lines of its end.

-- where the lines of a script stand
abbrev pub lines_at : {S O F E C : Type 0} → OutsideTold S O F E C → Script S O → ScriptAt
lines_at told script = script_point told.source told.sink script

-- what the main thread's port to a shared database, the files of the dumps and the clock tell
abbrev pub side_of : {D S O F E C : Type 0} {g : _} → OutsideTold S O F E C → SideTold (SharedAccess D g) E C
side_of told = record { access = access_by_pass; files = told.dumps; clock = told.clock }

-- what is left of a script that opened no session
abbrev pub unopened_lines : {P S O E C F K G : Type 0} {d : _} {e : _} → Ending → MainSide P E C d e → Scene S O F K G → LinesEnd S O E C F K
unopened_lines ending side scene = record {
  ending = ending;
  closing = None;
  failed = false;
  replies = side.database.replies;
  odb_files = side.database.files;
  clock = side.clock;
  run_files = scene.members.run_files;
  pick = scene.members.pick;
  script = scene.script;
}

-- The lines ended so over this last stage, and what is behind them: the counts of faults of source and sink are those of such an
-- end; that of the run files rose exactly where it was noted; and what the outside tells, and what came of the lines that called
-- the files of the dumps, stand in the stage.
pub record TellsScriptEnd {S O F E C K : Type 0} (told : OutsideTold S O F E C) (before : Script S O) (first_files : F)
    (lines : LinesEnd S O E C F K) (final : SessionStage) : Type 0 where
  pub counts : EndCounts lines.ending lines.closing (told.source before.src).faults (told.source lines.script.src).faults
      (told.sink before.out).faults (told.sink lines.script.out).faults
  pub failed : NotesFailed lines.failed (told.crew.read first_files).faults (told.crew.read lines.run_files).faults
  pub files_are : final.database.files ≡ told.dumps lines.odb_files
  pub replies_are : final.database.replies ≡ lines.replies.replies
  pub clock_is : final.clock ≡ told.clock lines.clock

-- The database of a session.

-- what the main thread has seen of a database that nobody else called
abbrev pub seen_by_main : (calls : List (ℕ × WatchEntry)) → ℕ → List (ℕ × WatchEntry) → Type 0
seen_by_main calls zero seen = seen ≡ calls
seen_by_main calls (suc number) seen = seen ≡ []

-- All passes of the database are here; the main thread's has seen these calls, and the others have seen nothing.
abbrev pub IsMainAlone : {D : Type 0} {g : _} → SharedOdb D → List (ℕ × WatchEntry) → Passes (LockedDatabase D) Watched WatchEntry g → Type 0
IsMainAlone shared calls passes = KeepsPasses (seen_by_main calls) [] (odb_lock_of shared) passes

-- Where what these passes have seen is the main thread's, all calls are its own.
abbrev pub MainCalledAlone : {D : Type 0} {g : _} → SharedOdb D → Passes (LockedDatabase D) Watched WatchEntry g → Type 0
MainCalledAlone shared passes = (seen : List (ℕ × WatchEntry)) → IsMainAlone shared seen passes →
    AllByRecursion (λ call. call.0 ≡ main_caller) seen

-- The objects of a session.

-- Behind the script of an open session, as the main thread knows it: its members are those of its declarations, and each keeps
-- its contract; its logger took its seat at the first run files, and has the channels that were declared; and all passes of its
-- objects are back, which tell the calls of its main thread and of its members.
pub record OpenedEnds {D F : Type 0} {g : _} (told : MemberTold Generator F) (lists : DeclaredLists) (objects : SessionObjects)
    (shared : SharedOdb D) (first_files : F) (access : DatabaseAccess) (last : RunsSeen) (passes : SessionPasses D g)
    (records : List RunRecord) (run_files : F) : Type 0 where
  pub kept : records ≡ last.runs
  pub knows : KnowsRuns last
  pub caller : access.caller ≡ main_caller
  pub members : List (MemberSeen Generator F)
  pub are : AreMembersOf lists objects shared members
  pub keep : KeepContracts told members
  pub calls : HasCalls (session_calls lists (closing_calls last.main.own) access.seen members) objects shared passes
  pub logger : LoggerSeen F
  pub has_logger : HasLogger lists members logger
  pub channels : AreDeclared lists.channels logger.slots
  pub first : logger.first ≡ first_files
  pub files : logger.files ≡ run_files

-- No session was opened: the run files are what they were, and all passes of the database are here, which the main thread alone
-- called.
pub record NoneOpened {D F : Type 0} {g : _} (shared : SharedOdb D) (first_files : F) (final : SessionStage) (run_files : F)
    (passes : Passes (LockedDatabase D) Watched WatchEntry g) : Type 0 where
  pub closed : final.runs ≡ None
  pub files : run_files ≡ first_files
  pub alone : IsMainAlone shared final.database.access.seen passes

-- All passes are back, and the records of the runs; or, where memory was wanting to open the session, those of the database.
abbrev pub ObjectsEnd : {D F : Type 0} {g : _} → MemberTold Generator F → DeclaredLists → SessionObjects → SharedOdb D →
    (first_files : F) → (final : SessionStage) → (run_files : F) →
    Result (SessionPasses D g × List RunRecord) (Passes (LockedDatabase D) Watched WatchEntry g) → Type 0
ObjectsEnd told lists objects shared first_files final run_files (Ok (passes, records)) =
    (declared_by lists ≡ final.declared) × ((last : RunsSeen) × (final.runs ≡ Some last)
    × OpenedEnds told lists objects shared first_files final.database.access last passes records run_files)
ObjectsEnd told lists objects shared first_files final run_files (Err passes) = NoneOpened shared first_files final run_files passes

-- Parts of a script.

-- A script was played to its end, from where it stood and with the run files as they were then: over this last stage its lines ended
-- so, this is so of what it leaves, and it came to its end so.
pub record PlaysThrough {S O F E C K : Type 0} (told : OutsideTold S O F E C) (before : Script S O) (first_files : F)
    (lines : LinesEnd S O E C F K) (Ends Finishes : SessionStage → Type 0) : Type 0 where
  pub final : SessionStage
  pub tells : TellsScriptEnd told before first_files lines final
  pub ends : Ends final
  pub finishes : Finishes final

-- An open session was played from the line that opened it to the end of its script, over its objects, with members that had made no
-- call before.
abbrev pub PlaysOpened : {D S O F E C K G : Type 0} {g : _} {s : _} {o : _} {d : _} {e : _} {c : _} → OutsideTold S O F E C → Places D G →
    List (MemberSeen Generator F) → MainPlay S O (SharedAccess D g) E C s o d e c → OpenedEnd D S O E C F K g → Type 0
PlaysOpened {F = F} told places members main end = (first_files : F) →
    HasNewMembers places.lists.now places.objects.now places.shared.now first_files members →
    PlaysThrough told main.script first_files end.lines
    (λ final. ObjectsEnd told.crew places.lists.now places.objects.now places.shared.now first_files final end.lines.run_files end.session)
    (λ final. FinishesLine (lines_at told main.script) (lines_at told end.lines.script)
    (stage_open (side_of told) places.lists.now main.runs main.side) final end.lines.ending end.lines.closing)

-- A session was opened over its objects, which opened for its declarations, and played to the end of its script, from its first
-- start on.
abbrev pub PlaysObjects : {D S O F E C K G : Type 0} {g : _} {d : _} {e : _} → OutsideTold S O F E C → Places D G →
    MainSide (SharedAccess D g) E C d e → Scene S O F K G → OpenedEnd D S O E C F K g → Type 0
PlaysObjects told places side scene end = (declared : Declared) → opened_with_defaults declared ≡ declared_by places.lists.now →
    PlaysThrough told scene.script scene.members.run_files end.lines
    (λ final. ObjectsEnd told.crew places.lists.now places.objects.now places.shared.now scene.members.run_files final
    end.lines.run_files end.session)
    (λ final. FinishesOpening (lines_at told scene.script) (lines_at told end.lines.script)
    (stage_unopened (side_of told) places.quota declared side) final end.lines.ending end.lines.closing)

-- What is left behind a script.

-- The objects of the session that a script opened, before they are closed.
pub record IsEndedSession {D F : Type 0} {g : _} (told : MemberTold Generator F) (shared : SharedOdb D) (first_files : F)
    (final : SessionStage) (run_files : F) (ended : EndedObjects D g) : Type 0 where
  pub lists : DeclaredLists
  pub declared : declared_by lists ≡ final.declared
  pub sound : AreSound final.declared
  pub are : AreObjectsOf lists ended.objects
  pub callers : HaveCallers lists ended.objects shared
  pub last : RunsSeen
  pub is_open : final.runs ≡ Some last
  pub ends : OpenedEnds told lists ended.objects shared first_files final.database.access last ended.passes ended.runs run_files

-- What is left behind a script: the objects of its session; or the database alone, where none was opened.
abbrev pub SessionEnds : {D F : Type 0} {g : _} → MemberTold Generator F → SharedOdb D → (first_files : F) → (final : SessionStage) →
    (run_files : F) → LeftBehind D g → Type 0
SessionEnds told shared first_files final run_files (Session ended) = IsEndedSession told shared first_files final run_files ended
SessionEnds told shared first_files final run_files (Unopened passes) = NoneOpened shared first_files final run_files passes

-- A session of these declarations was to be opened, and its script was played to the end from its first start on.
abbrev pub PlaysSession : {D S O F E C K G : Type 0} {g : _} {d : _} {e : _} {c : _} → OutsideTold S O F E C → SharedOdb D →
    Setup (SharedAccess D g) E C d e c → Scene S O F K G → LinesEnd S O E C F K × LeftBehind D g → Type 0
PlaysSession told shared setup scene end =
    PlaysThrough told scene.script scene.members.run_files end.0
    (λ final. SessionEnds told.crew shared scene.members.run_files final end.0.run_files end.1)
    (λ final. FinishesOpening (lines_at told scene.script) (lines_at told end.0.script)
    (stage_unopened (side_of told) setup.quota setup.declarations setup.side) final end.0.ending end.0.closing)

-- A script was played from its beginning to its end, in a session in which nothing was declared, over a database that its main thread
-- had not called before, with these files of dumps and this clock.
abbrev pub PlaysAll : {D S O F E C K G : Type 0} {g : _} {d : _} {e : _} {c : _} → OutsideTold S O F E C → SharedOdb D →
    Setup (SharedAccess D g) E C d e c → Scene S O F K G → LinesEnd S O E C F K × LeftBehind D g → Type 0
PlaysAll told shared setup scene end =
    PlaysThrough told scene.script scene.members.run_files end.0
    (λ final. SessionEnds told.crew shared scene.members.run_files final end.0.run_files end.1)
    (λ final. FinishedAt
    (first_stage (shared_access (odb_identity shared) main_caller []) (told.dumps setup.side.database.files) (told.clock setup.side.clock))
    (told.source scene.script.src) (told.sink scene.script.out).written end.0.ending end.0.closing (lines_at told end.0.script) final)

-- What is kept of it.

-- the passes of what is left are all here
abbrev pub IsBack : {D : Type 0} {g : _} → SharedOdb D → LeftBehind D g → Type 0
IsBack shared (Session ended) = (calls : SessionCalls) × HasCalls calls ended.objects shared ended.passes
IsBack shared (Unopened passes) = (calls : List (ℕ × WatchEntry)) × IsMainAlone shared calls passes

-- The record of a session: the histories of its objects, which are those of its declarations, and hold the calls of its main
-- thread and of its members, each of which keeps its contract; and the records of its runs. Its logger took its seat at the
-- first run files, and has the channels that were declared.
pub record IsSessionRecord {D F : Type 0} {g : _} (told : MemberTold Generator F) (first_files : F) (final : SessionStage) (run_files : F)
    (r : SessionRecord D g) : Type 0 where
  pub lists : DeclaredLists
  pub declared : declared_by lists ≡ final.declared
  pub sound : AreSound final.declared
  pub objects : SessionObjects
  pub are : AreObjectsOf lists objects
  pub shared : SharedOdb D
  pub rows : first_database shared ≡ unwatched session_rows
  pub last : RunsSeen
  pub is_open : final.runs ≡ Some last
  pub callers : HaveCallers lists objects shared
  pub fits : RunsKept final.declared (own_watched final.database.access) last
  pub over : last.on ≡ None
  pub spares : StageSpares final
  pub kept : r.runs ≡ last.runs
  pub caller : final.database.access.caller ≡ main_caller
  pub members : List (MemberSeen Generator F)
  pub are_members : AreMembersOf lists objects shared members
  pub keep : KeepContracts told members
  pub logger : LoggerSeen F
  pub has_logger : HasLogger lists members logger
  pub channels : AreDeclared lists.channels logger.slots
  pub first : logger.first ≡ first_files
  pub files : logger.files ≡ run_files
  pub histories : HoldsHistories objects shared r
  pub calls : HoldsCalls (session_calls lists (closing_calls last.main.own) final.database.access.seen members) objects shared r

-- such a record keeps the session
abbrev pub RecordsKeep : {D F : Type 0} {g : _} → MemberTold Generator F → SessionRecord D g → Type 0
RecordsKeep {D} {F} told r = (first_files : F) → (final : SessionStage) → (run_files : F) →
    IsSessionRecord told first_files final run_files r → KeepsSession told first_files final run_files r

-- This is what is kept of a script, by what it left: its last stage is one that a script leaves.
abbrev pub KeepsLeft : {D F : Type 0} {g : _} → MemberTold Generator F → SharedOdb D → LeftBehind D g → Option (SessionRecord D g) → Type 0
KeepsLeft {D} {F} told shared left kept = (first_files : F) → (final : SessionStage) → (run_files : F) →
    first_database shared ≡ unwatched session_rows → StageKept final → EndsOver final → StageSpares final →
    SessionEnds told shared first_files final run_files left → SessionKept told first_files final run_files kept
