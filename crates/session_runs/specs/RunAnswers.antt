-- What the main thread's run commands do, by their replies.
use Rattle.daq_io.specs.Told.{AheadTold}
use Rattle.std.specs.Prelude.{◌≡◌, ◌⊎◌, ℕ, ◌+◌, ℤ, Bool, IsTrue, List, Some, None, Result, Ok, Err, is_err, IsOk}
use Rattle.daq_types.specs.declared.memory.NoMemory.{NoMemory}
use Rattle.daq_types.specs.declared.runs.StartOutcome.{StartOutcome}
use Rattle.daq_types.specs.declared.runs.StartOutcome.TheVariants.{Completed, Refused}
use Rattle.daq_types.specs.declared.runs.Transition.{Transition}
use Rattle.daq_types.specs.declared.runs.Transition.TheVariants.{Start, Stop, Pause, Resume}
use Rattle.transitions.specs.States.{run_state_after}
use Rattle.odb_tree.specs.declared.entry.DatabaseEntry.{DatabaseEntry}
use Rattle.odb_tree.specs.declared.refusals.OdbRefusal.TheVariants.{NoMemory as no_memory}
use Rattle.odb_watch.specs.declared.entry.WatchEntry.{WatchEntry}
use Rattle.odb_watch.specs.DatabasePorts.{DatabaseAccess, AddsEntries, MayAdd, row_calls}
use Rattle.odb_runinfo.specs.RunSets.{AreSets, GetsNumber, number_asked, state_set}
use Rattle.transitions.specs.declared.replies.BeginRefusal.TheVariants.{WrongState as state_refused, LastStart as number_refused}
use Rattle.member_model.specs.RunEngines.{ClientTally, Sheet, EngineEntry}
use Rattle.session_runs.specs.MainKnowledge.{MainKnows, known_from, begin_known}
use Rattle.session_runs.specs.MadeTransitions.{DrivesTransition}
use Rattle.session_runs.specs.declared.on.CurrentRun.{CurrentRun}
use Rattle.session_runs.specs.declared.replies.RunReply.{RunReply}
use Rattle.session_runs.specs.declared.replies.RunReply.TheVariants.{WrongState, LastStart, RunNumber, StartRefused, Started as run_started, Paused as run_paused, Resumed as run_resumed, Stopped as run_stopped}
use Rattle.session_runs.specs.KeptRuns.{RunsSeen, behind_start, behind_stop, with_calls}
use Rattle.session_runs.specs.Members.{reporter_count}
use Rattle.session_runs.specs.RunEntries.{AnnounceCalls, BeginCalls, StopCalls, start_sheet, later_sheet, dump_saved}

-- Where the main thread stands between two commands: what it keeps of its runs, its access to the database, and the
-- members.
pub record CommandPoint (M : Type 0) : Type 0 where
  pub runs : RunsSeen
  pub database : DatabaseAccess
  pub members : M

abbrev pub point_of : {M : Type 0} → RunsSeen → DatabaseAccess → M → CommandPoint M
point_of runs database members = record { runs = runs; database = database; members = members }

-- what the main thread knows there of the engine
abbrev pub known_at_point : {M : Type 0} → CommandPoint M → MainKnows
known_at_point p = known_from p.runs.main.own

-- the clock was read once, and gave this time
pub record ReadsClock (before after : AheadTold) (time : ℕ) : Type 0 where
  pub tells : after.tells ≡ before.tells
  pub value : IsTrue before.tells → time ≡ before.ahead 0
  pub later : IsTrue before.tells → (n : ℕ) → after.ahead n ≡ before.ahead (n + 1)

-- The refusals that the main thread's own calls on the engine tell: the state does not allow the transition, or the last
-- start number was given.
abbrev pub RefusesKnown : RunReply → MainKnows → Transition → Type 0
RefusesKnown (WrongState state) k t = begin_known k t ≡ Err (state_refused state)
RefusesKnown LastStart k t = begin_known k t ≡ Err number_refused
RefusesKnown reply k t = ⊥

-- the run that a start of this number at this time begins
abbrev pub run_by_start : RunsSeen → (run start time : ℕ) → CurrentRun
run_by_start s run start time = record { run = run; start = start; time = time; quota = s.quota }

-- A start is refused, since the database's run number has no next one. It was got, and nothing else happened.
pub record LacksNumber {M : Type 0} (have : ℤ) (old new : CommandPoint M) : Type 0 where
  pub begins : IsOk (begin_known (known_at_point old) Start)
  pub number : GetsNumber old.database new.database (Err (record { have = have }))
  pub runs : new.runs ≡ old.runs
  pub members : new.members ≡ old.members

-- The run number was got, and this is the next.
pub record GotNumber {M : Type 0} (run : ℕ) (old new : CommandPoint M) : Type 0 where
  pub number : GetsNumber old.database new.database (Ok run)
  pub runs : new.runs ≡ old.runs
  pub members : new.members ≡ old.members

-- The database's history went on by entries of which this holds.
abbrev pub AddsSuch : (Holds : List WatchEntry → Type 0) → (old new : DatabaseAccess) → Type 0
AddsSuch Holds old new = (entries : List WatchEntry) × Holds entries × AddsEntries old new entries

-- The run of this number was announced in the database, and is begun with this sheet: with a blank report for each of so many
-- analyzers, the quota, the time that the clock gave, and the database's text.
pub record AnnouncesRun (run quota analyzers : ℕ) (before after : AheadTold) (old new : DatabaseAccess) (sheet : Sheet) : Type 0 where
  pub reading : ReadsClock before after sheet.time
  pub dump : List ℕ
  pub entries : List WatchEntry
  pub calls : AnnounceCalls run sheet.time (Ok dump) entries
  pub adds : AddsEntries old new entries
  pub is : sheet ≡ start_sheet analyzers run sheet.time quota dump

-- Memory ended before the run of this number could be begun. The clock was not read, and the database not called; or the run
-- was announced there at the time that the clock gave, and there was no memory for the database's text.
abbrev pub CutsAnnouncing : (run : ℕ) → (before after : AheadTold) → (old new : DatabaseAccess) → Type 0
CutsAnnouncing run before after old new = ((after ≡ before) × (new ≡ old))
    ⊎ ((time : ℕ) × (entries : List WatchEntry) × ReadsClock before after time
    × AnnounceCalls run time (Err (record {})) entries × AddsEntries old new entries)

-- Memory ended before the run of this number was begun, and the main thread keeps what it kept.
pub record CutsBegin {M : Type 0} (run : ℕ) (before after : AheadTold) (old new : CommandPoint M) : Type 0 where
  pub runs : new.runs ≡ old.runs
  pub members : new.members ≡ old.members
  pub calls : CutsAnnouncing run before after old.database new.database

-- There was no memory for the run number, which was got or not.
pub record CutsNumber {M : Type 0} (old new : CommandPoint M) : Type 0 where
  pub called : MayAdd old.database new.database (number_asked (Err no_memory))
  pub runs : new.runs ≡ old.runs
  pub members : new.members ≡ old.members

-- Memory ended before a start had begun its run: as it got the number, or behind that.
pub record CutsStart {M : Type 0} (before after : AheadTold) (old new : CommandPoint M) : Type 0 where
  pub begins : IsOk (begin_known (known_at_point old) Start)
  pub cut : ((after ≡ before) × CutsNumber old new)
      ⊎ ((run : ℕ) × (ready : CommandPoint M) × GotNumber run old ready × CutsBegin run before after ready new)

module _ {M : Type 0} (round : M → M → Type 0) where
  -- The run of this number was begun where none was on, and its start ended so. It is begun with the number, the time that the clock gave, the
  -- quota, and the text of the database behind the first sets; and the last sets come behind its end.
  pub record BeginsRun (run : ℕ) (outcome : StartOutcome) (before after : AheadTold) (old new : CommandPoint M) : Type 0 where
    pub idle : old.runs.on ≡ None
    pub start : ℕ
    pub begins : begin_known (known_at_point old) Start ≡ Ok start
    pub time : ℕ
    pub reading : ReadsClock before after time
    pub dump : List ℕ
    pub entries : List WatchEntry
    pub calls : BeginCalls run time outcome dump entries
    pub adds : AddsEntries old.database new.database entries
    pub tallies : List ClientTally
    pub drives : DrivesTransition round Start (start_sheet (reporter_count old.runs.members) run time old.runs.quota dump) start outcome tallies
        old.runs.main.own new.runs.main.own old.members new.members
    pub kept : new.runs ≡ with_calls (behind_start old.runs (run_by_start old.runs run start time) outcome) new.runs.main.own

  -- a whole start: the run number is got, and then the run of the next is begun
  abbrev pub MakesStart : (run : ℕ) → StartOutcome → (before after : AheadTold) → (old new : CommandPoint M) → Type 0
  MakesStart run outcome before after old new =
      (ready : CommandPoint M) × GotNumber run old ready × BeginsRun run outcome before after ready new

  -- what a start is answered once its number was got
  abbrev pub AnswersBegin : (run : ℕ) → RunReply → (before after : AheadTold) → (old new : CommandPoint M) → Type 0
  AnswersBegin run (run_started number) before after old new =
      (number ≡ run) × BeginsRun run Completed before after old new
  AnswersBegin run (StartRefused client why) before after old new = BeginsRun run (Refused client why) before after old new
  AnswersBegin run reply before after old new = ⊥

  -- The calls of a stop of this run at this time, on the database, the clock and the engine, and whether there was no memory
  -- for the text of the database.
  pub record DrivesStop (r : CurrentRun) (time : ℕ) (lacking : Bool) (tallies : List ClientTally) (before after : AheadTold)
      (own later : List EngineEntry) (old new : DatabaseAccess) (members turned : M) : Type 0 where
    pub saved : Result (List ℕ) NoMemory
    pub lacks : lacking ≡ is_err saved
    pub start : ℕ
    pub begins : begin_known (known_from own) Stop ≡ Ok start
    pub reading : ReadsClock before after time
    pub entries : List WatchEntry
    pub calls : StopCalls (known_from own).state time saved entries
    pub adds : AddsEntries old new entries
    pub drives : DrivesTransition round Stop (later_sheet r time (dump_saved saved)) start Completed tallies own later members turned

  -- The stop of the run that is on. It is begun with the text of the database behind the first sets, if there was memory
  -- for it; the last set comes behind its end; and the record is kept of what the clients told then.
  pub record MakesStop (r : CurrentRun) (saved : Result (List ℕ) NoMemory) (before after : AheadTold) (old new : CommandPoint M) : Type 0 where
    pub on : old.runs.on ≡ Some r
    pub begins : begin_known (known_at_point old) Stop ≡ Ok r.start
    pub time : ℕ
    pub reading : ReadsClock before after time
    pub entries : List WatchEntry
    pub calls : StopCalls (known_at_point old).state time saved entries
    pub adds : AddsEntries old.database new.database entries
    pub tallies : List ClientTally
    pub drives : DrivesTransition round Stop (later_sheet r time (dump_saved saved)) r.start Completed tallies
        old.runs.main.own new.runs.main.own old.members new.members
    pub kept : new.runs ≡ with_calls (behind_stop old.runs r time tallies) new.runs.main.own

  -- A pause or a resume of the run that is on. Its time is the last that the clock gave, which is that of the run's start;
  -- behind its end the new state is set.
  pub record MakesChange (t : Transition) (r : CurrentRun) (old new : CommandPoint M) : Type 0 where
    pub on : old.runs.on ≡ Some r
    pub begins : begin_known (known_at_point old) t ≡ Ok r.start
    pub sets : List DatabaseEntry
    pub are_sets : AreSets (state_set (run_state_after (known_at_point old).state t)) sets
    pub adds : AddsEntries old.database new.database (row_calls sets)
    pub tallies : List ClientTally
    pub drives : DrivesTransition round t (later_sheet r r.time None) r.start Completed tallies
        old.runs.main.own new.runs.main.own old.members new.members
    pub kept : new.runs ≡ with_calls old.runs new.runs.main.own

  -- what a start is answered
  abbrev pub AnswersStart : RunReply → (before after : AheadTold) → (old new : CommandPoint M) → Type 0
  AnswersStart (run_started run) before after old new = MakesStart run Completed before after old new
  AnswersStart (StartRefused client why) before after old new =
      (run : ℕ) × MakesStart run (Refused client why) before after old new
  AnswersStart (RunNumber have) before after old new = LacksNumber have old new × (after ≡ before)
  AnswersStart reply before after old new =
      RefusesKnown reply (known_at_point old) Start × (new ≡ old) × (after ≡ before)

  -- a stop
  abbrev pub AnswersStop : RunReply → (before after : AheadTold) → (old new : CommandPoint M) → Type 0
  AnswersStop (run_stopped run) before after old new = (r : CurrentRun) × (r.run ≡ run) × (dump : List ℕ)
      × MakesStop r (Ok dump) before after old new
  AnswersStop reply before after old new =
      RefusesKnown reply (known_at_point old) Stop × (new ≡ old) × (after ≡ before)

  -- A stop whose text found no memory went on without it.
  abbrev pub StopsUnsaved : (before after : AheadTold) → (old new : CommandPoint M) → Type 0
  StopsUnsaved before after old new = (r : CurrentRun) × MakesStop r (Err (record {})) before after old new

  -- a pause or a resume of the run of this number, which is on
  abbrev pub PausesOrResumes : Transition → (run : ℕ) → (old new : CommandPoint M) → Type 0
  PausesOrResumes t run old new = (r : CurrentRun) × (r.run ≡ run) × MakesChange t r old new

  -- what a pause is answered
  abbrev pub AnswersPause : RunReply → (old new : CommandPoint M) → Type 0
  AnswersPause (run_paused run) old new = PausesOrResumes Pause run old new
  AnswersPause reply old new = RefusesKnown reply (known_at_point old) Pause × (new ≡ old)

  -- and a resume
  abbrev pub AnswersResume : RunReply → (old new : CommandPoint M) → Type 0
  AnswersResume (run_resumed run) old new = PausesOrResumes Resume run old new
  AnswersResume reply old new = RefusesKnown reply (known_at_point old) Resume × (new ≡ old)
