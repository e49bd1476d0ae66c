-- What the commands of runs do, and what they are answered.
use Rattle.std.specs.Prelude.{◌≡◌, ℕ, ◌-◌, ◌++◌, ◌⊎◌, List, [], ◌∷◌, map, take, length, slice_get, Option, Some, None, Result, Err}
use Rattle.std.specs.Option.{option_map, unwrap_or}
use Rattle.daq_types.specs.declared.runs.RunState.TheVariants.{Stopped}
use Rattle.daq_types.specs.declared.runs.Transition.TheVariants.{Pause, Resume}
use Rattle.mid_logger.specs.ChannelTurns.{logger_name}
use Rattle.odb_tree.specs.declared.entry.DatabaseEntry.{DatabaseEntry}
use Rattle.odb_tree.specs.declared.refusals.OdbRefusal.{OdbRefusal}
use Rattle.odb_tree.specs.declared.refusals.OdbRefusal.TheVariants.{NoMemory as no_memory}
use Rattle.odb_watch.specs.DatabasePorts.{AddsCall, AddsCalls, DatabaseAccess, IsSettled}
use Rattle.odb_runinfo.specs.RunSets.{sent_key_made}
use Rattle.transition_lock.specs.declared.shared.SharedEngine.{SharedEngine}
use Rattle.transition_lock.specs.SharedEngines.{first_engine}
use Rattle.transitions.specs.Engines.{engine_opening}
use Rattle.session_runs.specs.declared.opening.MemberName.{MemberName}
use Rattle.session_runs.specs.declared.records.RunRecord.{RunRecord}
use Rattle.session_runs.specs.declared.records.FrontTally.{FrontTally}
use Rattle.session_runs.specs.declared.records.ChannelFiles.{ChannelFiles}
use Rattle.session_runs.specs.declared.records.SentLine.{SentLine}
use Rattle.session_runs.specs.declared.records.ReportTally.{ReportTally}
use Rattle.session_runs.specs.declared.records.ReportLine.{ReportLine}
use Rattle.session_setup.specs.SetupLines.{opened_with_defaults}
use Rattle.session_runs.specs.declared.replies.RunReply.{RunReply}
use Rattle.session_runs.specs.declared.replies.RunReply.TheVariants as answer
use Rattle.session_runs.specs.KeptRuns.{RunsSeen}
use Rattle.session_runs.specs.RunAnswers.{AnswersPause, AnswersResume, AnswersStart, AnswersStop, CutsStart, StopsUnsaved}
use Rattle.console.specs.declared.replies.Reply.{Reply}
use Rattle.console.specs.declared.replies.Reply.TheVariants.{WrongState, LastStart, RunNumber, StartRefused, Started as run_started, Paused as run_paused, Resumed as run_resumed, Stopped as run_stopped}
use Rattle.session_commands.specs.NothingSaid.{NothingSaid, own_point}
use Rattle.session_commands.specs.Stages.{SessionStage, front_names, open_stage, opened_runs}

-- Replies.

-- the name of the member with this client number
abbrev pub member_name : List MemberName → (client : ℕ) → List ℕ
member_name members client = unwrap_or (option_map (λ (m : MemberName). m.name) (slice_get members client)) logger_name

-- what the console tells of a front-end
abbrev pub tally_line : List MemberName → FrontTally → SentLine
tally_line members tally = record { name = member_name members tally.client; sent = tally.sent }

-- what it tells of an analyzer: its report, with its name and a blank before each line
abbrev pub report_line : List MemberName → ReportTally → ReportLine
report_line members tally = record { start = member_name members tally.client ++ 32 ∷ []; report = tally.report }

-- the last of some records, if there is any
abbrev pub latest_record : List RunRecord → Option RunRecord
latest_record records = slice_get records (length records - 1)

abbrev pub record_fronts : Option RunRecord → List FrontTally
record_fronts None = []
record_fronts (Some r) = r.fronts

abbrev pub record_files : Option RunRecord → List ChannelFiles
record_files None = []
record_files (Some r) = r.files

abbrev pub record_reports : Option RunRecord → List ReportTally
record_reports None = []
record_reports (Some r) = r.reports

-- the reply to a command of runs, where these are what is kept behind it
abbrev pub reply_for : RunsSeen → RunReply → Reply
reply_for runs (answer.WrongState state) = WrongState state
reply_for runs answer.LastStart = LastStart
reply_for runs (answer.RunNumber have) = RunNumber have
reply_for runs (answer.StartRefused client why) = StartRefused (member_name runs.members client) why
reply_for runs (answer.Started run) = run_started run
reply_for runs (answer.Paused run) = run_paused run
reply_for runs (answer.Resumed run) = run_resumed run
reply_for runs (answer.Stopped run) =
    run_stopped run (map (tally_line runs.members) (record_fronts (latest_record runs.runs)))
    (record_files (latest_record runs.runs)) (map (report_line runs.members) (record_reports (latest_record runs.runs)))

-- Commands of an open session, by the main thread's own calls. What its members did meanwhile is not said here.

-- A command of runs that does so leads from the one stage to the other, with this reply.
pub record RunsCommand (Does : RunReply → (old new : SessionStage) → (before after : RunsSeen) → Type 0) (before : RunsSeen) (old : SessionStage) (reply : Reply) (new : SessionStage) : Type 0 where
  pub after : RunsSeen
  pub answer : RunReply
  pub does : Does answer old new before after
  pub reply_is : reply ≡ reply_for after answer
  pub runs : new.runs ≡ Some after
  pub quota : new.quota ≡ old.quota
  pub declared : new.declared ≡ old.declared
  pub files : new.database.files ≡ old.database.files
  pub replies : new.database.replies ≡ old.database.replies

-- A start of an open session, as its calls on the clock, the database and the engine answer it.
abbrev pub StartsBy : RunReply → (old new : SessionStage) → (before after : RunsSeen) → Type 0
StartsBy reply old new before after = AnswersStart NothingSaid reply old.clock new.clock (own_point before old.database.access) (own_point after new.database.access)

-- A stop of an open session, likewise.
abbrev pub StopsBy : RunReply → (old new : SessionStage) → (before after : RunsSeen) → Type 0
StopsBy reply old new before after = AnswersStop NothingSaid reply old.clock new.clock (own_point before old.database.access) (own_point after new.database.access)

-- A pause of an open session, likewise: it reads no clock.
abbrev pub PausesBy : RunReply → (old new : SessionStage) → (before after : RunsSeen) → Type 0
PausesBy reply old new before after =
    AnswersPause NothingSaid reply (own_point before old.database.access) (own_point after new.database.access) × (new.clock ≡ old.clock)

-- A resume of an open session, likewise: it reads no clock.
abbrev pub ResumesBy : RunReply → (old new : SessionStage) → (before after : RunsSeen) → Type 0
ResumesBy reply old new before after =
    AnswersResume NothingSaid reply (own_point before old.database.access) (own_point after new.database.access) × (new.clock ≡ old.clock)

-- The opening of a session, before anything else of the first start.

-- the calls that make the keys in which the front-ends say how many events they sent, one for each, in order; any refusal but
-- want of memory is passed over
abbrev pub MakesKeys : (fronts : List (List ℕ)) → List DatabaseEntry → Type 0
MakesKeys [] calls = calls ≡ []
MakesKeys (name ∷ fronts) calls =
    (reply : Result ℕ OdbRefusal) × (rest : List DatabaseEntry) × IsSettled reply × (calls ≡ sent_key_made name reply ∷ rest) × MakesKeys fronts rest

-- the keys of these front-ends were made
abbrev pub KeysMade : (fronts : List (List ℕ)) → (old new : DatabaseAccess) → Type 0
KeysMade fronts old new = (keys : List DatabaseEntry) × MakesKeys fronts keys × AddsCalls old new keys

-- The session opens: what is declared is completed and stands from here on; the front-ends' keys are made; and the members are
-- registered on an engine that is new.
pub record OpensSession (old new : SessionStage) : Type 0 where
  pub closed : old.runs ≡ None
  pub declared : new.declared ≡ opened_with_defaults old.declared
  pub keys : KeysMade (front_names new.declared) old.database.access new.database.access
  pub engine : SharedEngine
  pub fresh : first_engine engine ≡ engine_opening
  pub runs : new.runs ≡ Some (opened_runs old.quota new.declared engine)
  pub quota : new.quota ≡ old.quota
  pub clock : new.clock ≡ old.clock
  pub files : new.database.files ≡ old.database.files
  pub replies : new.database.replies ≡ old.database.replies

-- Memory ended as the keys were made: those of the first so many front-ends were, and that of the next was maybe refused for
-- want of memory.
pub record CutsKeys (fronts : List (List ℕ)) (old new : DatabaseAccess) : Type 0 where
  pub count : ℕ
  pub keys : List DatabaseEntry
  pub makes : MakesKeys (take count fronts) keys
  pub between : DatabaseAccess
  pub adds : AddsCalls old between keys
  pub next : (new ≡ between)
      ⊎ ((name : List ℕ) × (slice_get fronts count ≡ Some name) × AddsCall between new (sent_key_made name (Err no_memory)))

-- Memory ended as the session was to open: the first of the keys were made, and nothing else.
pub record CutsOpening (old new : SessionStage) : Type 0 where
  pub closed : old.runs ≡ None
  pub keys : CutsKeys (front_names (opened_with_defaults old.declared)) old.database.access new.database.access
  pub same : new ≡ record old { database = record old.database { access = new.database.access } }

-- The commands, by whether the session is open. One that is not open is stopped.

-- A start: where the session is not open, it is opened first, and then started.
abbrev pub DoesStart : Option RunsSeen → (old : SessionStage) → Reply → (new : SessionStage) → Type 0
DoesStart None old reply new =
    (ready : SessionStage) × (opened : RunsSeen) × (ready.runs ≡ Some opened) × OpensSession old ready × RunsCommand StartsBy opened ready reply new
DoesStart (Some runs) old reply new = RunsCommand StartsBy runs old reply new

-- There is no session open, so that nothing is on that could be stopped, paused or resumed: nothing is done.
abbrev pub IsStopped : (old : SessionStage) → Reply → (new : SessionStage) → Type 0
IsStopped old reply new = (reply ≡ WrongState Stopped) × (new ≡ old)

-- A stop: of an open session, by the calls that answer it.
abbrev pub DoesStop : Option RunsSeen → (old : SessionStage) → Reply → (new : SessionStage) → Type 0
DoesStop None old reply new = IsStopped old reply new
DoesStop (Some runs) old reply new = RunsCommand StopsBy runs old reply new

-- A pause, likewise.
abbrev pub DoesPause : Option RunsSeen → (old : SessionStage) → Reply → (new : SessionStage) → Type 0
DoesPause None old reply new = IsStopped old reply new
DoesPause (Some runs) old reply new = RunsCommand PausesBy runs old reply new

-- A resume, likewise.
abbrev pub DoesResume : Option RunsSeen → (old : SessionStage) → Reply → (new : SessionStage) → Type 0
DoesResume None old reply new = IsStopped old reply new
DoesResume (Some runs) old reply new = RunsCommand ResumesBy runs old reply new

-- Memory ended in a start, before its run was begun.
pub record CutsRun (before : RunsSeen) (old new : SessionStage) : Type 0 where
  pub cut : CutsStart old.clock new.clock (own_point before old.database.access) (own_point before new.database.access)
  pub same : new ≡ record old { clock = new.clock; database = record old.database { access = new.database.access } }

-- A start for which memory was wanting: as the session was opened, or behind that, before its run was begun.
abbrev pub BreaksStart : Option RunsSeen → (old new : SessionStage) → Type 0
BreaksStart None old new =
    CutsOpening old new ⊎ ((ready : SessionStage) × (opened : RunsSeen) × (ready.runs ≡ Some opened) × OpensSession old ready × CutsRun opened ready new)
BreaksStart (Some runs) old new = CutsRun runs old new

-- The stage with what a stop leaves of it.
abbrev pub behind_command : (old new : SessionStage) → (after : RunsSeen) → SessionStage
behind_command old new after = record old { clock = new.clock; database = record old.database { access = new.database.access }; runs = Some after }

-- Memory ended in a stop: its dump was not saved, and it went on without; or it was made, and there was no memory for its
-- reply.
abbrev pub BreaksStop : Option RunsSeen → (old new : SessionStage) → Type 0
BreaksStop None old new = ⊥
BreaksStop (Some runs) old new = (after : RunsSeen) × (new ≡ behind_command old new after)
    × (((run : ℕ) × StopsBy (answer.Stopped run) old new runs after)
    ⊎ StopsUnsaved NothingSaid old.clock new.clock (own_point runs old.database.access) (own_point after new.database.access))

-- What is done behind all lines: where a run is on, it is stopped as by the command.

-- A session is open, and a run is on in it.
abbrev pub runs_on : Option RunsSeen → Type 0
runs_on None = ⊥
runs_on (Some runs) = (run : _) × (runs.on ≡ Some run)

-- With no session, or no run on, nothing is done and nothing replied.
abbrev pub ClosesRun : Option RunsSeen → (old : SessionStage) → Option Reply → (new : SessionStage) → Type 0
ClosesRun None old reply new = (reply ≡ None) × (new ≡ old)
ClosesRun (Some runs) old None new = (runs.on ≡ None) × (new ≡ old)
ClosesRun (Some runs) old (Some reply) new = runs_on (Some runs) × RunsCommand StopsBy runs old reply new
