-- What the record of a session tells: the histories of its objects, its runs, and the run files.
use Rattle.daq_io.specs.Told.{FilesTold}
use Rattle.std.specs.Prelude.{◌≡◌, ◌⊎◌, ◌≤◌, ◌==◌, ℕ, suc, ◌+◌, if◌then◌else◌, Bool, IsSome, IsTrue, ◌++◌, ◌∷◌, [], List, length, slice_get, Contains, Option, Some, Ok}
use Rattle.std.specs.List.{AllByRecursion}
use Rattle.daq_types.specs.Callers.{caller_of_client, entries_by, main_caller}
use Rattle.daq_types.specs.declared.events.Event.{Event}
use Rattle.daq_types.specs.declared.runs.ChannelState.TheVariants.{Broken, Ended}
use Rattle.daq_types.specs.declared.runs.RunState.TheVariants.{Stopped}
use Rattle.daq_types.specs.declared.runs.StartOutcome.TheVariants.{Completed, Refused}
use Rattle.daq_types.specs.declared.runs.Why.{Why}
use Rattle.daq_io.specs.Seen.{Seen, IsStored}
use Rattle.event.specs.Events.{encoding}
use Rattle.event.specs.RunFile.{IsRunFile, end_record}
use Rattle.turn_lock.specs.Closing.{history_of}
use Rattle.buffer_core.specs.Window.{Sent, opening}
use Rattle.buffer_core.specs.Histories.{IsLegal, replay}
use Rattle.buffer_core.specs.Delivered.{Delivers}
use Rattle.buffer_core.specs.Readers.{wanted}
use Rattle.buffer_core.specs.Runs.{KeepsRuns, segment}
use Rattle.buffer_core.specs.CallersView.{given_in}
use Rattle.history_laws.specs.OneCaller.{events_in}
use Rattle.history_laws.specs.SentRuns.{events_at_places, places_sent}
use Rattle.transitions.specs.declared.entry.EngineEntry.TheVariants.{Close}
use Rattle.transitions.specs.EngineCalls.{order_for}
use Rattle.transitions.specs.Engines.{engine_opening}
use Rattle.transitions.specs.TurnOrder.{TurnsInOrder}
use Rattle.transitions.specs.EngineHistories.{engine_replay}
use Rattle.member_model.specs.RunEngines.{EngineHistory, IsLegalEngine}
use Rattle.daq_session.specs.SessionRows.{session_rows}
use Rattle.odb_watch.specs.Steps.{LeadsDatabase, unwatched}
use Rattle.member_model.specs.SentCalls.{own_sent}
use Rattle.member_model.specs.TurnCalls.{member_turns}
use Rattle.front_ends.specs.FrontKept.{made_events}
use Rattle.frontend_kit.specs.declared.generator.Generator.{Generator}
use Rattle.sub_files.specs.Cuts.{IsCut, last_number}
use Rattle.sub_files.specs.Patterns.{piece_name_by}
use Rattle.sub_files.specs.Pieces.{HasPart, series_of}
use Rattle.sub_files.specs.Rolls.{fallen_at}
use Rattle.mid_logger.specs.declared.channel.Channel.{Channel}
use Rattle.mid_logger.specs.declared.channel_spec.ChannelSpec.{ChannelSpec}
use Rattle.loggers.specs.LeftNames.{NoneRose}
use Rattle.loggers.specs.OtherFiles.{AreDeclared, specs_in}
use Rattle.session_runs.specs.declared.records.ChannelFiles.{ChannelFiles}
use Rattle.session_runs.specs.declared.records.FrontTally.{FrontTally}
use Rattle.session_runs.specs.declared.records.ReportTally.{ReportTally}
use Rattle.session_runs.specs.declared.records.RunRecord.{RunRecord}
use Rattle.daq_members.specs.Members.{MemberTold}
use Rattle.session_runs.specs.RunEntries.{dump_saved, start_sheet}
use Rattle.session_runs.specs.RunsFit.{MainOwn, RecordsFit}
use Rattle.session_setup.specs.Setup.{Declared, lists_declared}
use Rattle.session_setup.specs.declared.declared.AnalyzerDeclared.{AnalyzerDeclared}
use Rattle.session_setup.specs.declared.declared.BufferDeclared.{BufferDeclared}
use Rattle.session_setup.specs.declared.declared.FrontDeclared.{FrontDeclared}
use Rattle.session_objects.specs.declared.record.BufferRecord.{BufferRecord}
use Rattle.session_objects.specs.declared.record.SessionRecord.{SessionRecord}
use Rattle.session_objects.specs.Members.{generator_makes, generator_of, request_of}
use Rattle.session_objects.specs.Records.{TellsDueNotes}
use Rattle.session_laws.specs.ClosedSessions.{ClosedSession, engine_calls}
use Rattle.session_laws.specs.CountedFaults.{CountsHold, state_by_dump}
use Rattle.session_laws.specs.EndLaws.{SessionHolds}
use Rattle.session_laws.specs.MadeRuns.{ReportHolds}
use Rattle.session_laws.specs.MembersAtEnd.{MembersAtEnd}
use Rattle.session_laws.specs.OneAnswer.{OneAnswer, RisesTold}
use Rattle.session_laws.specs.OtherNames.{AreStartsOver, IsNameKept}
use Rattle.session_laws.specs.EndedRecords.{IsInNoRecord, RecordSo, RefusalSo, clients_declared}
use Rattle.session_laws.specs.EndedSessions.{closed_session}
use Rattle.daq_session.specs.RunNumbers.{GivesNumber, IsNumberBefore}

-- Histories.

-- The buffer of the record is the one that was declared. Its history is legal from a buffer of that size which opened empty, and leads
-- to what the buffer was left as; each client got what it is owed; and the events of each run stand between its marks.
pub record IsHistoryOf (declared : BufferDeclared) (b : BufferRecord) : Type 0 where
  pub name : b.name ≡ declared.name
  pub size : b.size ≡ declared.size
  pub legal : IsLegal (opening b.size) (history_of b.closed)
  pub left : b.closed.value.buffer.window ≡ replay (opening b.size) (history_of b.closed)
  pub delivers : Delivers b.size (history_of b.closed)
  pub runs : KeepsRuns (history_of b.closed)

-- There is one history for each buffer that was declared, in order. That of the engine is legal from a new one, leads to what the engine
-- was left as, and each client's turns follow its transitions. That of the database is legal from the keys of runs alone and no watch, and each
-- watch was told the changes that it was due.
pub record AreHistoriesOf {D : Type 0} {g : _} (declared : Declared) (r : SessionRecord D g) : Type 0 where
  pub many : length r.buffers ≡ length declared.buffers
  pub buffers : (number : ℕ) → (d : BufferDeclared) → (b : BufferRecord) → slice_get declared.buffers number ≡ Some d →
      slice_get r.buffers number ≡ Some b → IsHistoryOf d b
  pub engine : IsLegalEngine engine_opening (history_of r.engine)
  pub engine_left : r.engine.value.engine ≡ engine_replay engine_opening (history_of r.engine)
  pub follows : TurnsInOrder (history_of r.engine)
  pub database : LeadsDatabase (unwatched session_rows) (history_of r.database) r.database.value.database
  pub notes : TellsDueNotes session_rows (history_of r.database)

-- These are the main thread's calls in the histories, but for the last, which closes the engine.
pub record AreMainCalls {D : Type 0} {g : _} (own : MainOwn) (r : SessionRecord D g) : Type 0 where
  pub engine : entries_by main_caller (history_of r.engine) ≡ own.engine ++ Close (Ok tt) ∷ []
  pub database : entries_by main_caller (history_of r.database) ≡ own.database

-- Runs.

-- the events of the run with this start number for which a channel asks: those between the run's marks in this buffer's
-- history, in order
abbrev pub events_of_run : ChannelSpec → BufferRecord → (start : ℕ) → List Event
events_of_run channel b start = events_in (wanted channel.id channel.mask (segment (history_of b.closed) start))

-- The files of the run's record are those of a channel that was declared, with the names that the channel's pattern gives; the
-- channel reads this buffer.
pub record AreOfChannel (declared : Declared) (buffers : List BufferRecord) (files : ChannelFiles) : Type 0 where
  pub channel : ChannelSpec
  pub is_declared : Contains declared.channels channel
  pub number : files.channel ≡ channel.number
  pub pattern : files.pattern ≡ channel.pattern
  pub buffer : BufferRecord
  pub there : slice_get buffers channel.buffer ≡ Some buffer

-- The file of this number, of so many, is closed, and its bytes are the begin record of the run with the dump of its start, the events
-- of this piece, and an end record: the last file's is that of the stop, with this dump, and each other's has the time of the start and
-- an empty dump.
pub record IsFileOfPiece (files : Seen) (run : RunRecord) (first_dump last_dump : List ℕ) (written : ChannelFiles)
    (number : ℕ) (piece : List Event) : Type 0 where
  pub bytes : List ℕ
  pub are : IsRunFile bytes run.run run.time0 first_dump piece
      (if suc number == written.told.files then run.time1 else run.time0)
      (if suc number == written.told.files then last_dump else [])
  pub stored : IsStored files (piece_name_by written.pattern run.run number) bytes

-- The files of a channel that ended are framed pieces that join to all events of the run for which the channel asks: they are cut into
-- as many pieces by the channel's limit. A last piece that is too long says that there is a file of the name behind it, where names are
-- told, or that it has the greatest number.
pub record AreFilesOfRun (declared : Declared) (buffers : List BufferRecord) (files : Seen) (run : RunRecord)
    (first_dump last_dump : List ℕ) (written : ChannelFiles) : Type 0 where
  pub of : AreOfChannel declared buffers written
  pub pieces : List (List Event)
  pub many : length pieces ≡ written.told.files
  pub few : written.told.files ≤ suc last_number
  pub framed : written.told.framed ≡ written.told.files
  pub taken : Bool
  pub beyond : IsTrue taken → IsTrue files.names → IsSome (files.at (piece_name_by written.pattern run.run written.told.files))
  pub cut : IsCut of.channel.sub_bytes (16 + length first_dump) (events_of_run of.channel of.buffer run.start) taken pieces
  pub each : (number : ℕ) → (piece : List Event) → slice_get pieces number ≡ Some piece →
      IsFileOfPiece files run first_dump last_dump written number piece

-- The files of a channel that broke off are closed, and hold a first part of those events, cut into pieces: those that are told to be
-- framed are whole, and the others have first parts of such files. Something of the record of the stop is there only behind all events.
pub record ArePartsOfRun (declared : Declared) (buffers : List BufferRecord) (files : Seen) (run : RunRecord)
    (first_dump last_dump : List ℕ) (written : ChannelFiles) : Type 0 where
  pub of : AreOfChannel declared buffers written
  pub last : List ℕ
  pub last_is : (last ≡ []) ⊎ (last ≡ encoding (end_record run.run run.time1 last_dump))
  pub part : HasPart files (series_of written.pattern of.channel.sub_bytes (record { run = run.run; time = run.time0 }) first_dump)
      (fallen_at written.told.files written.told.framed) last (events_of_run of.channel of.buffer run.start)

-- the first so many events of the front-end's generator in the run; what a start is begun with for analyzers is not in its order
abbrev pub events_of_front : FrontDeclared → RunRecord → (quota : ℕ) → (first_dump : List ℕ) → (sent : ℕ) → List Event
events_of_front d run quota first_dump sent =
    made_events (generator_makes (generator_of d)) (order_for (start_sheet 0 run.run run.time0 quota first_dump) run.start Stopped) sent

-- What the front-end with this client number sent in the run, by its own calls on its buffer, are the first events of its
-- generator, as many as the record tells, in order. And so they stand between the run's marks in the buffer's history.
pub record IsSentInRun (client : ℕ) (d : FrontDeclared) (buffers : List BufferRecord) (run : RunRecord) (quota : ℕ)
    (first_dump : List ℕ) (tally : FrontTally) : Type 0 where
  pub is : tally.client ≡ client
  pub buffer : BufferRecord
  pub there : slice_get buffers d.buffer ≡ Some buffer
  pub sent : own_sent (entries_by (caller_of_client client) (history_of buffer.closed)) run.start
      ≡ events_of_front d run quota first_dump tally.sent
  pub stands : events_in (events_at_places (places_sent (entries_by (caller_of_client client) (history_of buffer.closed)) run.start)
      (segment (history_of buffer.closed) run.start))
      ≡ events_of_front d run quota first_dump tally.sent

-- The event is one of those that a front-end of this buffer sent in the run.
pub record IsFrontEvent (declared : Declared) (run : RunRecord) (quota : ℕ) (first_dump : List ℕ) (buffer : ℕ) (event : Event) : Type 0 where
  pub client : ℕ
  pub front : FrontDeclared
  pub there : slice_get declared.fronts client ≡ Some front
  pub buffer_is : front.buffer ≡ buffer
  pub tally : FrontTally
  pub told : slice_get run.fronts client ≡ Some tally
  pub made : Contains (events_of_front front run quota first_dump tally.sent) event

-- What the record has of the analyzer with this client number is the report of the run, by the history of its buffer and its own
-- calls there and on the engine.
pub record IsCountedInRun (client : ℕ) (d : AnalyzerDeclared) (buffers : List BufferRecord) (engine : EngineHistory) (start : ℕ)
    (tally : ReportTally) : Type 0 where
  pub is : tally.client ≡ client
  pub buffer : BufferRecord
  pub there : slice_get buffers d.buffer ≡ Some buffer
  pub counts : ReportHolds (history_of buffer.closed) (caller_of_client client) (request_of d)
      (given_in (caller_of_client client) (opening buffer.size) (history_of buffer.closed))
      (member_turns client (entries_by (caller_of_client client) engine)) start tally.report

-- What is told of a run that came about. It fits the main thread's calls, which tell its dumps, and holds in the session; its
-- number is the next of that which its start got; the files of each channel that ended are the run's files of the channel, and those
-- of one that broke off a part of that; where no fault of the run files was counted, each ended, but where the stop had no dump; each
-- front-end sent what the record has of it; each event between the run's marks in a buffer is one of those that its front-ends sent;
-- and each analyzer counted what the record has of it: the events of the run that its client got, and where it saw the run
-- through, all events of the run for which it asks.
pub record RunTells (c : ClosedSession) (moments : (client : ℕ) → List ℕ) (own : MainOwn) (declared : Declared)
    (buffers : List BufferRecord) (first now : FilesTold) (run : RunRecord) : Type 0 where
  pub so : RecordSo c moments own run
  pub number : IsNumberBefore run.run so.fits.start.are.got
  pub files : (place : ℕ) → (written : ChannelFiles) → slice_get run.files place ≡ Some written → written.told.state ≡ Ended →
      (last_dump : List ℕ) × (dump_saved so.fits.stop.saved ≡ Some last_dump)
      × AreFilesOfRun declared buffers c.files run so.fits.start.dump last_dump written
  pub parts : (place : ℕ) → (written : ChannelFiles) → slice_get run.files place ≡ Some written → written.told.state ≡ Broken →
      (last_dump : List ℕ) → dump_saved so.fits.stop.saved ≡ Some last_dump →
      ArePartsOfRun declared buffers c.files run so.fits.start.dump last_dump written
  pub ended : NoneRose first now → (place : ℕ) → (written : ChannelFiles) → slice_get run.files place ≡ Some written →
      written.told.state ≡ state_by_dump (dump_saved so.fits.stop.saved)
  pub fronts : (client : ℕ) → (d : FrontDeclared) → slice_get declared.fronts client ≡ Some d →
      (tally : FrontTally) × (slice_get run.fronts client ≡ Some tally)
      × IsSentInRun client d buffers run so.quota so.fits.start.dump tally
  pub events : (buffer index place : ℕ) → (b : BufferRecord) → (x : Sent) → slice_get buffers buffer ≡ Some b →
      slice_get (segment (history_of b.closed) run.start) index ≡ Some (place, x) →
      IsFrontEvent declared run so.quota so.fits.start.dump buffer x.event
  pub reports : (place : ℕ) → (d : AnalyzerDeclared) → slice_get declared.analyzers place ≡ Some d →
      (tally : ReportTally) × (slice_get run.reports place ≡ Some tally)
      × IsCountedInRun (suc (length declared.fronts) + place) d buffers c.engine run.start tally

-- The session of a record as its laws see it: its database had the keys of runs; and its logger, with these channels, had the
-- run files as they were at first and are now.
abbrev pub session_told : {D F : Type 0} {g : _} → MemberTold Generator F → Declared → List (Option Channel) → (first_files files : F) → SessionRecord D g → ClosedSession
session_told told declared slots first_files files r =
    closed_session (unwatched session_rows) (lists_declared declared) slots (told.read first_files).seen (told.read files).seen r

-- What the record of a session of these declarations tells, in which these are the main thread's calls: the histories of its
-- objects; one record for each start that was begun, in order, each of which fits these calls, and no two of one start; each answer
-- that the run number got; the channels of its logger, which are those that were declared; who called, and that each member kept
-- its contract over its own calls, a front-end with the moments of its turns; all that the laws say of the session, of its runs, its
-- files, its front-ends, with these same moments, and its callers;
-- that each start is over; what the counts of its run files tell; that one fault of these gives one answer, and that no clash is
-- counted without one where no channel has a limit, and no fault but where a start was refused, nor the first one without a channel
-- that is called Broken; that each run file that is in no record is as it was, but one of a start that was refused, where more faults
-- were counted than are told; each of its runs that came about; and that each other start was refused by a front-end whose equipment
-- takes no part in the run, or by the logger for a fault or a clash of names that was counted.
pub record RecordTells {D F : Type 0} {g : _} (told : MemberTold Generator F) (declared : Declared) (own : MainOwn)
    (first_files files : F) (r : SessionRecord D g) : Type 0 where
  pub histories : AreHistoriesOf declared r
  pub main : AreMainCalls own r
  pub fit : RecordsFit (clients_declared (lists_declared declared)) own r.runs
  pub differ : (number other : ℕ) → (run second : RunRecord) → slice_get r.runs number ≡ Some run →
      slice_get r.runs other ≡ Some second → run.start ≡ second.start → number ≡ other
  pub numbers : AllByRecursion GivesNumber own.database
  pub slots : List (Option Channel)
  pub channels : AreDeclared declared.channels slots
  pub members : MembersAtEnd (session_told told declared slots first_files files r)
  pub holds : SessionHolds (session_told told declared slots first_files files r)
  pub moments : holds.moments ≡ members.moments
  pub over : AreStartsOver (engine_calls (session_told told declared slots first_files files r) main_caller)
  pub counts : CountsHold (session_told told declared slots first_files files r) (told.read first_files) (told.read files)
  pub one_answer : OneAnswer r.runs (told.read first_files) (told.read files)
  pub rises : RisesTold (specs_in slots) r.runs (told.read first_files) (told.read files)
  pub left : IsTrue (told.read first_files).seen.names → (name : List ℕ) → IsInNoRecord r.runs name →
      IsNameKept (session_told told declared slots first_files files r) (told.read first_files) (told.read files) name
  pub runs : (number : ℕ) → (run : RunRecord) → slice_get r.runs number ≡ Some run → run.outcome ≡ Completed →
      RunTells (session_told told declared slots first_files files r) holds.moments own declared r.buffers
      (told.read first_files) (told.read files) run
  pub refusals : (number : ℕ) → (run : RunRecord) → slice_get r.runs number ≡ Some run → (client : ℕ) → (why : Why) →
      run.outcome ≡ Refused client why →
      RefusalSo (session_told told declared slots first_files files r) (told.read first_files) (told.read files) own run client why
