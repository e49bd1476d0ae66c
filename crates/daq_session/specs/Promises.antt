-- What is promised of a session, each promise by itself: read off the histories and the records that are kept of the session.
use Rattle.std.specs.Prelude.{◌≡◌, ◌≢◌, ◌<◌, ◌≤◌, ◌⊎◌, ℕ, suc, ◌+◌, IsTrue, ◌++◌, ◌∷◌, [], List, Contains, length, slice_get, Option, Some, Ok}
use Rattle.daq_types.specs.Callers.{caller_of_client, entries_by, main_caller}
use Rattle.daq_types.specs.declared.events.Event.{Event}
use Rattle.daq_types.specs.declared.runs.ChannelState.TheVariants.{Broken, Ended}
use Rattle.daq_types.specs.declared.runs.FrontEnded.{FrontEnded}
use Rattle.daq_types.specs.declared.runs.FrontEnded.TheVariants.{Quota, Paused, Spent}
use Rattle.daq_types.specs.declared.runs.RunState.TheVariants.{Stopped, Paused as is_paused}
use Rattle.daq_types.specs.declared.runs.StartOutcome.TheVariants.{Completed}
use Rattle.daq_types.specs.declared.runs.Transition.TheVariants.{Start, Stop}
use Rattle.daq_io.specs.Counts.{Rose}
use Rattle.daq_io.specs.Seen.{Seen, Stored}
use Rattle.daq_io.specs.Told.{FilesTold}
use Rattle.event.specs.Generator.{generated_events}
use Rattle.turn_lock.specs.Closing.{history_of}
use Rattle.buffer_core.specs.Window.{Sent, opening}
use Rattle.buffer_core.specs.Histories.{IsLegal, replay}
use Rattle.buffer_core.specs.Delivered.{Delivers}
use Rattle.buffer_core.specs.Runs.{KeepsRuns, segment}
use Rattle.buffer_core.specs.declared.entry.BufferEntry.{BufferEntry}
use Rattle.transitions.specs.declared.entry.EngineEntry.TheVariants.{Begin}
use Rattle.transitions.specs.EngineCalls.{order_for}
use Rattle.transitions.specs.EnginePoints.{engine_past, state_at}
use Rattle.transitions.specs.Engines.{engine_opening}
use Rattle.transitions.specs.EngineHistories.{engine_replay}
use Rattle.transitions.specs.TurnOrder.{TurnsInOrder}
use Rattle.odb_watch.specs.Steps.{LeadsDatabase, unwatched}
use Rattle.member_model.specs.RunEngines.{ClientTally, EngineHistory, IsLegalEngine, Sheet}
use Rattle.member_model.specs.SentCalls.{WasSpent, own_sent}
use Rattle.history_laws.specs.BegunTurns.{HasTransition}
use Rattle.sub_files.specs.Cuts.{last_number}
use Rattle.sub_files.specs.Patterns.{piece_name_by}
use Rattle.mid_logger.specs.declared.channel_spec.ChannelSpec.{ChannelSpec}
use Rattle.loggers.specs.LeftNames.{NoneRose}
use Rattle.session_setup.specs.Setup.{Declared, lists_declared}
use Rattle.session_setup.specs.declared.declared.AnalyzerDeclared.{AnalyzerDeclared}
use Rattle.session_setup.specs.declared.declared.FrontDeclared.{FrontDeclared}
use Rattle.session_runs.specs.declared.records.ChannelFiles.{ChannelFiles}
use Rattle.session_runs.specs.declared.records.FrontTally.{FrontTally}
use Rattle.session_runs.specs.declared.records.ReportTally.{ReportTally}
use Rattle.session_runs.specs.declared.records.RunRecord.{RunRecord}
use Rattle.session_runs.specs.RunsFit.{MainOwn, RecordsFit}
use Rattle.session_objects.specs.declared.record.BufferRecord.{BufferRecord}
use Rattle.session_objects.specs.declared.record.SessionRecord.{SessionRecord}
use Rattle.session_objects.specs.Records.{TellsDueNotes}
use Rattle.session_laws.specs.EndedRecords.{IsInNoRecord, clients_declared}
use Rattle.session_laws.specs.OneAnswer.{OneAnswer}
use Rattle.session_laws.specs.OtherNames.{BeginsStartOf}
use Rattle.console.specs.declared.endings.Ending.{Ending}
use Rattle.console.specs.declared.halts.Halt.{Halt}
use Rattle.console.specs.declared.refusals.Refusals.{Refusals}
use Rattle.console.specs.declared.replies.Reply.{Reply}
use Rattle.console.specs.Console.{refused_lines}
use Rattle.console.specs.Refused.{CountsRefusals}
use Rattle.console.specs.Playing.{AreOfGiven}
use Rattle.console.specs.Closing.{WroteBehind, ended_by}
use Rattle.daq_session.specs.declared.ends.ScriptEnd.{ScriptEnd}
use Rattle.daq_session.specs.declared.ends.ScriptEnd.TheVariants.{CommandRefused, Done, TooLong}
use Rattle.daq_session.specs.Endings.{script_end}
use Rattle.daq_session.specs.Environments.{Environment}
use Rattle.daq_session.specs.FramedFiles.{AreFramedPieces}
use Rattle.daq_session.specs.SessionRows.{session_rows}
use Rattle.daq_session.specs.ToldRecords.{AreMainCalls, ArePartsOfRun, IsCountedInRun}
use Rattle.daq_session.specs.WrittenLines.{WroteLines}

-- One history.

-- What was done to the buffer is one list of calls, from its opening on: each reply is the one that the buffer gives there, whoever
-- called, and it was left as these calls leave it; and the events of each run stand between its marks.
pub record HasOneHistory (b : BufferRecord) : Type 0 where
  pub legal : IsLegal (opening b.size) (history_of b.closed)
  pub left : b.closed.value.buffer.window ≡ replay (opening b.size) (history_of b.closed)
  pub runs : KeepsRuns (history_of b.closed)

-- So it is with each buffer of the session. What was done to its engine is one such list, in which each client's turns follow its
-- transitions; and so is what was done to its database, from the keys of runs on.
pub record HaveOneHistory {D : Type 0} {g : _} (r : SessionRecord D g) : Type 0 where
  pub buffers : (number : ℕ) → (b : BufferRecord) → slice_get r.buffers number ≡ Some b → HasOneHistory b
  pub engine : IsLegalEngine engine_opening (history_of r.engine)
  pub engine_left : r.engine.value.engine ≡ engine_replay engine_opening (history_of r.engine)
  pub follows : TurnsInOrder (history_of r.engine)
  pub database : LeadsDatabase (unwatched session_rows) (history_of r.database) r.database.value.database

-- Delivery.

-- In each buffer each client got what it is owed, and a send was refused as full only for an event that was still to be got.
abbrev pub DeliverOwed : {D : Type 0} {g : _} → SessionRecord D g → Type 0
DeliverOwed r = (number : ℕ) → (b : BufferRecord) → slice_get r.buffers number ≡ Some b → Delivers b.size (history_of b.closed)

-- Runs.

-- The two transitions of a run that came about, as the engine's history has them: its start and its stop, each from its begin to its
-- Done, with the sheets that they were begun with. These have the record's run number and times, and that of the start has a dump.
pub record RunTransitions (engine : EngineHistory) (run : RunRecord) : Type 0 where
  pub first : Sheet
  pub last : Sheet
  pub first_tallies : List ClientTally
  pub last_tallies : List ClientTally
  pub started : HasTransition engine Start first run.start Completed first_tallies
  pub stopped : HasTransition engine Stop last run.start Completed last_tallies
  pub number : first.run ≡ run.run
  pub time : first.time ≡ run.time0
  pub stop_time : last.time ≡ run.time1
  pub dump : List ℕ
  pub has_dump : first.dump ≡ Some dump

-- Front-ends.

-- the first so many events of the front-end's generator in the run
abbrev pub generated_by : FrontDeclared → {engine : EngineHistory} → {run : RunRecord} → RunTransitions engine run → (sent : ℕ) → List Event
generated_by d {run = run} on sent = generated_events (order_for on.first run.start Stopped) d.id d.mask sent

-- where the stop of this run was begun, the engine's history tells that the run was paused
pub record StoppedInPause (engine : EngineHistory) (last : Sheet) (start : ℕ) : Type 0 where
  pub earlier : EngineHistory
  pub later : EngineHistory
  pub caller : ℕ
  pub stands : engine ≡ earlier ++ (caller, Begin Stop last (Ok start)) ∷ later
  pub paused : state_at (engine_past earlier) ≡ is_paused

-- Why a front-end sent no more than so many events: these are its quota; or the stop came from a pause; or a send of it in the run
-- was refused as spent, with this total.
abbrev pub SendingEnded : {engine : EngineHistory} → {run : RunRecord} → RunTransitions engine run → (calls : List BufferEntry) → (sent : ℕ) →
    FrontEnded → Type 0
SendingEnded on calls sent Quota = sent ≡ on.first.quota
SendingEnded {engine = engine} {run = run} on calls sent Paused = StoppedInPause engine on.last run.start
SendingEnded {run = run} on calls sent (Spent total) = WasSpent calls run.start total

-- What the front-end with this client number sent in the run, by its own calls in its buffer's history: the first events of its
-- generator, as many as the record tells, in order; and why it sent no more.
pub record SentGenerated (client : ℕ) (d : FrontDeclared) (buffers : List BufferRecord) {engine : EngineHistory} {run : RunRecord}
    (on : RunTransitions engine run) (tally : FrontTally) : Type 0 where
  pub is : tally.client ≡ client
  pub buffer : BufferRecord
  pub there : slice_get buffers d.buffer ≡ Some buffer
  pub sent : own_sent (entries_by (caller_of_client client) (history_of buffer.closed)) run.start ≡ generated_by d on tally.sent
  pub ended : SendingEnded on (entries_by (caller_of_client client) (history_of buffer.closed)) tally.sent tally.ended

-- A front-end of this buffer sent the event in the run: it is one of those.
pub record IsGenerated (declared : Declared) {engine : EngineHistory} {run : RunRecord} (on : RunTransitions engine run)
    (buffer : ℕ) (event : Event) : Type 0 where
  pub client : ℕ
  pub front : FrontDeclared
  pub there : slice_get declared.fronts client ≡ Some front
  pub buffer_is : front.buffer ≡ buffer
  pub tally : FrontTally
  pub told : slice_get run.fronts client ≡ Some tally
  pub made : Contains (generated_by front on tally.sent) event

-- So it is in a run with each front-end that was declared; and each event between the run's marks in a buffer is one of theirs.
pub record FrontEndsSent (declared : Declared) (buffers : List BufferRecord) (engine : EngineHistory) (run : RunRecord) : Type 0 where
  pub on : RunTransitions engine run
  pub fronts : (client : ℕ) → (d : FrontDeclared) → slice_get declared.fronts client ≡ Some d →
      (tally : FrontTally) × (slice_get run.fronts client ≡ Some tally) × SentGenerated client d buffers on tally
  pub events : (buffer index place : ℕ) → (b : BufferRecord) → (x : Sent) → slice_get buffers buffer ≡ Some b →
      slice_get (segment (history_of b.closed) run.start) index ≡ Some (place, x) → IsGenerated declared on buffer x.event

-- So it is in each run of the session that came about.
abbrev pub FrontEndsSend : {D : Type 0} {g : _} → Declared → SessionRecord D g → Type 0
FrontEndsSend declared r = (number : ℕ) → (run : RunRecord) → slice_get r.runs number ≡ Some run → run.outcome ≡ Completed →
    FrontEndsSent declared r.buffers (history_of r.engine) run

-- Run files.

-- The files that the record of a run has of a channel that ended are framed pieces of the run, with the dumps that its start and its
-- stop were begun with; and those of a channel that broke off hold a first part of that, where the stop had a dump.
pub record FramedInRun (declared : Declared) (buffers : List BufferRecord) (engine : EngineHistory) (files : Seen) (run : RunRecord) : Type 0 where
  pub on : RunTransitions engine run
  pub framed : (place : ℕ) → (written : ChannelFiles) → slice_get run.files place ≡ Some written → written.told.state ≡ Ended →
      (last_dump : List ℕ) × (on.last.dump ≡ Some last_dump)
      × AreFramedPieces declared buffers files run on.first.quota on.dump last_dump written
  pub broken : (place : ℕ) → (written : ChannelFiles) → slice_get run.files place ≡ Some written → written.told.state ≡ Broken →
      (last_dump : List ℕ) → on.last.dump ≡ Some last_dump → ArePartsOfRun declared buffers files run on.dump last_dump written

-- So it is in each run of the session that came about.
abbrev pub HaveRunFiles : {D : Type 0} {g : _} → (files : Seen) → Declared → SessionRecord D g → Type 0
HaveRunFiles files declared r = (number : ℕ) → (run : RunRecord) → slice_get r.runs number ≡ Some run → run.outcome ≡ Completed →
    FramedInRun declared r.buffers (history_of r.engine) files run

-- Reports.

-- The record of a run has a report of each analyzer that was declared, in order, and no others: that of the events of the run which
-- its client got, by the history of its buffer.
pub record ReportsOfRun (declared : Declared) (buffers : List BufferRecord) (engine : EngineHistory) (run : RunRecord) : Type 0 where
  pub many : length run.reports ≡ length declared.analyzers
  pub each : (place : ℕ) → (d : AnalyzerDeclared) → slice_get declared.analyzers place ≡ Some d →
      (tally : ReportTally) × (slice_get run.reports place ≡ Some tally)
      × IsCountedInRun (suc (length declared.fronts) + place) d buffers engine run.start tally

-- So it is in each run of the session that came about.
abbrev pub HaveReports : {D : Type 0} {g : _} → Declared → SessionRecord D g → Type 0
HaveReports declared r = (number : ℕ) → (run : RunRecord) → slice_get r.runs number ≡ Some run → run.outcome ≡ Completed →
    ReportsOfRun declared r.buffers (history_of r.engine) run

-- Records.

-- There is one record for each start that the main thread began, in order, and no two are of one start number; each fits what the main
-- thread called on the engine and on the database, which are its entries in their histories.
pub record FitCalls {D : Type 0} {g : _} (declared : Declared) (r : SessionRecord D g) : Type 0 where
  pub own : MainOwn
  pub main : AreMainCalls own r
  pub fit : RecordsFit (clients_declared (lists_declared declared)) own r.runs
  pub differ : (number other : ℕ) → (run second : RunRecord) → slice_get r.runs number ≡ Some run →
      slice_get r.runs other ≡ Some second → run.start ≡ second.start → number ≡ other

-- The database.

-- What was done to the database is one list of calls, from the keys of runs on, in which each reply is the one that the database gives
-- there; each watch was told the changes that it was due; and nobody called but the main thread and the front-ends.
pub record HasOneDatabase {D : Type 0} {g : _} (declared : Declared) (r : SessionRecord D g) : Type 0 where
  pub legal : LeadsDatabase (unwatched session_rows) (history_of r.database) r.database.value.database
  pub notes : TellsDueNotes session_rows (history_of r.database)
  pub callers : (by : ℕ) → length declared.fronts < by → entries_by by (history_of r.database) ≡ []

-- Other files.

-- No channel that was declared gives the name to a file, of whatever number, in a run that the main thread began.
abbrev pub IsNoRunName : Declared → EngineHistory → (name : List ℕ) → Type 0
IsNoRunName declared engine name = (channel : ChannelSpec) → (run sub : ℕ) → Contains declared.channels channel →
    BeginsStartOf (entries_by main_caller engine) run → sub ≤ last_number → piece_name_by channel.pattern run sub ≢ name

-- Of the run files as they were before the script and are behind it: under each such name there is what was there; and, where names are
-- told, each file that was there is there with the same bytes, whatever failed, and where no fault was counted each name that is in no
-- record is as it was, so that a refused start left no file.
pub record OthersStay {D : Type 0} {g : _} (first now : FilesTold) (declared : Declared) (r : SessionRecord D g) : Type 0 where
  pub others : (name : List ℕ) → IsNoRunName declared (history_of r.engine) name → now.seen.at name ≡ first.seen.at name
  pub kept : IsTrue first.seen.names → (name : List ℕ) → (file : Stored) → first.seen.at name ≡ Some file → now.seen.at name ≡ Some file
  pub left : IsTrue first.seen.names → NoneRose first now → (name : List ℕ) → IsInNoRecord r.runs name →
      now.seen.at name ≡ first.seen.at name

-- The console.

-- The lines that were played are those that came of the script, up to its first `exit` or its end where the script ended so. Each had a
-- reply. What was written is the text of the replies, and of what was done behind the lines: a first part of it, and not all, where the
-- console failed, and all or all but the last reply where memory was wanting. The cause tells how many of the lines were refused.
pub record WroteReplies (before after : Environment) (end : ScriptEnd) : Type 0 where
  pub ending : Ending
  pub closing : Option Halt
  pub lines : List (List ℕ)
  pub replies : List Reply
  pub behind : List Reply
  pub given : AreOfGiven ending before.source after.source lines
  pub numbered : length replies ≡ length lines
  pub told_lines : Option (List ℕ)
  pub wrote_lines : WroteLines ending before.sink.written told_lines replies
  pub wrote_behind : WroteBehind ending closing told_lines after.sink.written behind
  pub refusals : Refusals
  pub counts : CountsRefusals (refused_lines 1 replies) refusals
  pub faulted : Option (List ℕ)
  pub end_is : end ≡ script_end (ended_by ending closing) faulted refusals

-- One answer.

-- The run files' count of faults rose by at least as many as the starts that the records say were refused for one and the channels that
-- they call Broken, and their count of clashes by at least as many as the starts that were refused for a name.
abbrev pub AnswerOnce : {D : Type 0} {g : _} → (first now : FilesTold) → SessionRecord D g → Type 0
AnswerOnce first now r = OneAnswer r.runs first now

-- Completeness.

-- Where no fault of the run files was counted, each channel of each run that came about ended.
abbrev pub EndAll : {D : Type 0} {g : _} → (first now : FilesTold) → SessionRecord D g → Type 0
EndAll first now r = NoneRose first now → (number : ℕ) → (run : RunRecord) → slice_get r.runs number ≡ Some run → run.outcome ≡ Completed →
    (place : ℕ) → (files : ChannelFiles) → slice_get run.files place ≡ Some files → files.told.state ≡ Ended

-- no fault was counted of the script's source, of the console, of the run files and of the files of the database
pub record NothingFailed (before after : Environment) : Type 0 where
  pub source : ¬ Rose before.source.faults after.source.faults
  pub sink : ¬ Rose before.sink.faults after.sink.faults
  pub run_files : ¬ Rose before.run_files.faults after.run_files.faults
  pub odb_files : ¬ Rose before.odb_files.faults after.odb_files.faults

-- The script was done; or it was too long; or so many of its lines were refused.
abbrev pub EndsWell : ScriptEnd → Type 0
EndsWell end = (end ≡ Done) ⊎ ((end ≡ TooLong) ⊎ ((count : ℕ) × (first : ℕ) × (end ≡ CommandRefused count first)))
