-- The run files of a channel and a report of one run that came about in a session: what `analyze` prints of the ones is the other.
use Rattle.daq_io.specs.Told.{FilesTold}
use Rattle.std.specs.Prelude.{◌≡◌, ℕ, suc, ◌+◌, List, length, slice_get, Contains, Some}
use Rattle.daq_types.specs.Callers.{caller_of_client}
use Rattle.daq_types.specs.declared.runs.ChannelState.TheVariants.{Ended}
use Rattle.daq_types.specs.declared.runs.StartOutcome.TheVariants.{Completed}
use Rattle.turn_lock.specs.Closing.{history_of}
use Rattle.event_report.specs.Reports.{Totals}
use Rattle.member_model.specs.RunEngines.{EngineHistory}
use Rattle.frontend_kit.specs.declared.generator.Generator.{Generator}
use Rattle.mid_logger.specs.declared.channel_spec.ChannelSpec.{ChannelSpec}
use Rattle.composition.specs.SessionRuns.{SawThrough}
use Rattle.session_runs.specs.declared.records.ChannelFiles.{ChannelFiles}
use Rattle.session_runs.specs.declared.records.ReportTally.{ReportTally}
use Rattle.session_runs.specs.declared.records.RunRecord.{RunRecord}
use Rattle.daq_members.specs.Members.{MemberTold}
use Rattle.session_runs.specs.RunsFit.{MainOwn}
use Rattle.session_setup.specs.Setup.{AreSound, Declared}
use Rattle.session_setup.specs.declared.declared.AnalyzerDeclared.{AnalyzerDeclared}
use Rattle.session_objects.specs.declared.record.BufferRecord.{BufferRecord}
use Rattle.session_objects.specs.declared.record.SessionRecord.{SessionRecord}
use Rattle.session_laws.specs.ClosedSessions.{ClosedSession}
use Rattle.session_commands.specs.Stages.{SessionStage}
use Rattle.daq_session.specs.Sessions.{KeepsSession}
use Rattle.daq_session.specs.ToldRecords.{IsCountedInRun, RunTells}
use Rattle.read_back.specs.FilesBack.{PrintsReport, piece_names}

-- The channel and the analyzer read the same buffer, and ask there for the same events.
pub record AsksAlike (channel : ChannelSpec) (d : AnalyzerDeclared) : Type 0 where
  pub buffer : channel.buffer ≡ d.buffer
  pub id : channel.id ≡ d.id
  pub mask : channel.mask ≡ d.mask

-- the client number of the analyzer at a place: the front-ends come first, then the logger
abbrev pub seat_client : Declared → (place : ℕ) → ℕ
seat_client declared place = suc (length declared.fronts) + place

-- the names of all files of the channel in the run, in order
abbrev pub names_in_run : RunRecord → ChannelFiles → List (List ℕ)
names_in_run run written = piece_names written.pattern run.run 0 written.told.files

-- The record of the run has these files of a channel that was declared, which ended; and of the analyzer at a place it has this
-- report. The two ask for the same events, and the analyzer saw the run through.
pub record HasFilesAndReport (declared : Declared) (buffers : List BufferRecord) (engine : EngineHistory) (run : RunRecord)
    (written : ChannelFiles) (report : Totals) : Type 0 where
  pub index : ℕ
  pub files_at : slice_get run.files index ≡ Some written
  pub ended : written.told.state ≡ Ended
  pub channel : ChannelSpec
  pub is_declared : Contains declared.channels channel
  pub number : written.channel ≡ channel.number
  pub place : ℕ
  pub analyzer : AnalyzerDeclared
  pub there : slice_get declared.analyzers place ≡ Some analyzer
  pub alike : AsksAlike channel analyzer
  pub tally : ReportTally
  pub told : slice_get run.reports place ≡ Some tally
  pub report_is : tally.report ≡ report
  pub counted : IsCountedInRun (seat_client declared place) analyzer buffers engine run.start tally
  pub through : SawThrough (history_of counted.buffer.closed) (caller_of_client (seat_client declared place)) counted.counts.told

-- Where the declarations are sound and all is so that is told of a run: the files and the report of one request agree.
abbrev pub ReportsReadBack : Type 0
ReportsReadBack = (c : ClosedSession) → (moments : (client : ℕ) → List ℕ) → (own : MainOwn) → (declared : Declared) →
    (buffers : List BufferRecord) → (first now : FilesTold) → (run : RunRecord) → AreSound declared →
    RunTells c moments own declared buffers first now run → (written : ChannelFiles) → (report : Totals) →
    HasFilesAndReport declared buffers c.engine run written report → PrintsReport c.files (names_in_run run written) run.run report

-- So it is with each run that came about of a session of which this record is kept.
abbrev pub SessionReadsBack : {D F : Type 0} {g : _} → MemberTold Generator F → SessionRecord D g → Type 0
SessionReadsBack {D} {F} told r = (first_files : F) → (final : SessionStage) → (run_files : F) →
    KeepsSession told first_files final run_files r → (number : ℕ) → (run : RunRecord) →
    slice_get r.runs number ≡ Some run → run.outcome ≡ Completed → (written : ChannelFiles) → (report : Totals) →
    HasFilesAndReport final.declared r.buffers (history_of r.engine) run written report →
    PrintsReport (told.read run_files).seen (names_in_run run written) run.run report
