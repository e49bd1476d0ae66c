-- What a closed session's histories and run files hold of the records of its runs.
use Rattle.std.specs.Prelude.{◌≡◌, ℕ, List, [], ◌∷◌, ◌++◌, length, slice_get, Option, Some, None}
use Rattle.daq_types.specs.Callers.{entries_by, main_caller}
use Rattle.member_model.specs.LoggerKept.{LoggerChannel, IsEndSo}
use Rattle.member_model.specs.RunEngines.{Sheet, EngineEntry}
use Rattle.mid_logger.specs.declared.channel.Channel.{Channel}
use Rattle.mid_logger.specs.declared.channel_spec.ChannelSpec.{ChannelSpec}
use Rattle.loggers.specs.OtherFiles.{AreDeclared}
use Rattle.session_runs.specs.declared.records.FrontTally.{FrontTally}
use Rattle.session_runs.specs.declared.records.ChannelFiles.{ChannelFiles}
use Rattle.session_runs.specs.declared.records.ReportTally.{ReportTally}
use Rattle.session_runs.specs.declared.records.RunRecord.{RunRecord}
use Rattle.session_runs.specs.declared.channels.RunChannel.{RunChannel}
use Rattle.session_runs.specs.KeptRuns.{run_channel, channels_of}
use Rattle.session_runs.specs.RunEntries.{start_sheet, later_sheet, dump_saved}
use Rattle.session_runs.specs.RunsFit.{MainOwn, RunClients, FitsWhole, run_of}
use Rattle.composition.specs.Sessions.{Session, SessionAnalyzer, SessionFront, buffer_calls}
use Rattle.composition.specs.SessionRuns.{SessionRun, IsStoppedRun, TellsFront, FrontSent, SetAtStop, TellsTotals, ToldChannel}
use Rattle.session_laws.specs.ClosedSessions.{ClosedSession, logger_client, engine_calls, session_of}
use Rattle.session_laws.specs.MadeRuns.{RunIn, AreFilesSo, ReportIsSo}
use Rattle.session_laws.specs.EndLaws.{SessionHolds}

-- What the record has of a front-end is what this told at the stop; it sent that, the first events of its equipment, and set
-- that number in the database.
pub record FrontRecordHolds (s : Session) (run : SessionRun) (f : SessionFront) (tally : FrontTally) : Type 0 where
  pub client : tally.client ≡ f.client
  pub told : TellsFront run f.client tally.sent tally.ended
  pub sends : FrontSent s run f tally.sent tally.ended
  pub set : SetAtStop s run f tally.sent

-- What the record has of a channel's files is what the logger told of the channel at the stop, and that is so; and the files of a
-- channel that ended hold all events of the run that it asks for, those of one that broke off a part of that.
pub record ChannelFilesHold (s : Session) (run : SessionRun) (files : ChannelFiles) : Type 0 where
  pub index : ℕ
  pub channel : LoggerChannel
  pub at : slice_get s.channels index ≡ Some channel
  pub number : files.channel ≡ channel.number
  pub pattern : files.pattern ≡ channel.pattern
  pub told : ToldChannel s run channel files.told
  pub so : IsEndSo (buffer_calls s channel.buffer s.logger) run.start run.last.dump files.told
  pub have : AreFilesSo files.told.state s run channel files.told

-- What the record has of an analyzer is the report that this told at the stop, and that is so.
pub record ReportRecordHolds (s : Session) (run : SessionRun) (a : SessionAnalyzer) (tally : ReportTally) : Type 0 where
  pub client : tally.client ≡ a.client
  pub tells : TellsTotals run a.client tally.report
  pub so : ReportIsSo s run a tally.report

-- the record has the files of this channel
pub record ListsChannel (r : RunRecord) (channel : LoggerChannel) : Type 0 where
  pub place : ℕ
  pub files : ChannelFiles
  pub at : slice_get r.files place ≡ Some files
  pub number : files.channel ≡ channel.number
  pub pattern : files.pattern ≡ channel.pattern

-- The record of a run that was not refused, which was started with the first and stopped with the last of these sheets: it is
-- that of a run of the session, and so is what it has of each front-end, at the place of its client number, of each channel, and of
-- each analyzer, in the order of their client numbers. The main thread's calls tell that run. The record has all front-ends, the
-- files of all channels, and all analyzers.
pub record RecordHolds (s : Session) (r : RunRecord) (first last : Sheet) : Type 0 where
  pub run : SessionRun
  pub made : RunIn (entries_by main_caller s.engine) run
  pub stopped : IsStoppedRun s run
  pub start : run.start ≡ r.start
  pub first_is : run.first ≡ first
  pub last_is : run.last ≡ last
  pub many_fronts : length r.fronts ≡ length s.fronts
  pub fronts : (client : ℕ) → (f : SessionFront) → slice_get s.fronts client ≡ Some f →
      (tally : FrontTally) × (slice_get r.fronts client ≡ Some tally) × FrontRecordHolds s run f tally
  pub many_files : length r.files ≡ length s.channels
  pub files : (place : ℕ) → (files : ChannelFiles) → slice_get r.files place ≡ Some files → ChannelFilesHold s run files
  pub each_channel : (index : ℕ) → (channel : LoggerChannel) → slice_get s.channels index ≡ Some channel → ListsChannel r channel
  pub many_reports : length r.reports ≡ length s.analyzers
  pub reports : (place : ℕ) → (a : SessionAnalyzer) → slice_get s.analyzers place ≡ Some a →
      (tally : ReportTally) × (slice_get r.reports place ≡ Some tally) × ReportRecordHolds s run a tally

-- the channels of a logger, as the records of its runs name them, in order of number
abbrev pub run_channels : List (Option Channel) → List RunChannel
run_channels [] = []
run_channels (None ∷ slots) = run_channels slots
run_channels (Some c ∷ slots) = run_channel c.spec ∷ run_channels slots

-- Where the channels of these slots are those that were declared, the records name them in order of number.
abbrev pub ChannelsAgree : Type 0
ChannelsAgree = (specs : List ChannelSpec) → (slots : List (Option Channel)) → AreDeclared specs slots →
    run_channels slots ≡ channels_of specs

-- who is told of in the records of the session's runs
abbrev pub clients_in : ClosedSession → RunClients
clients_in c = record { fronts = logger_client c; channels = run_channels c.slots; analyzers = length c.analyzers }

-- The record of each run that was not refused holds so, where it fits the main thread's own calls up to some point, with the
-- sheets that these calls tell: the dumps are what the database's text was saved as.
abbrev pub RecordsHold : Type 0
RecordsHold = (c : ClosedSession) → (holds : SessionHolds c) → (own : MainOwn) → (more : List EngineEntry) →
    engine_calls c main_caller ≡ own.engine ++ more → (r : RunRecord) → (quota : ℕ) → (fits : FitsWhole (clients_in c) own (run_of r quota) r) →
    RecordHolds (session_of c holds.moments) r
    (start_sheet (length c.analyzers) r.run r.time0 quota fits.start.dump) (later_sheet (run_of r quota) r.time1 (dump_saved fits.stop.saved))
