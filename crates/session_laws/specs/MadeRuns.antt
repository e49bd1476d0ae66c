-- A run that the main thread's own calls on the engine tell, and all that is so of it.
use Rattle.std.specs.Prelude.{◌≡◌, ℕ, List, slice_get, Some, ⊤}
use Rattle.daq_types.specs.Callers.{caller_of_client, entries_by}
use Rattle.daq_types.specs.declared.runs.ChannelEnd.{ChannelEnd}
use Rattle.daq_types.specs.declared.runs.ChannelState.{ChannelState}
use Rattle.daq_types.specs.declared.runs.ChannelState.TheVariants.{Ended, Broken}
use Rattle.daq_types.specs.declared.runs.FrontEnded.{FrontEnded}
use Rattle.daq_types.specs.declared.runs.StartOutcome.TheVariants.{Completed}
use Rattle.daq_types.specs.declared.runs.Transition.TheVariants.{Start, Stop}
use Rattle.buffer_core.specs.Histories.{History}
use Rattle.buffer_core.specs.Ports.{GotEvent}
use Rattle.member_model.specs.RunEngines.{EngineEntry}
use Rattle.member_model.specs.Turns.{MemberTurn}
use Rattle.member_model.specs.LoggerKept.{LoggerChannel, IsEndSo}
use Rattle.session_runs.specs.MadeTransitions.{TransitionIn}
use Rattle.event_report.specs.Reports.{Totals}
use Rattle.analyzers.specs.declared.analyzer_run.EventRequest.{EventRequest}
use Rattle.analyzers.specs.CountedRuns.{accepts_made}
use Rattle.analyzers.specs.AnalyzerKept.{IsReportOfRun, stops_reported}
use Rattle.composition.specs.Sessions.{Session, SessionAnalyzer, SessionFront, HasAnalyzer, HasFront, buffer_calls, turns_of}
use Rattle.composition.specs.SessionRuns.{SessionRun, IsStoppedRun, TellsFront, FrontSent, SetAtStop, ToldChannel, HoldsRunFiles, HoldsFileParts, TellsTotals, SawThrough, CountsAll}

-- A run stands among these calls: its start, which was not refused, and a stop with its start number.
pub record RunIn (own : List EngineEntry) (r : SessionRun) : Type 0 where
  pub started : TransitionIn own Start r.first r.start Completed r.first_tallies
  pub stopped : TransitionIn own Stop r.last r.start Completed r.last_tallies

-- A front-end in the run: what it told at the stop is what it sent, the first events of its equipment; and that is what it
-- set in the database.
pub record FrontHolds (s : Session) (r : SessionRun) (f : SessionFront) : Type 0 where
  pub sent : ℕ
  pub ended : FrontEnded
  pub told : TellsFront r f.client sent ended
  pub sends : FrontSent s r f sent ended
  pub set : SetAtStop s r f sent

-- what the files of a channel have, of which this was told, with this state
abbrev pub AreFilesSo : ChannelState → Session → SessionRun → LoggerChannel → ChannelEnd → Type 0
AreFilesSo Ended s r channel told = HoldsRunFiles s r channel told.files
AreFilesSo Broken s r channel told = (last_dump : List ℕ) → r.last.dump ≡ Some last_dump → HoldsFileParts s r channel last_dump told
AreFilesSo state s r channel told = ⊤

-- A channel in the run: what was told of it at the stop is so; and where it ended, its files hold all events of the run that it asks
-- for, cut into pieces, and where it broke off, a part of that.
pub record ChannelHolds (s : Session) (r : SessionRun) (channel : LoggerChannel) : Type 0 where
  pub told : ChannelEnd
  pub tells : ToldChannel s r channel told
  pub so : IsEndSo (buffer_calls s channel.buffer s.logger) r.start r.last.dump told
  pub files : AreFilesSo told.state s r channel told

-- What was told of a run is the report of it, by the history of a buffer and a caller that asked there for events like these,
-- got these, and has these turns on the engine: the caller made its request at the run's start, the only one that stood, was told
-- how many events the buffer had taken, which it asked for the stop of the run, and then found nothing or got an event at or
-- behind that number, all while the request stood; and the report is that of the events of the run that it got from the request
-- on until then. It asked so once for each stop of a run that it counted, and never else. And where the caller saw the run through
-- by that request, it counted all events of the run that it asked for, and got no others of the run.
pub record ReportHolds (history : History) (caller : ℕ) (asked : EventRequest) (got : List GotEvent) (turns : List MemberTurn)
    (start : ℕ) (report : Totals) : Type 0 where
  pub told : IsReportOfRun asked (entries_by caller history) got turns start report
  pub asks : accepts_made (entries_by caller history) ≡ stops_reported turns
  pub whole : SawThrough history caller told → CountsAll history told

-- so it is with a report of an analyzer of a session
abbrev pub ReportIsSo : Session → SessionRun → SessionAnalyzer → Totals → Type 0
ReportIsSo s r a report =
    ReportHolds (s.history a.buffer) (caller_of_client a.client) a.wanted a.got (turns_of s a.client) r.start report

-- An analyzer in the run: it told a report at the stop, and that is so.
pub record AnalyzerHolds (s : Session) (r : SessionRun) (a : SessionAnalyzer) : Type 0 where
  pub report : Totals
  pub tells : TellsTotals r a.client report
  pub so : ReportIsSo s r a report

-- The run was not refused, and was stopped; and what holds of it in each front-end, each channel, and each analyzer.
pub record RunHolds (s : Session) (r : SessionRun) : Type 0 where
  pub stopped : IsStoppedRun s r
  pub fronts : (f : SessionFront) → HasFront s f → FrontHolds s r f
  pub channels : (index : ℕ) → (channel : LoggerChannel) → slice_get s.channels index ≡ Some channel → ChannelHolds s r channel
  pub analyzers : (a : SessionAnalyzer) → HasAnalyzer s a → AnalyzerHolds s r a
