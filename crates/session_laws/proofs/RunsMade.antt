-- The runs that the main thread's own calls tell.
use Rattle.std.specs.Prelude.{◌≡◌, ℕ, List, slice_get, Some, refl}
use Rattle.daq_types.specs.Callers.{entries_by, main_caller}
use Rattle.daq_types.specs.declared.runs.ChannelEnd.{ChannelEnd}
use Rattle.daq_types.specs.declared.runs.ChannelState.{ChannelState}
use Rattle.daq_types.specs.declared.runs.ChannelState.TheVariants.{Idle, Writing, Broken, Ended, NoEnd, NoMark}
use Rattle.daq_types.specs.declared.runs.StartOutcome.{StartOutcome}
use Rattle.daq_types.specs.declared.runs.StartOutcome.TheVariants.{Completed}
use Rattle.daq_types.specs.declared.runs.Transition.{Transition}
use Rattle.daq_types.specs.declared.runs.Transition.TheVariants.{Start, Stop}
use Rattle.transitions.specs.Engines.{engine_opening}
use Rattle.member_model.specs.RunEngines.{Sheet, ClientTally, EngineHistory, IsLegalEngine}
use Rattle.member_model.specs.LoggerKept.{LoggerChannel}
use Rattle.history_laws.specs.BegunTurns.{HasTransition}
use Rattle.history_laws.specs.EngineLaws.{MainHasTransition}
use Rattle.event_report.specs.Reports.{Totals}
use Rattle.composition.specs.Sessions.{Session, SessionAnalyzer, SessionFront, HasAnalyzer, HasFront}
use Rattle.composition.specs.SessionRuns.{SessionRun, IsStoppedRun, TellsTotals, ToldChannel}
use Rattle.composition.specs.CompositionLaws.{IsComposed}
use Rattle.session_runs.specs.MadeTransitions.{TransitionIn}
use Rattle.session_laws.specs.MadeRuns.{FrontHolds, AreFilesSo, ChannelHolds, ReportIsSo, AnalyzerHolds}
use Rattle.session_laws.specs.EndLaws.{MadeAreStopped, StoppedHold}

pub has_made : MainHasTransition → (history : EngineHistory) (t : Transition) (sheet : Sheet) (start : ℕ) (outcome : StartOutcome) (tallies : List ClientTally) → IsLegalEngine engine_opening history
    → TransitionIn (entries_by main_caller history) t sheet start outcome tallies → HasTransition history t sheet start outcome tallies
has_made law history t sheet start outcome tallies legal made = (law history made.before made.between made.after t sheet start outcome tallies legal made.whole made.on).0

pub made_are_stopped : MainHasTransition → MadeAreStopped
made_are_stopped law s legal r made = record {
  started = has_made law s.engine Start r.first r.start Completed r.first_tallies legal made.started;
  stopped = has_made law s.engine Stop r.last r.start Completed r.last_tallies legal made.stopped;
}

front_holds : (s : Session) → IsComposed s → (r : SessionRun) → IsStoppedRun s r → (f : SessionFront) → HasFront s f → FrontHolds s r f
front_holds s composed r run f has =
    let told = composed.fronts_tell r run f has in
    record {
      sent = told.0;
      ended = told.1;
      told = told.2;
      sends = composed.fronts_sent r run f has told.0 told.1 told.2;
      set = composed.stops_set r run f has told.0 told.1 told.2;
    }

pub files_so : (s : Session) → IsComposed s → (r : SessionRun) → IsStoppedRun s r → (index : ℕ) (channel : LoggerChannel) → slice_get s.channels index ≡ Some channel → (told : ChannelEnd) → ToldChannel s r channel told → (state : ChannelState) → told.state ≡ state → AreFilesSo state s r channel told
files_so s composed r run index channel at told tells Idle is = tt
files_so s composed r run index channel at told tells Writing is = tt
files_so s composed r run index channel at told tells Broken is = composed.parts_hold r run index channel at told tells is
files_so s composed r run index channel at told tells Ended is = composed.files_hold r run index channel at told tells is
files_so s composed r run index channel at told tells NoEnd is = tt
files_so s composed r run index channel at told tells NoMark is = tt

channel_holds : (s : Session) → IsComposed s → (r : SessionRun) → IsStoppedRun s r → (index : ℕ) (channel : LoggerChannel) → slice_get s.channels index ≡ Some channel → ChannelHolds s r channel
channel_holds s composed r run index channel at =
    let told = composed.channels_told r run index channel at in
    record { told = told.0; tells = told.1; so = told.2; files = files_so s composed r run index channel at told.0 told.1 told.0.state refl }

pub report_so : (s : Session) → IsComposed s → (r : SessionRun) → IsStoppedRun s r → (a : SessionAnalyzer) → HasAnalyzer s a → (report : Totals) → TellsTotals r a.client report → ReportIsSo s r a report
report_so s composed r run a has report tells = record {
  told = composed.reports_so r run a has report tells;
  asks = composed.asked_at_stops a has;
  whole = composed.reports_whole r a has report (composed.reports_so r run a has report tells);
}

analyzer_holds : (s : Session) → IsComposed s → (r : SessionRun) → IsStoppedRun s r → (a : SessionAnalyzer) → HasAnalyzer s a → AnalyzerHolds s r a
analyzer_holds s composed r run a has =
    let told = composed.reports_told r run a has in
    record { report = told.0; tells = told.1; so = report_so s composed r run a has told.0 told.1 }

pub stopped_hold : StoppedHold
stopped_hold s composed r run = record {
  stopped = run;
  fronts = front_holds s composed r run;
  channels = channel_holds s composed r run;
  analyzers = analyzer_holds s composed r run;
}
