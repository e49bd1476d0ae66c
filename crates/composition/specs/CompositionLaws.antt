-- What the members' contracts and the histories of all objects tell together: what the laws say of a session whose members
-- keep their contracts.
use Rattle.std.specs.Prelude.{◌≡◌, ◌≢◌, ℕ, true, false, List, length, slice_get, Some}
use Rattle.daq_types.specs.Callers.{caller_of_client}
use Rattle.daq_types.specs.declared.runs.ChannelEnd.{ChannelEnd}
use Rattle.daq_types.specs.declared.runs.ChannelState.TheVariants.{Ended, Broken, NoMark}
use Rattle.daq_types.specs.declared.runs.FrontEnded.{FrontEnded}
use Rattle.daq_types.specs.declared.runs.StartOutcome.{StartOutcome}
use Rattle.daq_types.specs.declared.runs.StartOutcome.TheVariants.{Completed, Refused}
use Rattle.daq_types.specs.declared.runs.RunState.TheVariants.{Stopped}
use Rattle.daq_types.specs.declared.runs.Transition.TheVariants.{Start, Stop, Pause}
use Rattle.daq_types.specs.declared.runs.Why.{Why}
use Rattle.daq_types.specs.declared.runs.Why.TheVariants.{NotReady}
use Rattle.transitions.specs.EngineCalls.{order_for}
use Rattle.member_model.specs.RunEngines.{Sheet, ClientTally}
use Rattle.transitions.specs.declared.answers.Tally.TheVariants.{Channels}
use Rattle.history_laws.specs.BegunTurns.{HasTransition}
use Rattle.buffer_core.specs.declared.entry.BufferEntry.{BufferEntry}
use Rattle.buffer_core.specs.Window.{Sent}
use Rattle.event_report.specs.Reports.{Totals}
use Rattle.buffer_core.specs.Runs.{segment}
use Rattle.member_model.specs.Turns.{MemberTurn, HasAnswer}
use Rattle.member_model.specs.CutRuns.{MarksEnd}
use Rattle.member_model.specs.GotRuns.{events_of_start}
use Rattle.member_model.specs.LoggerKept.{LoggerChannel, IsEndSo}
use Rattle.front_ends.specs.Spans.{HasSpan}
use Rattle.front_ends.specs.FrontKept.{made_events}
use Rattle.analyzers.specs.CountedRuns.{accepts_made}
use Rattle.analyzers.specs.AnalyzerKept.{stops_reported}
use Rattle.history_laws.specs.OneCaller.{events_in}
use Rattle.history_laws.specs.SeenRuns.{SeesRun}
use Rattle.history_laws.specs.SentRuns.{places_sent, events_at_places}
use Rattle.composition.specs.SentSets.{AreTurnSets}
use Rattle.composition.specs.Sessions.{Session, SessionFront, SessionAnalyzer, HasFront, HasAnalyzer, turns_of, buffer_calls, database_calls}
use Rattle.composition.specs.SessionRuns.{SessionRun, IsStoppedRun, run_order, TellsFront, FrontSent, SetAtStop, SetAtPause, IsOfFront, IsMadeInRun, ToldChannel, HoldsRunFiles, HoldsFileParts, TellsTotals, ReportsRun, analyzer_events, SawThrough, CountsAll}

-- Each front-end has told in the Done of the stop what it sent in the run.
abbrev pub FrontsTell : Session → Type 0
FrontsTell s = (r : SessionRun) → IsStoppedRun s r →
    (f : SessionFront) → HasFront s f → (sent : ℕ) × (ended : FrontEnded) × TellsFront r f.client sent ended

-- And that is what it sent.
abbrev pub FrontsSent : Session → Type 0
FrontsSent s = (r : SessionRun) → IsStoppedRun s r →
    (f : SessionFront) → HasFront s f → (sent : ℕ) → (ended : FrontEnded) → TellsFront r f.client sent ended →
    FrontSent s r f sent ended

-- And all of that stands between the marks of the run, in the front-end's order: at the places of its sends stand just
-- these events.
abbrev pub FrontsStand : Session → Type 0
FrontsStand s = (r : SessionRun) → IsStoppedRun s r →
    (f : SessionFront) → HasFront s f → (sent : ℕ) → (ended : FrontEnded) → TellsFront r f.client sent ended →
    (let own : List BufferEntry = buffer_calls s f.buffer f.client in
    events_in (events_at_places (places_sent own r.start) (segment (s.history f.buffer) r.start))
    ≡ made_events f.makes (run_order r) sent)

-- Each front-end set in the database, in its own key alone, 0 at each start, and at each pause and each stop how many
-- events it had sent in the run by then, in the order of these turns; and it made no other call on the database. What it sets at a
-- latest turn that has no answer may still be to come.
abbrev pub FrontsSet : Session → Type 0
FrontsSet s = (f : SessionFront) → HasFront s f →
    AreTurnSets f.name (buffer_calls s f.buffer f.client) (turns_of s f.client) f.moments (database_calls s f.client)

-- Its set at the stop of a run stands in the database, and is of the number that it told in the Done of the stop.
abbrev pub StopsSet : Session → Type 0
StopsSet s = (r : SessionRun) → IsStoppedRun s r →
    (f : SessionFront) → HasFront s f → (sent : ℕ) → (ended : FrontEnded) → TellsFront r f.client sent ended →
    SetAtStop s r f sent

-- Its set at a pause that it answered stands in the database, and is of the number of events that it had sent in the run when it
-- answered its next turn, or has sent so far, where it answered none since.
abbrev pub PausesSet : Session → Type 0
PausesSet s = (f : SessionFront) → HasFront s f → (t : MemberTurn) → (moment until : ℕ) →
    HasSpan (turns_of s f.client) f.moments (length (buffer_calls s f.buffer f.client)) t moment until →
    t.transition ≡ Pause → HasAnswer t.answer → SetAtPause s f t moment until

-- Each event between the marks of a run in a buffer was sent in that run by a front-end of that buffer.
abbrev pub OnlyFrontsSent : Session → Type 0
OnlyFrontsSent s = (buffer start index place : ℕ) → (x : Sent) →
    slice_get (segment (s.history buffer) start) index ≡ Some (place, x) →
    IsOfFront s buffer start place x.event

-- Where the run was not refused and was stopped, each event between its marks in a buffer is one of those that a front-end of
-- that buffer told that it sent: one of the first events of that front-end's equipment in the order of the run.
abbrev pub SegmentsAreMade : Session → Type 0
SegmentsAreMade s = (r : SessionRun) → IsStoppedRun s r →
    (buffer index place : ℕ) → (x : Sent) → slice_get (segment (s.history buffer) r.start) index ≡ Some (place, x) →
    IsMadeInRun s r buffer x.event

-- The logger has told in the Done of the stop what became of each channel, and that is so.
abbrev pub ChannelsTold : Session → Type 0
ChannelsTold s = (r : SessionRun) → IsStoppedRun s r →
    (index : ℕ) → (channel : LoggerChannel) → slice_get s.channels index ≡ Some channel →
    (told : ChannelEnd) × ToldChannel s r channel told ×
    IsEndSo (buffer_calls s channel.buffer s.logger) r.start r.last.dump told

-- Where the logger told of channels there, each channel is among them.
abbrev pub EndsTold : Session → Type 0
EndsTold s = (r : SessionRun) → IsStoppedRun s r → (place : ℕ) → (ends : List ChannelEnd) →
    slice_get r.last_tallies place ≡ Some (record { client = s.logger; tally = Channels ends }) →
    (index : ℕ) → (channel : LoggerChannel) → slice_get s.channels index ≡ Some channel →
    (told : ChannelEnd) × (slice_get ends channel.number ≡ Some told)

-- What it told of a channel there is so.
abbrev pub EndsSo : Session → Type 0
EndsSo s = (r : SessionRun) → IsStoppedRun s r →
    (index : ℕ) → (channel : LoggerChannel) → slice_get s.channels index ≡ Some channel →
    (told : ChannelEnd) → ToldChannel s r channel told →
    IsEndSo (buffer_calls s channel.buffer s.logger) r.start r.last.dump told

-- The files of each channel that the logger told to have ended are the run files of the events that the channel asks for.
abbrev pub FilesHoldRuns : Session → Type 0
FilesHoldRuns s = (r : SessionRun) → IsStoppedRun s r →
    (index : ℕ) → (channel : LoggerChannel) → slice_get s.channels index ≡ Some channel →
    (told : ChannelEnd) → ToldChannel s r channel told → told.state ≡ Ended → HoldsRunFiles s r channel told.files

-- The files of a channel that was told to be broken hold a part of that, where the stop's sheet had a dump.
abbrev pub FilesHoldParts : Session → Type 0
FilesHoldParts s = (r : SessionRun) → IsStoppedRun s r →
    (index : ℕ) → (channel : LoggerChannel) → slice_get s.channels index ≡ Some channel →
    (told : ChannelEnd) → ToldChannel s r channel told → told.state ≡ Broken →
    (last_dump : List ℕ) → r.last.dump ≡ Some last_dump → HoldsFileParts s r channel last_dump told

-- The logger ended the run in the buffer of each channel.
abbrev pub RunsAreEnded : Session → Type 0
RunsAreEnded s = (r : SessionRun) → IsStoppedRun s r →
    (index : ℕ) → (channel : LoggerChannel) → slice_get s.channels index ≡ Some channel →
    (ended : ℕ) × MarksEnd (buffer_calls s channel.buffer s.logger) r.start ended

-- So it told of no channel that the end of the run was refused there.
abbrev pub NoEndRefused : Session → Type 0
NoEndRefused s = (r : SessionRun) → IsStoppedRun s r →
    (index : ℕ) → (channel : LoggerChannel) → slice_get s.channels index ≡ Some channel →
    (told : ChannelEnd) → ToldChannel s r channel told → told.state ≢ NoMark

-- Each analyzer has told in the Done of the stop a report of the run.
abbrev pub ReportsTold : Session → Type 0
ReportsTold s = (r : SessionRun) → IsStoppedRun s r →
    (a : SessionAnalyzer) → HasAnalyzer s a → (report : Totals) × TellsTotals r a.client report

-- And that is the report of the events with the run's start number that its client got, in order, from the request of the run's
-- start on until it cancelled that: before then the buffer told it how many events it had taken, which it asked for that stop,
-- and it read all of these.
abbrev pub ReportsSo : Session → Type 0
ReportsSo s = (r : SessionRun) → IsStoppedRun s r →
    (a : SessionAnalyzer) → HasAnalyzer s a → (report : Totals) → TellsTotals r a.client report →
    ReportsRun s r a report

-- And where it saw the run through, by the request by which it counted it, it counted all events between the marks of the run
-- that it asks for; and its client got no other events of the run.
abbrev pub ReportsWhole : Session → Type 0
ReportsWhole s = (r : SessionRun) →
    (a : SessionAnalyzer) → HasAnalyzer s a → (report : Totals) → (told : ReportsRun s r a report) →
    SawThrough (s.history a.buffer) (caller_of_client a.client) told → CountsAll (s.history a.buffer) told

-- Each analyzer asked its buffer how many events that had taken once for each stop of a run that it counted, and never else.
abbrev pub AskedAtStops : Session → Type 0
AskedAtStops s = (a : SessionAnalyzer) → HasAnalyzer s a →
    accepts_made (buffer_calls s a.buffer a.client) ≡ stops_reported (turns_of s a.client)

-- All that an analyzer's client got of a run that it saw through are the events between the marks of the run that it asks
-- for, each once and in order.
abbrev pub GotWhole : Session → Type 0
GotWhole s = (r : SessionRun) → (a : SessionAnalyzer) → HasAnalyzer s a → (client ended : ℕ) →
    SeesRun (s.history a.buffer) (caller_of_client a.client) client a.wanted.id a.wanted.mask r.start ended →
    events_of_start client r.start a.got ≡ analyzer_events s r a

-- Only a start is refused: the Done of a stop says Completed.
abbrev pub StopsComplete : Session → Type 0
StopsComplete s = (sheet : Sheet) → (start : ℕ) → (outcome : StartOutcome) → (tallies : List ClientTally) →
    HasTransition s.engine Stop sheet start outcome tallies → outcome ≡ Completed

-- A start that a front-end refused was refused as NotReady, and its equipment takes no part in the run.
abbrev pub FrontsRefuse : Session → Type 0
FrontsRefuse s = (f : SessionFront) → HasFront s f →
    (sheet : Sheet) → (start : ℕ) → (why : Why) → (tallies : List ClientTally) →
    HasTransition s.engine Start sheet start (Refused f.client why) tallies →
    (why ≡ NotReady) × (f.takes (order_for sheet start Stopped) ≡ false)

-- A start that was not refused is one of a run in which the equipment of each front-end takes part.
abbrev pub FrontsTakePart : Session → Type 0
FrontsTakePart s = (sheet : Sheet) → (start : ℕ) → (tallies : List ClientTally) →
    HasTransition s.engine Start sheet start Completed tallies →
    (f : SessionFront) → HasFront s f → f.takes (order_for sheet start Stopped) ≡ true

-- All that these laws say of a session.
pub record IsComposed (s : Session) : Type 0 where
  pub stops_complete : StopsComplete s
  pub fronts_refuse : FrontsRefuse s
  pub fronts_take : FrontsTakePart s
  pub fronts_tell : FrontsTell s
  pub fronts_sent : FrontsSent s
  pub fronts_stand : FrontsStand s
  pub only_fronts : OnlyFrontsSent s
  pub segments_made : SegmentsAreMade s
  pub fronts_set : FrontsSet s
  pub stops_set : StopsSet s
  pub pauses_set : PausesSet s
  pub channels_told : ChannelsTold s
  pub ends_told : EndsTold s
  pub ends_so : EndsSo s
  pub runs_ended : RunsAreEnded s
  pub no_end_refused : NoEndRefused s
  pub files_hold : FilesHoldRuns s
  pub parts_hold : FilesHoldParts s
  pub reports_told : ReportsTold s
  pub reports_so : ReportsSo s
  pub reports_whole : ReportsWhole s
  pub asked_at_stops : AskedAtStops s
  pub got_whole : GotWhole s
