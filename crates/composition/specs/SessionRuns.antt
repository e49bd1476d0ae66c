-- A run of a session, and what is so of it.
use Rattle.std.specs.Prelude.{◌≡◌, ◌≢◌, ◌≤◌, ◌+◌, ◌==◌, ◌⊎◌, ℕ, suc, Bool, IsTrue, IsSome, if◌then◌else◌, length, List, [], ◌∷◌, ◌++◌, slice_get, unwrap_or, Contains, Some, Ok, ⊤}
use Rattle.std.specs.List.{AllByRecursion}
use Rattle.daq_types.specs.Callers.{entries_by}
use Rattle.daq_types.specs.declared.events.Event.{Event}
use Rattle.daq_types.specs.declared.runs.ChannelEnd.{ChannelEnd}
use Rattle.daq_types.specs.declared.runs.FrontEnded.{FrontEnded}
use Rattle.daq_types.specs.declared.runs.FrontEnded.TheVariants.{Quota, Paused as EndedPaused, Spent as EndedSpent}
use Rattle.daq_types.specs.declared.runs.Kind.TheVariants.{All}
use Rattle.daq_types.specs.declared.runs.Order.{Order}
use Rattle.daq_types.specs.declared.runs.RunState.TheVariants.{Stopped, Paused}
use Rattle.daq_types.specs.declared.runs.StartOutcome.TheVariants.{Completed}
use Rattle.daq_types.specs.declared.runs.Transition.TheVariants.{Start, Stop}
use Rattle.event.specs.Events.{encoding}
use Rattle.event.specs.RunFile.{end_record, IsRunFile}
use Rattle.daq_io.specs.Seen.{IsStored}
use Rattle.sub_files.specs.Cuts.{IsCut, last_number}
use Rattle.sub_files.specs.Patterns.{piece_name_by}
use Rattle.sub_files.specs.Pieces.{Series, HasPart, series_of}
use Rattle.sub_files.specs.Rolls.{fallen_at}
use Rattle.buffer_core.specs.declared.gate.RunGate.{RunGate}
use Rattle.buffer_core.specs.declared.replies.Received.TheVariants.{Empty}
use Rattle.buffer_core.specs.declared.entry.BufferEntry.{BufferEntry}
use Rattle.buffer_core.specs.declared.entry.BufferEntry.TheVariants.{Request, Cancel, Receive, End}
use Rattle.buffer_core.specs.Histories.{History}
use Rattle.buffer_core.specs.Points.{sent, past_of}
use Rattle.buffer_core.specs.Ports.{GotEvent}
use Rattle.buffer_core.specs.Runs.{segment}
use Rattle.event_report.specs.Reports.{Totals}
use Rattle.buffer_core.specs.Readers.{among, places_got, places_of, wanted}
use Rattle.transitions.specs.declared.answers.Tally.TheVariants.{Front, Channels, Report}
use Rattle.transitions.specs.declared.entry.EngineEntry.TheVariants.{Begin}
use Rattle.transitions.specs.EngineCalls.{order_for}
use Rattle.transitions.specs.EnginePoints.{engine_past, state_at}
use Rattle.member_model.specs.RunEngines.{Sheet, ClientTally, EngineHistory}
use Rattle.member_model.specs.Turns.{MemberTurn}
use Rattle.member_model.specs.Moments.{HasMoment}
use Rattle.member_model.specs.SentCalls.{own_sent, EachCall, WasSpent}
use Rattle.member_model.specs.GotRuns.{events_of_start}
use Rattle.member_model.specs.LoggerKept.{LoggerChannel}
use Rattle.front_ends.specs.FrontKept.{made_events}
use Rattle.history_laws.specs.OneCaller.{events_in}
use Rattle.analyzers.specs.declared.analyzer_run.EventRequest.{EventRequest}
use Rattle.analyzers.specs.AnalyzerKept.{IsReportOfRun}
use Rattle.history_laws.specs.CallerLaws.{IsSendOf}
use Rattle.history_laws.specs.BegunTurns.{HasTransition}
use Rattle.composition.specs.SentSets.{sent_by_moment, HasTurnSet}
use Rattle.composition.specs.Sessions.{Session, SessionFront, SessionAnalyzer, HasFront, turns_of, buffer_calls, database_calls}

-- A run: its start number, the sheets that its start and its stop were begun with, and the tallies in their Dones.
pub record SessionRun : Type 0 where
  pub start : ℕ
  pub first : Sheet
  pub last : Sheet
  pub first_tallies : List ClientTally
  pub last_tallies : List ClientTally

-- A run of the session that was not refused, and was stopped: both transitions stand in the engine's history, with its start
-- number.
pub record IsStoppedRun (s : Session) (r : SessionRun) : Type 0 where
  pub started : HasTransition s.engine Start r.first r.start Completed r.first_tallies
  pub stopped : HasTransition s.engine Stop r.last r.start Completed r.last_tallies

-- what the members are ordered at the start of the run
abbrev pub run_order : SessionRun → Order
run_order r = order_for r.first r.start Stopped

-- Front-ends.

-- in the Done of the stop the client told that it sent so many events, and how that ended
abbrev pub TellsFront : SessionRun → (client sent : ℕ) → FrontEnded → Type 0
TellsFront r client sent ended = (index : ℕ) ×
    (slice_get r.last_tallies index ≡ Some (record { client = client; tally = Front sent ended }))

-- where the stop of this run was begun, the engine's history tells that the run was paused
pub record CameFromPause (s : Session) (r : SessionRun) : Type 0 where
  pub earlier : EngineHistory
  pub later : EngineHistory
  pub caller : ℕ
  pub stands : s.engine ≡ earlier ++ (caller, Begin Stop r.last (Ok r.start)) ∷ later
  pub paused : state_at (engine_past earlier) ≡ Paused

-- how a front-end's sending ended in the run: its quota was sent; the stop came from a pause; or a send of it in that run
-- was refused as spent, with this total
abbrev pub EndedIn : Session → SessionRun → SessionFront → (sent : ℕ) → FrontEnded → Type 0
EndedIn s r f sent Quota = sent ≡ r.first.quota
EndedIn s r f sent EndedPaused = CameFromPause s r
EndedIn s r f sent (EndedSpent total) = WasSpent (buffer_calls s f.buffer f.client) r.start total

-- What the front-end sent in the run are the first events of its equipment, as many as it told, each once and in order.
pub record FrontSent (s : Session) (r : SessionRun) (f : SessionFront) (sent : ℕ) (ended : FrontEnded) : Type 0 where
  pub events : own_sent (buffer_calls s f.buffer f.client) r.start ≡ made_events f.makes (run_order r) sent
  pub ended_so : EndedIn s r f sent ended

-- The front-end has a turn of the stop of the run, and its set at this turn stands in the database, of this number: so many events it
-- had sent in the run behind its answer to the turn.
pub record SetAtStop (s : Session) (r : SessionRun) (f : SessionFront) (sent : ℕ) : Type 0 where
  pub turn : MemberTurn
  pub moment : ℕ
  pub has : HasMoment (turns_of s f.client) f.moments turn moment
  pub is : turn.transition ≡ Stop
  pub of : turn.order.start ≡ r.start
  pub number : sent_by_moment (buffer_calls s f.buffer f.client) turn.order.start moment ≡ sent
  pub set : HasTurnSet f.name (buffer_calls s f.buffer f.client) (turns_of s f.client) f.moments
      (database_calls s f.client) turn moment sent

-- The front-end's set at this turn, which has this moment, stands in the database, of the number of events that it had sent in the
-- run by then; and when it had made so many calls it had sent no more.
pub record SetAtPause (s : Session) (f : SessionFront) (turn : MemberTurn) (moment until : ℕ) : Type 0 where
  pub number : sent_by_moment (buffer_calls s f.buffer f.client) turn.order.start moment
      ≡ sent_by_moment (buffer_calls s f.buffer f.client) turn.order.start until
  pub set : HasTurnSet f.name (buffer_calls s f.buffer f.client) (turns_of s f.client) f.moments
      (database_calls s f.client) turn moment
      (sent_by_moment (buffer_calls s f.buffer f.client) turn.order.start moment)

-- a front-end of the buffer sent the event in the run with this start number, at this place
pub record IsOfFront (s : Session) (buffer start place : ℕ) (event : Event) : Type 0 where
  pub front : SessionFront
  pub stands : HasFront s front
  pub buffer_is : front.buffer ≡ buffer
  pub send : IsSendOf (buffer_calls s buffer front.client) start place event

-- a front-end of the buffer told in the Done of the stop how many events it sent in the run, and the event is one of these:
-- one of the first events of its equipment, so many as it told
pub record IsMadeInRun (s : Session) (r : SessionRun) (buffer : ℕ) (event : Event) : Type 0 where
  pub front : SessionFront
  pub stands : HasFront s front
  pub buffer_is : front.buffer ≡ buffer
  pub sent : ℕ
  pub ended : FrontEnded
  pub told : TellsFront r front.client sent ended
  pub made : Contains (made_events front.makes (run_order r) sent) event

-- Channels.

-- in the Done of the stop the logger told this of the channel
pub record ToldChannel (s : Session) (r : SessionRun) (channel : LoggerChannel) (told : ChannelEnd) : Type 0 where
  pub index : ℕ
  pub ends : List ChannelEnd
  pub tells : slice_get r.last_tallies index ≡ Some (record { client = s.logger; tally = Channels ends })
  pub at : slice_get ends channel.number ≡ Some told

-- the events of the run that the channel asks for: those between the marks in its buffer, in order
abbrev pub channel_events : Session → SessionRun → LoggerChannel → List Event
channel_events s r channel = events_in (wanted channel.id channel.mask (segment (s.history channel.buffer) r.start))

-- the dump that the run's file begins with: that of the start's sheet, or an empty one where this has none
abbrev pub begin_dump : SessionRun → List ℕ
begin_dump r = unwrap_or r.first.dump []

-- the name of the channel's file of this number in the run
abbrev pub file_name : SessionRun → LoggerChannel → (number : ℕ) → List ℕ
file_name r channel number = piece_name_by channel.pattern r.first.run number

-- what the channel's files have in common in the run
abbrev pub series_in : SessionRun → LoggerChannel → Series
series_in r channel = series_of channel.pattern channel.limit (record { run = r.first.run; time = r.first.time }) (begin_dump r)

-- of so many files the one of this number is the last
abbrev pub is_last : (many number : ℕ) → Bool
is_last many number = suc number == many

-- The time and the dump of the record that ends the channel's file of this number, of so many: the last one has those of the stop,
-- with this dump, and each other one has the time of the start and an empty dump.
abbrev pub end_time : SessionRun → (many number : ℕ) → ℕ
end_time r many number = if is_last many number then r.last.time else r.first.time

abbrev pub end_dump : (last_dump : List ℕ) → (many number : ℕ) → List ℕ
end_dump last_dump many number = if is_last many number then last_dump else []

-- The channel's file of this number, of so many, was made and closed whole, and is the run file of the events of this piece: its
-- dumps and events are not too large, and it has at most 2^62 bytes.
pub record HoldsPiece (s : Session) (r : SessionRun) (channel : LoggerChannel) (last_dump : List ℕ) (many number : ℕ) (piece : List Event) : Type 0 where
  pub bytes : List ℕ
  pub is : IsRunFile bytes r.first.run r.first.time (begin_dump r) piece (end_time r many number) (end_dump last_dump many number)
  pub stored : IsStored s.files (file_name r channel number) bytes

-- The channel's files of the run, so many, hold the events that it asks for: these are cut into as many pieces by the channel's limit,
-- and each file is the run file of its piece, with the dumps of both sheets. A last piece that is too long says that there is a file
-- of the name behind it, where names are told, or that it has the greatest number. And the channel's client got, of the places
-- between the marks, just those of these events.
pub record HoldsRunFiles (s : Session) (r : SessionRun) (channel : LoggerChannel) (many : ℕ) : Type 0 where
  pub last_dump : List ℕ
  pub has_dump : r.last.dump ≡ Some last_dump
  pub pieces : List (List Event)
  pub each : length pieces ≡ many
  pub few : many ≤ suc last_number
  pub taken : Bool
  pub beyond : IsTrue taken → IsTrue s.files.names → IsSome (s.files.at (file_name r channel many))
  pub cut : IsCut channel.limit (16 + length (begin_dump r)) (channel_events s r channel) taken pieces
  pub files : (number : ℕ) → (piece : List Event) → slice_get pieces number ≡ Some piece →
      HoldsPiece s r channel last_dump many number piece
  pub got : among (segment (s.history channel.buffer) r.start) (places_got (s.history channel.buffer) channel.client)
      ≡ places_of (wanted channel.id channel.mask (segment (s.history channel.buffer) r.start))

-- the record of the stop, with which the last file ends
abbrev pub last_record : SessionRun → (last_dump : List ℕ) → List ℕ
last_record r last_dump = encoding (end_record r.first.run r.last.time last_dump)

-- The files of a channel that broke off in the run are written no more, and hold a first part of those events, cut into pieces: those
-- that are told to be framed are whole, and the others have first parts of such files. Something of the record of the stop is there only
-- behind all events.
pub record HoldsFileParts (s : Session) (r : SessionRun) (channel : LoggerChannel) (last_dump : List ℕ) (told : ChannelEnd) : Type 0 where
  pub last : List ℕ
  pub last_is : (last ≡ []) ⊎ (last ≡ last_record r last_dump)
  pub part : HasPart s.files (series_in r channel) (fallen_at told.files told.framed) last (channel_events s r channel)

-- Analyzers.

-- in the Done of the stop the analyzer's client told this report
abbrev pub TellsTotals : SessionRun → (client : ℕ) → Totals → Type 0
TellsTotals r client report = (index : ℕ) ×
    (slice_get r.last_tallies index ≡ Some (record { client = client; tally = Report report }))

-- the report is that of the events of the run that the analyzer's client got, from the request of the run's start until it was
-- drained
abbrev pub ReportsRun : Session → SessionRun → SessionAnalyzer → Totals → Type 0
ReportsRun s r a report =
    IsReportOfRun a.wanted (buffer_calls s a.buffer a.client) a.got (turns_of s a.client) r.start report

-- the events of the run that the analyzer asks for: those between the marks in its buffer, in order
abbrev pub analyzer_events : Session → SessionRun → SessionAnalyzer → List Event
analyzer_events s r a = events_in (wanted a.wanted.id a.wanted.mask (segment (s.history a.buffer) r.start))

-- the call does not cancel this request of the client
abbrev pub CancelsNot : (client number : ℕ) → BufferEntry → Type 0
CancelsNot client number (Cancel c n reply) = (c ≡ client) × (n ≡ number) → ⊥
CancelsNot client number entry = ⊤

-- Of a report, the history of the buffer and the caller whose calls it was counted by: the analyzer saw the run through, by the
-- request by which it counted the run. That is a request for all events, and stands in the history before the first event with
-- the run's start number; and before it was cancelled, a receive of the client behind the end of the run found nothing.
pub record SawThrough {asked : EventRequest} {own : List BufferEntry} {got : List GotEvent} {turns : List MemberTurn} {start : ℕ}
    {report : Totals} (history : History) (caller : ℕ) (told : IsReportOfRun asked own got turns start report) : Type 0 where
  pub before : History
  pub running : History
  pub draining : History
  pub after : History
  pub by : ℕ
  pub ended : ℕ
  pub room : ℕ
  pub gate : RunGate
  pub last : ℕ
  pub whole : history
      ≡ (before ++ (caller, Request told.client asked.id asked.mask All (Ok told.number))
      ∷ (running ++ (by, End start (Ok ended)) ∷ (draining ++ (caller, Receive told.client room (Empty gate last)) ∷ [])))
      ++ after
  pub by_request : entries_by caller before ≡ told.counted.counted.asked.before
  pub early : AllByRecursion (λ x. x.start ≢ start) (sent (past_of before))
  pub lives : EachCall (CancelsNot told.client told.number)
      (entries_by caller (running ++ (by, End start (Ok ended)) ∷ draining))

-- The report counted all events of the run that were asked for: those between the run's marks in this history, in order, each
-- once. And these are all events with the run's start number that its client ever got.
pub record CountsAll {asked : EventRequest} {own : List BufferEntry} {got : List GotEvent} {turns : List MemberTurn} {start : ℕ}
    {report : Totals} (history : History) (told : IsReportOfRun asked own got turns start report) : Type 0 where
  pub counted : told.events ≡ events_in (wanted asked.id asked.mask (segment history start))
  pub ever : events_of_start told.client start got ≡ told.events
