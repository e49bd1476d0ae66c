-- What a logger keeps of its calls on buffers, its turns and the run files, whatever the buffers reply.
use Rattle.std.specs.Prelude.{◌≡◌, ◌≢◌, ◌≤◌, ◌<◌, ◌+◌, ℕ, suc, Bool, IsTrue, IsSome, List, [], All, slice_get, unwrap_or, Option, Some, None, ⊤, ◌⊎◌}
use Rattle.daq_types.specs.declared.events.Event.{Event}
use Rattle.daq_types.specs.declared.runs.Transition.TheVariants.{Start, Stop}
use Rattle.daq_types.specs.declared.runs.ChannelEnd.{ChannelEnd}
use Rattle.daq_types.specs.declared.runs.ChannelState.{ChannelState}
use Rattle.daq_types.specs.declared.runs.ChannelState.TheVariants.{Idle, Writing, Broken, Ended, NoEnd, NoMark}
use Rattle.event.specs.Events.{encoding}
use Rattle.event.specs.RunFile.{end_record, IsFileEvent}
use Rattle.daq_io.specs.Seen.{Seen}
use Rattle.sub_files.specs.Cuts.{last_number}
use Rattle.sub_files.specs.Patterns.{NamePattern, piece_name_by}
use Rattle.sub_files.specs.Pieces.{Series, HasRun, HasPart, series_of}
use Rattle.sub_files.specs.Rolls.{fallen_at}
use Rattle.buffer_core.specs.declared.entry.BufferEntry.{BufferEntry}
use Rattle.buffer_core.specs.Ports.{GotEvent}
use Rattle.member_model.specs.RunEngines.{Answer}
use Rattle.transitions.specs.declared.answers.Answer.TheVariants.{Yes, No}
use Rattle.transitions.specs.declared.answers.Tally.TheVariants.{Plain, Channels}
use Rattle.member_model.specs.Turns.{MemberTurn, HasTurn, IsAcceptedStart, HasAnswer, AreEngineTurns}
use Rattle.member_model.specs.SentCalls.{EachCall}
use Rattle.member_model.specs.OwnCalls.{calls_after, AreOwnCalls, SendsNone}
use Rattle.member_model.specs.ReadRuns.{HasReadRun}
use Rattle.member_model.specs.CutRuns.{MarksEnd, RefusesEnd, HasCutRun}
use Rattle.member_model.specs.EndedRuns.{EndsBegun}

-- a channel of the logger: its number among them; the names of its files, and the most bytes of one, where 0 is no limit; the number
-- of its buffer; its client there, once it has one; and the id and the mask of the events that it asks for
pub record LoggerChannel : Type 0 where
  pub number : ℕ
  pub pattern : NamePattern
  pub limit : ℕ
  pub buffer : ℕ
  pub client : ℕ
  pub id : ℕ
  pub mask : ℕ

-- the logger's calls on one buffer, and the events that its clients got by them
pub record LoggerPort : Type 0 where
  pub own : List BufferEntry
  pub got : List GotEvent

-- what the channel's files have in common in the run of this start turn
abbrev pub series_from : LoggerChannel → (start : MemberTurn) → Series
series_from channel start =
    series_of channel.pattern channel.limit (record { run = start.order.run; time = start.order.time }) (unwrap_or start.dump [])

-- what the last of these files ends with, by the stop turn and its dump
abbrev pub stop_bytes : (start stop : MemberTurn) → (dump : List ℕ) → List ℕ
stop_bytes start stop dump = encoding (end_record start.order.run stop.order.time dump)

-- The channel has written the run of this stop turn: its client asked alone before the run was begun, was drained behind
-- the end, and got these events between the replies of begin and end; and its closed files, so many, hold these events, cut into
-- pieces, between their records, with the run number and the time of the order of the start that was accepted, the dump of its turn,
-- or none, and in the last one the time and the dump of the stop turn. Where a name is told to be taken, there is a file of the name
-- behind the last one, where names are told.
pub record HasWritten (port : LoggerPort) (turns : List MemberTurn) (files : Seen) (channel : LoggerChannel) (stop : MemberTurn) (made : ℕ) : Type 0 where
  pub start : MemberTurn
  pub is_start : IsAcceptedStart turns stop.order.start start
  pub dump : List ℕ
  pub has_dump : stop.dump ≡ Some dump
  pub number : ℕ
  pub begun : ℕ
  pub ended : ℕ
  pub events : List Event
  pub reads : HasReadRun port.own port.got channel.client channel.id channel.mask number stop.order.start begun ended events
  pub fine : All IsFileEvent events
  pub taken : Bool
  pub beyond : IsTrue taken → IsTrue files.names → IsSome (files.at (piece_name_by channel.pattern start.order.run made))
  pub stored : HasRun files (series_from channel start) made taken (stop_bytes start stop dump) events

-- The channel broke off in that run, whose end was marked at this place: its closed files have a first part of the events that its
-- client had got by then, cut into pieces; or the client was drained, and they have that, and a first part of the last bytes.
pub record HasWrittenPart (port : LoggerPort) (turns : List MemberTurn) (files : Seen) (channel : LoggerChannel) (stop : MemberTurn) (told : ChannelEnd) (ended : ℕ) (dump : List ℕ) : Type 0 where
  pub start : MemberTurn
  pub is_start : IsAcceptedStart turns stop.order.start start
  pub number : ℕ
  pub begun : ℕ
  pub events : List Event
  pub part : (HasCutRun port.own port.got channel.client channel.id channel.mask number stop.order.start begun ended events
      × HasPart files (series_from channel start) (fallen_at told.files told.framed) [] events)
      ⊎ (HasReadRun port.own port.got channel.client channel.id channel.mask number stop.order.start begun ended events
      × HasPart files (series_from channel start) (fallen_at told.files told.framed) (stop_bytes start stop dump) events)

-- the stop turn was answered, and this is what was told of the channel
pub record TellsChannel (turns : List MemberTurn) (stop : MemberTurn) (channel : LoggerChannel) (told : ChannelEnd) : Type 0 where
  pub stands : HasTurn turns stop
  pub is : stop.transition ≡ Stop
  pub ends : List ChannelEnd
  pub answered : stop.answer ≡ Some (Yes (Channels ends))
  pub at : slice_get ends channel.number ≡ Some told

-- a start is answered with no tally but the plain one, or refused
abbrev pub IsStartAnswer : Answer → Type 0
IsStartAnswer (Yes tally) = tally ≡ Plain
IsStartAnswer (No why) = ⊤

-- What was told of a channel at a stop of the run with this start number, with this dump, is so by these calls. Ended and
-- NoEnd: the end of the run was accepted, and the stop had a dump, or none. NoMark: the run was begun, its end was refused,
-- and it was never accepted. Broken: the run was begun, and then called to end; the channel may have broken off in any case.
-- None is told to be idle or writing.
abbrev pub IsStateSo : (own : List BufferEntry) → (start : ℕ) → (dump : Option (List ℕ)) → ChannelState → Type 0
IsStateSo own start dump Idle = ⊥
IsStateSo own start dump Writing = ⊥
IsStateSo own start dump Broken = EndsBegun own start
IsStateSo own start dump Ended = (dump ≢ None) × ((ended : ℕ) × MarksEnd own start ended)
IsStateSo own start dump NoEnd = (dump ≡ None) × ((ended : ℕ) × MarksEnd own start ended)
IsStateSo own start dump NoMark =
    EndsBegun own start × RefusesEnd own start × ((ended : ℕ) → MarksEnd own start ended → ⊥)

-- How many of so many files have both records and were closed without a fault, where this was told of the channel: all, where it
-- ended; all but the last one or two, where it broke off; and else all but the last.
abbrev pub AreFramedSo : ChannelState → (files framed : ℕ) → Type 0
AreFramedSo Ended files framed = framed ≡ files
AreFramedSo Broken files framed = (framed < files) × (files ≤ framed + 2)
AreFramedSo state files framed = suc framed ≡ files

-- What was told of a channel at a stop of the run with this start number is so by these calls, and it has at most 10,000 files.
pub record IsEndSo (own : List BufferEntry) (start : ℕ) (dump : Option (List ℕ)) (told : ChannelEnd) : Type 0 where
  pub state : IsStateSo own start dump told.state
  pub framed : AreFramedSo told.state told.files told.framed
  pub few : told.files ≤ suc last_number

-- each answered stop of a run whose start was accepted tells of each channel, and that is so
abbrev pub StopsTellChannels : List LoggerChannel → (ports : (buffer : ℕ) → LoggerPort) → List MemberTurn → Type 0
StopsTellChannels channels ports turns = (begin stop : MemberTurn) → IsAcceptedStart turns stop.order.start begin →
    HasTurn turns stop → stop.transition ≡ Stop → HasAnswer stop.answer →
    (index : ℕ) → (channel : LoggerChannel) → slice_get channels index ≡ Some channel →
    (told : ChannelEnd) × TellsChannel turns stop channel told ×
    IsEndSo (ports channel.buffer).own stop.order.start stop.dump told

-- What holds at every moment: on its ports the logger sends nothing and names only clients that an attach of its own gave.
-- Each answered stop of a run whose start it accepted tells of each channel; one that was told to have ended has written its
-- run; and one that was told to be broken has written a part of it, where the run's end was accepted and the stop turn had a
-- dump.
pub record KeepsLogger (channels : List LoggerChannel) (ports : (buffer : ℕ) → LoggerPort) (turns : List MemberTurn) (files : Seen) : Type 0 where
  pub sends_none : (buffer : ℕ) → EachCall SendsNone (ports buffer).own
  pub own_calls : (buffer : ℕ) → AreOwnCalls (calls_after [] (ports buffer).own)
  pub starts : (start : MemberTurn) → (answer : Answer) → HasTurn turns start → start.transition ≡ Start →
      start.answer ≡ Some answer → IsStartAnswer answer
  pub stops : AreEngineTurns turns → StopsTellChannels channels ports turns
  pub ended : AreEngineTurns turns → (stop : MemberTurn) → (index : ℕ) → (channel : LoggerChannel) → (told : ChannelEnd) →
      slice_get channels index ≡ Some channel → TellsChannel turns stop channel told → told.state ≡ Ended →
      HasWritten (ports channel.buffer) turns files channel stop told.files
  pub broken : AreEngineTurns turns → (stop : MemberTurn) → (index : ℕ) → (channel : LoggerChannel) → (told : ChannelEnd) →
      slice_get channels index ≡ Some channel → TellsChannel turns stop channel told → told.state ≡ Broken →
      (ended : ℕ) → MarksEnd (ports channel.buffer).own stop.order.start ended →
      (dump : List ℕ) → stop.dump ≡ Some dump →
      HasWrittenPart (ports channel.buffer) turns files channel stop told ended dump
