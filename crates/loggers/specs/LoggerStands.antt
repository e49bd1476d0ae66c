-- What a logger keeps of its calls on buffers, its turns and the run files, between its calls.
use Rattle.std.specs.Prelude.{◌≡◌, ◌≢◌, ◌≤◌, ◌<◌, ◌+◌, ℕ, suc, true, IsTrue, IsSome, List, [], ◌∷◌, length, slice_get, unwrap_or, Option, Some, None, ⊤, ◌⊎◌}
use Rattle.daq_types.specs.declared.runs.Order.{Order}
use Rattle.daq_types.specs.declared.runs.ChannelEnd.{ChannelEnd}
use Rattle.daq_types.specs.declared.runs.ChannelState.TheVariants.{Broken as IsBroken}
use Rattle.daq_types.specs.declared.runs.Transition.{Transition}
use Rattle.daq_types.specs.declared.runs.Transition.TheVariants.{Start, Stop, StartAbort}
use Rattle.daq_types.specs.declared.runs.Why.TheVariants.{NotReady}
use Rattle.daq_io.specs.Seen.{Seen}
use Rattle.buffer_core.specs.declared.entry.BufferEntry.{BufferEntry}
use Rattle.buffer_core.specs.declared.entry.BufferEntry.TheVariants.{End}
use Rattle.buffer_core.specs.Ports.{Access}
use Rattle.buffer_core.specs.Slots.{slot_at}
use Rattle.member_model.specs.RunEngines.{Answer}
use Rattle.transitions.specs.declared.answers.Answer.TheVariants.{Yes, No}
use Rattle.transitions.specs.declared.answers.Tally.TheVariants.{Channels}
use Rattle.member_model.specs.Turns.{MemberTurn, HasTurn, IsAcceptedStart, NoneOpen, current_run, AreEngineTurns}
use Rattle.member_model.specs.SentCalls.{EachCall}
use Rattle.member_model.specs.OwnCalls.{calls_after}
use Rattle.member_model.specs.FairCalls.{AreLoneRequests, is_left_open}
use Rattle.member_model.specs.CutRuns.{MarksEnd, RefusesEnd}
use Rattle.member_model.specs.EndedRuns.{EndsBegun}
use Rattle.member_model.specs.LoggerKept.{LoggerChannel, LoggerPort, AreFramedSo, IsStartAnswer, KeepsLogger}
use Rattle.sub_files.specs.Cuts.{last_number}
use Rattle.sub_files.specs.Patterns.{piece_name_by}
use Rattle.mid_logger.specs.declared.channel.Channel.{Channel}
use Rattle.mid_logger.specs.declared.stage.BegunRun.{BegunRun}
use Rattle.mid_logger.specs.declared.stage.ChannelRun.{ChannelRun}
use Rattle.mid_logger.specs.declared.stage.ChannelStage.{ChannelStage}
use Rattle.mid_logger.specs.declared.stage.ChannelStage.TheVariants.{Idle, Writing, Draining, Drained, Broken}
use Rattle.mid_logger.specs.Channels.{FileHead, KeepsOwnCalls, ChannelStands, KnowsTaken, channel_run, written_run, files_by as files_made}
use Rattle.mid_logger.specs.ChannelEnds.{HasLeftRead, state_ended}
use Rattle.loggers.specs.declared.logged_run.LoggedRun.{LoggedRun}
use Rattle.loggers.specs.declared.logged_run.RunDumps.{RunDumps}
use Rattle.loggers.specs.declared.logged_run.RunPart.{RunPart}
use Rattle.loggers.specs.declared.logged_run.RunPart.TheVariants.{Refused, Started, Stopping}
use Rattle.loggers.specs.Moments.{HaveNumbersApart, channel_limit}
use Rattle.loggers.specs.FairAsks.{HasStart, AsksFairly}
use Rattle.loggers.specs.TurnMarks.{MarksAsAsked, AreMarksInRuns}

-- The logger as its contract sees it.

-- a turn with its answer, as a member's turns are listed
abbrev pub logger_turn : Transition → Order → (dump : Option (List ℕ)) → Option Answer → MemberTurn
logger_turn transition order dump answer = record {
  transition = transition;
  order = order;
  dump = dump;
  answer = answer;
}

-- A channel of the logger. While it has no client, this number stands for it.
abbrev pub logger_channel : (absent : ℕ) → Channel → LoggerChannel
logger_channel absent c = record {
  number = c.spec.number;
  pattern = c.spec.pattern;
  limit = c.spec.sub_bytes;
  buffer = c.spec.buffer;
  client = unwrap_or c.client absent;
  id = c.spec.id;
  mask = c.spec.mask;
}

-- the channels of the logger, in order of number
abbrev pub logger_channels : (absent : ℕ → ℕ) → List (Option Channel) → List LoggerChannel
logger_channels absent [] = []
logger_channels absent (None ∷ slots) = logger_channels absent slots
logger_channels absent (Some c ∷ slots) = logger_channel (absent c.spec.number) c ∷ logger_channels absent slots

abbrev pub logger_port : Option Access → LoggerPort
logger_port None = record { own = []; got = [] }
logger_port (Some a) = record { own = a.own; got = a.got }

-- the logger's calls on each buffer, and what it got there
abbrev pub logger_ports : List Access → (buffer : ℕ) → LoggerPort
logger_ports ports buffer = logger_port (slice_get ports buffer)

-- What it keeps besides.

-- The begin record of the file is that of the accepted start with this number.
pub record HasHead (turns : List MemberTurn) (start : ℕ) (head : FileHead) : Type 0 where
  pub turn : MemberTurn
  pub is_start : IsAcceptedStart turns start turn
  pub run : head.run ≡ turn.order.run
  pub time : head.time ≡ turn.order.time
  pub dump : head.dump ≡ unwrap_or turn.dump []

-- what the end of the run with this start number was replied: a place; or it was refused, and was never accepted
abbrev pub IsEndReplied : List BufferEntry → (start : ℕ) → (ended : Option ℕ) → Type 0
IsEndReplied own start (Some place) = MarksEnd own start place
IsEndReplied own start None = RefusesEnd own start × ((place : ℕ) → MarksEnd own start place → ⊥)

-- the run with this start number was begun, and then called to end, which was replied so
abbrev pub IsEndedSo : List BufferEntry → (start : ℕ) → (ended : Option ℕ) → Type 0
IsEndedSo own start ended = EndsBegun own start × IsEndReplied own start ended

-- a run with this start number that is not to be ended yet
pub record IsUnended (start : ℕ) (run : BegunRun) : Type 0 where
  pub of : run.opened.start ≡ start
  pub on : run.ended ≡ None

-- a run with this start number whose end was replied so
pub record IsEndedRun (turns : List MemberTurn) (own : List BufferEntry) (start : ℕ) (run : BegunRun) : Type 0 where
  pub of : run.opened.start ≡ start
  pub so : AreEngineTurns turns → IsEndedSo own start run.ended

-- The stage of a channel while its run goes on, and while its stop is not answered.
abbrev pub IsStartedStage : (start : ℕ) → ChannelStage → Type 0
IsStartedStage start (Writing opened begun) = opened.start ≡ start
IsStartedStage start (Broken run fallen) = IsUnended start run
IsStartedStage start stage = ⊥

abbrev pub IsStoppingStage : List MemberTurn → List BufferEntry → (start : ℕ) → ChannelStage → Type 0
IsStoppingStage turns own start (Draining run) = IsEndedRun turns own start run
IsStoppingStage turns own start (Drained run) = IsEndedRun turns own start run
IsStoppingStage turns own start (Broken run fallen) = IsEndedRun turns own start run
IsStoppingStage turns own start stage = ⊥

abbrev pub IsStagePart : RunPart → List MemberTurn → List BufferEntry → (start : ℕ) → ChannelStage → Type 0
IsStagePart Refused turns own start stage = stage ≡ Idle
IsStagePart Started turns own start stage = IsStartedStage start stage
IsStagePart (Stopping time) turns own start stage = IsStoppingStage turns own start stage

-- the channel's stage in the run that the logger has
abbrev pub IsStageOf : Option LoggedRun → List MemberTurn → List BufferEntry → ChannelStage → Type 0
IsStageOf None turns own stage = stage ≡ Idle
IsStageOf (Some r) turns own stage = IsStagePart r.part turns own r.start stage

-- A channel, with the port of its buffer. Where it writes a run, or broke off, the head of its file is one for that
-- run.
pub record ChannelKept (IsHeadOf : ChannelRun → FileHead → Type 0) (seen : Seen) (c : Channel) (port : Access) : Type 0 where
  pub head : FileHead
  pub stands : ChannelStands c.spec c.client c.stage head port.own port.got seen
  pub headed : (opened : ChannelRun) → channel_run c.stage ≡ Some opened → IsHeadOf opened head

-- Two channels have two clients, where they read one buffer, and files of their own: those that they made have different names, where
-- names are told, and the last ones are under two numbers.
pub record SlotsApart (seen : Seen) (c d : Channel) : Type 0 where
  pub clients : c.spec.buffer ≡ d.spec.buffer → (m n : ℕ) → c.client ≡ Some m → d.client ≡ Some n → m ≢ n
  pub names : (r s : ChannelRun) → channel_run c.stage ≡ Some r → channel_run d.stage ≡ Some s → IsTrue seen.names →
      (i j : ℕ) → i < files_made c.stage → j < files_made d.stage →
      piece_name_by c.spec.pattern r.run i ≢ piece_name_by d.spec.pattern s.run j
  pub numbers : HaveNumbersApart (written_run c.stage) (written_run d.stage)

-- the name is not that of a file that a channel made in the run that it has now
abbrev pub IsNoOpenName : List (Option Channel) → (name : List ℕ) → Type 0
IsNoOpenName slots name = (n : ℕ) → (d : Channel) → (opened : ChannelRun) → slot_at slots n ≡ Some d →
    channel_run d.stage ≡ Some opened → (j : ℕ) → j < files_made d.stage → name ≢ piece_name_by d.spec.pattern opened.run j

-- a stop or a start-abort with this number is among these turns
pub record HasEndTurn (turns : List MemberTurn) (start : ℕ) : Type 0 where
  pub turn : MemberTurn
  pub stands : HasTurn turns turn
  pub ends : (turn.transition ≡ Stop) ⊎ (turn.transition ≡ StartAbort)
  pub of : turn.order.start ≡ start

-- a run is ended in a buffer only at a stop or a start-abort of it
abbrev pub IsEndTold : List MemberTurn → BufferEntry → Type 0
IsEndTold turns (End start reply) = HasEndTurn turns start
IsEndTold turns entry = ⊤

-- What the logger keeps of its calls on a buffer: each request was made while its client had none, and the end of a run was
-- accepted at one place at most.
pub record PortKept (turns : List MemberTurn) (own : List BufferEntry) : Type 0 where
  pub calls : KeepsOwnCalls own
  pub alone : AreLoneRequests (calls_after [] own)
  pub told : EachCall (IsEndTold turns) own
  pub once : AreEngineTurns turns → (start m n : ℕ) → MarksEnd own start m → MarksEnd own start n → m ≡ n

-- Where the channel found the name of the file behind its last one taken, and names are told, there is a file of that name, and it is
-- not that of a run that a channel has now.
pub record TakenStays (slots : List (Option Channel)) (seen : Seen) (name : List ℕ) : Type 0 where
  pub there : IsSome (seen.at name)
  pub apart : IsNoOpenName slots name

-- A run of a channel that was stopped, of which this was told: its files have what was read, or a first part of it, and are
-- not those of a run that another channel has now, where names are told.
pub record LeftRun (turns : List MemberTurn) (slots : List (Option Channel)) (seen : Seen) (c : Channel) (port : Access) (stop : MemberTurn) (told : ChannelEnd) : Type 0 where
  pub run : BegunRun
  pub head : FileHead
  pub of : run.opened.start ≡ stop.order.start
  pub client : c.client ≡ Some run.opened.client
  pub headed : HasHead turns stop.order.start head
  pub ended : IsEndedSo port.own stop.order.start run.ended
  pub state : (told.state ≡ IsBroken) ⊎ (told.state ≡ state_ended run.ended stop.dump)
  pub framed : AreFramedSo told.state told.files told.framed
  pub few : told.files ≤ suc last_number
  pub left : HasLeftRead told c.spec head run stop.order.time stop.dump port.own port.got seen
  pub apart : IsTrue seen.names → (i : ℕ) → i < told.files → IsNoOpenName slots (piece_name_by c.spec.pattern run.opened.run i)
  pub last : told.state ≢ IsBroken → told.files ≡ run.opened.at.sub + 1

-- the stop turn was answered, and this was told of the channels
pub record TellsEnds (turns : List MemberTurn) (stop : MemberTurn) (ends : List ChannelEnd) : Type 0 where
  pub stands : HasTurn turns stop
  pub is : stop.transition ≡ Stop
  pub answered : stop.answer ≡ Some (Yes (Channels ends))

-- What stands of a channel at a stop that was answered: this was told of it, and its run was left so; and the name that it found
-- taken, if it did, is still that of a file.
pub record ToldSo (turns : List MemberTurn) (slots : List (Option Channel)) (seen : Seen) (number : ℕ) (c : Channel) (port : Access) (stop : MemberTurn) (ends : List ChannelEnd) : Type 0 where
  pub told : ChannelEnd
  pub at : slice_get ends number ≡ Some told
  pub left : LeftRun turns slots seen c port stop told
  pub taken : IsTrue seen.names → IsTrue left.run.opened.at.taken →
      TakenStays slots seen (piece_name_by c.spec.pattern left.run.opened.run (left.run.opened.at.sub + 1))

-- What the channels and the ports keep, whatever run the logger has.
pub record SlotsStand (IsHeadOf : ChannelRun → FileHead → Type 0) (turns : List MemberTurn) (slots : List (Option Channel)) (ports : List Access) (seen : Seen) : Type 0 where
  pub many : length slots ≤ channel_limit
  pub numbered : (n : ℕ) → (c : Channel) → slot_at slots n ≡ Some c → c.spec.number ≡ n
  pub channels : (n : ℕ) → (c : Channel) → (a : Access) → slot_at slots n ≡ Some c →
      slice_get ports c.spec.buffer ≡ Some a →
      ChannelKept IsHeadOf seen c a
  pub apart : (n m : ℕ) → (c d : Channel) → n ≢ m → slot_at slots n ≡ Some c → slot_at slots m ≡ Some d →
      SlotsApart seen c d
  pub calls : (buffer : ℕ) → (a : Access) → slice_get ports buffer ≡ Some a → PortKept turns a.own
  pub left : AreEngineTurns turns → (stop : MemberTurn) → (ends : List ChannelEnd) → TellsEnds turns stop ends →
      (n : ℕ) → (c : Channel) → (a : Access) → slot_at slots n ≡ Some c → slice_get ports c.spec.buffer ≡ Some a →
      ToldSo turns slots seen n c a stop ends

-- the latest turn is a stop of this run, at this time and with this dump, that is not answered
pub record IsStopWaiting (turns : List MemberTurn) (start time : ℕ) (dump : Option (List ℕ)) : Type 0 where
  pub order : Order
  pub earlier : List MemberTurn
  pub latest : turns ≡ logger_turn Stop order dump None ∷ earlier
  pub of : order.start ≡ start
  pub at : order.time ≡ time

abbrev pub HasAcceptedStart : List MemberTurn → (start : ℕ) → Type 0
HasAcceptedStart turns start = (begin : MemberTurn) × IsAcceptedStart turns start begin

-- the run that the logger has, by its turns
abbrev pub IsPartTold : RunPart → List MemberTurn → (start : ℕ) → (dumps : RunDumps) → Type 0
IsPartTold Refused turns start dumps = NoneOpen turns × HasStart turns start
IsPartTold Started turns start dumps = NoneOpen turns × HasAcceptedStart turns start
IsPartTold (Stopping time) turns start dumps =
    IsStopWaiting turns start time dumps.stop × HasAcceptedStart turns start

abbrev pub IsRunTold : Option LoggedRun → List MemberTurn → (dumps : RunDumps) → Type 0
IsRunTold None turns dumps = NoneOpen turns
IsRunTold (Some r) turns dumps = IsPartTold r.part turns r.start dumps

abbrev pub IsInStarted : Option LoggedRun → (start : ℕ) → Type 0
IsInStarted None start = ⊥
IsInStarted (Some r) start = (r.start ≡ start) × (r.part ≡ Started)

-- while the run is on whose start the logger accepted last, it has that run, and no stop of it
abbrev pub HasCurrentRun : Option LoggedRun → List MemberTurn → Type 0
HasCurrentRun run turns = (start : ℕ) → (begin : MemberTurn) → current_run turns ≡ Some start →
    IsAcceptedStart turns start begin → IsInStarted run start

-- none of these turns called off the run that the logger has
abbrev pub IsNotCalledOff : Option LoggedRun → List MemberTurn → Type 0
IsNotCalledOff run turns = (r : LoggedRun) → (turn : MemberTurn) → run ≡ Some r → HasTurn turns turn →
    turn.transition ≡ StartAbort → turn.order.start ≢ r.start

-- while the run goes on that the logger was told to start last, none of these turns ended it
abbrev pub IsStillGoing : Option LoggedRun → List MemberTurn → Type 0
IsStillGoing run turns = (r : LoggedRun) → run ≡ Some r → r.part ≡ Started → HasEndTurn turns r.start → ⊥

-- a run is on behind these turns: its start was accepted, and none of them ended it
pub record HasRunOn (turns : List MemberTurn) : Type 0 where
  pub start : ℕ
  pub begin : MemberTurn
  pub is_start : IsAcceptedStart turns start begin
  pub going : HasEndTurn turns start → ⊥

-- a start was refused as not ready only where a run was on behind the turns before it; the latest turn stands first
abbrev pub AreUnreadyInRuns : List MemberTurn → Type 0
AreUnreadyInRuns [] = ⊤
AreUnreadyInRuns (t ∷ ts) = (t.answer ≡ Some (No NotReady) → HasRunOn ts) × AreUnreadyInRuns ts

-- each answered stop of a run whose start was accepted told of channels
abbrev pub StopsTellEnds : List MemberTurn → Type 0
StopsTellEnds turns = (begin stop : MemberTurn) → (answer : Answer) → IsAcceptedStart turns stop.order.start begin →
    HasTurn turns stop →
    stop.transition ≡ Stop → stop.answer ≡ Some answer → (ends : List ChannelEnd) × (answer ≡ Yes (Channels ends))

-- the head of a run's files is that of its accepted start, and has the dump that the logger keeps of it
pub record IsHeadTold (turns : List MemberTurn) (dumps : RunDumps) (opened : ChannelRun) (head : FileHead) : Type 0 where
  pub has : HasHead turns opened.start head
  pub kept : head.dump ≡ unwrap_or dumps.start []

-- What the logger keeps between its calls, with its ports, its turns and the run files.
pub record LoggerHolds (run : Option LoggedRun) (dumps : RunDumps) (slots : List (Option Channel)) (ports : List Access) (turns : List MemberTurn) (seen : Seen) : Type 0 where
  pub standing : SlotsStand (IsHeadTold turns dumps) turns slots ports seen
  pub taken : (n : ℕ) → (c : Channel) → slot_at slots n ≡ Some c → KnowsTaken seen c.spec c.stage
  pub served : (n : ℕ) → (c : Channel) → slot_at slots n ≡ Some c → c.spec.buffer < length ports
  pub stages : (n : ℕ) → (c : Channel) → (a : Access) → slot_at slots n ≡ Some c →
      slice_get ports c.spec.buffer ≡ Some a →
      IsStageOf run turns a.own c.stage
  pub starts : (start : MemberTurn) → (answer : Answer) → HasTurn turns start → start.transition ≡ Start →
      start.answer ≡ Some answer → IsStartAnswer answer
  pub stops : AreEngineTurns turns → StopsTellEnds turns
  pub told : IsRunTold run turns dumps
  pub current : AreEngineTurns turns → HasCurrentRun run turns
  pub not_off : AreEngineTurns turns → IsNotCalledOff run turns
  pub going : AreEngineTurns turns → IsStillGoing run turns
  pub unready : AreEngineTurns turns → AreUnreadyInRuns turns

-- The logger marked pauses and resumes in a buffer only of runs that its calls there, the latest first, had left open; and they leave
-- open the run that goes on.
pub record MarksOpenRuns (run : Option LoggedRun) (calls : List BufferEntry) : Type 0 where
  pub marks : AreMarksInRuns calls
  pub goes_on : (start : ℕ) → IsInStarted run start → is_left_open calls start ≡ true

-- A logger between its calls: it keeps all that, and gives no buffer a cause to refuse a call of it; and in every buffer it called
-- for a mark of each pause and each resume of its runs, and for no other, while the run was open there.
pub record LoggerStands (run : Option LoggedRun) (dumps : RunDumps) (slots : List (Option Channel)) (ports : List Access) (turns : List MemberTurn) (seen : Seen) : Type 0 where
  pub holds : LoggerHolds run dumps slots ports turns seen
  pub asks : AsksFairly run slots ports turns
  pub marks : AreEngineTurns turns → MarksAsAsked ports turns
  pub in_runs : (buffer : ℕ) → (a : Access) → slice_get ports buffer ≡ Some a → MarksOpenRuns run (calls_after [] a.own)

-- It keeps the logger's contract, whatever numbers stand for clients that are not attached yet.
abbrev pub StandingLoggerKeeps : Type 0
StandingLoggerKeeps = (run : Option LoggedRun) → (dumps : RunDumps) → (slots : List (Option Channel)) →
    (ports : List Access) →
    (turns : List MemberTurn) → (seen : Seen) → (absent : ℕ → ℕ) → LoggerStands run dumps slots ports turns seen →
    KeepsLogger (logger_channels absent slots) (logger_ports ports) turns seen
