-- What a logger does at a turn, what it answers, and the run behind it.
use Rattle.std.specs.Prelude.{◌≡◌, ◌≤◌, ◌<◌, ◌==◌, ◌&&◌, ℕ, Bool, true, false, List, [], length, unwrap_or, Option, Some, None, IfSome, Result, Ok, Err, ◌⊎◌, ⊤}
use Rattle.daq_types.specs.declared.runs.Order.{Order}
use Rattle.daq_types.specs.declared.runs.Transition.{Transition}
use Rattle.daq_types.specs.declared.runs.Transition.TheVariants.{Start, Stop, Pause, Resume, StartAbort}
use Rattle.daq_types.specs.declared.runs.Why.{Why}
use Rattle.daq_types.specs.declared.runs.Why.TheVariants.{NotReady, BufferRefused}
use Rattle.event.specs.Events.{record_limit}
use Rattle.daq_io.specs.Told.{FilesTold}
use Rattle.buffer_core.specs.declared.replies.MarkRefusal.{MarkRefusal}
use Rattle.buffer_core.specs.declared.entry.BufferEntry.TheVariants.{Begin, Pause as PausesRun, Resume as ResumesRun, End}
use Rattle.buffer_core.specs.Ports.{Access}
use Rattle.buffer_core.specs.Slots.{slot_at}
use Rattle.member_model.specs.RunEngines.{Answer}
use Rattle.transitions.specs.declared.answers.Answer.TheVariants.{Yes, No}
use Rattle.transitions.specs.declared.answers.Tally.TheVariants.{Plain}
use Rattle.mid_logger.specs.declared.channel.Channel.{Channel}
use Rattle.mid_logger.specs.Channels.{stage_begun, stage_ended, place_marked}
use Rattle.loggers.specs.declared.logger.Logger.{Logger}
use Rattle.loggers.specs.declared.logged_run.LoggedRun.{LoggedRun}
use Rattle.loggers.specs.declared.logged_run.RunDumps.{RunDumps}
use Rattle.loggers.specs.declared.logged_run.RunPart.{RunPart}
use Rattle.loggers.specs.declared.logged_run.RunPart.TheVariants.{Refused, Started, Stopping}
use Rattle.loggers.specs.Moments.{LoggerMoment, moment_of, InTurn, StepsChannel, StepsAt, CallsBuffer, MarksBuffer, AreIdleChannels}
use Rattle.loggers.specs.ChannelSteps.{OpensChannel, AbortsChannel}

-- Marks.

-- The run is begun in the buffer of this number, and its channels read on from there.
abbrev pub BeginsBuffer : (start buffer : ℕ) → (a b : LoggerMoment) → Type 0
BeginsBuffer start buffer a b =
    (place : ℕ) × MarksBuffer (Begin start (Ok place)) (λ stage. stage_begun stage place) buffer a b

-- The buffer of this number refuses to begin the run.
abbrev pub RefusesBegin : (start buffer : ℕ) → (a b : LoggerMoment) → Type 0
RefusesBegin start buffer a b = (why : MarkRefusal) × CallsBuffer (Begin start (Err why)) buffer a b

-- The run is to be ended in the buffer of this number, and its channels note the reply.
abbrev pub EndsBuffer : (start buffer : ℕ) → (a b : LoggerMoment) → Type 0
EndsBuffer start buffer a b =
    (reply : Result ℕ MarkRefusal) ×
    MarksBuffer (End start reply) (λ stage. stage_ended stage (place_marked reply)) buffer a b

-- The run is paused in the buffer of this number, or that is refused.
abbrev pub PausesBuffer : (start buffer : ℕ) → (a b : LoggerMoment) → Type 0
PausesBuffer start buffer a b = (reply : Result ℕ MarkRefusal) × CallsBuffer (PausesRun start reply) buffer a b

-- The run is resumed in the buffer of this number, or that is refused.
abbrev pub ResumesBuffer : (start buffer : ℕ) → (a b : LoggerMoment) → Type 0
ResumesBuffer start buffer a b = (reply : Result ℕ MarkRefusal) × CallsBuffer (ResumesRun start reply) buffer a b

-- Turns.

-- no dump of a run is kept
abbrev pub no_dumps : RunDumps
no_dumps = record { start = None; stop = None }

-- each dump that is kept has room in a record
pub record DumpsFit (dumps : RunDumps) : Type 0 where
  pub start : IfSome dumps.start (λ bytes. length bytes ≤ record_limit)
  pub stop : IfSome dumps.stop (λ bytes. length bytes ≤ record_limit)

-- A turn with its answer; the run that the logger has, and the dumps of its start and its stop, before it and behind it; and the
-- moments.
pub record LoggerTurn : Type 0 where
  pub transition : Transition
  pub order : Order
  pub dump : Option (List ℕ)
  pub answer : Option Answer
  pub run : Option LoggedRun
  pub later_run : Option LoggedRun
  pub dumps : RunDumps
  pub later_dumps : RunDumps
  pub before : LoggerMoment
  pub after : LoggerMoment

-- a turn with its answer, by the logger, what it knows of its ports, and the run files, before it and behind it
abbrev pub logger_turned : {F : Type 0} → (read : F → FilesTold) → Transition → Order → (dump : Option (List ℕ)) →
    (answer : Option Answer) → (before after : Logger) → (ports later_ports : List Access) → (files later_files : F) → LoggerTurn
logger_turned read transition order dump answer before after ports later_ports files later_files = record {
  transition = transition;
  order = order;
  dump = dump;
  answer = answer;
  run = before.run;
  later_run = after.run;
  dumps = before.dumps;
  later_dumps = after.dumps;
  before = moment_of before.channels ports (read files);
  after = moment_of after.channels later_ports (read later_files);
}

-- the turn is answered at once, and nothing is done
pub record LeavesLogger (t : LoggerTurn) (answer : Answer) : Type 0 where
  pub answer_is : t.answer ≡ Some answer
  pub run : t.later_run ≡ t.run
  pub dumps : t.later_dumps ≡ t.dumps
  pub moment : t.after ≡ t.before

-- a run is on: its start was accepted, and its stop is not answered
abbrev pub is_run_on : Option LoggedRun → Bool
is_run_on None = false
is_run_on (Some r) = was_accepted r.part
  where
    was_accepted : RunPart → Bool
    was_accepted Refused = false
    was_accepted Started = true
    was_accepted (Stopping time) = true

-- while no run is on, every channel is idle
abbrev pub IsIdleOutside : Option LoggedRun → List (Option Channel) → Type 0
IsIdleOutside run slots = is_run_on run ≡ false → AreIdleChannels slots

-- the start with this number was accepted, and no stop of it has come
abbrev pub is_started : Option LoggedRun → (start : ℕ) → Bool
is_started None start = false
is_started (Some r) start = is_going_on r.part && (r.start == start)
  where
    is_going_on : RunPart → Bool
    is_going_on Refused = false
    is_going_on Started = true
    is_going_on (Stopping time) = false

-- the latest start has this number, and is not over
abbrev pub is_of_start : Option LoggedRun → (start : ℕ) → Bool
is_of_start None start = false
is_of_start (Some r) start = r.start == start

-- how many buffers, from the first on, are in the run that the logger has
abbrev pub buffers_begun : Option LoggedRun → ℕ
buffers_begun None = 0
buffers_begun (Some r) = r.begun

-- The start of a run.

-- each channel with a number below this opens the run
abbrev pub OpensBelow : Order → (dump : List ℕ) → (count : ℕ) → (a b : LoggerMoment) → Type 0
OpensBelow order dump count a b = InTurn (λ number. StepsAt (OpensChannel order dump (Ok tt)) number) count a b

-- the run is begun in each buffer with a number below this
abbrev pub BeginsBelow : (start count : ℕ) → (a b : LoggerMoment) → Type 0
BeginsBelow start count a b = InTurn (λ buffer. BeginsBuffer start buffer) count a b

-- each channel calls its run off
abbrev pub AbortsAll : (a b : LoggerMoment) → Type 0
AbortsAll a b = InTurn (λ number. StepsAt AbortsChannel number) (length a.slots) a b

-- The channels with lower numbers open the run, and this one refuses it.
pub record RefusesOpen (order : Order) (dump : List ℕ) (why : Why) (a b : LoggerMoment) : Type 0 where
  pub number : ℕ
  pub channel : Channel
  pub opened : LoggerMoment
  pub there : slot_at opened.slots number ≡ Some channel
  pub opens : OpensBelow order dump number a opened
  pub refuses : StepsChannel (OpensChannel order dump (Err why)) number channel opened b

-- The run is begun in so many buffers, and the next one refuses it.
pub record RefusesMark (start count : ℕ) (a b : LoggerMoment) : Type 0 where
  pub begun : LoggerMoment
  pub within : count < length a.ports
  pub begins : BeginsBelow start count a begun
  pub refuses : RefusesBegin start count begun b

-- Each channel, in order of number, opens the run; then it is begun in every buffer.
pub record StartsAll (order : Order) (dump : List ℕ) (begun : ℕ) (a b : LoggerMoment) : Type 0 where
  pub opened : LoggerMoment
  pub opens : OpensBelow order dump (length a.slots) a opened
  pub begins : BeginsBelow order.start (length a.ports) opened b
  pub all : begun ≡ length a.ports

-- A channel refuses to open the run, and then each calls it off.
pub record UndoesOpens (order : Order) (dump : List ℕ) (why : Why) (begun : ℕ) (a b : LoggerMoment) : Type 0 where
  pub refused : LoggerMoment
  pub opens : RefusesOpen order dump why a refused
  pub aborts : AbortsAll refused b
  pub none : begun ≡ 0

-- Each channel opens the run, but a buffer refuses to begin it; then each channel calls it off.
pub record UndoesBegins (order : Order) (dump : List ℕ) (why : Why) (begun : ℕ) (a b : LoggerMoment) : Type 0 where
  pub opened : LoggerMoment
  pub refused : LoggerMoment
  pub why_is : why ≡ BufferRefused
  pub opens : OpensBelow order dump (length a.slots) a opened
  pub begins : RefusesMark order.start begun opened refused
  pub aborts : AbortsAll refused b

-- a start with this result, which leaves the run begun in so many buffers
abbrev pub StartsSo : Result ⊤ Why → Order → (dump : List ℕ) → (begun : ℕ) → (a b : LoggerMoment) → Type 0
StartsSo (Ok done) order dump begun a b = StartsAll order dump begun a b
StartsSo (Err why) order dump begun a b = UndoesOpens order dump why begun a b ⊎ UndoesBegins order dump why begun a b

abbrev pub start_answer : Result ⊤ Why → Answer
start_answer (Ok done) = Yes Plain
start_answer (Err why) = No why

abbrev pub start_part : Result ⊤ Why → RunPart
start_part (Ok done) = Started
start_part (Err why) = Refused

-- the dumps that are kept behind a start with this dump and this result
abbrev pub start_dumps : Option (List ℕ) → Result ⊤ Why → RunDumps
start_dumps dump (Ok done) = record { start = dump; stop = None }
start_dumps dump (Err why) = no_dumps

-- A start while no run is on, and so every channel is idle.
pub record StartsLogger (t : LoggerTurn) : Type 0 where
  pub idle : AreIdleChannels t.before.slots
  pub result : Result ⊤ Why
  pub begun : ℕ
  pub answer_is : t.answer ≡ Some (start_answer result)
  pub starts : StartsSo result t.order (unwrap_or t.dump []) begun t.before t.after
  pub run : t.later_run ≡ Some (record { start = t.order.start; begun = begun; part = start_part result })
  pub dumps : t.later_dumps ≡ start_dumps t.dump result

-- A start is refused at once while a run is on.
abbrev pub TakesStart : (in_run : Bool) → LoggerTurn → Type 0
TakesStart true t = LeavesLogger t (No NotReady)
TakesStart false t = StartsLogger t

-- The other turns.

-- The run is to be ended in every buffer, and the turn is answered later.
pub record StopsLogger (t : LoggerTurn) : Type 0 where
  pub answer_is : t.answer ≡ None
  pub ends : InTurn (λ buffer. EndsBuffer t.order.start buffer) (length t.before.ports) t.before t.after
  pub run : t.later_run ≡ Some (record { start = t.order.start; begun = 0; part = Stopping t.order.time })
  pub dumps : t.later_dumps ≡ record t.dumps { stop = t.dump }

-- A mark is set in every buffer, or refused there.
pub record MarksAll (Mark : (start buffer : ℕ) → (a b : LoggerMoment) → Type 0) (t : LoggerTurn) : Type 0 where
  pub answer_is : t.answer ≡ Some (Yes Plain)
  pub marks : InTurn (λ buffer. Mark t.order.start buffer) (length t.before.ports) t.before t.after
  pub run : t.later_run ≡ t.run
  pub dumps : t.later_dumps ≡ t.dumps

-- The run is ended in the buffers that are in it, and then each channel calls it off.
pub record CallsRunOff (t : LoggerTurn) : Type 0 where
  pub answer_is : t.answer ≡ Some (Yes Plain)
  pub ended : LoggerMoment
  pub ends : InTurn (λ buffer. EndsBuffer t.order.start buffer) (buffers_begun t.run) t.before ended
  pub aborts : AbortsAll ended t.after
  pub run : t.later_run ≡ None
  pub dumps : t.later_dumps ≡ no_dumps

abbrev pub TakesStop : (is_of_run : Bool) → LoggerTurn → Type 0
TakesStop true t = StopsLogger t
TakesStop false t = LeavesLogger t (Yes Plain)

abbrev pub TakesMark : (Mark : (start buffer : ℕ) → (a b : LoggerMoment) → Type 0) → (is_of_run : Bool) → LoggerTurn →
    Type 0
TakesMark Mark true t = MarksAll Mark t
TakesMark Mark false t = LeavesLogger t (Yes Plain)

abbrev pub TakesAbort : (is_of_start : Bool) → LoggerTurn → Type 0
TakesAbort true t = CallsRunOff t
TakesAbort false t = LeavesLogger t (Yes Plain)

abbrev pub TakesTurnBy : Transition → LoggerTurn → Type 0
TakesTurnBy Start t = TakesStart (is_run_on t.run) t
TakesTurnBy Stop t = TakesStop (is_started t.run t.order.start) t
TakesTurnBy Pause t = TakesMark PausesBuffer (is_started t.run t.order.start) t
TakesTurnBy Resume t = TakesMark ResumesBuffer (is_started t.run t.order.start) t
TakesTurnBy StartAbort t = TakesAbort (is_of_start t.run t.order.start) t

-- What a turn does. A stop, a pause or a resume of another run than the one that was started, and a start-abort of
-- another start than the latest, do nothing.
abbrev pub TakesTurn : LoggerTurn → Type 0
TakesTurn t = TakesTurnBy t.transition t
