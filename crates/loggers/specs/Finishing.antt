-- How a logger ends the files of a run that was stopped, and what it answers then.
use Rattle.std.specs.Prelude.{◌≡◌, ℕ, Bool, true, false, List, length, replicate, slice_set, Option, Some, None}
use Rattle.std.specs.List.{list_all}
use Rattle.daq_types.specs.declared.runs.ChannelEnd.{ChannelEnd}
use Rattle.daq_types.specs.declared.runs.ChannelState.TheVariants.{Idle as IsIdle}
use Rattle.daq_io.specs.Told.{FilesTold}
use Rattle.member_model.specs.RunEngines.{Answer}
use Rattle.transitions.specs.declared.answers.Answer.TheVariants.{Yes}
use Rattle.transitions.specs.declared.answers.Tally.TheVariants.{Channels}
use Rattle.buffer_core.specs.Slots.{slot_at}
use Rattle.mid_logger.specs.declared.channel.Channel.{Channel}
use Rattle.mid_logger.specs.declared.stage.ChannelStage.{ChannelStage}
use Rattle.mid_logger.specs.declared.stage.ChannelStage.TheVariants.{Drained, Broken}
use Rattle.loggers.specs.declared.logger.Logger.{Logger}
use Rattle.loggers.specs.declared.logged_run.LoggedRun.{LoggedRun}
use Rattle.loggers.specs.declared.logged_run.RunDumps.{RunDumps}
use Rattle.loggers.specs.declared.logged_run.RunPart.{RunPart}
use Rattle.loggers.specs.declared.logged_run.RunPart.TheVariants.{Stopping}
use Rattle.loggers.specs.Moments.{InTurn, channel_limit}
use Rattle.loggers.specs.Turning.{no_dumps}
use Rattle.loggers.specs.ChannelSteps.{EndsChannel}

-- the channel's client has read the run, or the channel broke off
abbrev pub is_settled_stage : ChannelStage → Bool
is_settled_stage (Drained run) = true
is_settled_stage (Broken run fallen) = true
is_settled_stage stage = false

abbrev pub is_settled_slot : Option Channel → Bool
is_settled_slot None = true
is_settled_slot (Some c) = is_settled_stage c.stage

-- the time of the stop that is not answered, if there is one
abbrev pub waiting_stop : Option LoggedRun → Option ℕ
waiting_stop None = None
waiting_stop (Some r) = stop_time r.part
  where
    stop_time : RunPart → Option ℕ
    stop_time (Stopping time) = Some time
    stop_time part = None

-- The channels, the files, and what is told of the channels, between two steps of an ending.
pub record EndingMoment : Type 0 where
  pub slots : List (Option Channel)
  pub files : FilesTold
  pub told : List ChannelEnd

abbrev pub ending_of : List (Option Channel) → FilesTold → (told : List ChannelEnd) → EndingMoment
ending_of slots files told = record { slots = slots; files = files; told = told }

-- The files of this channel, which has this number, are ended, and what became of them is told at its number.
pub record EndsNumbered (time : ℕ) (dump : Option (List ℕ)) (number : ℕ) (before : Channel) (a b : EndingMoment) : Type 0 where
  pub after : Channel
  pub told : ChannelEnd
  pub slots : b.slots ≡ slice_set a.slots number (Some after)
  pub at : b.told ≡ slice_set a.told number told
  pub ends : EndsChannel time dump told before after a.files b.files

abbrev pub EndsSlot : (time : ℕ) → (dump : Option (List ℕ)) → (number : ℕ) → Option Channel → (a b : EndingMoment) →
    Type 0
EndsSlot time dump number None a b = b ≡ a
EndsSlot time dump number (Some before) a b = EndsNumbered time dump number before a b

abbrev pub EndsSlotAt : (time : ℕ) → (dump : Option (List ℕ)) → (number : ℕ) → (a b : EndingMoment) → Type 0
EndsSlotAt time dump number a b = EndsSlot time dump number (slot_at a.slots number) a b

-- A call to finish: the run, the dump of its stop, the channels and the files, before it and behind it, and the answer.
pub record LoggerFinish : Type 0 where
  pub run : Option LoggedRun
  pub later_run : Option LoggedRun
  pub dumps : RunDumps
  pub later_dumps : RunDumps
  pub slots : List (Option Channel)
  pub later_slots : List (Option Channel)
  pub files : FilesTold
  pub later_files : FilesTold
  pub answer : Option Answer

-- a call to finish with its answer, by the logger and the run files before it and behind it
abbrev pub logger_finished : {F : Type 0} → (read : F → FilesTold) → (before after : Logger) → (files later_files : F) →
    (answer : Option Answer) → LoggerFinish
logger_finished read before after files later_files answer = record {
  run = before.run;
  later_run = after.run;
  dumps = before.dumps;
  later_dumps = after.dumps;
  slots = before.channels;
  later_slots = after.channels;
  files = read files;
  later_files = read later_files;
  answer = answer;
}

-- there is no answer yet, and nothing is done
pub record LeavesWaiting (f : LoggerFinish) : Type 0 where
  pub answer_is : f.answer ≡ None
  pub run : f.later_run ≡ f.run
  pub dumps : f.later_dumps ≡ f.dumps
  pub slots : f.later_slots ≡ f.slots
  pub files : f.later_files ≡ f.files

-- a channel that writes no run
abbrev pub idle_end : ChannelEnd
idle_end = record { state = IsIdle; files = 0; framed = 0 }

-- what is told before the first channel's files are ended
abbrev pub ends_idle : List ChannelEnd
ends_idle = replicate channel_limit idle_end

-- The files of each channel, in order of number, are ended at this time with this dump, and what became of them is told.
abbrev pub EndsSlots : (time : ℕ) → (dump : Option (List ℕ)) → (a b : EndingMoment) → Type 0
EndsSlots time dump a b = InTurn (λ number. EndsSlotAt time dump number) (length a.slots) a b

-- The files of each channel, in order of number, are ended at the time of the stop with its dump; the answer tells what became of
-- them.
pub record EndsFiles (f : LoggerFinish) (time : ℕ) : Type 0 where
  pub told : List ChannelEnd
  pub answer_is : f.answer ≡ Some (Yes (Channels told))
  pub ends : EndsSlots time f.dumps.stop (ending_of f.slots f.files ends_idle)
      (ending_of f.later_slots f.later_files told)
  pub run : f.later_run ≡ None
  pub dumps : f.later_dumps ≡ no_dumps

abbrev pub FinishesBy : (settled : Bool) → (stop : Option ℕ) → LoggerFinish → Type 0
FinishesBy settled None f = LeavesWaiting f
FinishesBy false (Some time) f = LeavesWaiting f
FinishesBy true (Some time) f = EndsFiles f time

-- The answer to the stop that waits is given once each channel has read the run or broke off.
abbrev pub FinishesLogger : LoggerFinish → Type 0
FinishesLogger f = FinishesBy (list_all is_settled_slot f.slots) (waiting_stop f.run) f
