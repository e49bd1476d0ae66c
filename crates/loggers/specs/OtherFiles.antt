-- Which run files a logger touches: those of its channels in the runs that it was told to start. What the channels are
-- stays.
use Rattle.std.specs.Prelude.{◌≡◌, ◌≤◌, ℕ, List, length, map, Contains, Option, Some}
use Rattle.std.specs.Option.{option_map}
use Rattle.daq_types.specs.declared.runs.Transition.TheVariants.{Start}
use Rattle.daq_io.specs.Seen.{GoesOn, Seen}
use Rattle.buffer_core.specs.Slots.{slot_at}
use Rattle.mid_logger.specs.declared.channel.Channel.{Channel}
use Rattle.mid_logger.specs.declared.channel_spec.ChannelSpec.{ChannelSpec}
use Rattle.mid_logger.specs.declared.pulled.Pulled.{Pulled}
use Rattle.mid_logger.specs.declared.stage.ChannelRun.{ChannelRun}
use Rattle.sub_files.specs.Cuts.{last_number}
use Rattle.sub_files.specs.Patterns.{piece_name_by}
use Rattle.mid_logger.specs.Channels.{channel_run}
use Rattle.loggers.specs.Moments.{LoggerMoment, HaveFilesOpen, IsLoggerReady, channel_limit}
use Rattle.loggers.specs.SlotPulls.{PullsNumbered}
use Rattle.loggers.specs.Turning.{LoggerTurn, TakesTurn}
use Rattle.loggers.specs.Finishing.{LoggerFinish, FinishesLogger}

-- what the channels are, each at its number
abbrev pub specs_in : List (Option Channel) → List (Option ChannelSpec)
specs_in slots = map (option_map (λ c. c.spec)) slots

-- The channels of these slots are those that were declared, each at its number.
pub record AreDeclared (declared : List ChannelSpec) (slots : List (Option Channel)) : Type 0 where
  pub few : length slots ≤ channel_limit
  pub each : (number : ℕ) → (spec : ChannelSpec) → slot_at (specs_in slots) number ≡ Some spec →
      Contains declared spec × (spec.number ≡ number)
  pub all : (spec : ChannelSpec) → Contains declared spec → slot_at (specs_in slots) spec.number ≡ Some spec

-- the name is one that one of these channels gives to a file, of whatever number, in one of these runs
pub record IsRunName (specs : List (Option ChannelSpec)) (runs : List ℕ) (name : List ℕ) : Type 0 where
  pub number : ℕ
  pub spec : ChannelSpec
  pub there : slot_at specs number ≡ Some spec
  pub run : ℕ
  pub among : Contains runs run
  pub sub : ℕ
  pub few : sub ≤ last_number
  pub is : piece_name_by spec.pattern run sub ≡ name

-- the run that a channel writes, or broke off, is one of these
abbrev pub HaveRunsAmong : (runs : List ℕ) → List (Option Channel) → Type 0
HaveRunsAmong runs slots = (n : ℕ) → (c : Channel) → (opened : ChannelRun) → slot_at slots n ≡ Some c →
    channel_run c.stage ≡ Some opened → Contains runs opened.run

-- Each file of another name is as it was, and what was done before still stands.
pub record KeepsOtherFiles (specs : List (Option ChannelSpec)) (runs : List ℕ) (old new : Seen) : Type 0 where
  pub told : new.names ≡ old.names
  pub on : GoesOn old new
  pub others : (name : List ℕ) → (IsRunName specs runs name → ⊥) → new.at name ≡ old.at name

-- The channels are the same, their runs are among these, and at most their files in these runs changed.
pub record LeavesOtherFiles (runs : List ℕ) (slots later : List (Option Channel)) (old new : Seen) : Type 0 where
  pub specs : specs_in later ≡ specs_in slots
  pub held : HaveRunsAmong runs later
  pub files : KeepsOtherFiles (specs_in slots) runs old new

-- So it is with a turn of a logger that is ready, where the run is among these that it starts, if it is a start.
abbrev pub TurnsLeaveFiles : Type 0
TurnsLeaveFiles = (runs : List ℕ) → (t : LoggerTurn) → TakesTurn t →
    IsLoggerReady t.before.slots t.before.ports t.before.files.seen → HaveRunsAmong runs t.before.slots →
    (t.transition ≡ Start → Contains runs t.order.run) →
    LeavesOtherFiles runs t.before.slots t.after.slots t.before.files.seen t.after.files.seen

-- So it is with a pull, behind which the logger is ready as before;
abbrev pub PullsLeaveFiles : Type 0
PullsLeaveFiles = (runs : List ℕ) → (dump : List ℕ) → (number : ℕ) → (answer : Pulled) → (a b : LoggerMoment) →
    PullsNumbered dump number answer a b → IsLoggerReady a.slots a.ports a.files.seen → HaveRunsAmong runs a.slots →
    LeavesOtherFiles runs a.slots b.slots a.files.seen b.files.seen × IsLoggerReady b.slots b.ports b.files.seen

-- and with a call to finish.
abbrev pub FinishesLeaveFiles : Type 0
FinishesLeaveFiles = (runs : List ℕ) → (f : LoggerFinish) → FinishesLogger f → HaveFilesOpen f.slots f.files.seen →
    HaveRunsAmong runs f.slots → LeavesOtherFiles runs f.slots f.later_slots f.files.seen f.later_files.seen
