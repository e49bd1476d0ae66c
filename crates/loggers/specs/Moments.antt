-- A logger at a moment: its channels, what it knows of its ports, and the run files; and steps that follow one another.
use Rattle.std.specs.Prelude.{◌≡◌, ◌≢◌, ◌≤◌, ◌<◌, ◌==◌, ℕ, zero, suc, if◌then◌else◌, List, length, map, slice_get, slice_set, Option, Some, None}
use Rattle.std.specs.Option.{option_map}
use Rattle.daq_io.specs.Seen.{Seen}
use Rattle.daq_io.specs.Told.{FilesTold}
use Rattle.buffer_core.specs.declared.entry.BufferEntry.{BufferEntry}
use Rattle.buffer_core.specs.Ports.{Access, Calls}
use Rattle.buffer_core.specs.Slots.{slot_at}
use Rattle.mid_logger.specs.declared.channel.Channel.{Channel}
use Rattle.mid_logger.specs.declared.stage.ChannelRun.{ChannelRun}
use Rattle.mid_logger.specs.declared.stage.ChannelStage.{ChannelStage}
use Rattle.mid_logger.specs.declared.stage.ChannelStage.TheVariants.{Idle}
use Rattle.sub_files.specs.Cuts.{last_number}
use Rattle.mid_logger.specs.Channels.{IsLastOpen, written_run, files_by as files_made}

-- The channels, each at its number; the ports, each at its buffer's number; and the run files.
pub record LoggerMoment : Type 0 where
  pub slots : List (Option Channel)
  pub ports : List Access
  pub files : FilesTold

abbrev pub moment_of : List (Option Channel) → List Access → FilesTold → LoggerMoment
moment_of slots ports files = record { slots = slots; ports = ports; files = files }

-- The steps of the numbers from 0 on, so many, were done one after another.
abbrev pub InTurn : {M : Type 0} → (Step : ℕ → M → M → Type 0) → (count : ℕ) → (a b : M) → Type 0
InTurn Step zero a b = b ≡ a
InTurn {M} Step (suc n) a b = (m : M) × InTurn Step n a m × Step n m b

-- Steps of channels.

-- a channel, the port of its buffer, and the files, before a step and behind it
pub record ChannelStep : Type 0 where
  pub before : Channel
  pub after : Channel
  pub port : Access
  pub later_port : Access
  pub files : FilesTold
  pub later_files : FilesTold

-- every channel with another number stays, and no number is added
pub record LeavesOthers (number : ℕ) (before after : List (Option Channel)) : Type 0 where
  pub many : length after ≡ length before
  pub at : (n : ℕ) → n ≢ number → slot_at after n ≡ slot_at before n

-- This channel, which has this number, does such a step on the port of its buffer. The other channels and ports stay.
pub record StepsChannel (Step : ChannelStep → Type 0) (number : ℕ) (before : Channel) (a b : LoggerMoment) : Type 0 where
  pub after : Channel
  pub port : Access
  pub later_port : Access
  pub at_port : slice_get a.ports before.spec.buffer ≡ Some port
  pub slots : b.slots ≡ slice_set a.slots number (Some after)
  pub ports : b.ports ≡ slice_set a.ports before.spec.buffer later_port
  pub step : Step (record {
    before = before;
    after = after;
    port = port;
    later_port = later_port;
    files = a.files;
    later_files = b.files;
  })

abbrev pub StepsSlot : (Step : ChannelStep → Type 0) → (number : ℕ) → Option Channel → (a b : LoggerMoment) → Type 0
StepsSlot Step number None a b = b ≡ a
StepsSlot Step number (Some before) a b = StepsChannel Step number before a b

-- The channel of this number does such a step; where there is none, nothing is done.
abbrev pub StepsAt : (Step : ChannelStep → Type 0) → (number : ℕ) → (a b : LoggerMoment) → Type 0
StepsAt Step number a b = StepsSlot Step number (slot_at a.slots number) a b

-- Calls on buffers.

-- One call on the port of the buffer of this number. Nothing else is done.
pub record CallsBuffer (entry : BufferEntry) (buffer : ℕ) (a b : LoggerMoment) : Type 0 where
  pub port : Access
  pub later_port : Access
  pub at_port : slice_get a.ports buffer ≡ Some port
  pub called : Calls port later_port entry
  pub ports : b.ports ≡ slice_set a.ports buffer later_port
  pub slots : b.slots ≡ a.slots
  pub files : b.files ≡ a.files

-- the channel, where it reads the buffer of this number, once its stage has changed so
abbrev pub noted_channel : (note : ChannelStage → ChannelStage) → (buffer : ℕ) → Channel → Channel
noted_channel note buffer channel =
    if channel.spec.buffer == buffer then record channel { stage = note channel.stage } else channel

-- One call on the port of the buffer of this number, which each channel that reads it notes.
pub record MarksBuffer (entry : BufferEntry) (note : ChannelStage → ChannelStage) (buffer : ℕ) (a b : LoggerMoment) : Type 0 where
  pub marks : CallsBuffer entry buffer a (record b { slots = a.slots })
  pub noted : b.slots ≡ map (option_map (noted_channel note buffer)) a.slots

-- What the calls need.

-- how many channels a logger has at most: their numbers are those below
abbrev pub channel_limit : ℕ
channel_limit = 16

-- every channel is idle
abbrev pub AreIdleChannels : List (Option Channel) → Type 0
AreIdleChannels slots = (n : ℕ) → (c : Channel) → slot_at slots n ≡ Some c → c.stage ≡ Idle

-- two channels that write files write them under two numbers
abbrev pub HaveNumbersApart : (written other : Option ChannelRun) → Type 0
HaveNumbersApart written other = (r s : ChannelRun) → written ≡ Some r → other ≡ Some s → r.at.file ≢ s.at.file

-- The last file that each channel writes, if it does, is in use for writing, under its name and a number of its own.
pub record HaveFilesOpen (slots : List (Option Channel)) (seen : Seen) : Type 0 where
  pub files : (n : ℕ) → (c : Channel) → slot_at slots n ≡ Some c → IsLastOpen seen c.spec (written_run c.stage)
  pub numbers : (n m : ℕ) → (c d : Channel) → n ≢ m → slot_at slots n ≡ Some c → slot_at slots m ≡ Some d →
      HaveNumbersApart (written_run c.stage) (written_run d.stage)

-- The channels are not too many, none has made more files of its run than there may be, there is a port to the buffer of each, and
-- their last files are open.
pub record IsLoggerReady (slots : List (Option Channel)) (ports : List Access) (seen : Seen) : Type 0 where
  pub many : length slots ≤ channel_limit
  pub few : (n : ℕ) → (c : Channel) → slot_at slots n ≡ Some c → files_made c.stage ≤ suc last_number
  pub served : (n : ℕ) → (c : Channel) → slot_at slots n ≡ Some c → c.spec.buffer < length ports
  pub files : HaveFilesOpen slots seen

-- the same caller's access to the same buffer, of the same size
abbrev pub IsSameAccess : (a b : Access) → Type 0
IsSameAccess a b = (b.buffer ≡ a.buffer) × (b.caller ≡ a.caller) × (b.size ≡ a.size)

-- There are as many ports, and they lead to the same buffers, and are the same callers'.
pub record AreSamePorts (before after : List Access) : Type 0 where
  pub many : length after ≡ length before
  pub there : (buffer : ℕ) → (b : Access) → slice_get after buffer ≡ Some b →
      (a : Access) × (slice_get before buffer ≡ Some a)
  pub same : (buffer : ℕ) → (a b : Access) → slice_get before buffer ≡ Some a → slice_get after buffer ≡ Some b →
      IsSameAccess a b
