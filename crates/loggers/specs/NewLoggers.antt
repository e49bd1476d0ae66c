-- A new logger.
use Rattle.std.specs.Prelude.{◌≡◌, ◌≢◌, ◌≤◌, ◌<◌, ◌-◌, ℕ, false, min, List, [], slice_get, length, Option, Some, None}
use Rattle.event.specs.Events.{event_limit}
use Rattle.event.specs.Held.{empty_buf}
use Rattle.buffer_core.specs.Ports.{Access}
use Rattle.buffer_core.specs.Slots.{slot_at}
use Rattle.mid_logger.specs.declared.channel.Channel.{Channel}
use Rattle.mid_logger.specs.declared.channel_spec.ChannelSpec.{ChannelSpec}
use Rattle.mid_logger.specs.declared.stage.ChannelStage.TheVariants.{Idle}
use Rattle.mid_logger.specs.Channels.{GivesEachOnce}
use Rattle.loggers.specs.Moments.{channel_limit}

-- the numbers of the channels are below their limit, and differ
pub record HaveNumbers (specs : List ChannelSpec) : Type 0 where
  pub below : (i : ℕ) → (s : ChannelSpec) → slice_get specs i ≡ Some s → s.number < channel_limit
  pub differ : (i j : ℕ) → (s t : ChannelSpec) → slice_get specs i ≡ Some s → slice_get specs j ≡ Some t → i ≢ j →
      s.number ≢ t.number

-- a channel that has no client and writes no run, with room for an event of so many bytes
abbrev pub new_channel : ChannelSpec → (room : ℕ) → Channel
new_channel spec room = record { spec = spec; client = None; stage = Idle; failed = false; event = empty_buf room }

-- this channel is that of the spec and the room at this place of their lists
pub record IsNewChannel (specs : List ChannelSpec) (rooms : List ℕ) (place : ℕ) (c : Channel) : Type 0 where
  pub spec : ChannelSpec
  pub room : ℕ
  pub has_spec : slice_get specs place ≡ Some spec
  pub has_room : slice_get rooms place ≡ Some room
  pub is : c ≡ new_channel spec room

-- Each spec has a channel at its number, and there are no others.
pub record HasNewChannels (specs : List ChannelSpec) (rooms : List ℕ) (slots : List (Option Channel)) : Type 0 where
  pub many : length slots ≡ channel_limit
  pub each : (place : ℕ) → (c : Channel) → IsNewChannel specs rooms place c → slot_at slots c.spec.number ≡ Some c
  pub only : (n : ℕ) → (c : Channel) → slot_at slots n ≡ Some c →
      (c.spec.number ≡ n) × ((place : ℕ) × IsNewChannel specs rooms place c)

-- no call was made on any of these ports
abbrev pub AreUnused : List Access → Type 0
AreUnused ports = (buffer : ℕ) → (a : Access) → slice_get ports buffer ≡ Some a → (a.own ≡ []) × (a.got ≡ [])

-- there is a port to the buffer of each spec
abbrev pub HavePorts : List ChannelSpec → (ports : List Access) → Type 0
HavePorts specs ports = (i : ℕ) → (s : ChannelSpec) → slice_get specs i ≡ Some s → s.buffer < length ports

-- at each place, the room is that of each event that the port of the spec's buffer may give, or more
abbrev pub HaveRooms : List ChannelSpec → (rooms : List ℕ) → (ports : List Access) → Type 0
HaveRooms specs rooms ports = (place room : ℕ) → (s : ChannelSpec) → (a : Access) →
    slice_get specs place ≡ Some s → slice_get rooms place ≡ Some room → slice_get ports s.buffer ≡ Some a →
    min event_limit (a.size - 24) ≤ room

-- No port gave the logger a client that it has. What was called stays called, so that behind the last call this says it of all
-- calls before.
abbrev pub GiveEachOnce : List Access → Type 0
GiveEachOnce ports = (buffer : ℕ) → (a : Access) → slice_get ports buffer ≡ Some a → GivesEachOnce a.own
