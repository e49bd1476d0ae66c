-- A logger with its ports and files between two calls of a row.
use Rattle.std.specs.Prelude.{◌≡◌, ◌≤◌, ◌==◌, ◌-◌, ◌%◌, ℕ, if◌then◌else◌, List, length, slice_get, Some}
use Rattle.daq_io.specs.Seen.{Seen}
use Rattle.buffer_core.specs.Ports.{Access}
use Rattle.buffer_core.specs.Window.{Window}
use Rattle.plain_buffer.specs.declared.owning.OwningPort.{OwningPort}
use Rattle.plain_buffer.specs.OwningPorts.{owned_access}
use Rattle.mid_logger.specs.declared.channel_spec.ChannelSpec.{ChannelSpec}
use Rattle.loggers.specs.declared.logger.Logger.{Logger}
use Rattle.loggers.specs.Moments.{IsLoggerReady}
use Rattle.loggers.specs.SlotPulls.{HasEventRoom}
use Rattle.loggers.specs.Turning.{IsIdleOutside, buffers_begun, DumpsFit}

-- what a port of the rows tells
abbrev pub row_access : {g : _} → OwningPort Window g → Access
row_access port = owned_access (λ window. window) port

-- what the calls of the logger need
pub record IsRowReady (logger : Logger) (ports : List Access) (seen : Seen) : Type 0 where
  pub ready : IsLoggerReady logger.channels ports seen
  pub idle : IsIdleOutside logger.run logger.channels
  pub begun : buffers_begun logger.run ≤ length ports
  pub small : DumpsFit logger.dumps
  pub room : (number : ℕ) → HasEventRoom number logger.channels ports

-- the size in bytes of the buffer of this number: the first is the largest
abbrev pub row_size : (number : ℕ) → ℕ
row_size number = if number == 0 then 1024 else 256

-- so many ports to buffers of these sizes
pub record AreRowPorts (count : ℕ) (ports : List Access) : Type 0 where
  pub many : length ports ≡ count
  pub sizes : (n : ℕ) → (p : Access) → slice_get ports n ≡ Some p → p.size ≡ row_size n

-- the ports lead to buffers of the same sizes
pub record HaveSameSizes (before after : List Access) : Type 0 where
  pub many : length after ≡ length before
  pub each : (n : ℕ) → (p q : Access) → slice_get before n ≡ Some p →
      slice_get after n ≡ Some q → q.size ≡ p.size

-- So many specs, each with its place as its number. They read the buffers, which are so many, by turns.
pub record AreRowSpecs (count buffers : ℕ) (specs : List ChannelSpec) : Type 0 where
  pub many : length specs ≡ count
  pub each : (i : ℕ) → (s : ChannelSpec) → slice_get specs i ≡ Some s →
      (s.number ≡ i) × (s.buffer ≡ i % buffers)

-- so many rooms, each for the largest event of the buffer that the channel of its place reads
pub record AreRowRooms (count buffers : ℕ) (rooms : List ℕ) : Type 0 where
  pub many : length rooms ≡ count
  pub each : (i room : ℕ) → slice_get rooms i ≡ Some room → room ≡ row_size (i % buffers) - 24
