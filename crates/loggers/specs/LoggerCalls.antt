-- What a logger keeps of its calls on its ports, whatever other callers do there.
use Rattle.std.specs.Prelude.{◌≡◌, ℕ, List, slice_get, Option, Some}
use Rattle.buffer_core.specs.Ports.{Access}
use Rattle.buffer_core.specs.Slots.{slot_at}
use Rattle.mid_logger.specs.declared.channel.Channel.{Channel}
use Rattle.mid_logger.specs.declared.stage.ChannelRun.{ChannelRun}
use Rattle.mid_logger.specs.Channels.{KeepsOwnCalls, IsOwnClient}
use Rattle.mid_logger.specs.ChannelTurns.{asking_run}

-- On its ports the logger sends nothing, and names only clients that its own attach there gave. The client of each channel is
-- such a one of the port of the channel's buffer, and it is that client whose request stands.
pub record KeepsLoggerCalls (slots : List (Option Channel)) (ports : List Access) : Type 0 where
  pub calls : (buffer : ℕ) → (a : Access) → slice_get ports buffer ≡ Some a → KeepsOwnCalls a.own
  pub clients : (n : ℕ) → (c : Channel) → (a : Access) → slot_at slots n ≡ Some c →
      slice_get ports c.spec.buffer ≡ Some a → IsOwnClient c.client a.own
  pub asking : (n : ℕ) → (c : Channel) → (opened : ChannelRun) → slot_at slots n ≡ Some c →
      asking_run c.stage ≡ Some opened → c.client ≡ Some opened.client
