-- What a pull of a logger's channel does, by the channel's number.
use Rattle.std.specs.Prelude.{◌≡◌, ◌-◌, ◌≤◌, ℕ, min, List, slice_get, Option, Some, None}
use Rattle.event.specs.Events.{event_limit}
use Rattle.buffer_core.specs.Ports.{Access}
use Rattle.buffer_core.specs.Slots.{slot_at}
use Rattle.mid_logger.specs.declared.channel.Channel.{Channel}
use Rattle.mid_logger.specs.declared.pulled.Pulled.{Pulled}
use Rattle.mid_logger.specs.declared.pulled.Pulled.TheVariants.{NoChannel}
use Rattle.loggers.specs.Moments.{LoggerMoment, StepsChannel}
use Rattle.loggers.specs.ChannelSteps.{PullsChannel}

-- the channel of this number, if there is one, has room for each event that the port of its buffer may give
abbrev pub HasEventRoom : (number : ℕ) → List (Option Channel) → List Access → Type 0
HasEventRoom number slots ports = (c : Channel) → (a : Access) → slot_at slots number ≡ Some c →
    slice_get ports c.spec.buffer ≡ Some a →
    min event_limit (a.size - 24) ≤ c.event.room

abbrev pub PullsSlot : (dump : List ℕ) → Option Channel → (number : ℕ) → Pulled → (a b : LoggerMoment) → Type 0
PullsSlot dump None number answer a b = (answer ≡ NoChannel) × (b ≡ a)
PullsSlot dump (Some c) number answer a b = StepsChannel (PullsChannel dump answer) number c a b

-- The channel of this number pulls once, on the port of its buffer, where the files of its run begin with this dump; where there is
-- none, nothing is done.
abbrev pub PullsNumbered : (dump : List ℕ) → (number : ℕ) → Pulled → (a b : LoggerMoment) → Type 0
PullsNumbered dump number answer a b = PullsSlot dump (slot_at a.slots number) number answer a b
