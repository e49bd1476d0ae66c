-- So far the channels with lower numbers called their runs off.
use Rattle.std.proofs.Common.{◌≡◌, ◌<◌, ℕ, length, map}
use Rattle.std.specs.Prelude.{Some}
use Rattle.buffer_core.specs.Slots.{slot_at}
use Rattle.mid_logger.specs.declared.channel.Channel.{Channel}
use Rattle.mid_logger.specs.declared.stage.ChannelStage.TheVariants.{Idle}
use Rattle.loggers.specs.Moments.{moment_of, InTurn, StepsAt, IsLoggerReady}
use Rattle.loggers.specs.ChannelSteps.{AbortsChannel}
use Rattle.loggers.proofs.starting.abort_all.Given as goal

abbrev pub invariant-loop-number : goal.invariant-loop-number
invariant-loop-number g l = record {
  aborts : InTurn (λ number. StepsAt AbortsChannel number) l.number
      (moment_of l.fn.slots (map g.P.BufferPort.access l.fn.ports) (g.F.Files.told l.fn.files))
      (moment_of l.slots (map g.P.BufferPort.access l.ports) (g.F.Files.told l.files));
  ready : IsLoggerReady l.slots (map g.P.BufferPort.access l.ports) (g.F.Files.told l.files).seen;
  count : length l.ports ≡ length l.fn.ports;
  idle : (n : ℕ) → (c : Channel) → n < l.number → slot_at l.slots n ≡ Some c → c.stage ≡ Idle;
  many : length l.slots ≡ length l.fn.slots;
}
