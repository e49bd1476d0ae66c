use Rattle.std.proofs.Common.{◌≡◌, length, map}
use Rattle.std.specs.Prelude.{List, Option}
use Rattle.daq_io.specs.Told.{FilesTold}
use Rattle.mid_logger.specs.declared.channel.Channel.{Channel}
use Rattle.loggers.specs.Moments.{InTurn}
use Rattle.loggers.specs.Turning.{ResumesBuffer}
use Rattle.loggers.proofs.marks.resume_all.Given as goal

abbrev pub invariant-loop-buffer : goal.invariant-loop-buffer
invariant-loop-buffer g l = record {
  marks : (slots : List (Option Channel)) → (files : FilesTold) → InTurn (λ buffer. ResumesBuffer l.start buffer) l.buffer (record { slots = slots; ports = map g.P.BufferPort.access l.fn.ports; files = files }) (record { slots = slots; ports = map g.P.BufferPort.access l.ports; files = files });
  count : length l.ports ≡ length l.fn.ports;
}
