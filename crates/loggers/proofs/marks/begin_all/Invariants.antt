-- So far the run is begun in the buffers with lower numbers.
use Rattle.std.proofs.Common.{◌≡◌, length, map}
use Rattle.daq_io.specs.Seen.{Seen}
use Rattle.daq_io.specs.Told.{FilesTold}
use Rattle.loggers.specs.Moments.{IsLoggerReady}
use Rattle.loggers.specs.Turning.{BeginsBelow}
use Rattle.loggers.proofs.marks.begin_all.Given as goal

abbrev pub invariant-loop-buffer : goal.invariant-loop-buffer
invariant-loop-buffer g l = record {
  begins : (files : FilesTold) → BeginsBelow l.start l.buffer (record { slots = l.fn.slots; ports = map g.P.BufferPort.access l.fn.ports; files = files }) (record { slots = l.slots; ports = map g.P.BufferPort.access l.ports; files = files });
  ready : (seen : Seen) → IsLoggerReady l.fn.slots (map g.P.BufferPort.access l.fn.ports) seen → IsLoggerReady l.slots (map g.P.BufferPort.access l.ports) seen;
  count : length l.ports ≡ length l.fn.ports;
}
