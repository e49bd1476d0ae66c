use Rattle.std.proofs.Common.{Ok, sym}
use Rattle.event.specs.Headers.{event_of}
use Rattle.buffer_core.specs.declared.entry.BufferEntry.TheVariants.{Send}
use Rattle.buffer_core.proofs.WindowKept.{window_stays}
use Rattle.ring_buffer.proofs.calls.RingBufferEventBuffer.send.Goals as goal

pub put-requires : goal.put-requires
put-requires c = record { window = λ is n ok. window_stays c.args.self.now.window (Send c.args.header.now.data_size (event_of c.args.header.now c.args.body.now) (Ok n)) is (sym ok) }
