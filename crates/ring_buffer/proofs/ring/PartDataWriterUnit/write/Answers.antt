use Rattle.std.proofs.Common.{ℕ, ap, ◌∙◌, arith}
use Rattle.ring_buffer.specs.Rings.{bytes_at}
use Rattle.ring_buffer.proofs.RingLaws.{length-bytes_at}
use Rattle.ring_buffer.proofs.ring.PartDataWriterUnit.write.Goals as goal

pub get_bytes-requires-clause-fits : goal.get_bytes-requires-clause-fits
get_bytes-requires-clause-fits c = omega (arith, c.requires, length-bytes_at c.args.self.now.bytes.now c.args.self.now.off c.args.self.now.count, c.args.self.now.fits)

pub returns-clause-written : goal.returns-clause-written
returns-clause-written c =
    c.get_bytes.ensures
    ∙ ap (λ (n : ℕ). bytes_at c.args.self.now.bytes.now c.args.self.now.off n) (c.requires ∙ length-bytes_at c.args.self.now.bytes.now c.args.self.now.off c.args.self.now.count)
