-- How a ring keeps its bytes, and what it counts.
use Rattle.std.specs.Prelude.{◌≤◌, length}
use Rattle.ring_buffer.specs.declared.ring.Ring.TheInside.{Inside}
use Rattle.ring_buffer.specs.Rings.{CountedBytes, most_bytes}

abbrev pub counted_bytes : Inside → CountedBytes
counted_bytes r = record { bytes = r.bytes.items; reads = r.reads; bytes_read = r.bytes_read }

pub record IsRing (r : Inside) : Type 0 where
  pub some : 1 ≤ length r.bytes.items
  pub most : length r.bytes.items ≤ most_bytes
