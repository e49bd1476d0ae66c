use Rattle.ring_buffer.proofs.ReadRows.{sends_legal, sends_read, pushes_legal, receives_read, passes_legal, none_read}
use Rattle.ring_buffer.proofs.laws.reads_few.Goals as goal

pub returns : goal.returns
returns c =
    record {
      sends = sends_legal;
      drops = sends_read;
      pushes = pushes_legal;
      receives = receives_read;
      passes = passes_legal;
      finds_none = none_read;
    }
