use Rattle.event.proofs.ReadBack.{read_back}
use Rattle.event.proofs.head.read_header.Goals as goal

pub returns-clause-read : goal.returns-clause-read
returns-clause-read c =
    read_back c.args.bytes.now _ _ _ _ _ c.if-bytes-lt-HEADER_BYTES.false (λ i. (c.type_inv.bytes i).fits) c.from_le_bytes.ensures c.from_le_bytes-2.ensures c.from_le_bytes-3.ensures c.from_le_bytes-4.ensures c.from_le_bytes-5.ensures
