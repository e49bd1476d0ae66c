use Rattle.std.proofs.Common.{refl}
use Rattle.frontend_kit.specs.BankHeads.{heads}
use Rattle.frontend_kit.proofs.generator.write_heads.Goals as goal

pub returns-clause-bytes : goal.returns-clause-bytes
unfolding heads
returns-clause-bytes c =
    rw (
      c.append-5.ensures.items,
      c.append-4.ensures.items,
      c.append-3.ensures.items,
      c.append-2.ensures.items,
      c.append.ensures.items,
      c.clear.ensures,
      c.to_le_bytes-4.ensures,
      c.to_le_bytes-3.ensures,
      c.to_le_bytes-2.ensures,
      c.to_le_bytes.ensures,
    ) refl
