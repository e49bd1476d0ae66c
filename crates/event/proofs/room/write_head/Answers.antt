use Rattle.std.proofs.Common.{ℕ, length, ap, arith, rules, length-append}
use Rattle.std.proofs.lemmas.List.{with_items_is}
use Rattle.event.proofs.Lending.{written_front}
use Rattle.event.proofs.room.write_head.Goals as goal

pub returns-clause-front : goal.returns-clause-front
returns-clause-front c =
    written_front c.args.header.now _ c.copy_from_slice.new.self c.split_at_mut-front.result.1.now
    (with_items_is c.resize.new.self _
    (omega (
      arith,
      length-append c.copy_from_slice.new.self c.split_at_mut-front.result.1.now,
      length-append c.split_at_mut-front.result.0.now c.split_at_mut-front.result.1.now,
      c.copy_from_slice.ensures.len,
      ap (length {A = ℕ}) c.split_at_mut-front.ensures.value,
      c.as_mut_slice.ensures.len,
    )))
    (search rules)
