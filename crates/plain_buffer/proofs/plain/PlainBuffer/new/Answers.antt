use Rattle.std.proofs.Common.{rules}
use Rattle.plain_buffer.proofs.Stays.{window_new}
use Rattle.plain_buffer.proofs.plain.PlainBuffer.new.Goals as goal

pub invariant_of-result : goal.invariant_of-result
invariant_of-result c =
    record {
      kept = window_new c.args.size c.in_ok-rows.rows.items c.in_ok-bytes.bytes.items c.in_ok-clients.clients c.in_ok-rows.ensures.items c.in_ok-clients.ensures;
      whole = search rules;
      counted = search rules;
      small = search rules;
      fits = search rules;
      bounded = search rules;
      paid = search rules;
      spent = search rules;
      rows_room = search rules;
      bytes_room = search rules;
    }
