use Rattle.std.proofs.Common.{◌-◌, ◌%◌, length, arith, rules}
use Rattle.ring_buffer.proofs.Turns.{IsCut, IsPut, put_is, put_straight}
use Rattle.ring_buffer.proofs.ring.put_bytes.Goals as goal

pub returns-then-part-size : goal.returns-then-part-size
returns-then-part-size c =
    let is : IsPut c.args.bytes.now c.write_part.new.bytes c.args.off c.args.part.now =
    put_straight _ _ _ c.args.off (c.args.off % length c.args.bytes.now) (search rules) c.requires.some (omega (arith, c.requires.some)) c.write_part.ensures in
    record { written = is.reads; others = is.keeps; size = is.long }

pub returns : goal.returns
returns c =
    let cut : IsCut (length c.args.bytes.now) c.args.off (c.args.off % length c.args.bytes.now) (length c.args.bytes.now - c.args.off % length c.args.bytes.now) c.args.part.now c.split_at.result.0.now c.split_at.result.1.now =
    record {
      start_is = search rules;
      some = c.requires.some;
      fits = c.requires.fits;
      first_is = omega arith;
      front_is = c.split_at.ensures.front;
      back_is = c.split_at.ensures.back;
    } in
    let is : IsPut c.args.bytes.now c.write_part-3.new.bytes c.args.off c.args.part.now = put_is _ _ _ _ _ _ _ _ _ cut c.write_part-2.ensures c.write_part-3.ensures in
    record { written = is.reads; others = is.keeps; size = is.long }
