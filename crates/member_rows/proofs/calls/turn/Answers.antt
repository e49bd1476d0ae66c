use Rattle.std.proofs.Common.{arith}
use Rattle.std.proofs.lemmas.List.{length-map}
use Rattle.member_rows.proofs.calls.turn.Goals as goal

pub returns : goal.returns
returns g c = record {
  row = record {
    ready = c.on_turn.ensures.ready;
    idle = c.on_turn.ensures.idle;
    begun = omega (arith, length-map c.on_turn.new.ports g.P.BufferPort.access, c.on_turn.ensures.begun);
    small = c.on_turn.ensures.small c.requires.row.small;
    room = c.on_turn.ensures.room c.requires.row.room;
  };
}
