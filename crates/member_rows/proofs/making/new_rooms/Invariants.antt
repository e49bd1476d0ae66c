use Rattle.member_rows.specs.LoggerRows.{AreRowRooms}
use Rattle.member_rows.proofs.making.new_rooms.Given as goal

abbrev pub invariant-loop-number : goal.invariant-loop-number
invariant-loop-number l = AreRowRooms l.number l.buffers l.rooms.items
