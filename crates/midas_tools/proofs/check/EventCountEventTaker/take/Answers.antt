use Rattle.std.proofs.Common.{arith}
use Rattle.event.specs.Headers.{event_of}
use Rattle.mid_format.proofs.AtHand.{encoded_more}
use Rattle.midas_tools.proofs.Summing.{count_within}
use Rattle.midas_tools.proofs.check.EventCountEventTaker.take.Goals as goal

pub overflow_add-self : goal.overflow_add-self
overflow_add-self c =
    let room = c.requires.room in
    omega (arith, room.taken, count_within room.events, encoded_more room.events (event_of c.args.header.now c.args.body.now), room.within)
