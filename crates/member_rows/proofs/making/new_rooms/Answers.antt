use Rattle.std.specs.Prelude.{ℕ, ◌-◌}
use Rattle.std.proofs.Common.{ap}
use Rattle.member_rows.proofs.RowSteps.{rooms_pushed}
use Rattle.member_rows.proofs.making.new_rooms.Goals as goal

pub loop-number-preserved : goal.loop-number-preserved
loop-number-preserved c =
    rw c.in_ok-push.ensures.items (rooms_pushed c.loop-number.number c.args.buffers c.loop-number.rooms.items (c.size_of.result - 24) c.loop-number.invariant (ap (λ (k : ℕ). k - 24) c.size_of.ensures.size))
