use Rattle.member_rows.proofs.RowSteps.{specs_pushed}
use Rattle.member_rows.proofs.making.new_specs.Goals as goal

pub loop-number-preserved : goal.loop-number-preserved
loop-number-preserved c =
    rw c.in_ok-try_push.ensures.pushed (specs_pushed c.loop-number.number c.args.buffers c.loop-number.specs c.in_ok-spec_of.field-0 c.loop-number.invariant c.in_ok-spec_of.ensures.number c.in_ok-spec_of.ensures.buffer)
