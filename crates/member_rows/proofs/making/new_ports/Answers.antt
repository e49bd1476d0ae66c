use Rattle.member_rows.specs.LoggerRows.{row_access}
use Rattle.member_rows.proofs.RowSteps.{port_pushed}
use Rattle.member_rows.proofs.making.new_ports.Goals as goal

pub loop-number-preserved : goal.loop-number-preserved
loop-number-preserved c =
    rw c.in_ok-try_push.ensures.pushed (port_pushed row_access c.loop-number.number c.loop-number.ports c.in_ok-new_port.field-0 c.loop-number.invariant c.in_ok-new_port.ensures)
