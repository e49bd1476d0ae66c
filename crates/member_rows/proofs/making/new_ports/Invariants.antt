use Rattle.std.specs.Prelude.{map}
use Rattle.member_rows.specs.LoggerRows.{row_access, AreRowPorts}
use Rattle.member_rows.proofs.making.new_ports.Given as goal

abbrev pub invariant-loop-number : goal.invariant-loop-number
invariant-loop-number l = AreRowPorts l.number (map row_access l.ports)
