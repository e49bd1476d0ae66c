use Rattle.daq_io.proofs.SeenLaws.{Extends-writes, Writes-writes}
use Rattle.odb_commands.proofs.FileLaws.{closed_in_vain, closed_whole, part_closed, whole_closed}
use Rattle.odb_commands.proofs.writing.write_and_close.Goals as goal

pub returns-in-Ok-clause-written : goal.returns-in-Ok-clause-written
returns-in-Ok-clause-written g c = closed_whole c.close-closed.result (whole_closed c.in-Ok.ensures.written (c.close-closed.ensures.written (Extends-writes c.in-Ok.ensures.written)))

pub returns-in-Ok-clause-part : goal.returns-in-Ok-clause-part
returns-in-Ok-clause-part g c = closed_in_vain c.close-closed.result (whole_closed c.in-Ok.ensures.written (c.close-closed.ensures.written (Extends-writes c.in-Ok.ensures.written)))

pub returns-in-Err-clause-part : goal.returns-in-Err-clause-part
returns-in-Err-clause-part g c = part_closed c.in-Err.ensures.part (c.close-closed.ensures.written (Writes-writes c.in-Err.ensures.part.wrote))
