use Rattle.std.proofs.Common.{inr}
use Rattle.daq_io.proofs.SeenLaws.{Creates-Closes, Creates-Leaves}
use Rattle.odb_commands.proofs.writing.write_file.Goals as goal

pub returns-in-Ok-write_and_close-clause-written : goal.returns-in-Ok-write_and_close-clause-written
returns-in-Ok-write_and_close-clause-written g c = Creates-Closes c.in-Ok.ensures.made c.in-Ok-write_and_close.ensures.written

pub returns-in-Err-clause-written : goal.returns-in-Err-clause-written
returns-in-Err-clause-written g c = inr (c.in-Err.ensures.part.count, c.in-Err.ensures.part.state, Creates-Leaves c.in-Ok.ensures.made c.in-Err.ensures.part.leaves)
