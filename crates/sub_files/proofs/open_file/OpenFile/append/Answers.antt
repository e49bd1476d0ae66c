use Rattle.std.proofs.Common.{refl}
use Rattle.sub_files.proofs.FileParts.{part_closed}
use Rattle.sub_files.proofs.open_file.OpenFile.append.Goals as goal

pub returns-in-Err-clause-fails : goal.returns-in-Err-clause-fails
returns-in-Err-clause-fails g c = record { closes = part_closed c.args.event.now c.in-Err.ensures.part c.close_behind.ensures.closes; fallen_is = refl }
