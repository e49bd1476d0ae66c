use Rattle.odb_value.proofs.NameFaults.{good_name, bad_name}
use Rattle.odb_value.proofs.paths.read_name.Goals as goal

pub returns-in-Ok-clause-right : goal.returns-in-Ok-clause-right
returns-in-Ok-clause-right c = good_name c.args.place c.args.text.now c.in-Ok.ensures.is_name

pub returns-in-Err-BadByte-clause-refused : goal.returns-in-Err-BadByte-clause-refused
returns-in-Err-BadByte-clause-refused c = bad_name c.args.place c.in-Err-BadByte.at c.args.text.now (rw c.in-Err-BadByte.field-0-is at c.in-Err-BadByte.ensures.refused)
