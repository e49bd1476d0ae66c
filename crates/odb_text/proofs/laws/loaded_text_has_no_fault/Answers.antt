use Rattle.odb_text.proofs.OneFault.{fault_not_loaded}
use Rattle.odb_text.proofs.laws.loaded_text_has_no_fault.Goals as goal

pub returns : goal.returns
returns c = fault_not_loaded
