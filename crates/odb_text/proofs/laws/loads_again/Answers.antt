use Rattle.odb_text.proofs.DumpLoads.{loads_again, always_remade}
use Rattle.odb_text.proofs.laws.loads_again.Goals as goal

pub returns-clause-steps : goal.returns-clause-steps
returns-clause-steps c = loads_again

pub returns-clause-remade : goal.returns-clause-remade
returns-clause-remade c = always_remade
