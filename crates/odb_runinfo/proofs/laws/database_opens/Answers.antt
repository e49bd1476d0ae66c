use Rattle.odb_tree.proofs.Sound.{database_replayed}
use Rattle.odb_runinfo.specs.RunKeys.{opened_rows}
use Rattle.odb_runinfo.proofs.Opens.{database_opens}
use Rattle.odb_runinfo.proofs.laws.database_opens.Goals as goal

pub returns-clause-opens : goal.returns-clause-opens
returns-clause-opens c = database_opens

pub returns-clause-stays : goal.returns-clause-stays
returns-clause-stays c = λ links history legal. database_replayed (opened_rows links) history (database_opens links) legal
