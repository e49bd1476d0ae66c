use Rattle.odb_tree.proofs.Sound.{database_begins, database_after, database_replayed, database_put}
use Rattle.odb_tree.proofs.laws.databases_stay.Goals as goal

pub returns-clause-begins : goal.returns-clause-begins
returns-clause-begins c = database_begins

pub returns-clause-after : goal.returns-clause-after
returns-clause-after c = database_after

pub returns-clause-stays : goal.returns-clause-stays
returns-clause-stays c = database_replayed

pub returns-clause-put : goal.returns-clause-put
returns-clause-put c = database_put
