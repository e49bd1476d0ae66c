use Rattle.odb_tree.proofs.Sound.{links_after, links_replayed, links_put}
use Rattle.odb_tree.proofs.laws.links_stay.Goals as goal

pub returns-clause-after : goal.returns-clause-after
returns-clause-after c = links_after

pub returns-clause-stays : goal.returns-clause-stays
returns-clause-stays c = links_replayed

pub returns-clause-put : goal.returns-clause-put
returns-clause-put c = links_put
