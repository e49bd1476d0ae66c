use Rattle.odb_tree.proofs.Lasting.{set_memory, find_memory}
use Rattle.odb_tree.proofs.laws.links_alone_take_memory.Goals as goal

pub returns-clause-set : goal.returns-clause-set
returns-clause-set c = set_memory

pub returns-clause-find : goal.returns-clause-find
returns-clause-find c = find_memory
