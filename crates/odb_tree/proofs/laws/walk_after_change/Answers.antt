use Rattle.odb_tree.proofs.Changed.{walk_set, walk_set_all, walk_resize, one_row}
use Rattle.odb_tree.proofs.laws.walk_after_change.Goals as goal

pub returns-clause-apart : goal.returns-clause-apart
returns-clause-apart c = one_row

pub returns-clause-set : goal.returns-clause-set
returns-clause-set c = walk_set

pub returns-clause-set_all : goal.returns-clause-set_all
returns-clause-set_all c = walk_set_all

pub returns-clause-resize : goal.returns-clause-resize
returns-clause-resize c = walk_resize
