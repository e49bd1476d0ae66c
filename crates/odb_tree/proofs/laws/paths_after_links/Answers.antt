use Rattle.odb_tree.proofs.Led.{resolved_nowhere, resolved_unmet, resolved_freed, resolved_path}
use Rattle.odb_tree.proofs.laws.paths_after_links.Goals as goal

pub returns-clause-same : goal.returns-clause-same
returns-clause-same c = resolved_nowhere

pub returns-clause-unmet : goal.returns-clause-unmet
returns-clause-unmet c = resolved_unmet

pub returns-clause-ends : goal.returns-clause-ends
returns-clause-ends c = resolved_freed

pub returns-clause-path : goal.returns-clause-path
returns-clause-path c = λ s p q last h. resolved_path s p q last h.rows
