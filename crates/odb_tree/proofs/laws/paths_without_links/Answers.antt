use Rattle.odb_tree.proofs.Led.{no_link_row, led_nowhere}
use Rattle.odb_tree.proofs.laws.paths_without_links.Goals as goal

pub returns-clause-rows : goal.returns-clause-rows
returns-clause-rows c = λ s p r h none there. no_link_row s p r h.rows none there

pub returns-clause-paths : goal.returns-clause-paths
returns-clause-paths c = λ s p last h none. led_nowhere s.rows last 0 p (λ q r there. no_link_row s q r h.rows none there)
