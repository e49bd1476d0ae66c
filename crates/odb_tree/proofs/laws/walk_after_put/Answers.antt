use Rattle.std.proofs.Common.{Some, ap, ◌∙◌}
use Rattle.odb_tree.specs.Calls.{after_set_all_at}
use Rattle.odb_tree.proofs.Placed.{put_inserts}
use Rattle.odb_tree.proofs.Kept.{created_with}
use Rattle.odb_tree.proofs.laws.walk_after_put.Goals as goal

pub returns-clause-inserted : goal.returns-clause-inserted
returns-clause-inserted c = put_inserts

pub returns-clause-rows : goal.returns-clause-rows
returns-clause-rows c = λ s p v number free. ap (after_set_all_at s p v) free ∙ created_with s p (Some v)
