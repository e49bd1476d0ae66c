use Rattle.std.proofs.Common.{◌≡◌, false, ℕ, List, Result, Ok, subst}
use Rattle.odb_tree.proofs.Placed.{create_inserts}
use Rattle.odb_tree.proofs.Kept.{created_with}
use Rattle.odb_tree.specs.declared.refusals.OdbRefusal.{OdbRefusal}
use Rattle.odb_tree.specs.Links.{through}
use Rattle.odb_tree.specs.Calls.{create_reply, new_value}
use Rattle.odb_tree.proofs.Led.{resolved_short}
use Rattle.odb_tree.proofs.laws.walk_after_create.Goals as goal

pub returns-clause-inserted : goal.returns-clause-inserted
returns-clause-inserted c = λ s p q kind number tree deep is h.
    (create_inserts s q kind number tree (resolved_short s p q false deep is) (subst (λ (r : Result (List (List ℕ)) OdbRefusal). through r (λ x. create_reply s x kind) ≡ Ok number) is h)).0

pub returns-clause-rows : goal.returns-clause-rows
returns-clause-rows c = λ s p kind. created_with s p (new_value kind)
