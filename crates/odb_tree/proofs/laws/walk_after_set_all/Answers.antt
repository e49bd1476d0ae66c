use Rattle.std.proofs.Common.{◌≡◌, true, ℕ, List, Some, Result, Ok, ap, ◌∙◌, subst}
use Rattle.odb_tree.proofs.Placed.{set_all_inserts}
use Rattle.odb_tree.proofs.Kept.{created_with}
use Rattle.odb_tree.specs.declared.refusals.OdbRefusal.{OdbRefusal}
use Rattle.odb_tree.specs.Links.{through}
use Rattle.odb_tree.specs.Calls.{set_all_reply, after_set_all_at}
use Rattle.odb_tree.proofs.Led.{resolved_short}
use Rattle.odb_tree.proofs.laws.walk_after_set_all.Goals as goal

pub returns-clause-inserted : goal.returns-clause-inserted
returns-clause-inserted c = λ s p q v number tree deep is h free.
    (set_all_inserts s q v number tree (resolved_short s p q true deep is) (subst (λ (r : Result (List (List ℕ)) OdbRefusal). through r (λ x. set_all_reply s x v) ≡ Ok number) is h) free).0

pub returns-clause-rows : goal.returns-clause-rows
returns-clause-rows c = λ s p v free. ap (after_set_all_at s p v) free ∙ created_with s p (Some v)
