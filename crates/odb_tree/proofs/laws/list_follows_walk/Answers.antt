use Rattle.std.proofs.Common.{◌≡◌, ℕ, List, Result, Ok, subst}
use Rattle.odb_tree.specs.declared.refusals.OdbRefusal.{OdbRefusal}
use Rattle.odb_tree.specs.Links.{through}
use Rattle.odb_tree.specs.Calls.{list_reply}
use Rattle.odb_tree.proofs.EachRow.{short_rows}
use Rattle.odb_tree.proofs.Listed.{list_walks}
use Rattle.odb_tree.proofs.laws.list_follows_walk.Goals as goal

pub returns : goal.returns
returns c = λ s p q children h is reply.
    list_walks s q children h.tree (short_rows s.links s.rows h.rows) (subst (λ (r : Result (List (List ℕ)) OdbRefusal). through r (λ x. list_reply s x) ≡ Ok children) is reply)
