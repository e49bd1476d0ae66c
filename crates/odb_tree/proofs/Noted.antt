-- Watches note changes one after the other.
use Rattle.std.proofs.Common.{◌≡◌, List, [], ◌∷◌, ◌++◌, Option, Some, None, refl, ap, ◌∙◌}
use Rattle.odb_tree.specs.declared.notes.Watch.{Watch}
use Rattle.odb_tree.specs.Noting.{Change, with_change, noted_all, all_noted}

pub noted_append : (k : Watch) (cs ds : List Change) → noted_all k (cs ++ ds) ≡ noted_all (noted_all k cs) ds
noted_append k [] ds = refl
noted_append k (c ∷ cs) ds = noted_append (with_change k c) cs ds

pub none_noted : (xs : List (Option Watch)) → all_noted [] xs ≡ xs
none_noted [] = refl
none_noted (None ∷ xs) = ap (λ (l : List (Option Watch)). None ∷ l) (none_noted xs)
none_noted (Some k ∷ xs) = ap (λ (l : List (Option Watch)). Some k ∷ l) (none_noted xs)

pub all_noted_append : (xs : List (Option Watch)) (cs ds : List Change) → all_noted (cs ++ ds) xs ≡ all_noted ds (all_noted cs xs)
all_noted_append [] cs ds = refl
all_noted_append (None ∷ xs) cs ds = ap (λ (l : List (Option Watch)). None ∷ l) (all_noted_append xs cs ds)
all_noted_append (Some k ∷ xs) cs ds =
    ap (λ (w : Watch). Some w ∷ all_noted (cs ++ ds) xs) (noted_append k cs ds)
    ∙ ap (λ (l : List (Option Watch)). Some (noted_all (noted_all k cs) ds) ∷ l) (all_noted_append xs cs ds)
