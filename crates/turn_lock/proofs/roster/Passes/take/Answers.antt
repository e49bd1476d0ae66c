use Rattle.std.proofs.Common.{◌≡◌, ◌++◌, ◌∷◌, List, ℕ, map, sym, ap, ◌∙◌, None}
use Rattle.std.specs.Prelude.{All}
use Rattle.std.proofs.lemmas.List.{map-append}
use Rattle.std.proofs.lemmas.List.Elements.{All-same}
use Rattle.turn_lock.specs.declared.lock.Pass.{Pass}
use Rattle.turn_lock.specs.Passes.{number_of, held_by, IsOf}
use Rattle.turn_lock.specs.Roster.{IsFresh}
use Rattle.turn_lock.specs.Closing.{TakesOut}
use Rattle.turn_lock.proofs.Endings.{All_without}
use Rattle.turn_lock.proofs.roster.Passes.take.Goals as goal

-- what is taken out of a list of passes has its number taken out of theirs
out_of_numbers : {X : Type 0} → (f : X → ℕ) (xs ys : List X) (x : X) (n : ℕ) → TakesOut xs x ys → f x ≡ n → TakesOut (map f xs) n (map f ys)
out_of_numbers f xs ys x n out e = (
  map f out.0,
  map f out.1,
  ap (map f) out.2 ∙ map-append f out.0 (x ∷ out.1) ∙ ap (λ (m : ℕ). map f out.0 ++ m ∷ map f out.1) e,
  ap (map f) out.3 ∙ map-append f out.0 out.1,
)

-- what holds of each holds of the one, and of the others
both : {X : Type 0} → (P : X → Type 0) (xs ys : List X) (x : X) → TakesOut xs x ys → All P xs → P x × All P ys
both P xs ys x out all = let parts = All_without P out.0 x out.1 (All-same P _ _ (sym out.2) all) in
    (parts.0, All-same P _ _ out.3 parts.1)

pub returns-clause-numbers : goal.returns-clause-numbers
returns-clause-numbers g c = out_of_numbers number_of _ _ _ _ c.take_numbered.ensures.out c.take_numbered.ensures.number

pub returns-clause-own : goal.returns-clause-own
returns-clause-own g c = λ lock own. record {
  first = own.first;
  room = own.room;
  each = (both (IsOf lock) _ _ _ c.take_numbered.ensures.out own.each).1;
}

pub returns-clause-idle : goal.returns-clause-idle
returns-clause-idle g c =
    let P : Pass g.row.M.Denot g.row.M-State.Denot g.row.M-Entry.Denot g.M.Machine → Type 0 = λ p. held_by p ≡ None in
    λ idle. (both P _ _ _ c.take_numbered.ensures.out idle).1

pub returns-clause-fresh : goal.returns-clause-fresh
returns-clause-fresh g c =
    let P : Pass g.row.M.Denot g.row.M-State.Denot g.row.M-Entry.Denot g.M.Machine → Type 0 = IsFresh in
    λ fresh. (both P _ _ _ c.take_numbered.ensures.out fresh).1

pub returns-clause-taken_own : goal.returns-clause-taken_own
returns-clause-taken_own g c = λ lock own. (both (IsOf lock) _ _ _ c.take_numbered.ensures.out own.each).0

pub returns-clause-taken_idle : goal.returns-clause-taken_idle
returns-clause-taken_idle g c =
    let P : Pass g.row.M.Denot g.row.M-State.Denot g.row.M-Entry.Denot g.M.Machine → Type 0 = λ p. held_by p ≡ None in
    λ idle. (both P _ _ _ c.take_numbered.ensures.out idle).0

pub returns-clause-taken_fresh : goal.returns-clause-taken_fresh
returns-clause-taken_fresh g c =
    let P : Pass g.row.M.Denot g.row.M-State.Denot g.row.M-Entry.Denot g.M.Machine → Type 0 = IsFresh in
    λ fresh. (both P _ _ _ c.take_numbered.ensures.out fresh).0
