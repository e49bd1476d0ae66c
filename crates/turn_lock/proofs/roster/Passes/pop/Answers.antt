use Rattle.std.proofs.Common.{◌≡◌, ◌++◌, ◌∷◌, [], ℕ, List, Option, Some, None, map, ap, ◌∙◌}
use Rattle.std.specs.Option.{IfSome, option_to_list}
use Rattle.std.proofs.lemmas.List.{map-append}
use Rattle.std.proofs.lemmas.List.Elements.{All-pop}
use Rattle.turn_lock.specs.declared.lock.Turns.{Turns}
use Rattle.turn_lock.specs.declared.lock.Pass.{Pass}
use Rattle.turn_lock.specs.Passes.{number_of, held_by, IsOf}
use Rattle.turn_lock.specs.Roster.{ArePassesOf, AreIdle, AreFresh, IsFresh}
use Rattle.turn_lock.proofs.roster.Passes.pop.Goals as goal

module _ {X : Type 0} where
  last_popped : (r : Option X) (xs ys : List X) → xs ≡ ys ++ option_to_list r → IfSome r (λ x. xs ≡ ys ++ x ∷ [])
  last_popped None xs ys e = tt
  last_popped (Some x) xs ys e = e

  number_popped : (f : X → ℕ) (r : Option X) (xs ys : List X) → xs ≡ ys ++ option_to_list r → IfSome r (λ x. map f xs ≡ map f ys ++ f x ∷ [])
  number_popped f None xs ys e = tt
  number_popped f (Some x) xs ys e = ap (map f) e ∙ map-append f ys (x ∷ [])

  -- what each premise gives of the value
  each_of : {Q : Type 0} → (P : Q → X → Type 0) (r : Option X) → ((q : Q) → IfSome r (P q)) → IfSome r (λ x. (q : Q) → P q x)
  each_of P None h = tt
  each_of P (Some x) h = h

pub returns-clause-some : goal.returns-clause-some
returns-clause-some g c = last_popped _ _ _ c.pop.ensures.items

pub returns-clause-numbers : goal.returns-clause-numbers
returns-clause-numbers g c = number_popped number_of _ _ _ c.pop.ensures.items

pub returns-clause-own : goal.returns-clause-own
returns-clause-own g c = λ lock own. record {
  first = own.first;
  room = own.room;
  each = (All-pop (IsOf lock) _ _ _ c.pop.ensures.items own.each).0;
}

pub returns-clause-idle : goal.returns-clause-idle
returns-clause-idle g c =
    let P : Pass g.row.M.Denot g.row.M-State.Denot g.row.M-Entry.Denot g.M.Machine → Type 0 = λ p. held_by p ≡ None in
    λ idle. (All-pop P _ _ _ c.pop.ensures.items idle).0

pub returns-clause-fresh : goal.returns-clause-fresh
returns-clause-fresh g c =
    let P : Pass g.row.M.Denot g.row.M-State.Denot g.row.M-Entry.Denot g.M.Machine → Type 0 = IsFresh in
    λ fresh. (All-pop P _ _ _ c.pop.ensures.items fresh).0

pub returns-clause-taken_own : goal.returns-clause-taken_own
returns-clause-taken_own g c = each_of {Q = Turns g.row.M.Denot g.row.M-State.Denot g.row.M-Entry.Denot} (λ lock pass. ArePassesOf lock c.args.self.now → IsOf lock pass) c.pop.result
    (λ lock. each_of {Q = ArePassesOf lock c.args.self.now} (λ own. IsOf lock) c.pop.result (λ own. (All-pop (IsOf lock) _ _ _ c.pop.ensures.items own.each).1))

pub returns-clause-taken_idle : goal.returns-clause-taken_idle
returns-clause-taken_idle g c =
    let P : Pass g.row.M.Denot g.row.M-State.Denot g.row.M-Entry.Denot g.M.Machine → Type 0 = λ p. held_by p ≡ None in
    each_of {Q = AreIdle c.args.self.now} (λ idle. P) c.pop.result (λ idle. (All-pop P _ _ _ c.pop.ensures.items idle).1)

pub returns-clause-taken_fresh : goal.returns-clause-taken_fresh
returns-clause-taken_fresh g c =
    let P : Pass g.row.M.Denot g.row.M-State.Denot g.row.M-Entry.Denot g.M.Machine → Type 0 = IsFresh in
    each_of {Q = AreFresh c.args.self.now} (λ fresh. P) c.pop.result (λ fresh. (All-pop P _ _ _ c.pop.ensures.items fresh).1)
