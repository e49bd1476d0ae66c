-- First parts of lists.
use Rattle.std.specs.Prelude.{◌≡◌, ℕ, zero, suc, ◌+◌, ◌≤◌, Bool, List, [], ◌∷◌, ◌++◌, map, take, drop, Some, refl}
use Rattle.std.specs.List.{filter, enumerate_from}
use mathlib.Core.List.{IsPrefix}
use Rattle.std.proofs.Common.{ap, sym, ◌∙◌, arith, append_assoc}
use Rattle.std.proofs.lemmas.List.{map-append}
use Rattle.std.proofs.lemmas.List.Elements.{filter-append}
use Rattle.event.specs.Events.{matches}
use Rattle.buffer_core.specs.Window.{Sent}
use Rattle.buffer_core.specs.Runs.{events_between}
use Rattle.buffer_core.specs.Readers.{wanted}
use Rattle.history_laws.specs.OneCaller.{events_in}

-- the one list is a first part of the other
pub record IsFirstPart {X : Type 0} (part whole : List X) : Type 0 where
  pub rest : List X
  pub is : whole ≡ part ++ rest

pub as_prefix : {X : Type 0} (part whole : List X) → IsFirstPart part whole → IsPrefix part whole
as_prefix part whole first = (first.rest, sym first.is)

pub of_prefix : {X : Type 0} (part whole : List X) → IsPrefix part whole → IsFirstPart part whole
of_prefix part whole first = record { rest = first.0; is = sym first.1 }

module _ {X : Type 0} where
  pub part_of_append : (xs ys : List X) → IsFirstPart xs (xs ++ ys)
  part_of_append xs ys = record { rest = ys; is = refl }

  pub part_of_part : (xs ys zs : List X) → IsFirstPart xs ys → IsFirstPart ys zs → IsFirstPart xs zs
  part_of_part xs ys zs first second =
      record { rest = first.rest ++ second.rest; is = second.is ∙ (ap (λ (l : List X). l ++ second.rest) first.is ∙ append_assoc xs first.rest second.rest) }

  more_head : (x : X) (xs ys : List X) → IsFirstPart xs ys → IsFirstPart (x ∷ xs) (x ∷ ys)
  more_head x xs ys first = record { rest = first.rest; is = ap (λ (l : List X). x ∷ l) first.is }

  pub taken_part : (n m : ℕ) (xs : List X) → n ≤ m → IsFirstPart (take n xs) (take m xs)
  taken_part zero m xs less = record { rest = take m xs; is = refl }
  taken_part (suc n) zero xs less = absurd (omega (arith, less))
  taken_part (suc n) (suc m) [] less = record { rest = []; is = refl }
  taken_part (suc n) (suc m) (x ∷ xs) less = more_head x (take n xs) (take m xs) (taken_part n m xs (omega (arith, less)))

  drop_append : (n : ℕ) (xs ys : List X) → IsFirstPart (drop n xs) (drop n (xs ++ ys))
  drop_append zero xs ys = part_of_append xs ys
  drop_append (suc n) [] ys = record { rest = drop (suc n) ys; is = refl }
  drop_append (suc n) (x ∷ xs) ys = drop_append n xs ys

  pub dropped_part : (n : ℕ) (xs ys : List X) → IsFirstPart xs ys → IsFirstPart (drop n xs) (drop n ys)
  dropped_part n xs ys first =
      let d : IsFirstPart (drop n xs) (drop n (xs ++ first.rest)) = drop_append n xs first.rest in
      record { rest = d.rest; is = ap (drop n) first.is ∙ d.is }

  enumerate_append : (n : ℕ) (xs ys : List X) → IsFirstPart (enumerate_from n xs) (enumerate_from n (xs ++ ys))
  enumerate_append n [] ys = record { rest = enumerate_from n ys; is = refl }
  enumerate_append n (x ∷ xs) ys =
      let e : IsFirstPart (enumerate_from (n + 1) xs) (enumerate_from (n + 1) (xs ++ ys)) = enumerate_append (n + 1) xs ys in
      record { rest = e.rest; is = ap (λ (l : List (ℕ × X)). (n, x) ∷ l) e.is }

  pub enumerated_part : (n : ℕ) (xs ys : List X) → IsFirstPart xs ys → IsFirstPart (enumerate_from n xs) (enumerate_from n ys)
  enumerated_part n xs ys first =
      let e : IsFirstPart (enumerate_from n xs) (enumerate_from n (xs ++ first.rest)) = enumerate_append n xs first.rest in
      record { rest = e.rest; is = ap (enumerate_from n) first.is ∙ e.is }

  pub filtered_part : (test : X → Bool) (xs ys : List X) → IsFirstPart xs ys → IsFirstPart (filter test xs) (filter test ys)
  filtered_part test xs ys first = record { rest = filter test first.rest; is = ap (filter test) first.is ∙ filter-append test xs first.rest }

pub mapped_part : {X Y : Type 0} (f : X → Y) (xs ys : List X) → IsFirstPart xs ys → IsFirstPart (map f xs) (map f ys)
mapped_part f xs ys first = record { rest = map f first.rest; is = ap (map f) first.is ∙ map-append f xs first.rest }

-- the wanted events up to a place are a first part of those up to a later one
pub wanted_part : (id mask from to later : ℕ) (ss : List Sent) → to ≤ later → IsFirstPart (events_in (wanted id mask (events_between (Some from) (Some to) ss))) (events_in (wanted id mask (events_between (Some from) (Some later) ss)))
wanted_part id mask from to later ss less =
    let first : List (ℕ × Sent) = events_between (Some from) (Some to) ss in
    let whole : List (ℕ × Sent) = events_between (Some from) (Some later) ss in
    mapped_part (λ (e : ℕ × Sent). e.1.event) (wanted id mask first) (wanted id mask whole)
    (filtered_part (λ (e : ℕ × Sent). matches id mask e.1.event) first whole
    (enumerated_part from (drop from (take to ss)) (drop from (take later ss))
    (dropped_part from (take to ss) (take later ss) (taken_part to later ss less))))
