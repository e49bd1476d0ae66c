-- Segments of runs as lists, and by their places.
use Rattle.std.specs.Prelude.{◌≡◌, ℕ, zero, suc, ◌+◌, ◌-◌, ◌<◌, ◌≤◌, List, [], ◌∷◌, length, take, drop, slice_get, Option, Some, None, unwrap_or, refl}
use Rattle.std.specs.List.{enumerate_from}
use Rattle.std.proofs.Common.{ap, sym, ◌∙◌, arith}
use Rattle.std.proofs.lemmas.Option.{some_pair_parts}
use Rattle.buffer_core.specs.Window.{Sent}
use Rattle.buffer_core.specs.Runs.{events_between}
use Rattle.buffer_core.proofs.Places.{get_drop, get_take, get_taken, get_within}

-- a place from the begin on and up to the end, if there is one
pub record IsBetween (begin end : Option ℕ) (place : ℕ) : Type 0 where
  pub from : ℕ
  pub is_begun : begin ≡ Some from
  pub behind : from ≤ place
  pub before : (to : ℕ) → end ≡ Some to → place < to

module _ {X : Type 0} where
  pub get_enumerated : (n : ℕ) (xs : List X) (i q : ℕ) (x : X) → q ≡ n + i → slice_get xs i ≡ Some x → slice_get (enumerate_from n xs) i ≡ Some (q, x)
  get_enumerated n [] i q x at_q e = absurd (cc)
  get_enumerated n (y ∷ ys) zero q x at_q e =
      let place_is : n ≡ q = omega (arith, at_q) in
      let same : y ≡ x = cc in
      ap (λ (m : ℕ). Some (m, y)) place_is ∙ ap (λ (z : X). Some (q, z)) same
  get_enumerated n (y ∷ ys) (suc i) q x at_q e = get_enumerated (n + 1) ys i q x (omega (arith, at_q)) e

  pub enumerated_is : (n : ℕ) (xs : List X) (i q : ℕ) (x : X) → slice_get (enumerate_from n xs) i ≡ Some (q, x) → (q ≡ n + i) × (slice_get xs i ≡ Some x)
  enumerated_is n [] i q x e = absurd (cc)
  enumerated_is n (y ∷ ys) zero q x e =
      let parts = some_pair_parts n q y x e in
      (omega (arith, parts.0), ap (λ (z : X). Some z) parts.1)
  enumerated_is n (y ∷ ys) (suc i) q x e = let rest = enumerated_is (n + 1) ys i q x e in (omega (arith, rest.0), rest.1)

below_end : (end : Option ℕ) (count place : ℕ) → ((to : ℕ) → end ≡ Some to → place < to) → place < count → place < unwrap_or end count
below_end None count place before within = within
below_end (Some to) count place before within = before to refl

end_above : (end : Option ℕ) (count place : ℕ) → place < unwrap_or end count → (to : ℕ) → end ≡ Some to → place < to
end_above None count place below to e = absurd (cc)
end_above (Some m) count place below to e = let same : m ≡ to = cc in omega (arith, same, below)

-- a place between the marks stands in the list
pub in_segment : (begin end : Option ℕ) (ss : List Sent) (place : ℕ) (s : Sent) → IsBetween begin end place → slice_get ss place ≡ Some s → (i : ℕ) × (slice_get (events_between begin end ss) i ≡ Some (place, s))
in_segment None end ss place s between is = absurd (cc (between.is_begun))
in_segment (Some from) end ss place s between is =
    let from_is : from ≡ between.from = cc (between.is_begun) in
    let to : ℕ = unwrap_or end (length ss) in
    let below : place < to = below_end end (length ss) place between.before (get_within ss place s is) in
    let place_is : place ≡ from + (place - from) = omega (arith, from_is, between.behind) in
    (place - from, get_enumerated from (drop from (take to ss)) (place - from) place s place_is (get_drop from (take to ss) (place - from) place place_is ∙ (get_take to ss place below ∙ is)))

-- and what stands in the list has its place between the marks
pub of_segment : (begin end : Option ℕ) (ss : List Sent) (i place : ℕ) (s : Sent) → slice_get (events_between begin end ss) i ≡ Some (place, s) → IsBetween begin end place × (slice_get ss place ≡ Some s)
of_segment None end ss i place s e = absurd (cc)
of_segment (Some from) end ss i place s e =
    let to : ℕ = unwrap_or end (length ss) in
    let parts = enumerated_is from (drop from (take to ss)) i place s e in
    let taken = get_taken to ss place s (sym (get_drop from (take to ss) i place parts.0) ∙ parts.1) in (
      record {
        from = from;
        is_begun = refl;
        behind = omega (arith, parts.0);
        before = end_above end (length ss) place taken.0;
      },
      taken.1,
    )
