-- Events are cut in one way.
use Rattle.std.specs.Prelude.{◌≡◌, ◌≢◌, ◌⊎◌, ◌<◌, ◌≤◌, ℕ, suc, ◌+◌, Bool, false, true, List, [], ◌∷◌, ◌++◌, length, refl}
use Rattle.std.proofs.Common.{arith, ap, sym, ◌∙◌, inl, inr, length-append}
use Rattle.std.proofs.lemmas.List.{append-nil}
use Rattle.daq_types.specs.declared.events.Event.{Event}
use Rattle.event.specs.Events.{encoding, all_encoded}
use Rattle.event.proofs.Events.{all_encoded-append}
use Rattle.sub_files.specs.Cuts.{last_number, events_of_pieces, FitsInFile, IsFull, MayBeLast, AreFull, IsCut}

-- One of two fronts of a list is the other one and more, or they are the same.
abbrev LongerBy : (p q : List Event) → (y : Event) → Type 0
LongerBy p q y = (r : List Event) × (p ≡ q ++ y ∷ r)

compare : (p q a b : List Event) (x y : Event) → p ++ x ∷ a ≡ q ++ y ∷ b → ((p ≡ q) × (x ∷ a ≡ y ∷ b)) ⊎ (LongerBy p q y ⊎ LongerBy q p x)
compare [] [] a b x y same = inl (refl, same)
compare [] (z ∷ q) a b x y same = let first : x ≡ z = cc in inr (inr (q, ap (λ (e : Event). e ∷ q) (sym first)))
compare (z ∷ p) [] a b x y same = let first : z ≡ y = cc in inr (inl (p, ap (λ (e : Event). e ∷ p) first))
compare (z ∷ p) (w ∷ q) a b x y same =
    let first : z ≡ w = cc in let rest : p ++ x ∷ a ≡ q ++ y ∷ b = cc in
    elim (compare p q a b x y rest) as (λ t. ((z ∷ p ≡ w ∷ q) × (x ∷ a ≡ y ∷ b)) ⊎ (LongerBy (z ∷ p) (w ∷ q) y ⊎ LongerBy (w ∷ q) (z ∷ p) x)) [
      | inl both ↦ inl (rw (first, both.0) refl, both.1)
      | inr longer ↦ elim longer as (λ t. ((z ∷ p ≡ w ∷ q) × (x ∷ a ≡ y ∷ b)) ⊎ (LongerBy (z ∷ p) (w ∷ q) y ⊎ LongerBy (w ∷ q) (z ∷ p) x)) [
        | inl left ↦ inr (inl (left.0, rw (first, left.1) refl))
        | inr right ↦ inr (inr (right.0, rw (← first, right.1) refl))
      ]
    ]

-- a full piece with its next event does not fit
not_longer : (limit head : ℕ) (p q : List Event) (y : Event) → IsFull limit head q y → LongerBy p q y → FitsInFile limit head p → ⊥
not_longer limit head p q y full longer fits =
    let r : List Event = longer.0 in
    let long : length p ≡ length q + suc (length r) = ap (λ (es : List Event). length es) longer.1 ∙ length-append q (y ∷ r) in
    let bytes : all_encoded p ≡ all_encoded q ++ (encoding y ++ all_encoded r) = ap (λ (es : List Event). all_encoded es) longer.1 ∙ all_encoded-append q (y ∷ r) in
    let size : length (all_encoded p) ≡ length (all_encoded q) + (length (encoding y) + length (all_encoded r)) =
    ap (λ (bs : List ℕ). length bs) bytes ∙ (length-append (all_encoded q) (encoding y ++ all_encoded r) ∙ ap (λ (n : ℕ). length (all_encoded q) + n) (length-append (encoding y) (all_encoded r))) in
    elim fits as (λ w. ⊥) [
      | inl one ↦ omega (arith, one, long, full.some)
      | inr within ↦ omega (arith, within, size, full.full)
    ]

-- the heads of two lists of pieces with the same events, both with more behind them
same_heads : (limit head : ℕ) (p q a b : List Event) (x y : Event) → IsFull limit head p x → IsFull limit head q y → p ++ x ∷ a ≡ q ++ y ∷ b → (p ≡ q) × (x ∷ a ≡ y ∷ b)
same_heads limit head p q a b x y left right same = elim (compare p q a b x y same) as (λ w. (p ≡ q) × (x ∷ a ≡ y ∷ b)) [
  | inl both ↦ both
  | inr longer ↦ elim longer as (λ w. (p ≡ q) × (x ∷ a ≡ y ∷ b)) [
    | inl more ↦ absurd (not_longer limit head p q y right more left.fits)
    | inr more ↦ absurd (not_longer limit head q p x left more right.fits)
  ]
]

cons_same : (p q : List Event) (ps qs : List (List Event)) → p ≡ q → ps ≡ qs → p ∷ ps ≡ q ∷ qs
cons_same p q ps qs e f = rw (e, f) refl

-- of as many pieces
same_pieces : (limit head number : ℕ) (taken other : Bool) (ps qs : List (List Event)) → AreFull limit head taken number ps → AreFull limit head other number qs → events_of_pieces ps ≡ events_of_pieces qs → length ps ≡ length qs → ps ≡ qs
same_pieces limit head number taken other [] qs full clear same many = absurd full
same_pieces limit head number taken other (p ∷ ps) [] full clear same many = absurd clear
same_pieces limit head number taken other (p ∷ []) (q ∷ []) full clear same many = cons_same p q [] [] (sym (append-nil p) ∙ (same ∙ append-nil q)) refl
same_pieces limit head number taken other (p ∷ []) (q ∷ (s ∷ qs)) full clear same many = absurd (omega (arith, many))
same_pieces limit head number taken other (p ∷ (s ∷ ps)) (q ∷ []) full clear same many = absurd (omega (arith, many))
same_pieces limit head number taken other (p ∷ ([] ∷ ps)) (q ∷ (s ∷ qs)) full clear same many = absurd full
same_pieces limit head number taken other (p ∷ ((x ∷ xs) ∷ ps)) (q ∷ ([] ∷ qs)) full clear same many = absurd clear
same_pieces limit head number taken other (p ∷ ((x ∷ xs) ∷ ps)) (q ∷ ((y ∷ ys) ∷ qs)) full clear same many =
    let heads = same_heads limit head p q (xs ++ events_of_pieces ps) (ys ++ events_of_pieces qs) x y full.0 clear.0 same in
    let fewer : length ((x ∷ xs) ∷ ps) ≡ length ((y ∷ ys) ∷ qs) = omega (arith, many) in
    cons_same p q ((x ∷ xs) ∷ ps) ((y ∷ ys) ∷ qs) heads.0 (same_pieces limit head (suc number) taken other ((x ∷ xs) ∷ ps) ((y ∷ ys) ∷ qs) full.1 clear.1 heads.1 fewer)

-- With a limit, two cuts of the same events into as many pieces are the same.
pub one_cut : (limit head : ℕ) (events : List Event) (taken other : Bool) (ps qs : List (List Event)) → limit ≢ 0 → IsCut limit head events taken ps → IsCut limit head events other qs → length ps ≡ length qs → ps ≡ qs
one_cut limit head events taken other ps qs some p q many = same_pieces limit head 0 taken other ps qs (p.limited some) (q.limited some) (p.joins ∙ sym q.joins) many

-- A last piece of a number below the greatest, where no name was found taken, is not more than a full one.
last_not_longer : (limit head number : ℕ) (p q a : List Event) (y : Event) → number < last_number → MayBeLast limit head false number p → IsFull limit head q y → p ≡ q ++ y ∷ a → ⊥
last_not_longer limit head number p q a y left last full same = elim last as (λ w. ⊥) [
  | inl fits ↦ not_longer limit head p q y full (a, same) fits
  | inr excuse ↦ elim excuse as (λ w. ⊥) [
    | inl greatest ↦ omega (arith, left, greatest)
    | inr taken ↦ let never : false ≡ true = taken in cc (never)
  ]
]

free_pieces : (limit head number : ℕ) (ps qs : List (List Event)) → number + length ps ≤ suc last_number → number + length qs ≤ suc last_number → AreFull limit head false number ps → AreFull limit head false number qs → events_of_pieces ps ≡ events_of_pieces qs → ps ≡ qs
free_pieces limit head number [] qs few scant full clear same = absurd full
free_pieces limit head number (p ∷ ps) [] few scant full clear same = absurd clear
free_pieces limit head number (p ∷ []) (q ∷ []) few scant full clear same = cons_same p q [] [] (sym (append-nil p) ∙ (same ∙ append-nil q)) refl
free_pieces limit head number (p ∷ []) (q ∷ ([] ∷ qs)) few scant full clear same = absurd clear
free_pieces limit head number (p ∷ []) (q ∷ ((y ∷ ys) ∷ qs)) few scant full clear same =
    absurd (last_not_longer limit head number p q (ys ++ events_of_pieces qs) y (omega (arith, scant)) full clear.0 (sym (append-nil p) ∙ same))
free_pieces limit head number (p ∷ ([] ∷ ps)) qs few scant full clear same = absurd full
free_pieces limit head number (p ∷ ((x ∷ xs) ∷ ps)) (q ∷ []) few scant full clear same =
    absurd (last_not_longer limit head number q p (xs ++ events_of_pieces ps) x (omega (arith, few)) clear full.0 (sym (append-nil q) ∙ sym same))
free_pieces limit head number (p ∷ ((x ∷ xs) ∷ ps)) (q ∷ ([] ∷ qs)) few scant full clear same = absurd clear
free_pieces limit head number (p ∷ ((x ∷ xs) ∷ ps)) (q ∷ ((y ∷ ys) ∷ qs)) few scant full clear same =
    let heads = same_heads limit head p q (xs ++ events_of_pieces ps) (ys ++ events_of_pieces qs) x y full.0 clear.0 same in
    cons_same p q ((x ∷ xs) ∷ ps) ((y ∷ ys) ∷ qs) heads.0
    (free_pieces limit head (suc number) ((x ∷ xs) ∷ ps) ((y ∷ ys) ∷ qs) (omega (arith, few)) (omega (arith, scant)) full.1 clear.1 heads.1)

-- Where no name was found taken, two cuts of the same events into at most 10,000 pieces each are the same.
pub one_free_cut : (limit head : ℕ) (events : List Event) (ps qs : List (List Event)) → limit ≢ 0 → length ps ≤ suc last_number → length qs ≤ suc last_number → IsCut limit head events false ps → IsCut limit head events false qs → ps ≡ qs
one_free_cut limit head events ps qs some few scant p q = free_pieces limit head 0 ps qs (omega (arith, few)) (omega (arith, scant)) (p.limited some) (q.limited some) (p.joins ∙ sym q.joins)
