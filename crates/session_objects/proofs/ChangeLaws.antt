-- Lists of which one item is changed.
use Rattle.std.proofs.Common.{◌≡◌, ◌≢◌, ◌⊎◌, ℕ, zero, suc, ◌<◌, List, [], ◌∷◌, ◌++◌, drop, inl, inr, ⊎_elim, length, set, get_or, sym, ap, ◌∙◌, refl, subst, arith}
use Rattle.std.proofs.lemmas.List.{length-set}
use Rattle.std.specs.Prelude.{slice_get, Option, Some}
use Rattle.std.proofs.lemmas.Option.{slice_get-get_or, slice_get_read, slice_get_within}
use mathlib.Core.Logic.{dite}
use native.Mathlib.Decide.{ℕ_discrete}
use Rattle.session_objects.specs.Rosters.{ChangesAt}

module _ {X : Type 0} where
  pub get_set_same : (xs : List X) (i : ℕ) (y : X) → i < length xs → slice_get (set xs i y) i ≡ Some y
  get_set_same [] i y l = absurd (omega arith)
  get_set_same (x ∷ xs) zero y l = refl
  get_set_same (x ∷ xs) (suc i) y l = get_set_same xs i y (omega arith)

  pub get_set_other : (xs : List X) (i j : ℕ) (y : X) → j ≢ i → slice_get (set xs i y) j ≡ slice_get xs j
  get_set_other [] i j y other = refl
  get_set_other (x ∷ xs) zero zero y other = absurd (other refl)
  get_set_other (x ∷ xs) zero (suc j) y other = refl
  get_set_other (x ∷ xs) (suc i) zero y other = refl
  get_set_other (x ∷ xs) (suc i) (suc j) y other = get_set_other xs i j y (λ e. other (ap suc e))

  pub some_same : (x y : X) → (let a : Option X = Some x in a) ≡ Some y → x ≡ y
  some_same x y e = cc

  -- one item is set
  pub sets_one : (Change : X → X → Type 0) (xs : List X) (i : ℕ) (y : X) → i < length xs →
      ((x : X) → slice_get xs i ≡ Some x → Change x y) → ChangesAt Change i xs (set xs i y)
  sets_one Change xs i y l change = record {
    many = length-set xs i y;
    there = λ x at. (y, get_set_same xs i y l, change x at);
    others = λ other apart. get_set_other xs i other y apart;
  }

  -- what held of each item before holds of each behind, if it holds of the one that is changed, and of the others still
  pub changed_keep : (Change : X → X → Type 0) (Held Holds : ℕ → X → Type 0) (number : ℕ) (before after : List X) →
      ChangesAt Change number before after →
      ((x y : X) → slice_get before number ≡ Some x → Held number x → Change x y → Holds number y) →
      ((other : ℕ) → (x : X) → other ≢ number → Held other x → Holds other x) →
      ((other : ℕ) → (x : X) → slice_get before other ≡ Some x → Held other x) →
      (other : ℕ) → (y : X) → slice_get after other ≡ Some y → Holds other y
  changed_keep Change Held Holds number before after c one rest held other y at = dite (ℕ_discrete other number)
      (λ e. here e)
      (λ apart. rest other y apart (held other y (sym (c.others other apart) ∙ at)))
    where
      here : other ≡ number → Holds other y
      here e =
          let P : ℕ → Type 0 = λ m. Holds m y in
          let Q : ℕ → Type 0 = λ m. slice_get after m ≡ Some y in
          let at_number : slice_get after number ≡ Some y = subst Q e at in
          let l : number < length after = slice_get_within after number y at_number in
          let m : length after ≡ length before = c.many in
          let there : slice_get before number ≡ Some (get_or before number y) = slice_get-get_or before number y (omega arith) in
          let changed = c.there (get_or before number y) there in
          let same : changed.0 ≡ y = some_same changed.0 y (sym changed.1 ∙ at_number) in
          let R : X → Type 0 = λ z. Holds number z in
          subst P (sym e) (subst R same (one (get_or before number y) changed.0 there (held number (get_or before number y) there) changed.2))

  -- an item of a list with one more behind is that one, or one of the list
  pub get_pushed : (xs : List X) (x y : X) (i : ℕ) → slice_get (xs ++ x ∷ []) i ≡ Some y →
      (slice_get xs i ≡ Some y) ⊎ ((i ≡ length xs) × (x ≡ y))
  get_pushed [] x y zero at = inr (refl, some_same x y at)
  get_pushed [] x y (suc i) at = absurd (cc)
  get_pushed (z ∷ xs) x y zero at = inl at
  get_pushed (z ∷ xs) x y (suc i) at = ⊎_elim (λ h. inl h) (λ h. inr (ap suc h.0, h.1)) (get_pushed xs x y i at)

  -- what holds of each item holds of each with one more behind, if it holds of that
  pub each_pushed : (Holds : ℕ → X → Type 0) (xs : List X) (x : X) →
      ((i : ℕ) → (y : X) → slice_get xs i ≡ Some y → Holds i y) → Holds (length xs) x →
      (i : ℕ) → (y : X) → slice_get (xs ++ x ∷ []) i ≡ Some y → Holds i y
  each_pushed Holds xs x each one i y at = ⊎_elim (λ h. each i y h)
      (λ h. let P : ℕ → Type 0 = λ m. Holds m y in let Q : X → Type 0 = λ z. Holds (length xs) z in subst P (sym h.0) (subst Q h.1 one))
      (get_pushed xs x y i at)

  pub there_below : (xs : List X) (i : ℕ) → i < length xs → (x : X) × (slice_get xs i ≡ Some x)
  there_below [] i l = absurd (omega arith)
  there_below (x ∷ xs) zero l = (x, refl)
  there_below (x ∷ xs) (suc i) l = there_below xs i (omega arith)

  -- what is first behind so many
  pub get_drop : (xs : List X) (n : ℕ) → slice_get (drop n xs) 0 ≡ slice_get xs n
  get_drop [] zero = refl
  get_drop [] (suc n) = refl
  get_drop (x ∷ xs) zero = refl
  get_drop (x ∷ xs) (suc n) = get_drop xs n

  pub drop_next : (xs : List X) (n : ℕ) → drop 1 (drop n xs) ≡ drop (suc n) xs
  drop_next [] zero = refl
  drop_next [] (suc n) = refl
  drop_next (x ∷ xs) zero = refl
  drop_next (x ∷ xs) (suc n) = drop_next xs n

module _ {X Y : Type 0} (Holds : X → Y → Type 0) where
  -- what holds of the items of two lists at each place holds with one more behind each, if it holds of these
  pub both_pushed : (xs : List X) (ys : List Y) (x : X) (y : Y) → length ys ≡ length xs →
      ((i : ℕ) → (a : X) → slice_get xs i ≡ Some a → (b : Y) → slice_get ys i ≡ Some b → Holds a b) → Holds x y →
      (i : ℕ) → (a : X) → slice_get (xs ++ x ∷ []) i ≡ Some a → (b : Y) → slice_get (ys ++ y ∷ []) i ≡ Some b → Holds a b
  both_pushed xs ys x y same each one i a at b there =
      ⊎_elim
      (λ h. ⊎_elim (λ k. each i a h b k)
      (λ k. absurd (let l : i < length xs = slice_get_within xs i a h in let m : i ≡ length ys = k.0 in omega arith))
      (get_pushed ys y b i there))
      (λ h. ⊎_elim
      (λ k. absurd (let l : i < length ys = slice_get_within ys i b k in let m : i ≡ length xs = h.0 in omega arith))
      (λ k. let P : X → Type 0 = λ z. Holds z b in let Q : Y → Type 0 = λ z. Holds x z in subst P h.1 (subst Q k.1 one))
      (get_pushed ys y b i there))
      (get_pushed xs x a i at)

-- the item that stands first behind so many, where it is removed
pub first_removed : {X : Type 0} → (all left : List X) (n : ℕ) (x : X) → left ≡ drop n all → 0 < length left → x ≡ get_or left 0 x →
    slice_get all n ≡ Some x
first_removed all left n x e l is = sym (get_drop all n) ∙ ap (λ xs. slice_get xs 0) (sym e) ∙ slice_get_read left (length left) 0 x refl l is

-- the items of a list with one more behind
pub get_before : {X : Type 0} → (xs : List X) (x y : X) (n : ℕ) → slice_get xs n ≡ Some y → slice_get (xs ++ x ∷ []) n ≡ Some y
get_before [] x y n at = absurd (cc (at))
get_before (z ∷ zs) x y zero at = at
get_before (z ∷ zs) x y (suc n) at = get_before zs x y n at

pub get_last : {X : Type 0} → (xs : List X) (x : X) → slice_get (xs ++ x ∷ []) (length xs) ≡ Some x
get_last [] x = refl
get_last (z ∷ zs) x = get_last zs x

-- the item between two parts of a list
pub get_seam : {X : Type 0} → (xs ys : List X) (x : X) → slice_get ((xs ++ x ∷ []) ++ ys) (length xs) ≡ Some x
get_seam [] ys x = refl
get_seam (z ∷ xs) ys x = get_seam xs ys x
