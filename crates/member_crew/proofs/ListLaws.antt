-- Lists side by side, and lists that change or move place by place.
use Rattle.std.specs.Prelude.{◌≡◌, ℕ, zero, suc, ◌+◌, ◌<◌, ◌≤◌, List, [], ◌∷◌, ◌++◌, slice_get, slice_set, drop, length, Some, None, refl}
use Rattle.std.specs.List.{AllZip}
use Rattle.std.proofs.Common.{ap, sym, subst, ◌∙◌, arith, append_assoc, append-nil, length-append}
use Rattle.std.proofs.lemmas.Slice.Zip.{AllZip-long}
use Rattle.member_crew.specs.Turns.{ChangesPlace}

-- Side by side.

pub zip_stays : {X : Type 0} (R : X → X → Type 0) → ((x : X) → R x x) → (xs : List X) → AllZip R xs xs
zip_stays R stays_so [] = tt
zip_stays R stays_so (x ∷ xs) = (stays_so x, zip_stays R stays_so xs)

pub zip_follows : {X Y Z : Type 0} (R : X → Y → Type 0) (S : Y → Z → Type 0) (T : X → Z → Type 0) → ((x : X) (y : Y) (z : Z) → R x y → S y z → T x z) → (xs : List X) (ys : List Y) (zs : List Z)
    → AllZip R xs ys → AllZip S ys zs → AllZip T xs zs
zip_follows R S T follow [] [] [] first then_ = tt
zip_follows R S T follow [] [] (z ∷ zs) first then_ = then_
zip_follows R S T follow [] (y ∷ ys) zs first then_ = absurd first
zip_follows R S T follow (x ∷ xs) [] zs first then_ = absurd first
zip_follows R S T follow (x ∷ xs) (y ∷ ys) [] first then_ = then_
zip_follows R S T follow (x ∷ xs) (y ∷ ys) (z ∷ zs) first then_ = (follow x y z first.0 then_.0, zip_follows R S T follow xs ys zs first.1 then_.1)

-- what follows for each two follows for all
pub zip_then : {X Y : Type 0} (R S : X → Y → Type 0) → ((x : X) (y : Y) → R x y → S x y) → (xs : List X) (ys : List Y) → AllZip R xs ys → AllZip S xs ys
zip_then R S then_ [] [] all = tt
zip_then R S then_ [] (y ∷ ys) all = absurd all
zip_then R S then_ (x ∷ xs) [] all = absurd all
zip_then R S then_ (x ∷ xs) (y ∷ ys) all = (then_ x y all.0, zip_then R S then_ xs ys all.1)

-- the two at one place
pub zip_at : {X Y : Type 0} (R : X → Y → Type 0) → (xs : List X) (ys : List Y) (i : ℕ) (x : X) (y : Y) → AllZip R xs ys → slice_get xs i ≡ Some x → slice_get ys i ≡ Some y → R x y
zip_at R [] ys i x y all at is = absurd (cc (at))
zip_at R (w ∷ xs) [] i x y all at is = absurd all
zip_at {X = X} {Y = Y} R (w ∷ xs) (z ∷ ys) zero x y all at is =
    let left : w ≡ x = cc (at) in
    let right : z ≡ y = cc (is) in
    subst (λ (a : X). R a y) left (subst (λ (b : Y). R w b) right all.0)
zip_at R (w ∷ xs) (z ∷ ys) (suc i) x y all at is = zip_at R xs ys i x y all.1 at is

-- one more of each
zip_push : {X Y : Type 0} (R : X → Y → Type 0) (xs : List X) (ys : List Y) (x : X) (y : Y) → AllZip R xs ys → R x y → AllZip R (xs ++ x ∷ []) (ys ++ y ∷ [])
zip_push R [] [] x y all one = (one, tt)
zip_push R [] (z ∷ ys) x y all one = absurd all
zip_push R (w ∷ xs) [] x y all one = absurd all
zip_push R (w ∷ xs) (z ∷ ys) x y all one = (all.0, zip_push R xs ys x y all.1 one)

-- Place by place.

module _ {X : Type 0} (R : X → X → Type 0) where
  -- Each of those below this place changed so, and the others are as they were.
  abbrev pub ChangedBelow : (place : ℕ) (before after : List X) → Type 0
  ChangedBelow zero before after = after ≡ before
  ChangedBelow (suc n) [] after = after ≡ []
  ChangedBelow (suc n) (x ∷ xs) [] = ⊥
  ChangedBelow (suc n) (x ∷ xs) (y ∷ ys) = R x y × ChangedBelow n xs ys

  pub changed_count : (place : ℕ) (before after : List X) → ChangedBelow place before after → length after ≡ length before
  changed_count zero before after same = ap (λ (l : List X). length l) same
  changed_count (suc n) [] after none = ap (λ (l : List X). length l) none
  changed_count (suc n) (x ∷ xs) [] changed = absurd changed
  changed_count (suc n) (x ∷ xs) (y ∷ ys) changed = ap (λ (k : ℕ). suc k) (changed_count n xs ys changed.1)

  one_changed : (place : ℕ) (first before : List X) (was later : X) → ChangedBelow place first before → slice_get before place ≡ Some was → R was later
      → ChangedBelow (suc place) first (slice_set before place later)
  one_changed zero [] [] was later changed at one = absurd (cc (at))
  one_changed zero [] (y ∷ ys) was later changed at one = absurd (cc (changed))
  one_changed zero (x ∷ xs) [] was later changed at one = absurd (cc (changed))
  one_changed zero (x ∷ xs) (y ∷ ys) was later changed at one =
      let is : was ≡ x = cc (changed) in
      let rest : ys ≡ xs = cc (changed) in
      (subst (λ (w : X). R w later) is one, rest)
  one_changed (suc n) [] [] was later changed at one = absurd (cc (at))
  one_changed (suc n) [] (y ∷ ys) was later changed at one = absurd (cc (changed))
  one_changed (suc n) (x ∷ xs) [] was later changed at one = absurd changed
  one_changed (suc n) (x ∷ xs) (y ∷ ys) was later changed at one = (changed.0, one_changed n xs ys was later changed.1 at one)

  pub changed_below : (place : ℕ) (first before after : List X) → ChangedBelow place first before → ChangesPlace R place before after → ChangedBelow (suc place) first after
  changed_below place first before after changed at =
      subst (λ (l : List X). ChangedBelow (suc place) first l) (sym at.is) (one_changed place first before at.was at.later changed at.stands at.changes)

  pub all_changed : (place : ℕ) (before after : List X) → ChangedBelow place before after → length before ≤ place → AllZip R before after
  all_changed zero [] [] changed behind = tt
  all_changed zero [] (y ∷ ys) changed behind = absurd (cc (changed))
  all_changed zero (x ∷ xs) after changed behind = absurd (omega arith)
  all_changed (suc n) [] [] changed behind = tt
  all_changed (suc n) [] (y ∷ ys) changed behind = absurd (cc (changed))
  all_changed (suc n) (x ∷ xs) [] changed behind = absurd changed
  all_changed (suc n) (x ∷ xs) (y ∷ ys) changed behind = (changed.0, all_changed n xs ys changed.1 (omega arith))

-- One by one, from the list where they are to one where they are next.

-- the first one, taken off a list
pub first_off : {X : Type 0} (xs rest : List X) (x : X) → Some x ≡ slice_get xs 0 → rest ≡ drop 1 xs → xs ≡ x ∷ rest
first_off [] rest x at is = absurd (cc (at))
first_off {X = X} (y ∷ ys) rest x at is = let same : y ≡ x = cc (at) in ap (λ (z : X). z ∷ ys) same ∙ ap (λ (zs : List X). x ∷ zs) (sym is)

pub none_off : {X : Type 0} (xs : List X) → None ≡ slice_get xs 0 → xs ≡ []
none_off [] at = refl
none_off (x ∷ xs) at = absurd (cc (at))

pub first_counts : {X : Type 0} (xs : List X) (x : X) → Some x ≡ slice_get xs 0 → length xs ≡ 1 + length (drop 1 xs)
first_counts {X = X} xs x at = ap (λ (l : List X). length l) (first_off xs (drop 1 xs) x at refl) ∙ omega arith

module _ {X Y : Type 0} (R : X → Y → Type 0) where
  -- Of these those that aren't left were moved, each so.
  pub record Moved (all left : List X) (later : List Y) : Type 0 where
    pub gone : List X
    pub whole : all ≡ gone ++ left
    pub moved : AllZip R gone later

  pub none_moved : (all left : List X) (later : List Y) → left ≡ all → later ≡ [] → Moved all left later
  none_moved all left later here none = record {
    gone = [];
    whole = sym here;
    moved = subst (λ (l : List Y). AllZip R [] l) (sym none) tt;
  }

  pub one_moved : (all left rest : List X) (later more : List Y) (x : X) (y : Y) → Some x ≡ slice_get left 0 → rest ≡ drop 1 left → more ≡ later ++ y ∷ [] → Moved all left later → R x y
      → Moved all rest more
  one_moved all left rest later more x y at is pushed so_far one =
      let off : left ≡ x ∷ rest = first_off left rest x at is in
      record {
        gone = so_far.gone ++ x ∷ [];
        whole = so_far.whole ∙ (ap (λ (l : List X). so_far.gone ++ l) off ∙ sym (append_assoc so_far.gone (x ∷ []) rest));
        moved = subst (λ (l : List Y). AllZip R (so_far.gone ++ x ∷ []) l) (sym pushed) (zip_push R so_far.gone later x y so_far.moved one);
      }

  pub all_moved : (all left : List X) (later : List Y) → None ≡ slice_get left 0 → Moved all left later → AllZip R all later
  all_moved all left later none so_far =
      let whole : all ≡ so_far.gone = so_far.whole ∙ (ap (λ (l : List X). so_far.gone ++ l) (none_off left none) ∙ append-nil so_far.gone) in
      subst (λ (l : List X). AllZip R l later) (sym whole) so_far.moved

  pub moved_count : (all left : List X) (later : List Y) (x : X) → Moved all left later → Some x ≡ slice_get left 0 → length later < length all
  moved_count all left later x so_far at =
      let whole : length all ≡ length so_far.gone + length left = ap (λ (l : List X). length l) so_far.whole ∙ length-append so_far.gone left in
      let gone = AllZip-long R so_far.gone later so_far.moved in
      let some = first_counts left x at in
      omega (arith, whole, gone, some)
