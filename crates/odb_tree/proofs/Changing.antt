-- Changing the first row at a path.
use Rattle.std.proofs.Common.{◌≡◌, ℕ, zero, suc, ◌<◌, ◌≤◌, Bool, true, false, cond, ltb, List, [], ◌∷◌, length, get_or, set, Option, Some, None, position, refl, sym, ap, ◌∙◌, subst, arith}
use Rattle.std.specs.List.{position_or_len}
use Rattle.std.proofs.lemmas.Option.{cond_some}
use Rattle.std.proofs.lemmas.Bool.Decides.{nat_tests}
use Rattle.std.proofs.lemmas.List.Sums.{fails_before_first, passes_at_first}
use Rattle.odb_value.specs.Values.{HeldValue}
use Rattle.odb_value.specs.Paths.{same_path}
use Rattle.odb_tree.specs.declared.rows.Row.{Row}
use Rattle.odb_tree.specs.Rows.{row_at, change_row, change_at}

-- the first row that passes, at a place before which none does
change_there : (rows : List Row) (p : List (List ℕ)) (f : HeldValue → HeldValue) (k : ℕ) (d : Row) → k < length rows
    → ((i : ℕ) → i < k → same_path (get_or rows i d).path p ≡ false) → same_path (get_or rows k d).path p ≡ true
    → (change_at rows p f ≡ set rows k (change_row f (get_or rows k d))) × (row_at rows p ≡ Some (get_or rows k d))
change_there [] p f k d l before here = absurd (omega arith)
change_there (r ∷ rs) p f zero d l before here =
    (ap (λ (t : Bool). cond t (change_row f r ∷ rs) (r ∷ change_at rs p f)) here, ap (λ (t : Bool). cond t (Some r) (row_at rs p)) here)
change_there (r ∷ rs) p f (suc k) d l before here =
    let rest = change_there rs p f k d (omega arith) (λ i h. before (suc i) (omega arith)) here in
    let not_here : same_path r.path p ≡ false = before 0 (omega arith) in (
      ap (λ (t : Bool). cond t (change_row f r ∷ rs) (r ∷ change_at rs p f)) not_here ∙ ap (λ (xs : List Row). r ∷ xs) rest.0,
      ap (λ (t : Bool). cond t (Some r) (row_at rs p)) not_here ∙ rest.1,
    )

place_is : (rows : List Row) (p : List (List ℕ)) (k : ℕ) → position (λ (r : Row). same_path r.path p) rows ≡ Some k
    → (position_or_len (λ (r : Row). same_path r.path p) rows < length rows) × (position_or_len (λ (r : Row). same_path r.path p) rows ≡ k)
place_is rows p k h =
    let both = cond_some (ltb (position_or_len (λ (r : Row). same_path r.path p) rows) (length rows)) (position_or_len (λ (r : Row). same_path r.path p) rows) k h in
    (grind (arith, nat_tests, both.0), both.1)

-- the row at the place of the first row at the path
pub changed : (rows : List Row) (p : List (List ℕ)) (f : HeldValue → HeldValue) (k : ℕ) (r : Row) → position (λ (r : Row). same_path r.path p) rows ≡ Some k → r ≡ get_or rows k r
    → (change_at rows p f ≡ set rows k (change_row f r)) × (row_at rows p ≡ Some r)
changed rows p f k r h is =
    let at = place_is rows p k h in
    let there = change_there rows p f k r (omega (arith, at.0, at.1))
    (λ i l. fails_before_first (λ (x : Row). same_path x.path p) rows i r (omega (arith, at.1, l)))
    (subst (λ (n : ℕ). same_path (get_or rows n r).path p ≡ true) at.1 (passes_at_first (λ (x : Row). same_path x.path p) rows r at.0)) in
    (there.0 ∙ ap (λ (x : Row). set rows k (change_row f x)) (sym is), there.1 ∙ ap (λ (x : Row). Some x) (sym is))

not_at : (n m : ℕ) → cond (ltb n m) (Some n) None ≡ None → m ≤ n
not_at n m h = past (ltb n m) n m refl h
  where
    past : (t : Bool) (n m : ℕ) → ltb n m ≡ t → cond t (Some n) None ≡ None → m ≤ n
    past true n m e h = absurd (cc)
    past false n m e h = grind (arith, nat_tests)

unchanged_if : (rows : List Row) (p : List (List ℕ)) (f : HeldValue → HeldValue) (d : Row) → ((i : ℕ) → i < length rows → same_path (get_or rows i d).path p ≡ false) → change_at rows p f ≡ rows
unchanged_if [] p f d h = refl
unchanged_if (r ∷ rs) p f d h =
    ap (λ (t : Bool). cond t (change_row f r ∷ rs) (r ∷ change_at rs p f)) (h 0 (omega arith))
    ∙ ap (λ (xs : List Row). r ∷ xs) (unchanged_if rs p f d (λ i l. h (suc i) (omega arith)))

any_row : Row
any_row = record { number = 0; path = []; value = None }

-- without a row at the path nothing changes
pub unchanged : (rows : List Row) (p : List (List ℕ)) (f : HeldValue → HeldValue) → position (λ (r : Row). same_path r.path p) rows ≡ None → change_at rows p f ≡ rows
unchanged rows p f h =
    let long : length rows ≤ position_or_len (λ (r : Row). same_path r.path p) rows = not_at (position_or_len (λ (r : Row). same_path r.path p) rows) (length rows) h in
    unchanged_if rows p f any_row (λ i l. fails_before_first (λ (r : Row). same_path r.path p) rows i any_row (omega (arith, long, l)))

-- a new row in the place that was found
pub stored : (rows seen : List Row) (p : List (List ℕ)) (f : HeldValue → HeldValue) (found : Option ℕ) (k : ℕ) (r new : Row) → seen ≡ rows
    → found ≡ position (λ (r : Row). same_path r.path p) seen → found ≡ Some k → r ≡ get_or rows k r → new ≡ change_row f r → set rows k new ≡ change_at rows p f
stored rows seen p f found k r new same is at read written =
    ap (λ (x : Row). set rows k x) written
    ∙ sym (changed rows p f k r (ap (position (λ (r : Row). same_path r.path p)) (sym same) ∙ (sym is ∙ at)) read).0

-- the row that was found
pub found_at : (rows seen : List Row) (p : List (List ℕ)) (found : Option ℕ) (k : ℕ) (r : Row) → seen ≡ rows
    → found ≡ position (λ (r : Row). same_path r.path p) seen → found ≡ Some k → r ≡ get_or rows k r → row_at rows p ≡ Some r
found_at rows seen p found k r same is at read =
    (changed rows p (λ (v : HeldValue). v) k r (ap (position (λ (r : Row). same_path r.path p)) (sym same) ∙ (sym is ∙ at)) read).1

-- no row was found
pub kept : (rows seen : List Row) (p : List (List ℕ)) (f : HeldValue → HeldValue) (found : Option ℕ) → seen ≡ rows
    → found ≡ position (λ (r : Row). same_path r.path p) seen → ((k : ℕ) → found ≡ Some k → ⊥) → rows ≡ change_at rows p f
kept rows seen p f None same is none = sym (unchanged rows p f (ap (position (λ (r : Row). same_path r.path p)) (sym same) ∙ sym is))
kept rows seen p f (Some k) same is none = absurd (none k refl)
