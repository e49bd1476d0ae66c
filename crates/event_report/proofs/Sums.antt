-- The figures of integers: what those of two lists are together, and what a bank's bytes give item by item.
use Rattle.std.proofs.Common.{◌≡◌, ℕ, suc, ◌+◌, ◌-◌, ◌/◌, ◌<◌, ◌≤◌, List, [], ◌∷◌, ◌++◌, length, drop, fold, ℤ, pos, ◌+ℤ◌, refl, sym, ap, subst, ◌∙◌, arith, Some, length-append, length-drop, append_assoc}
use Rattle.std.specs.Int.{int_min, int_max}
use Rattle.std.proofs.Math.IntN.{+ℤ_assoc, +ℤ_idl}
use Rattle.std.proofs.lemmas.Int.{ints, clamps}
use Rattle.std.proofs.lemmas.List.Sums.{fold-append}
use Rattle.std.proofs.lemmas.List.{append-nil}
use Rattle.event_report.specs.declared.integers.IntegerType.{IntegerType}
use Rattle.event_report.specs.declared.integers.IntegerType.TheVariants.{UInt8, Int8, UInt16, Int16, UInt32, Int32, Int64, UInt64}
use Rattle.event_report.specs.declared.rows.Figures.{Figures}
use Rattle.event_report.specs.Integers.{item_size, first_item, items_from, whole_items}
use Rattle.event_report.specs.Tallies.{total, figures_of}
use Rattle.event_report.specs.Steps.{joined_figures, some_figures}
use Rattle.event_report.specs.Held.{FiguresWithin}

-- ---- sums, least and greatest over two lists

sum_from : (a : ℤ) (xs : List ℤ) → fold ◌+ℤ◌ a xs ≡ a +ℤ total xs
sum_from a [] = omega (arith, ints)
sum_from a (x ∷ xs) =
    sum_from (a +ℤ x) xs ∙ +ℤ_assoc a x (total xs) ∙ ap (λ (z : ℤ). a +ℤ z) (sym (sum_from x xs) ∙ ap (λ (z : ℤ). fold ◌+ℤ◌ z xs) (sym (+ℤ_idl x)))

total-append : (xs ys : List ℤ) → total (xs ++ ys) ≡ total xs +ℤ total ys
total-append xs ys = fold-append ◌+ℤ◌ (pos 0) xs ys ∙ sum_from (total xs) ys

min_assoc : (a b c : ℤ) → int_min (int_min a b) c ≡ int_min a (int_min b c)
min_assoc a b c = omega (arith, ints, clamps)

max_assoc : (a b c : ℤ) → int_max (int_max a b) c ≡ int_max a (int_max b c)
max_assoc a b c = omega (arith, ints, clamps)

min_from : (a b : ℤ) (ys : List ℤ) → fold int_min (int_min a b) ys ≡ int_min a (fold int_min b ys)
min_from a b [] = refl
min_from a b (y ∷ ys) = ap (λ (z : ℤ). fold int_min z ys) (min_assoc a b y) ∙ min_from a (int_min b y) ys

max_from : (a b : ℤ) (ys : List ℤ) → fold int_max (int_max a b) ys ≡ int_max a (fold int_max b ys)
max_from a b [] = refl
max_from a b (y ∷ ys) = ap (λ (z : ℤ). fold int_max z ys) (max_assoc a b y) ∙ max_from a (int_max b y) ys

abbrev figures_made : ℕ → ℤ → ℤ → ℤ → Figures
figures_made n s l g = record { count = n; sum = s; least = l; greatest = g }

pub figures_same : (a b : Figures) → a.count ≡ b.count → a.sum ≡ b.sum → a.least ≡ b.least → a.greatest ≡ b.greatest → a ≡ b
figures_same a b e f i j =
    let made : figures_made a.count a.sum a.least a.greatest ≡ figures_made b.count b.sum b.least b.greatest = rw (e, f, i, j) refl in
    made

-- the figures of one list behind another are those of both, joined
pub figures-append : (x : ℤ) (xs : List ℤ) (y : ℤ) (ys : List ℤ) → figures_of ((x ∷ xs) ++ (y ∷ ys)) ≡ joined_figures (figures_of (x ∷ xs)) (figures_of (y ∷ ys))
figures-append x xs y ys =
    figures_same _ _
    (length-append (x ∷ xs) (y ∷ ys))
    (total-append (x ∷ xs) (y ∷ ys))
    (fold-append int_min x xs (y ∷ ys) ∙ min_from (fold int_min x xs) y ys)
    (fold-append int_max x xs (y ∷ ys) ∙ max_from (fold int_max x xs) y ys)

-- ---- the items of a bank, one after the other

pub size_some : (kind : IntegerType) → 0 < item_size kind
size_some UInt8 = omega arith
size_some Int8 = omega arith
size_some UInt16 = omega arith
size_some Int16 = omega arith
size_some UInt32 = omega arith
size_some Int32 = omega arith
size_some Int64 = omega arith
size_some UInt64 = omega arith

one_less : (kind : IntegerType) (n : ℕ) → item_size kind ≤ n → n / item_size kind ≡ suc ((n - item_size kind) / item_size kind)
one_less UInt8 n le = omega arith
one_less Int8 n le = omega arith
one_less UInt16 n le = omega arith
one_less Int16 n le = omega arith
one_less UInt32 n le = omega arith
one_less Int32 n le = omega arith
one_less Int64 n le = omega arith
one_less UInt64 n le = omega arith

none_left : (kind : IntegerType) (n : ℕ) → n < item_size kind → n / item_size kind ≡ 0
none_left UInt8 n le = omega arith
none_left Int8 n le = omega arith
none_left UInt16 n le = omega arith
none_left Int16 n le = omega arith
none_left UInt32 n le = omega arith
none_left Int32 n le = omega arith
none_left Int64 n le = omega arith
none_left UInt64 n le = omega arith

pub items-cons : (kind : IntegerType) (body : List ℕ) → item_size kind ≤ length body → whole_items kind body ≡ first_item kind body ∷ whole_items kind (drop (item_size kind) body)
items-cons kind body le =
    ap (λ (n : ℕ). items_from kind n body) (one_less kind (length body) le)
    ∙ ap (λ (n : ℕ). first_item kind body ∷ items_from kind (n / item_size kind) (drop (item_size kind) body)) (sym (length-drop (item_size kind) body))

pub items-nil : (kind : IntegerType) (body : List ℕ) → length body < item_size kind → whole_items kind body ≡ []
items-nil kind body lt = ap (λ (n : ℕ). items_from kind n body) (none_left kind (length body) lt)

-- figures, and some more items joined to them one by one
abbrev pub figures_on : Figures → List ℤ → Figures
figures_on f items = fold (λ (g : Figures) (x : ℤ). joined_figures g (figures_of (x ∷ []))) f items

pub figures_on_is : (x : ℤ) (xs ys : List ℤ) → figures_on (figures_of (x ∷ xs)) ys ≡ figures_of ((x ∷ xs) ++ ys)
figures_on_is x xs [] = ap figures_of (sym (append-nil (x ∷ xs)))
figures_on_is x xs (y ∷ ys) =
    ap (λ (f : Figures). figures_on f ys) (sym (figures-append x xs y []))
    ∙ figures_on_is x (xs ++ y ∷ []) ys
    ∙ ap figures_of (append_assoc (x ∷ xs) (y ∷ []) ys)

-- ---- how large they are

pub within_more : (m n : ℕ) (f : Figures) → m ≤ n → FiguresWithin m f → FiguresWithin n f
within_more m n f le within = record { count = omega (arith, within.count); low = within.low; high = within.high }

-- joined figures are as large as both together
pub within_joined : (m n : ℕ) (a b : Figures) → FiguresWithin m a → FiguresWithin n b → FiguresWithin (m + n) (joined_figures a b)
within_joined m n a b first second =
    record {
      count = omega (arith, first.count, second.count);
      low = omega (arith, ints, first.low, second.low);
      high = omega (arith, ints, first.high, second.high);
    }

-- ---- the loop over a bank's data

-- the figures so far, with the items that are left, are those of the whole
pub record IsSummed (kind : IntegerType) (body left : List ℕ) (figures : Figures) : Type 0 where
  pub counted : figures.count + length left ≤ length body
  pub whole : figures_on figures (whole_items kind left) ≡ figures_of (whole_items kind body)
  pub within : FiguresWithin figures.count figures

pub summed_first : (kind : IntegerType) (body left : List ℕ) (figures : Figures) → item_size kind ≤ length body → left ≡ drop (item_size kind) body
    → figures ≡ figures_of (first_item kind body ∷ []) → FiguresWithin 1 figures → IsSummed kind body left figures
summed_first kind body left figures le left_is is within =
    let items = items-cons kind body le in
    let some = size_some kind in
    let one : figures.count ≡ 1 = ap (λ (f : Figures). f.count) is in
    record {
      counted = omega (arith, ap length left_is, length-drop (item_size kind) body);
      whole = ap (λ (f : Figures). figures_on f (whole_items kind left)) is
          ∙ ap (λ (xs : List ℕ). figures_on (figures_of (first_item kind body ∷ [])) (whole_items kind xs)) left_is
          ∙ figures_on_is (first_item kind body) [] (whole_items kind (drop (item_size kind) body))
          ∙ ap figures_of (sym items);
      within = subst (λ (n : ℕ). FiguresWithin n figures) (sym one) within;
    }

pub summed_more : (kind : IntegerType) (body left rest : List ℕ) (figures item new : Figures) → item_size kind ≤ length left → rest ≡ drop (item_size kind) left
    → item ≡ figures_of (first_item kind left ∷ []) → new ≡ joined_figures figures item → FiguresWithin new.count new → IsSummed kind body left figures → IsSummed kind body rest new
summed_more kind body left rest figures item new le rest_is item_is new_is within so_far =
    let items = items-cons kind left le in
    let some = size_some kind in
    let one : item.count ≡ 1 = ap (λ (f : Figures). f.count) item_is in
    let count : new.count ≡ figures.count + item.count = ap (λ (f : Figures). f.count) new_is in
    record {
      counted = omega (arith, ap length rest_is, length-drop (item_size kind) left, so_far.counted);
      whole = ap (λ (f : Figures). figures_on f (whole_items kind rest)) (new_is ∙ ap (joined_figures figures) item_is)
          ∙ ap (λ (xs : List ℕ). figures_on figures (first_item kind left ∷ whole_items kind xs)) rest_is
          ∙ ap (figures_on figures) (sym items) ∙ so_far.whole;
      within = within;
    }

pub summed_all : (kind : IntegerType) (body left : List ℕ) (figures : Figures) → item_size kind ≤ length body → length left < item_size kind → IsSummed kind body left figures
    → Some figures ≡ some_figures (whole_items kind body)
summed_all kind body left figures le none so_far =
    let items = items-cons kind body le in
    ap Some (ap (figures_on figures) (sym (items-nil kind left none)) ∙ so_far.whole ∙ ap figures_of items) ∙ ap some_figures (sym items)
