-- The numbers that the limits are tested on, and what is known where no limit is passed.
use Rattle.std.proofs.Common.{◌≡◌, ℕ, ◌+◌, ◌-◌, ◌≤◌, ◌^◌, Bool, true, false, cond, ltb, List, [], ◌∷◌, ◌++◌, length, Option, Some, None, ◌⊎◌, inl, inr, refl, ap, ◌∙◌, subst, arith}
use Rattle.std.specs.Option.{option_or, option_map}
use Rattle.std.proofs.lemmas.List.{length-append}
use Rattle.std.proofs.lemmas.List.Sums.{sum_by-append, sum_by_push, sum_by-cons}
use Rattle.std.proofs.lemmas.Bool.Decides.{nat_tests}
use Rattle.odb_value.specs.Paths.{same_path}
use Rattle.odb_value.specs.Values.{HeldValue}
use Rattle.odb_tree.specs.declared.rows.Row.{Row}
use Rattle.odb_tree.specs.declared.refusals.OdbRefusal.TheVariants.{Limit}
use Rattle.odb_tree.specs.declared.refusals.What.{What}
use Rattle.odb_tree.specs.declared.refusals.What.TheVariants.{Keys, Total, Rows as RowNumbers}
use Rattle.odb_tree.specs.Rows.{Rows, row_at, change_row, change_at, bytes_of, bytes_in, bytes_of_row, total_of}
use Rattle.odb_tree.specs.Limits.{IsWithin, passed, total_fault, number_fault, limit_fault, rows_limit, total_limit}
use Rattle.odb_tree.specs.Lookups.{parent_of}
use Rattle.odb_tree.specs.Making.{Way, no_way, further, go_on, way_to, created, new_row, missing_from}
use Rattle.odb_tree.proofs.Along.{go_dirs}

-- an `option_or` that is nothing has nothing on either side
pub or_none_left : {X : Type 0} (o p : Option X) → option_or o p ≡ None → o ≡ None
or_none_left None p h = refl
or_none_left (Some x) p h = absurd (cc)

pub or_none_right : {X : Type 0} (o p : Option X) → option_or o p ≡ None → p ≡ None
or_none_right None p h = h
or_none_right (Some x) p h = absurd (cc)

map_none : {X Y : Type 0} (f : X → Y) (o : Option X) → option_map f o ≡ None → o ≡ None
map_none f None h = refl
map_none f (Some x) h = absurd (cc)

unless : {X : Type 0} (t : Bool) (x : X) (o : Option X) → cond t (Some x) o ≡ None → (t ≡ false) × (o ≡ None)
unless true x o h = absurd (cc)
unless false x o h = (refl, h)

not_above : (m n : ℕ) → ltb m n ≡ false → n ≤ m
not_above m n h = grind (arith, nat_tests)

pub own_none : (own : Option What) (after : Rows) → limit_fault own after ≡ None → own ≡ None
own_none own after h =
    let count = unless (ltb rows_limit (length after.rows)) Keys (option_or own (total_fault (total_of after.rows) after.next))
    (map_none Limit (passed own (length after.rows) (total_of after.rows) after.next) h) in
    or_none_left own (total_fault (total_of after.rows) after.next) count.1

-- no limit is passed
pub within : (own : Option What) (after : Rows) → limit_fault own after ≡ None → IsWithin after
within own after h =
    let count = unless (ltb rows_limit (length after.rows)) Keys (option_or own (total_fault (total_of after.rows) after.next))
    (map_none Limit (passed own (length after.rows) (total_of after.rows) after.next) h) in
    let total = unless (ltb total_limit (total_of after.rows)) Total (number_fault after.next) (or_none_right own (total_fault (total_of after.rows) after.next) count.1) in
    let number = unless (ltb (2 ^ 32) after.next) RowNumbers None total.1 in
    record {
      rows = not_above rows_limit (length after.rows) count.0;
      total = not_above total_limit (total_of after.rows) total.0;
      next = not_above (2 ^ 32) after.next number.0;
    }

-- with something wrong with the items themselves the total does not count
passed_same : (own : Option What) (count total other next : ℕ) → (own ≡ None → total ≡ other) → passed own count total next ≡ passed own count other next
passed_same None count total other next h = ap (λ (t : ℕ). passed None count t next) (h refl)
passed_same (Some w) count total other next h = refl

pub fault_same : (own : Option What) (count total other next : ℕ) → (own ≡ None → total ≡ other) → option_map Limit (passed own count total next) ≡ option_map Limit (passed own count other next)
fault_same own count total other next h = ap (option_map Limit) (passed_same own count total other next h)

further_total : (next : ℕ) (name : List ℕ) (way : Way) (row : Option Row) → total_of (further next name way row).dirs ≡ total_of way.dirs
further_total next name way None =
    let made : Row = record { number = next + length way.dirs; path = way.path ++ name ∷ []; value = None } in
    omega (arith, sum_by_push bytes_of_row way.dirs made)
further_total next name way (Some r) = refl

go_total : (rows : List Row) (next : ℕ) (reached names : List (List ℕ)) (way : Way) → total_of (go_on rows next reached names way).dirs ≡ total_of way.dirs
go_total rows next reached [] way = refl
go_total rows next reached (name ∷ names) way =
    go_total rows next (reached ++ name ∷ []) names (further next name way (row_at rows (reached ++ name ∷ []))) ∙ further_total next name way (row_at rows (reached ++ name ∷ []))

-- the numbers after a new row
pub record NewCounts (s : Rows) (p : List (List ℕ)) (value : Option HeldValue) : Type 0 where
  pub dirs : length (way_to s p).dirs ≡ missing_from s.rows [] (parent_of p)
  pub rows : length (created s p value).rows ≡ length s.rows + missing_from s.rows [] (parent_of p) + 1
  pub total : total_of (created s p value).rows ≡ total_of s.rows + bytes_in value
  pub next : (created s p value).next ≡ s.next + missing_from s.rows [] (parent_of p) + 1

pub new_counts : (s : Rows) (p : List (List ℕ)) (value : Option HeldValue) → NewCounts s p value
new_counts s p value =
    let made : length (way_to s p).dirs ≡ missing_from s.rows [] (parent_of p) = omega (arith, go_dirs s.rows s.next [] (parent_of p) no_way) in
    record {
      dirs = made;
      rows = omega (arith, length-append s.rows ((way_to s p).dirs ++ new_row s p value ∷ []), length-append (way_to s p).dirs (new_row s p value ∷ []), made);
      total = omega (arith, sum_by-append bytes_of_row s.rows ((way_to s p).dirs ++ new_row s p value ∷ []), sum_by_push bytes_of_row (way_to s p).dirs (new_row s p value), go_total s.rows s.next [] (parent_of p) no_way);
      next = omega (arith, made);
    }

-- the numbers after a change of one value
pub record ChangeCounts (rows : List Row) (p : List (List ℕ)) (v : HeldValue) (f : HeldValue → HeldValue) : Type 0 where
  pub count : length (change_at rows p f) ≡ length rows
  pub had : bytes_of v ≤ total_of rows
  pub total : total_of (change_at rows p f) ≡ total_of rows - bytes_of v + bytes_of (f v)

-- where the row at the head is the one
changed_head : (r : Row) (rs : List Row) (p : List (List ℕ)) (row : Row) (v : HeldValue) (f : HeldValue → HeldValue) → row ≡ r → row.value ≡ Some v
    → (bytes_of_row r ≡ bytes_of v) × (bytes_of_row (change_row f r) ≡ bytes_of (f v))
changed_head r rs p row v f e h =
    let value : r.value ≡ Some v = subst (λ (x : Row). x.value ≡ Some v) e h in
    (ap bytes_in value, ap (λ (o : Option HeldValue). bytes_in (option_map f o)) value)

counts_here : (r : Row) (rs : List Row) (p : List (List ℕ)) (row : Row) (v : HeldValue) (f : HeldValue → HeldValue) → same_path r.path p ≡ true → row ≡ r → row.value ≡ Some v → ChangeCounts (r ∷ rs) p v f
counts_here r rs p row v f t e k =
    let head = changed_head r rs p row v f e k in
    let is : change_at (r ∷ rs) p f ≡ change_row f r ∷ rs = ap (λ (b : Bool). cond b (change_row f r ∷ rs) (r ∷ change_at rs p f)) t in
    record {
      count = ap (λ (xs : List Row). length xs) is;
      had = omega (arith, sum_by-cons bytes_of_row r rs, head.0);
      total = ap total_of is ∙ omega (arith, sum_by-cons bytes_of_row r rs, sum_by-cons bytes_of_row (change_row f r) rs, head.0, head.1);
    }

counts_there : (r : Row) (rs : List Row) (p : List (List ℕ)) (v : HeldValue) (f : HeldValue → HeldValue) → same_path r.path p ≡ false → ChangeCounts rs p v f → ChangeCounts (r ∷ rs) p v f
counts_there r rs p v f t k =
    let is : change_at (r ∷ rs) p f ≡ r ∷ change_at rs p f = ap (λ (b : Bool). cond b (change_row f r ∷ rs) (r ∷ change_at rs p f)) t in
    record {
      count = ap (λ (xs : List Row). length xs) is ∙ omega (arith, k.count);
      had = omega (arith, sum_by-cons bytes_of_row r rs, k.had);
      total = ap total_of is ∙ omega (arith, sum_by-cons bytes_of_row r rs, sum_by-cons bytes_of_row r (change_at rs p f), k.had, k.total);
    }

find_head : (t : Bool) (r row : Row) (o : Option Row) → cond t (Some r) o ≡ Some row → ((t ≡ true) × (row ≡ r)) ⊎ ((t ≡ false) × (o ≡ Some row))
find_head true r row o h = inl (refl, cc)
find_head false r row o h = inr (refl, h)

pub change_counts : (rows : List Row) (p : List (List ℕ)) (row : Row) (v : HeldValue) (f : HeldValue → HeldValue) → row_at rows p ≡ Some row → row.value ≡ Some v → ChangeCounts rows p v f
change_counts [] p row v f h k = absurd (cc)
change_counts (r ∷ rs) p row v f h k =
    elim (find_head (same_path r.path p) r row (row_at rs p) h) [
      | inl w ↦ counts_here r rs p row v f w.0 w.1 k
      | inr w ↦ counts_there r rs p v f w.0 (change_counts rs p row v f w.1 k)
    ]
