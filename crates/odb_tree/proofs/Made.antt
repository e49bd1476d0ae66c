-- The rows that are made for a new path, and the database with them.
use Rattle.std.proofs.Common.{◌≡◌, ℕ, ◌+◌, ◌-◌, ◌<◌, ◌^◌, List, [], ◌∷◌, ◌++◌, length, get_or, drop, Option, sym, ap, ◌∙◌, arith}
use Rattle.std.proofs.lemmas.List.{length-append, drop_more, drop_all}
use Rattle.odb_value.specs.Values.{HeldValue}
use Rattle.odb_tree.specs.declared.rows.Row.{Row}
use Rattle.odb_tree.specs.Rows.{Rows}
use Rattle.odb_tree.specs.Limits.{IsWithin}
use Rattle.odb_tree.specs.Lookups.{parent_of}
use Rattle.odb_tree.specs.Making.{Way, last_of, go_on, no_way, way_to, new_number, new_row, created}

-- the directories made, and behind them the row
abbrev pub made_of : Rows → List (List ℕ) → Option HeldValue → List Row
made_of s p value = (way_to s p).dirs ++ new_row s p value ∷ []

pub way_is : (s : Rows) (p names : List (List ℕ)) (way : Way) → way ≡ go_on s.rows s.next [] names no_way → names ≡ parent_of p → way ≡ way_to s p
way_is s p names way e f = e ∙ ap (λ (ns : List (List ℕ)). go_on s.rows s.next [] ns no_way) f

pub row_fits : (s : Rows) (p : List (List ℕ)) (value : Option HeldValue) (way : Way) → way ≡ way_to s p → IsWithin (created s p value) → s.next + length way.dirs < 2 ^ 32
row_fits s p value way e h = omega (arith, ap (λ (w : Way). length w.dirs) e, h.next)

last_is : (p : List (List ℕ)) (name : List ℕ) → 0 < length p → name ≡ get_or p (length p - 1) name → name ∷ [] ≡ last_of p
last_is p name some e =
    let more : last_of p ≡ get_or p (length p - 1) name ∷ drop (length p - 1 + 1) p = drop_more p (length p - 1) name (omega arith) in
    let none : drop (length p - 1 + 1) p ≡ [] = drop_all (length p - 1 + 1) p (omega arith) in
    ap (λ (n : List ℕ). n ∷ []) e ∙ (ap (λ (ns : List (List ℕ)). get_or p (length p - 1) name ∷ ns) (sym none) ∙ sym more)

pub rows_made : (s : Rows) (p : List (List ℕ)) (value : Option HeldValue) (way : Way) (name : List ℕ) (rows : List Row) → way ≡ way_to s p → 0 < length p → name ≡ get_or p (length p - 1) name
    → rows ≡ way.dirs ++ record { number = s.next + length way.dirs; path = way.path ++ name ∷ []; value = value } ∷ [] → rows ≡ made_of s p value
rows_made s p value way name rows e some f h =
    h ∙ (ap (λ (w : Way). w.dirs ++ record { number = s.next + length w.dirs; path = w.path ++ name ∷ []; value = value } ∷ []) e
    ∙ ap (λ (ns : List (List ℕ)). (way_to s p).dirs ++ record { number = new_number s p; path = (way_to s p).path ++ ns; value = value } ∷ []) (last_is p name some f))

pub number_made : (s : Rows) (p : List (List ℕ)) (value : Option HeldValue) (made : List Row) (count : ℕ) → made ≡ made_of s p value → count ≡ length made → s.next + count ≡ new_number s p + 1
number_made s p value made count e f =
    omega (arith, f, ap (λ (rows : List Row). length rows) e, length-append (way_to s p).dirs (new_row s p value ∷ []))

pub rows_created : (s : Rows) (p : List (List ℕ)) (value : Option HeldValue) (made rows : List Row) (count : ℕ) → made ≡ made_of s p value → rows ≡ s.rows ++ made → count ≡ length made
    → record s { rows = rows; next = s.next + count } ≡ created s p value
rows_created s p value made rows count e f g =
    ap (λ (xs : List Row). record s { rows = xs; next = s.next + count }) (f ∙ ap (λ (xs : List Row). s.rows ++ xs) e)
    ∙ ap (λ (n : ℕ). record s { rows = s.rows ++ made_of s p value; next = n }) (number_made s p value made count e g)
