-- Which things of a list have a row of their own: the first 256 distinct ones, told apart by a number.
use Rattle.std.specs.Prelude.{ℕ, ◌==◌, Bool, not, List, [], ◌∷◌, take, count_by, filter}
use Rattle.std.specs.List.{list_any}

-- the rows that a report has for ids, and those that it has for banks
abbrev pub row_limit : ℕ
row_limit = 256

-- one of them has this number
abbrev pub has : {A : Type 0} → (A → ℕ) → ℕ → List A → Bool
has number n xs = list_any (λ x. number x == n) xs

-- those whose number does not stand further in front: each number once, in the order of their first appearance
abbrev pub firsts : {A : Type 0} → (A → ℕ) → List A → List A
firsts number [] = []
firsts number (x ∷ xs) = x ∷ filter (λ y. not (number y == number x)) (firsts number xs)

-- those that have a row
abbrev pub listed : {A : Type 0} → (A → ℕ) → List A → List A
listed number xs = take row_limit (firsts number xs)

-- how many have no row
abbrev pub rest_count : {A : Type 0} → (A → ℕ) → List A → ℕ
rest_count number xs = count_by (λ x. not (has number (number x) (listed number xs))) xs
