-- Bytes that are compared eight at a time.
use Rattle.std.proofs.Common.{◌≡◌, ℕ, zero, suc, ◌+◌, ◌-◌, ◌<◌, ◌≤◌, Bool, true, false, ◌&&◌, nat_eq, List, [], ◌∷◌, ◌++◌, length, take, drop, get_or, refl, sym, ap, ◌∙◌, arith}
use Rattle.std.specs.Int.{w64, from_le_bytes, to_le_bytes}
use Rattle.std.specs.Cmp.Lexicographic.{pointwise, bytes_decides}
use Rattle.std.proofs.lemmas.Bool.Decides.{nat_tests}
use Rattle.std.proofs.lemmas.List.{take-append-drop, length-take-le, length-drop, drop-drop, take_all}
use Rattle.std.proofs.lemmas.Nat.{le_bytes_8}

-- these numbers are bytes
abbrev pub Bytes : List ℕ → Type 0
Bytes xs = (i : ℕ) → get_or xs i 0 < 256

-- the first eight of these bytes as one number
abbrev pub word : List ℕ → ℕ
word xs = from_le_bytes w64 (take 8 xs)

-- two answers that follow from each other
same_answer : (s t : Bool) → (s ≡ true → t ≡ true) → (t ≡ true → s ≡ true) → s ≡ t
same_answer true t h k = sym (h refl)
same_answer false true h k = k refl
same_answer false false h k = refl

-- the first bytes of bytes are bytes
bytes_first : (n : ℕ) (xs : List ℕ) → Bytes xs → Bytes (take n xs)
bytes_first zero xs h = λ i. omega arith
bytes_first (suc n) [] h = h
bytes_first (suc n) (x ∷ xs) h = λ i. elim i as (λ (i : ℕ). get_or (x ∷ take n xs) i 0 < 256) [
  | zero ↦ h 0
  | suc i ↦ bytes_first n xs (λ j. h (suc j)) i
]

bytes_behind : (n : ℕ) (xs : List ℕ) → Bytes xs → Bytes (drop n xs)
bytes_behind zero xs h = h
bytes_behind (suc n) [] h = h
bytes_behind (suc n) (x ∷ xs) h = bytes_behind n xs (λ j. h (suc j))

-- two lists are compared in parts of one length
apart : (a b c d : List ℕ) → length a ≡ length b → pointwise nat_eq (a ++ c) (b ++ d) ≡ (pointwise nat_eq a b && pointwise nat_eq c d)
apart [] [] c d e = refl
apart [] (y ∷ b) c d e = absurd (omega (arith, e))
apart (x ∷ a) [] c d e = absurd (omega (arith, e))
apart (x ∷ a) (y ∷ b) c d e = both (nat_eq x y) _ _ _ (apart a b c d (omega (arith, e)))
  where
    both : (t p q r : Bool) → p ≡ (q && r) → (t && p) ≡ ((t && q) && r)
    both true p q r h = h
    both false p q r h = refl

-- eight bytes are those of their number
from_word : (xs : List ℕ) → length xs ≡ 8 → Bytes xs → to_le_bytes w64 (from_le_bytes w64 xs) ≡ xs
from_word xs l h = le_bytes_8 xs (from_le_bytes w64 xs) l h refl

same_number : (m n : ℕ) → nat_eq m n ≡ true → m ≡ n
same_number m n h = grind (arith, nat_tests, h)

number_same : (m n : ℕ) → m ≡ n → nat_eq m n ≡ true
number_same m n h = grind (arith, nat_tests, h)

-- so eight bytes are compared as one number
eight_same : (xs ys : List ℕ) → length xs ≡ 8 → length ys ≡ 8 → Bytes xs → Bytes ys → pointwise nat_eq xs ys ≡ nat_eq (from_le_bytes w64 xs) (from_le_bytes w64 ys)
eight_same xs ys l k h j =
    same_answer (pointwise nat_eq xs ys) (nat_eq (from_le_bytes w64 xs) (from_le_bytes w64 ys))
    (λ same. number_same _ _ (ap (from_le_bytes w64) ((bytes_decides xs ys).0 same)))
    (λ same. (bytes_decides xs ys).1 (sym (from_word xs l h) ∙ (ap (to_le_bytes w64) (same_number _ _ same) ∙ from_word ys k j)))

-- eight bytes, and then the others
pub word_first : (xs ys : List ℕ) → 8 ≤ length xs → 8 ≤ length ys → Bytes xs → Bytes ys
    → pointwise nat_eq xs ys ≡ (nat_eq (word xs) (word ys) && pointwise nat_eq (drop 8 xs) (drop 8 ys))
word_first xs ys l k h j =
    let own : length (take 8 xs) ≡ 8 = length-take-le 8 xs l in
    let others : length (take 8 ys) ≡ 8 = length-take-le 8 ys k in
    ap (λ (x : List ℕ). pointwise nat_eq x ys) (sym (take-append-drop 8 xs))
    ∙ (ap (λ (y : List ℕ). pointwise nat_eq (take 8 xs ++ drop 8 xs) y) (sym (take-append-drop 8 ys))
    ∙ (apart (take 8 xs) (take 8 ys) (drop 8 xs) (drop 8 ys) (own ∙ sym others)
    ∙ ap (λ (t : Bool). t && pointwise nat_eq (drop 8 xs) (drop 8 ys)) (eight_same (take 8 xs) (take 8 ys) own others (bytes_first 8 xs h) (bytes_first 8 ys j))))

empty_long : (xs : List ℕ) → length xs ≡ 0 → xs ≡ []
empty_long [] e = refl
empty_long (x ∷ xs) e = absurd (omega (arith, e))

-- what is left behind so many bytes
left : (n m : ℕ) (xs : List ℕ) → length xs ≡ 32 → n ≤ 32 → m ≡ 32 - n → length (drop n xs) ≡ m
left n m xs e l is = length-drop n xs ∙ (ap (λ (k : ℕ). k - n) e ∙ sym is)

-- one word more, and the comparison of what is behind it
step : (n : ℕ) (xs ys : List ℕ) (t : Bool) → length xs ≡ 32 → length ys ≡ 32 → Bytes xs → Bytes ys → n + 8 ≤ 32 → pointwise nat_eq (drop (n + 8) xs) (drop (n + 8) ys) ≡ t
    → pointwise nat_eq (drop n xs) (drop n ys) ≡ (nat_eq (word (drop n xs)) (word (drop n ys)) && t)
step n xs ys t l k h j few e =
    word_first (drop n xs) (drop n ys) (omega (arith, length-drop n xs, l)) (omega (arith, length-drop n ys, k)) (bytes_behind n xs h) (bytes_behind n ys j)
    ∙ (ap (λ (x : List ℕ). nat_eq (word (drop n xs)) (word (drop n ys)) && pointwise nat_eq x (drop 8 (drop n ys))) (drop-drop 8 n xs)
    ∙ (ap (λ (y : List ℕ). nat_eq (word (drop n xs)) (word (drop n ys)) && pointwise nat_eq (drop (n + 8) xs) y) (drop-drop 8 n ys)
    ∙ ap (λ (s : Bool). nat_eq (word (drop n xs)) (word (drop n ys)) && s) e))

last : (xs ys : List ℕ) → length xs ≡ 32 → length ys ≡ 32 → pointwise nat_eq (drop 32 xs) (drop 32 ys) ≡ true
last xs ys l k =
    ap (λ (x : List ℕ). pointwise nat_eq x (drop 32 ys)) (empty_long (drop 32 xs) (omega (arith, length-drop 32 xs, l)))
    ∙ ap (λ (y : List ℕ). pointwise nat_eq [] y) (empty_long (drop 32 ys) (omega (arith, length-drop 32 ys, k)))

from_left : (s t u v : Bool) → (s && (t && (u && (v && true)))) ≡ (((s && t) && u) && v)
from_left true true true true = refl
from_left true true true false = refl
from_left true true false v = refl
from_left true false u v = refl
from_left false t u v = refl

in_words : (xs ys : List ℕ) → length xs ≡ 32 → length ys ≡ 32 → Bytes xs → Bytes ys
    → pointwise nat_eq xs ys
    ≡ (((nat_eq (word xs) (word ys) && nat_eq (word (drop 8 xs)) (word (drop 8 ys))) && nat_eq (word (drop 16 xs)) (word (drop 16 ys))) && nat_eq (word (drop 24 xs)) (word (drop 24 ys)))
in_words xs ys l k h j =
    step 0 xs ys _ l k h j (omega arith) (step 8 xs ys _ l k h j (omega arith) (step 16 xs ys _ l k h j (omega arith) (step 24 xs ys _ l k h j (omega arith) (last xs ys l k))))
    ∙ from_left (nat_eq (word xs) (word ys)) (nat_eq (word (drop 8 xs)) (word (drop 8 ys))) (nat_eq (word (drop 16 xs)) (word (drop 16 ys))) (nat_eq (word (drop 24 xs)) (word (drop 24 ys)))

-- a slice of these bytes from a place on
abbrev pub from_place : (place : ℕ) → List ℕ → List ℕ
from_place place xs = take (length xs - place) (drop place xs)

all_behind : (place : ℕ) (xs : List ℕ) → from_place place xs ≡ drop place xs
all_behind place xs = take_all (length xs - place) (drop place xs) (omega (arith, length-drop place xs))

-- thirty-two bytes are compared as four numbers
pub four_words : (xs ys : List ℕ) → length xs ≡ 32 → length ys ≡ 32 → Bytes xs → Bytes ys
    → pointwise nat_eq xs ys
    ≡ (((nat_eq (word xs) (word ys) && nat_eq (word (from_place 8 xs)) (word (from_place 8 ys))) && nat_eq (word (from_place 16 xs)) (word (from_place 16 ys)))
    && nat_eq (word (from_place 24 xs)) (word (from_place 24 ys)))
four_words xs ys l k h j =
    rw (all_behind 8 xs, all_behind 8 ys, all_behind 16 xs, all_behind 16 ys, all_behind 24 xs, all_behind 24 ys)
    (in_words xs ys l k h j)
