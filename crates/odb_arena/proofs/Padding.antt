-- Names with zeros behind them.
use Rattle.std.proofs.Common.{◌≡◌, ℕ, zero, suc, ◌+◌, ◌-◌, ◌<◌, ◌≤◌, Bool, true, false, ◌&&◌, cond, nat_eq, List, [], ◌∷◌, ◌++◌, length, map, set, take, get_or, Some, None, refl, sym, ap, ◌∙◌, subst, arith}
use Rattle.std.specs.Prelude.{replicate, slice_index}
use Rattle.std.specs.Char.{to_ascii_lowercase}
use Rattle.std.specs.Cmp.Lexicographic.{pointwise}
use Rattle.std.specs.Map.{lookup}
use Rattle.std.proofs.lemmas.Bool.Decides.{nat_tests}
use Rattle.std.proofs.lemmas.List.{length-take-le, take_more, take_all}
use Rattle.indexmap.specs.IndexMap.{insert_entry}
use Rattle.odb_value.specs.Paths.{same_name}
use Rattle.daq_types.specs.Names.{IsName, breaks_name}
use Rattle.odb_tree.specs.declared.children.Child.{Child}
use Rattle.odb_arena.specs.Names.{folded}

-- one byte more in front of the zeros
pub pad_more : (xs : List ℕ) (n v : ℕ) → set (xs ++ replicate (suc n) 0) (length xs) v ≡ (xs ++ v ∷ []) ++ replicate n 0
pad_more [] n v = refl
pad_more (x ∷ xs) n v = ap (λ (l : List ℕ). x ∷ l) (pad_more xs n v)

-- no zero is among these bytes
abbrev pub NonZero : List ℕ → Type 0
NonZero [] = Unit {0}
NonZero (x ∷ xs) = (0 < x) × NonZero xs

zeros_same : (n : ℕ) → pointwise nat_eq (replicate n 0) (replicate n 0) ≡ true
zeros_same zero = refl
zeros_same (suc n) = zeros_same n

zero_other : (y : ℕ) → 0 < y → nat_eq 0 y ≡ false
zero_other y h = grind (arith, nat_tests, h)

other_zero : (x : ℕ) → 0 < x → nat_eq x 0 ≡ false
other_zero x h = grind (arith, nat_tests, h)

pad_same : (xs ys : List ℕ) (n m : ℕ) → NonZero xs → NonZero ys → length xs + n ≡ length ys + m
    → pointwise nat_eq (xs ++ replicate n 0) (ys ++ replicate m 0) ≡ pointwise nat_eq xs ys
pad_same [] [] n m h k e = let same : n ≡ m = omega (arith, e) in subst (λ (i : ℕ). pointwise nat_eq (replicate n 0) (replicate i 0) ≡ true) same (zeros_same n)
pad_same [] (y ∷ ys) zero m h k e = absurd (omega (arith, e))
pad_same [] (y ∷ ys) (suc n) m h k e = ap (λ (t : Bool). t && pointwise nat_eq (replicate n 0) (ys ++ replicate m 0)) (zero_other y k.0)
pad_same (x ∷ xs) [] n zero h k e = absurd (omega (arith, e))
pad_same (x ∷ xs) [] n (suc m) h k e = ap (λ (t : Bool). t && pointwise nat_eq (xs ++ replicate n 0) (replicate m 0)) (other_zero x h.0)
pad_same (x ∷ xs) (y ∷ ys) n m h k e = ap (λ (t : Bool). nat_eq x y && t) (pad_same xs ys n m h.1 k.1 (omega (arith, e)))

lower_some : (b : ℕ) → 0 < b → 0 < to_ascii_lowercase b
lower_some b h = grind (arith, nat_tests, h)

nonzero_lower : (text : List ℕ) → ((place : ℕ) → place < length text → 0 < slice_index text place) → NonZero (map to_ascii_lowercase text)
nonzero_lower [] h = tt
nonzero_lower (b ∷ bs) h = (lower_some b (h 0 (omega arith)), nonzero_lower bs (λ place l. h (suc place) (omega arith)))

kept_some : (n place b : ℕ) → breaks_name n place b ≡ false → 0 < b
kept_some n place zero h = absurd (cc)
kept_some n place (suc b) h = omega arith

lower_long : (text : List ℕ) → length (map to_ascii_lowercase text) ≡ length text
lower_long [] = refl
lower_long (b ∷ bs) = omega (arith, lower_long bs)

pub name_nonzero : (a : List ℕ) → IsName a → NonZero (map to_ascii_lowercase a)
name_nonzero a h = nonzero_lower a (λ place l. kept_some (length a) place (slice_index a place) (h.bytes place l))

-- names without case are the same with zeros behind as they are without
pub folded_same : (a b : List ℕ) → IsName a → IsName b → pointwise nat_eq (folded a) (folded b) ≡ same_name a b
folded_same a b h k =
    pad_same (map to_ascii_lowercase a) (map to_ascii_lowercase b) (32 - length a) (32 - length b) (name_nonzero a h) (name_nonzero b k)
    (omega (arith, lower_long a, lower_long b, h.short, k.short))

-- a new name goes behind
pub insert_new : (key : List ℕ) (child : Child) (es : List (List ℕ × Child)) → lookup (pointwise nat_eq key) es ≡ None
    → insert_entry (pointwise nat_eq) es key child ≡ es ++ (key, child) ∷ []
insert_new key child [] h = refl
insert_new key child (e ∷ es) h = behind (pointwise nat_eq key e.0) key child e es h (insert_new key child es)
  where
    behind : (t : Bool) (key : List ℕ) (child : Child) (e : List ℕ × Child) (es : List (List ℕ × Child)) → cond t (Some e.1) (lookup (pointwise nat_eq key) es) ≡ None
        → (lookup (pointwise nat_eq key) es ≡ None → insert_entry (pointwise nat_eq) es key child ≡ es ++ (key, child) ∷ [])
        → cond t ((e.0, child) ∷ es) (e ∷ insert_entry (pointwise nat_eq) es key child) ≡ e ∷ (es ++ (key, child) ∷ [])
    behind true key child e es k ih = absurd (cc)
    behind false key child e es k ih = ap (λ (l : List (List ℕ × Child)). e ∷ l) (ih k)

lower_append : (xs ys : List ℕ) → map to_ascii_lowercase (xs ++ ys) ≡ map to_ascii_lowercase xs ++ map to_ascii_lowercase ys
lower_append [] ys = refl
lower_append (x ∷ xs) ys = ap (λ (l : List ℕ). to_ascii_lowercase x ∷ l) (lower_append xs ys)

set_long : (key xs zs : List ℕ) (i n v : ℕ) → key ≡ xs ++ replicate (suc n) 0 → length xs ≡ i → zs ≡ xs ++ v ∷ [] → set key i v ≡ zs ++ replicate n 0
set_long key xs zs i n v e l z =
    ap (λ (k : List ℕ). set k i v) e
    ∙ (ap (λ (j : ℕ). set (xs ++ replicate (suc n) 0) j v) (sym l)
    ∙ (pad_more xs n v ∙ ap (λ (k : List ℕ). k ++ replicate n 0) (sym z)))

-- one byte more of a name
pub fold_more : (key bytes : List ℕ) (i v : ℕ) → i < length bytes → length bytes ≤ 31 → key ≡ map to_ascii_lowercase (take i bytes) ++ replicate (32 - i) 0
    → v ≡ to_ascii_lowercase (get_or bytes i 0) → set key i v ≡ map to_ascii_lowercase (take (i + 1) bytes) ++ replicate (32 - (i + 1)) 0
fold_more key bytes i v h short e is =
    let left : 32 - i ≡ suc (32 - (i + 1)) = omega arith in
    set_long key (map to_ascii_lowercase (take i bytes)) (map to_ascii_lowercase (take (i + 1) bytes)) i (32 - (i + 1)) v
    (e ∙ ap (λ (n : ℕ). map to_ascii_lowercase (take i bytes) ++ replicate n 0) left)
    (lower_long (take i bytes) ∙ length-take-le i bytes (omega arith))
    (ap (map to_ascii_lowercase) (take_more bytes i 0 h) ∙ (lower_append (take i bytes) (get_or bytes i 0 ∷ []) ∙ ap (λ (b : ℕ). map to_ascii_lowercase (take i bytes) ++ b ∷ []) (sym is)))

pub fold_all : (key bytes text : List ℕ) (i : ℕ) → length bytes ≤ i → bytes ≡ text → i ≤ length bytes → key ≡ map to_ascii_lowercase (take i bytes) ++ replicate (32 - i) 0
    → key ≡ folded text
fold_all key bytes text i h same l e =
    let whole : i ≡ length bytes = omega arith in
    e ∙ (ap (λ (n : ℕ). map to_ascii_lowercase (take n bytes) ++ replicate (32 - n) 0) whole
    ∙ (ap (λ (b : List ℕ). map to_ascii_lowercase b ++ replicate (32 - length bytes) 0) (take_all (length bytes) bytes (omega arith))
    ∙ ap folded same))
