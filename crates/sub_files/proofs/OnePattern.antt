-- A text is that of one pattern at the most.
use Rattle.std.specs.Prelude.{◌≡◌, ◌≢◌, ℕ, suc, ◌+◌, Bool, false, true, List, [], ◌∷◌, ◌++◌, length, Option, Some, None, is_some, slice_index, refl}
use Rattle.std.proofs.Common.{arith, ap, sym, subst, ◌∙◌, length-append}
use Rattle.std.proofs.Math.Seq.{get_or-append_seam}
use Rattle.sub_files.specs.Patterns.{NamePattern, HasNoPercent, IsPattern, IsSplit, HasSign, IsTextOf, IsPatternBehind, HasPattern, IsPatternText, pattern_text, behind_run, parts_of, plain_parts, numbered_parts, run_sign, sub_sign}

-- a text without a percent sign has none behind its first byte
percent_tail : (x : ℕ) (xs : List ℕ) → HasNoPercent (x ∷ xs) → HasNoPercent xs
percent_tail x xs free = λ place inside is. free (suc place) (omega (arith, inside)) is

percent_head : (x : ℕ) (xs : List ℕ) → HasNoPercent (x ∷ xs) → x ≢ 37
percent_head x xs free is = free 0 (omega arith) is

-- a text has one first percent sign
same_parts : (a c b d : List ℕ) → HasNoPercent a → HasNoPercent c → a ++ 37 ∷ b ≡ c ++ 37 ∷ d → (a ≡ c) × (b ≡ d)
same_parts [] [] b d free clear same = (refl, cc)
same_parts [] (y ∷ c) b d free clear same = let first : y ≡ 37 = cc in absurd (percent_head y c clear first)
same_parts (x ∷ a) [] b d free clear same = let first : x ≡ 37 = cc in absurd (percent_head x a free first)
same_parts (x ∷ a) (y ∷ c) b d free clear same =
    let first : x ≡ y = cc in let rest : a ++ 37 ∷ b ≡ c ++ 37 ∷ d = cc in
    let parts = same_parts a c b d (percent_tail x a free) (percent_tail y c clear) rest in
    (rw (first, parts.0) refl, parts.1)

-- a text without a percent sign is none with one
not_free : (text front tail : List ℕ) → HasNoPercent text → text ≡ front ++ 37 ∷ tail → ⊥
not_free text front tail free whole =
    let size : length text ≡ length front + suc (length tail) = ap (λ (t : List ℕ). length t) whole ∙ length-append front (37 ∷ tail) in
    free (length front) (omega (arith, size)) (ap (λ (t : List ℕ). slice_index t (length front)) whole ∙ get_or-append_seam front 37 tail 0)

same_pattern : (p q : NamePattern) → p.front ≡ q.front → p.middle ≡ q.middle → p.back ≡ q.back → p ≡ q
same_pattern p q e f g = let whole : parts_of p.front p.middle p.back ≡ parts_of q.front q.middle q.back = rw (e, f, g) refl in whole

-- the rest of a text behind the run number is read in one way
same_behind : (m n : List ℕ) (b c : Option (List ℕ)) → HasNoPercent m → HasNoPercent n → behind_run m b sub_sign ≡ behind_run n c sub_sign → (m ≡ n) × (b ≡ c)
same_behind m n None None free clear same = (same, refl)
same_behind m n None (Some c) free clear same = absurd (not_free m n (48 ∷ 52 ∷ 100 ∷ c) free same)
same_behind m n (Some b) None free clear same = absurd (not_free n m (48 ∷ 52 ∷ 100 ∷ b) clear (sym same))
same_behind m n (Some b) (Some c) free clear same =
    let parts = same_parts m n (48 ∷ 52 ∷ 100 ∷ b) (48 ∷ 52 ∷ 100 ∷ c) free clear same in
    let backs : b ≡ c = cc (parts.1) in
    (parts.0, ap Some backs)

pub one_pattern : (p q : NamePattern) → IsPattern p → IsPattern q → pattern_text p ≡ pattern_text q → p ≡ q
one_pattern p q is other same =
    let behind_p : List ℕ = behind_run p.middle p.back sub_sign in
    let behind_q : List ℕ = behind_run q.middle q.back sub_sign in
    let parts = same_parts p.front q.front (48 ∷ 53 ∷ 100 ∷ behind_p) (48 ∷ 53 ∷ 100 ∷ behind_q) is.front_free other.front_free same in
    let rest : behind_p ≡ behind_q = cc (parts.1) in
    let both = same_behind p.middle q.middle p.back q.back is.middle_free other.middle_free rest in
    same_pattern p q parts.0 both.0 both.1

-- What a text is read as.

none_of : (o : Option (List ℕ)) → is_some o ≡ false → o ≡ None
none_of None e = refl
none_of (Some x) e = let never : true ≡ false = e in absurd (cc (never))

some_of : (o : Option (List ℕ)) → is_some o ≡ true → (x : List ℕ) × (o ≡ Some x)
some_of None e = let never : false ≡ true = e in absurd (cc (never))
some_of (Some x) e = (x, refl)

behind_none : (m rest : List ℕ) (o : Option (List ℕ)) → o ≡ None → rest ≡ behind_run m o sub_sign → rest ≡ m
behind_none m rest o e same = subst (λ (b : Option (List ℕ)). rest ≡ behind_run m b sub_sign) e same

behind_some : (m rest x : List ℕ) (o : Option (List ℕ)) → o ≡ Some x → rest ≡ behind_run m o sub_sign → rest ≡ m ++ (sub_sign ++ x)
behind_some m rest x o e same = subst (λ (b : Option (List ℕ)). rest ≡ behind_run m b sub_sign) e same

-- without a place for the file's number
pub read_plain : (front rest : List ℕ) (p : NamePattern) → IsPatternBehind front rest false p → IsPattern (plain_parts front rest)
read_plain front rest p h =
    let none : p.back ≡ None = none_of p.back h.numbers in
    let same : p ≡ plain_parts front rest = same_pattern p (plain_parts front rest) h.front_is (sym (behind_none p.middle rest p.back none h.rest_is)) none in
    subst IsPattern same h.is

pub plain_read : (front rest : List ℕ) (p : NamePattern) → p ≡ plain_parts front rest → IsPattern (plain_parts front rest) → IsPatternBehind front rest false p
plain_read front rest p same is = rw same (let here : IsPatternBehind front rest false (plain_parts front rest) = record { is = is; front_is = refl; numbers = refl; rest_is = refl } in here)

-- with one
pub read_numbered : (front rest middle back : List ℕ) (p : NamePattern) → IsSplit rest 52 middle back → IsPatternBehind front rest true p → IsPattern (numbered_parts front middle back)
read_numbered front rest middle back p split h =
    let some = some_of p.back h.numbers in
    let whole : rest ≡ p.middle ++ (sub_sign ++ some.0) = behind_some p.middle rest some.0 p.back some.1 h.rest_is in
    let parts = same_parts p.middle middle (48 ∷ 52 ∷ 100 ∷ some.0) (48 ∷ 52 ∷ 100 ∷ back) h.is.middle_free split.free (sym whole ∙ split.whole) in
    let backs : some.0 ≡ back = cc (parts.1) in
    let same : p ≡ numbered_parts front middle back = same_pattern p (numbered_parts front middle back) h.front_is parts.0 (some.1 ∙ ap Some backs) in
    subst IsPattern same h.is

pub numbered_read : (front rest middle back : List ℕ) (p : NamePattern) → IsSplit rest 52 middle back → p ≡ numbered_parts front middle back → IsPattern (numbered_parts front middle back) → IsPatternBehind front rest true p
numbered_read front rest middle back p split same is =
    rw same (let here : IsPatternBehind front rest true (numbered_parts front middle back) = record { is = is; front_is = refl; numbers = refl; rest_is = split.whole } in here)

pub not_numbered : (front rest : List ℕ) → (HasSign rest 52 → ⊥) → HasPattern front rest true → ⊥
not_numbered front rest none has =
    let p : NamePattern = has.0 in
    let some = some_of p.back has.1.numbers in
    none (p.middle, some.0, record { free = has.1.is.middle_free; whole = behind_some p.middle rest some.0 p.back some.1 has.1.rest_is })

-- the whole text
pub behind_text : (text front rest : List ℕ) (limited : Bool) (p : NamePattern) → IsSplit text 53 front rest → IsPatternBehind front rest limited p → IsTextOf text limited p
behind_text text front rest limited p split h = record {
  is = h.is;
  numbers = h.numbers;
  whole = split.whole ∙ (ap (λ (t : List ℕ). t ++ (run_sign ++ rest)) (sym h.front_is) ∙ ap (λ (t : List ℕ). p.front ++ (run_sign ++ t)) h.rest_is);
}

pub text_behind : (text front rest : List ℕ) (limited : Bool) (p : NamePattern) → IsSplit text 53 front rest → IsTextOf text limited p → IsPatternBehind front rest limited p
text_behind text front rest limited p split h =
    let behind : List ℕ = behind_run p.middle p.back sub_sign in
    let parts = same_parts p.front front (48 ∷ 53 ∷ 100 ∷ behind) (48 ∷ 53 ∷ 100 ∷ rest) h.is.front_free split.free (sym h.whole ∙ split.whole) in
    let rests : rest ≡ behind = cc (parts.1) in
    record { is = h.is; front_is = parts.0; numbers = h.numbers; rest_is = rests }

pub no_text : (text : List ℕ) (limited : Bool) → (HasSign text 53 → ⊥) → IsPatternText text limited → ⊥
no_text text limited none has =
    let p : NamePattern = has.0 in
    none (p.front, behind_run p.middle p.back sub_sign, record { free = has.1.is.front_free; whole = has.1.whole })
