-- Parts of a line are told apart by a byte that does not stand in the first.
use Rattle.std.proofs.Common.{◌≡◌, ℕ, zero, suc, ◌+◌, ◌<◌, ◌≤◌, ◌==◌, Bool, true, false, not, cond, List, [], ◌∷◌, ◌++◌, length, take, get_or, Option, Some, None, Result, Ok, Err, IsOk, IsTrue, IfNone, refl, sym, ap, ◌∙◌, subst, arith, ne_eqb}
use Rattle.std.specs.Char.{digit_value}
use Rattle.std.specs.Str.Parse.{AllDigits, IsNumeral}
use Rattle.std.proofs.lemmas.Bool.Decides.{nat_tests}
use Rattle.std.proofs.lemmas.List.{take_all}
use Rattle.std.proofs.lemmas.Str.Parse.{digit_from_value}
use Rattle.daq_text.specs.Numbers.{behind, is_blank}
use Rattle.odb_value.specs.declared.path_refusals.PathRefusal.{PathRefusal}
use Rattle.odb_value.specs.PathText.{path_reply}
use Rattle.odb_text.specs.LineForms.{AreBlanks, HasNo, IsBracketed, IsDirLine}

-- blanks

pub blanks_left : (bs : List ℕ) → AreBlanks bs → behind is_blank bs ≡ []
blanks_left [] h = refl
blanks_left (b ∷ bs) h = ap (λ (t : Bool). cond t (behind is_blank bs) (b ∷ bs)) h.0 ∙ blanks_left bs h.1

pub left_blanks : (bs : List ℕ) → behind is_blank bs ≡ [] → AreBlanks bs
left_blanks [] h = tt
left_blanks (b ∷ bs) h = cases (is_blank b) refl h (left_blanks bs)
  where
    cases : (t : Bool) → is_blank b ≡ t → cond t (behind is_blank bs) (b ∷ bs) ≡ [] → (behind is_blank bs ≡ [] → AreBlanks bs) → AreBlanks (b ∷ bs)
    cases true e k rest = (e, rest k)
    cases false e k rest = absurd (cc)

-- one parting

equal_test : (b c : ℕ) → b ≡ c → (b == c) ≡ false → ⊥
equal_test b c e h = absurd (grind (arith, nat_tests, e, h))

pub parted : (c : ℕ) (a b x y : List ℕ) → HasNo c a → HasNo c b → a ++ c ∷ x ≡ b ++ c ∷ y → (a ≡ b) × (x ≡ y)
parted c [] [] x y h k e = (refl, cc)
parted c [] (b ∷ bs) x y h k e = absurd (equal_test b c (sym (let f : c ≡ b = cc in f)) k.0)
parted c (a ∷ as_) [] x y h k e = absurd (equal_test a c (let f : a ≡ c = cc in f) h.0)
parted c (a ∷ as_) (b ∷ bs) x y h k e =
    let rest = parted c as_ bs x y h.1 k.1 (let f : as_ ++ c ∷ x ≡ bs ++ c ∷ y = cc in f) in
    let first : a ≡ b = cc in
    (ap (λ (l : List ℕ). a ∷ l) rest.0 ∙ ap (λ (n : ℕ). n ∷ bs) first, rest.1)

-- a text with no such byte has no parting
pub not_parted : (c : ℕ) (text a x : List ℕ) → HasNo c text → text ≡ a ++ c ∷ x → ⊥
not_parted c [] [] x h e = absurd (cc)
not_parted c [] (a ∷ as_) x h e = absurd (cc)
not_parted c (t ∷ ts) [] x h e = equal_test t c (let f : t ≡ c = cc in f) h.0
not_parted c (t ∷ ts) (a ∷ as_) x h e = not_parted c ts as_ x h.1 (let f : ts ≡ as_ ++ c ∷ x = cc in f)

-- digits are no brackets
pub digits_no : (ds : List ℕ) → AllDigits 10 ds → HasNo 93 ds
digits_no [] h = tt
digits_no (d ∷ ds) h = (ne_eqb d 93 (omega (arith, digit_from_value d h.0)), digits_no ds h.1)

-- the digits in brackets are one reading
pub bracketed_once : (line inside rest digits more : List ℕ) → line ≡ 91 ∷ (inside ++ 93 ∷ rest) → HasNo 93 inside → IsBracketed line digits more → (inside ≡ digits) × (rest ≡ more)
bracketed_once line inside rest digits more e h k =
    parted 93 inside digits rest more h (digits_no digits k.numeral.1) (let f : inside ++ 93 ∷ rest ≡ digits ++ 93 ∷ more = cons_same 91 (inside ++ 93 ∷ rest) (digits ++ 93 ∷ more) (sym e ∙ k.spelled) in f)
  where
    cons_same : (c : ℕ) (x y : List ℕ) → c ∷ x ≡ c ∷ y → x ≡ y
    cons_same c x y f = cc

cons_same : (c d : ℕ) (x y : List ℕ) → c ∷ x ≡ d ∷ y → x ≡ y
cons_same c d x y f = cc

-- tests of the code

pub is_blanks : (bs rest : List ℕ) (t : Bool) → rest ≡ behind is_blank bs → t ≡ (length rest == 0) → (IsTrue t → AreBlanks bs) × (AreBlanks bs → IsTrue t)
is_blanks bs rest t e is = (
  λ (yes : IsTrue t). left_blanks bs (sym e ∙ none rest (let k : (length rest == 0) ≡ true = sym is ∙ yes in grind (arith, nat_tests, k))),
  λ (h : AreBlanks bs). is ∙ ap (λ (l : List ℕ). length l == 0) (e ∙ blanks_left bs h),
)
  where
    none : (l : List ℕ) → length l ≡ 0 → l ≡ []
    none [] k = refl
    none (x ∷ xs) k = absurd (omega (arith, k))

no_more : (c : ℕ) (xs : List ℕ) (i d : ℕ) → i < length xs → HasNo c (take i xs) → (get_or xs i d == c) ≡ false → HasNo c (take (suc i) xs)
no_more c [] i d h k e = absurd (omega (arith, h))
no_more c (x ∷ xs) zero d h k e = (e, tt)
no_more c (x ∷ xs) (suc i) d h k e = (k.0, no_more c xs i d (omega (arith, h)) k.1 e)

pub no_next : (c : ℕ) (xs : List ℕ) (i d : ℕ) → i < length xs → HasNo c (take i xs) → (get_or xs i d == c) ≡ false → HasNo c (take (i + 1) xs)
no_next c xs i d h k e = subst (λ (n : ℕ). HasNo c (take n xs)) (let s : suc i ≡ i + 1 = omega arith in s) (no_more c xs i d h k e)

digits_more : (xs : List ℕ) (i d : ℕ) → i < length xs → AllDigits 10 (take i xs) → digit_value (get_or xs i d) < 10 → AllDigits 10 (take (suc i) xs)
digits_more [] i d h k e = absurd (omega (arith, h))
digits_more (x ∷ xs) zero d h k e = (e, tt)
digits_more (x ∷ xs) (suc i) d h k e = (k.0, digits_more xs i d (omega (arith, h)) k.1 e)

pub digits_next : (xs : List ℕ) (i d : ℕ) → i < length xs → AllDigits 10 (take i xs) → digit_value (get_or xs i d) < 10 → AllDigits 10 (take (i + 1) xs)
digits_next xs i d h k e = subst (λ (n : ℕ). AllDigits 10 (take n xs)) (let s : suc i ≡ i + 1 = omega arith in s) (digits_more xs i d h k e)

pub digit_at : (xs : List ℕ) (i d : ℕ) → i < length xs → AllDigits 10 xs → digit_value (get_or xs i d) < 10
digit_at [] i d h k = absurd (omega (arith, h))
digit_at (x ∷ xs) zero d h k = k.0
digit_at (x ∷ xs) (suc i) d h k = digit_at xs i d (omega (arith, h)) k.1

-- what is no line of a directory

pub same_parts : (line inside behind_ text blanks : List ℕ) → line ≡ 91 ∷ (inside ++ 93 ∷ behind_) → HasNo 93 inside → line ≡ 91 ∷ (text ++ 93 ∷ blanks) → HasNo 93 text → (inside ≡ text) × (behind_ ≡ blanks)
same_parts line inside behind_ text blanks e h f k = parted 93 inside text behind_ blanks h k (cons_same 91 91 (inside ++ 93 ∷ behind_) (text ++ 93 ∷ blanks) (sym e ∙ f))

pub no_line : (line inside behind_ : List ℕ) (p : List (List ℕ)) → line ≡ 91 ∷ (inside ++ 93 ∷ behind_) → HasNo 93 inside → (AreBlanks behind_ → path_reply inside ≡ Ok p → ⊥) → IsDirLine line p → ⊥
no_line line inside behind_ p e h never d =
    let same = same_parts line inside behind_ d.text d.blanks e h d.spelled d.inside in
    never (subst AreBlanks (sym same.1) d.blank) (ap path_reply same.0 ∙ d.path)

pub no_path : (reply : Result (List (List ℕ)) PathRefusal) (refusal : PathRefusal) (p : List (List ℕ)) → reply ≡ Err refusal → reply ≡ Ok p → ⊥
no_path reply refusal p e f = cc

pub path_read : (reply : Result (List (List ℕ)) PathRefusal) → IsOk reply → (p : List (List ℕ)) × (reply ≡ Ok p)
path_read (Ok p) h = (p, refl)
path_read (Err refusal) h = absurd (cc)

pub if_none : {X P Q : Type 0} (r : Option X) → (P → Q) → IfNone r P → IfNone r Q
if_none None f h = f h
if_none (Some x) f h = h

pub not_begun : (line inside first_rest : List ℕ) (first : ℕ) (rest : List ℕ) → line ≡ first ∷ first_rest → HasNo 93 first_rest → line ≡ 91 ∷ (inside ++ 93 ∷ rest) → ⊥
not_begun line inside first_rest first rest e h f = not_parted 93 first_rest inside rest h (cons_same first 91 first_rest (inside ++ 93 ∷ rest) (sym e ∙ f))

pub if_any : {X Q : Type 0} (r : Option X) → Q → IfNone r Q
if_any None q = q
if_any (Some x) q = tt

pub numeral_test : (text : List ℕ) (i : ℕ) (t : Bool) → length text ≤ i → AllDigits 10 (take i text) → t ≡ (length text == 0) → (IsTrue (not t) → IsNumeral 10 text) × (IsNumeral 10 text → IsTrue (not t))
numeral_test text i t h all is =
    let digits : AllDigits 10 text = subst (AllDigits 10) (take_all i text h) all in (
      λ (yes : IsTrue (not t)). (let some : (length text == 0) ≡ false = sym is ∙ falsely t yes in let k : 0 < length text = grind (arith, nat_tests, some) in omega arith, digits),
      λ (n : IsNumeral 10 text). ap not (is ∙ (let k : (length text == 0) ≡ false = ne_eqb (length text) 0 (omega (arith, n.0)) in k)),
    )
  where
    falsely : (b : Bool) → not b ≡ true → b ≡ false
    falsely true e = absurd (cc)
    falsely false e = refl
