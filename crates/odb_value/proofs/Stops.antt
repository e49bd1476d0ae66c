-- Where texts of a form stop: what goes on, and what cannot.
use Rattle.std.proofs.Common.{◌≡◌, ℕ, ◌≤◌, Bool, true, false, List, [], ◌∷◌, ◌++◌, length, drop, refl, sym, ap, subst, ◌∙◌, arith, ne_eqb, le-ltb, length-append}
use Rattle.std.specs.Prelude.{◌&&◌, ◌||◌, ◌==◌, nat_eq, if◌then◌else◌, Result, Ok, Err, is_ok, pos}
use Rattle.std.proofs.lemmas.Bool.{eqb-true}
use Rattle.std.specs.Str.Parse.{digits_value}
use Rattle.daq_text.specs.Numbers.{front, behind, is_blank, ended, is_digit_in, digits_form, unsigned_form, mapped}
use Rattle.odb_value.specs.Forms.{signed_form, truth_form, is_yes, is_no, negative}

-- A text has so many bytes left behind those that go on with a form: some bytes make them a text of the form, and with
-- the next byte of the text no bytes do.
pub record Stops (fits : List ℕ → Bool) (text : List ℕ) (left : ℕ) : Type 0 where
  pub good : List ℕ
  pub bad : List ℕ
  pub more : List ℕ
  pub split : good ++ bad ≡ text
  pub size : length bad ≡ left
  pub goes_on : fits (good ++ more) ≡ true
  pub stops : (c : ℕ) (rest next : List ℕ) → bad ≡ c ∷ rest → fits (good ++ c ∷ next) ≡ false

pub stops_end : (fits : List ℕ → Bool) (more : List ℕ) → fits more ≡ true → Stops fits [] 0
stops_end fits more h = record { good = []; bad = []; more = more; split = refl; size = refl; goes_on = h; stops = λ c rest next e. absurd (cc) }

pub stops_here : (fits : List ℕ → Bool) (b : ℕ) (bs more : List ℕ) → fits more ≡ true → ((next : List ℕ) → fits (b ∷ next) ≡ false) → Stops fits (b ∷ bs) (length (b ∷ bs))
stops_here fits b bs more h none = record {
  good = [];
  bad = b ∷ bs;
  more = more;
  split = refl;
  size = refl;
  goes_on = h;
  stops = λ c rest next e. let same : b ≡ c = (cc) in subst (λ (x : ℕ). fits (x ∷ next) ≡ false) same (none next);
}

pub stops_cons : (f g : List ℕ → Bool) (b : ℕ) (bs : List ℕ) (left : ℕ) → ((x : List ℕ) → g (b ∷ x) ≡ f x) → Stops f bs left → Stops g (b ∷ bs) left
stops_cons f g b bs left same s = record {
  good = b ∷ s.good;
  bad = s.bad;
  more = s.more;
  split = ap (λ (l : List ℕ). b ∷ l) s.split;
  size = s.size;
  goes_on = same (s.good ++ s.more) ∙ s.goes_on;
  stops = λ c rest next e. same (s.good ++ c ∷ next) ∙ s.stops c rest next e;
}

-- one form in place of another, for texts that begin alike
head_stops : (f g : List ℕ → Bool) (a : ℕ) (r good bad : List ℕ) → ((x : List ℕ) → g (a ∷ x) ≡ f (a ∷ x)) → good ++ bad ≡ a ∷ r
    → ((c : ℕ) (rest next : List ℕ) → bad ≡ c ∷ rest → f (good ++ c ∷ next) ≡ false) → (c : ℕ) (rest next : List ℕ) → bad ≡ c ∷ rest → g (good ++ c ∷ next) ≡ false
head_stops f g a r [] bad same split stops c rest next e =
    let first : a ≡ c = (cc (sym split ∙ e)) in
    subst (λ (x : ℕ). g (x ∷ next) ≡ f (x ∷ next)) first (same next) ∙ stops c rest next e
head_stops f g a r (b ∷ bs) bad same split stops c rest next e =
    let first : a ≡ b = (cc split) in
    subst (λ (x : ℕ). g (x ∷ (bs ++ c ∷ next)) ≡ f (x ∷ (bs ++ c ∷ next))) first (same (bs ++ c ∷ next)) ∙ stops c rest next e

pub stops_like : (f g : List ℕ → Bool) (a : ℕ) (r : List ℕ) (left : ℕ) → ((x : List ℕ) → g (a ∷ x) ≡ f (a ∷ x)) → ((x : List ℕ) → f x ≡ true → g x ≡ true)
    → Stops f (a ∷ r) left → Stops g (a ∷ r) left
stops_like f g a r left same also s = record {
  good = s.good;
  bad = s.bad;
  more = s.more;
  split = s.split;
  size = s.size;
  goes_on = also (s.good ++ s.more) s.goes_on;
  stops = head_stops f g a r s.good s.bad same s.split s.stops;
}

-- Blanks up to the end.

abbrev pub blanks_only : List ℕ → Bool
blanks_only x = nat_eq (length (behind is_blank x)) 0

some_left : (b : ℕ) (bs : List ℕ) → nat_eq (length (b ∷ bs)) 0 ≡ false
some_left b bs = ne_eqb (length (b ∷ bs)) 0 (omega arith)

blanks_stops : (x : List ℕ) (left : ℕ) → blanks_only x ≡ false → length (behind is_blank x) ≡ left → Stops blanks_only x left
blanks_stops [] left other size = absurd (cc)
blanks_stops (b ∷ bs) left other size =
    elim (is_blank b)
    as (λ t. is_blank b ≡ t → nat_eq (length (if t then behind is_blank bs else b ∷ bs)) 0 ≡ false → length (if t then behind is_blank bs else b ∷ bs) ≡ left → Stops blanks_only (b ∷ bs) left) [
      | true ↦ λ h other size. stops_cons blanks_only blanks_only b bs left (λ x. rw h refl) (blanks_stops bs left other size)
      | false ↦ λ h other size. subst (Stops blanks_only (b ∷ bs)) size (stops_here blanks_only b bs [] refl (λ next. rw h (some_left b next)))
    ]
    refl other size

is_ok-ended : {A : Type 0} (value : A) (x : List ℕ) → is_ok (ended value x) ≡ blanks_only x
is_ok-ended value x =
    elim (blanks_only x) as (λ t. is_ok (if t then Ok value else Err (length (behind is_blank x))) ≡ t) [ true ↦ refl | false ↦ refl ]

ended-left : {A : Type 0} (value : A) (x : List ℕ) (left : ℕ) → ended value x ≡ Err left → (blanks_only x ≡ false) × (length (behind is_blank x) ≡ left)
ended-left value x left =
    elim (blanks_only x) as (λ t. (if t then Ok value else Err (length (behind is_blank x))) ≡ Err left → (t ≡ false) × (length (behind is_blank x) ≡ left))
    [ true ↦ λ e. absurd (cc) | false ↦ λ e. (refl, (cc)) ]

-- Digits, and blanks up to the end.

abbrev tail_fits : ℕ → List ℕ → Bool
tail_fits base x = blanks_only (behind (is_digit_in base) x)

-- A blank is no digit.
pub not_digit : (base b : ℕ) → base ≤ 36 → is_blank b ≡ true → is_digit_in base b ≡ false
not_digit base b low =
    elim (b == 32) as (λ t. (b == 32) ≡ t → (t || b == 9) ≡ true → is_digit_in base b ≡ false) [
      | true ↦ λ h _. let is : 32 ≡ b = sym (eqb-true b 32 h) in subst (λ (x : ℕ). is_digit_in base x ≡ false) is (le-ltb 36 base low)
      | false ↦ λ _ h. let is : 9 ≡ b = sym (eqb-true b 9 h) in subst (λ (x : ℕ). is_digit_in base x ≡ false) is (le-ltb 36 base low)
    ]
    refl

blanks_then : (base : ℕ) → base ≤ 36 → (x : List ℕ) → blanks_only x ≡ true → tail_fits base x ≡ true
blanks_then base low [] h = refl
blanks_then base low (b ∷ bs) h =
    elim (is_blank b) as (λ t. is_blank b ≡ t → nat_eq (length (if t then behind is_blank bs else b ∷ bs)) 0 ≡ true → tail_fits base (b ∷ bs) ≡ true) [
      | true ↦ λ blank all. rw (not_digit base b low blank, blank) all
      | false ↦ λ blank all. absurd (cc (some_left b bs))
    ]
    refl h

tail_stops : (base : ℕ) → base ≤ 36 → (x : List ℕ) (left : ℕ) → tail_fits base x ≡ false → length (behind is_blank (behind (is_digit_in base) x)) ≡ left → Stops (tail_fits base) x left
tail_stops base low [] left other size = absurd (cc)
tail_stops base low (b ∷ bs) left other size =
    elim (is_digit_in base b)
    as (λ t. is_digit_in base b ≡ t → blanks_only (if t then behind (is_digit_in base) bs else b ∷ bs) ≡ false
    → length (behind is_blank (if t then behind (is_digit_in base) bs else b ∷ bs)) ≡ left → Stops (tail_fits base) (b ∷ bs) left) [
      | true ↦ λ h other size. stops_cons (tail_fits base) (tail_fits base) b bs left (λ x. rw h refl) (tail_stops base low bs left other size)
      | false ↦ λ h other size.
          stops_like blanks_only (tail_fits base) b bs left (λ x. rw h refl) (blanks_then base low) (blanks_stops (b ∷ bs) left other size)
    ]
    refl other size

abbrev pub digits_fit : ℕ → List ℕ → Bool
digits_fit base x = is_ok (digits_form base x)

digits_first : (base d : ℕ) (ds : List ℕ) → is_digit_in base d ≡ true
    → digits_form base (d ∷ ds) ≡ ended (digits_value base (d ∷ front (is_digit_in base) ds)) (behind (is_digit_in base) ds)
digits_first base d ds h = rw (h, some_left d (front (is_digit_in base) ds)) refl

digits_none : (base d : ℕ) (ds : List ℕ) → is_digit_in base d ≡ false → digits_form base (d ∷ ds) ≡ Err (length (d ∷ ds))
digits_none base d ds h = rw h refl

digits_fit-first : (base d : ℕ) (ds : List ℕ) → is_digit_in base d ≡ true → digits_fit base (d ∷ ds) ≡ tail_fits base ds
digits_fit-first base d ds h =
    ap (λ (r : Result ℕ ℕ). is_ok r) (digits_first base d ds h)
    ∙ is_ok-ended (digits_value base (d ∷ front (is_digit_in base) ds)) (behind (is_digit_in base) ds)

digits_fit-none : (base d : ℕ) (ds : List ℕ) → is_digit_in base d ≡ false → digits_fit base (d ∷ ds) ≡ false
digits_fit-none base d ds h = ap (λ (r : Result ℕ ℕ). is_ok r) (digits_none base d ds h)

digits_stops : (base : ℕ) → base ≤ 36 → digits_fit base (48 ∷ []) ≡ true → (x : List ℕ) (left : ℕ) → digits_form base x ≡ Err left → Stops (digits_fit base) x left
digits_stops base low zero_fits [] left e = let none : 0 ≡ left = (cc) in subst (Stops (digits_fit base) []) none (stops_end (digits_fit base) (48 ∷ []) zero_fits)
digits_stops base low zero_fits (d ∷ ds) left e =
    elim (is_digit_in base d) as (λ t. is_digit_in base d ≡ t → Stops (digits_fit base) (d ∷ ds) left) [
      | true ↦ λ h.
          let rest : (blanks_only (behind (is_digit_in base) ds) ≡ false) × (length (behind is_blank (behind (is_digit_in base) ds)) ≡ left) =
          ended-left (digits_value base (d ∷ front (is_digit_in base) ds)) (behind (is_digit_in base) ds) left (sym (digits_first base d ds h) ∙ e) in
          stops_cons (tail_fits base) (digits_fit base) d ds left (λ x. digits_fit-first base d x h) (tail_stops base low ds left rest.0 rest.1)
      | false ↦ λ h.
          let all : length (d ∷ ds) ≡ left = (cc (sym (digits_none base d ds h) ∙ e)) in
          subst (Stops (digits_fit base) (d ∷ ds)) all
          (stops_here (digits_fit base) d ds (48 ∷ []) zero_fits (λ next. digits_fit-none base d next h))
    ]
    refl

-- Numbers without a sign.

abbrev pub unsigned_fits : List ℕ → Bool
unsigned_fits x = is_ok (unsigned_form x)

abbrev is_hexadecimal : ℕ → ℕ → Bool
is_hexadecimal a b = nat_eq 48 a && (nat_eq 120 b && true)

not_zero : (a : ℕ) → is_digit_in 10 a ≡ false → nat_eq 48 a ≡ false
not_zero a h = ne_eqb 48 a (λ e. let P : ℕ → Type 0 = λ x. is_digit_in 10 x ≡ false in let no : is_digit_in 10 48 ≡ false = subst P (sym e) h in absurd (cc))

pub not_digit_fits : (a : ℕ) (x : List ℕ) → is_digit_in 10 a ≡ false → unsigned_fits (a ∷ x) ≡ false
not_digit_fits a [] h = rw (not_zero a h) (digits_fit-none 10 a [] h)
not_digit_fits a (b ∷ x) h = rw (not_zero a h) (digits_fit-none 10 a (b ∷ x) h)

not_digit_form : (a : ℕ) (x : List ℕ) → is_digit_in 10 a ≡ false → unsigned_form (a ∷ x) ≡ Err (length (a ∷ x))
not_digit_form a [] h = rw (not_zero a h) (digits_none 10 a [] h)
not_digit_form a (b ∷ x) h = rw (not_zero a h) (digits_none 10 a (b ∷ x) h)

one_digit_form : (a : ℕ) → is_digit_in 10 a ≡ true → unsigned_fits (a ∷ []) ≡ true
one_digit_form a h =
    elim (nat_eq 48 a) as (λ t. is_ok (if t && false then digits_form 16 (drop 2 (a ∷ [])) else digits_form 10 (a ∷ [])) ≡ true)
    [ true ↦ digits_fit-first 10 a [] h | false ↦ digits_fit-first 10 a [] h ]

-- the first byte is a digit, and the second does not make the number hexadecimal
unsigned_tail : (a b : ℕ) (x : List ℕ) → is_digit_in 10 a ≡ true → is_hexadecimal a b ≡ false → unsigned_fits (a ∷ b ∷ x) ≡ tail_fits 10 (b ∷ x)
unsigned_tail a b x h plain = rw plain (digits_fit-first 10 a (b ∷ x) h)

digit_is_plain : (a b : ℕ) → is_digit_in 10 b ≡ true → is_hexadecimal a b ≡ false
digit_is_plain a b h =
    let no_x : nat_eq 120 b ≡ false = ne_eqb 120 b (λ e. let P : ℕ → Type 0 = λ x. is_digit_in 10 x ≡ true in let no : is_digit_in 10 120 ≡ true = subst P (sym e) h in absurd (cc)) in
    rw no_x (elim (nat_eq 48 a) as (λ t. (t && (false && true)) ≡ false) [ true ↦ refl | false ↦ refl ])

-- behind a digit, an `x` does not go on with decimal digits and blanks
no_hexadecimal_tail : (a b : ℕ) (x : List ℕ) → is_hexadecimal a b ≡ true → tail_fits 10 (b ∷ x) ≡ true → ⊥
no_hexadecimal_tail a b x hex t =
    elim (nat_eq 120 b) as (λ p. nat_eq 120 b ≡ p → (nat_eq 48 a && (p && true)) ≡ true → ⊥) [
      | true ↦ λ is _. let same : 120 ≡ b = eqb-true 120 b is in
          let P : ℕ → Type 0 = λ y. tail_fits 10 (y ∷ x) ≡ true in
          let t' : tail_fits 10 (120 ∷ x) ≡ true = subst P (sym same) t in
          let no : tail_fits 10 (120 ∷ x) ≡ false = some_left 120 x in
          absurd (cc)
      | false ↦ λ _ no. elim (nat_eq 48 a) as (λ q. (q && (false && true)) ≡ true → ⊥) [ true ↦ λ e. (cc) | false ↦ λ e. (cc) ] no
    ]
    refl hex

-- a form that goes on behind a first digit goes on behind it also here
tail_then : (a : ℕ) → is_digit_in 10 a ≡ true → (x : List ℕ) → tail_fits 10 x ≡ true → unsigned_fits (a ∷ x) ≡ true
tail_then a h [] t = one_digit_form a h
tail_then a h (b ∷ x) t =
    elim (is_hexadecimal a b) as (λ p. is_hexadecimal a b ≡ p → unsigned_fits (a ∷ b ∷ x) ≡ true) [
      | true ↦ λ hex. absurd (no_hexadecimal_tail a b x hex t)
      | false ↦ λ plain. unsigned_tail a b x h plain ∙ t
    ]
    refl

-- Where a number without a sign stops: its first byte is a digit, and a second follows.
digit_stops : (a b : ℕ) (r : List ℕ) (left : ℕ) → is_digit_in 10 a ≡ true → is_hexadecimal a b ≡ false → unsigned_form (a ∷ b ∷ r) ≡ Err left
    → Stops (λ x. unsigned_fits (a ∷ x)) (b ∷ r) left
digit_stops a b r left h plain e =
    let form : digits_form 10 (a ∷ b ∷ r) ≡ Err left = (rw plain at e) in
    let rest : (blanks_only (behind (is_digit_in 10) (b ∷ r)) ≡ false) × (length (behind is_blank (behind (is_digit_in 10) (b ∷ r))) ≡ left) =
    ended-left (digits_value 10 (a ∷ front (is_digit_in 10) (b ∷ r))) (behind (is_digit_in 10) (b ∷ r)) left (sym (digits_first 10 a (b ∷ r) h) ∙ form) in
    stops_like (tail_fits 10) (λ x. unsigned_fits (a ∷ x)) b r left (λ x. unsigned_tail a b x h plain) (tail_then a h)
    (tail_stops 10 (omega arith) (b ∷ r) left rest.0 rest.1)

first_stops : (a : ℕ) (r : List ℕ) (left : ℕ) → is_digit_in 10 a ≡ false → unsigned_form (a ∷ r) ≡ Err left → Stops unsigned_fits (a ∷ r) left
first_stops a r left h e =
    let all : length (a ∷ r) ≡ left = (cc (sym (not_digit_form a r h) ∙ e)) in
    subst (Stops unsigned_fits (a ∷ r)) all (stops_here unsigned_fits a r (48 ∷ []) refl (λ next. not_digit_fits a next h))

pub unsigned_stops : (x : List ℕ) (left : ℕ) → unsigned_form x ≡ Err left → Stops unsigned_fits x left
unsigned_stops [] left e = let none : 0 ≡ left = (cc) in subst (Stops unsigned_fits []) none (stops_end unsigned_fits (48 ∷ []) refl)
unsigned_stops (a ∷ []) left e =
    elim (is_digit_in 10 a) as (λ t. is_digit_in 10 a ≡ t → Stops unsigned_fits (a ∷ []) left) [
      | true ↦ λ h. let fits : unsigned_fits (a ∷ []) ≡ true = one_digit_form a h in
          let fails : unsigned_fits (a ∷ []) ≡ false = ap (λ (r : Result ℕ ℕ). is_ok r) e in absurd (cc)
      | false ↦ λ h. first_stops a [] left h e
    ]
    refl
unsigned_stops (a ∷ b ∷ r) left e =
    elim (is_digit_in 10 a) as (λ t. is_digit_in 10 a ≡ t → Stops unsigned_fits (a ∷ b ∷ r) left) [
      | true ↦ λ h.
          elim (is_hexadecimal a b) as (λ t. is_hexadecimal a b ≡ t → Stops unsigned_fits (a ∷ b ∷ r) left) [
            | true ↦ λ hex.
                let form : digits_form 16 r ≡ Err left = (rw hex at e) in
                stops_cons (λ x. unsigned_fits (a ∷ x)) unsigned_fits a (b ∷ r) left (λ x. refl)
                (stops_cons (digits_fit 16) (λ x. unsigned_fits (a ∷ x)) b r left (λ x. rw hex refl) (digits_stops 16 (omega arith) refl r left form))
            | false ↦ λ plain. stops_cons (λ x. unsigned_fits (a ∷ x)) unsigned_fits a (b ∷ r) left (λ x. refl) (digit_stops a b r left h plain e)
          ]
          refl
      | false ↦ λ h. first_stops a (b ∷ r) left h e
    ]
    refl

-- Numbers with a sign.

abbrev pub signed_fits : List ℕ → Bool
signed_fits x = is_ok (signed_form x)

is_ok-mapped : {A B E : Type 0} (f : A → B) (r : Result A E) → is_ok (mapped f r) ≡ is_ok r
is_ok-mapped f (Ok x) = refl
is_ok-mapped f (Err e) = refl

mapped-left : {A B : Type 0} (f : A → B) (r : Result A ℕ) (left : ℕ) → mapped f r ≡ Err left → r ≡ Err left
mapped-left f (Ok x) left e = absurd (cc)
mapped-left f (Err l) left e = let same : l ≡ left = (cc) in ap (λ (n : ℕ). Err n) same

pub plain_sign : (a : ℕ) (x : List ℕ) → nat_eq 45 a ≡ false → signed_fits (a ∷ x) ≡ unsigned_fits (a ∷ x)
plain_sign a x h = rw h (is_ok-mapped pos (unsigned_form (a ∷ x)))

-- what is a number without a sign is one here too
signed_also : (x : List ℕ) → unsigned_fits x ≡ true → signed_fits x ≡ true
signed_also [] t = absurd (cc)
signed_also (a ∷ x) t =
    elim (nat_eq 45 a) as (λ p. nat_eq 45 a ≡ p → signed_fits (a ∷ x) ≡ true) [
      | true ↦ λ h. let same : 45 ≡ a = eqb-true 45 a h in
          let P : ℕ → Type 0 = λ y. unsigned_fits (y ∷ x) ≡ true in
          let fits : unsigned_fits (45 ∷ x) ≡ true = subst P (sym same) t in
          let fails : unsigned_fits (45 ∷ x) ≡ false = not_digit_fits 45 x refl in absurd (cc)
      | false ↦ λ h. plain_sign a x h ∙ t
    ]
    refl

pub signed_stops : (x : List ℕ) (left : ℕ) → signed_form x ≡ Err left → Stops signed_fits x left
signed_stops [] left e = let none : 0 ≡ left = (cc) in subst (Stops signed_fits []) none (stops_end signed_fits (48 ∷ []) refl)
signed_stops (a ∷ x) left e =
    elim (nat_eq 45 a) as (λ p. nat_eq 45 a ≡ p → Stops signed_fits (a ∷ x) left) [
      | true ↦ λ h.
          let form : mapped negative (digits_form 10 x) ≡ Err left = (rw h at e) in
          stops_cons (digits_fit 10) signed_fits a x left (λ y. rw h (is_ok-mapped negative (digits_form 10 y)))
          (digits_stops 10 (omega arith) refl x left (mapped-left negative (digits_form 10 x) left form))
      | false ↦ λ h.
          let form : mapped pos (unsigned_form (a ∷ x)) ≡ Err left = (rw h at e) in
          stops_like unsigned_fits signed_fits a x left (λ y. plain_sign a y h) signed_also
          (unsigned_stops (a ∷ x) left (mapped-left pos (unsigned_form (a ∷ x)) left form))
    ]
    refl

-- Truth values.

abbrev pub truth_fits : List ℕ → Bool
truth_fits x = is_ok (truth_form x)

pub truth_stops : (x : List ℕ) (left : ℕ) → truth_form x ≡ Err left → Stops truth_fits x left
truth_stops [] left e = let none : 0 ≡ left = (cc) in subst (Stops truth_fits []) none (stops_end truth_fits (48 ∷ []) refl)
truth_stops (b ∷ bs) left e =
    elim (is_yes b) as (λ p. is_yes b ≡ p → Stops truth_fits (b ∷ bs) left) [
      | true ↦ λ h.
          let rest : (blanks_only bs ≡ false) × (length (behind is_blank bs) ≡ left) = ended-left true bs left (rw h at e) in
          stops_cons blanks_only truth_fits b bs left (λ y. rw h (is_ok-ended true y)) (blanks_stops bs left rest.0 rest.1)
      | false ↦ λ h.
          elim (is_no b) as (λ q. is_no b ≡ q → Stops truth_fits (b ∷ bs) left) [
            | true ↦ λ n.
                let rest : (blanks_only bs ≡ false) × (length (behind is_blank bs) ≡ left) = ended-left false bs left (rw (h, n) at e) in
                stops_cons blanks_only truth_fits b bs left (λ y. rw (h, n) (is_ok-ended false y)) (blanks_stops bs left rest.0 rest.1)
            | false ↦ λ n.
                let form : Err (length (b ∷ bs)) ≡ Err left = (rw (h, n) at e) in
                let all : length (b ∷ bs) ≡ left = (cc) in
                subst (Stops truth_fits (b ∷ bs)) all (stops_here truth_fits b bs (48 ∷ []) refl (λ next. rw (h, n) refl))
          ]
          refl
    ]
    refl

-- Blanks in front.

spaced_also : (fits : List ℕ → Bool) → ((b : ℕ) (x : List ℕ) → is_blank b ≡ true → fits (b ∷ x) ≡ false) → (x : List ℕ) → fits x ≡ true → fits (behind is_blank x) ≡ true
spaced_also fits bare [] t = t
spaced_also fits bare (b ∷ x) t =
    elim (is_blank b) as (λ p. is_blank b ≡ p → fits (if p then behind is_blank x else b ∷ x) ≡ true)
    [ true ↦ λ h. let fails : fits (b ∷ x) ≡ false = bare b x h in absurd (cc) | false ↦ λ h. t ]
    refl

pub spaced_stops : (fits : List ℕ → Bool) → ((b : ℕ) (x : List ℕ) → is_blank b ≡ true → fits (b ∷ x) ≡ false) → fits (48 ∷ []) ≡ true
    → (x : List ℕ) (left : ℕ) → Stops fits (behind is_blank x) left → Stops (λ y. fits (behind is_blank y)) x left
spaced_stops fits bare zero_fits [] left s =
    let none : 0 ≡ left = omega (arith, s.size, length-append s.good s.bad, ap (length {A = ℕ}) s.split) in
    subst (Stops (λ y. fits (behind is_blank y)) []) none (stops_end (λ y. fits (behind is_blank y)) (48 ∷ []) zero_fits)
spaced_stops fits bare zero_fits (b ∷ x) left s =
    elim (is_blank b) as (λ p. is_blank b ≡ p → Stops fits (if p then behind is_blank x else b ∷ x) left → Stops (λ y. fits (behind is_blank y)) (b ∷ x) left) [
      | true ↦ λ h t. stops_cons (λ y. fits (behind is_blank y)) (λ y. fits (behind is_blank y)) b x left (λ y. rw h refl) (spaced_stops fits bare zero_fits x left t)
      | false ↦ λ h t. stops_like fits (λ y. fits (behind is_blank y)) b x left (λ y. rw h refl) (spaced_also fits bare) t
    ]
    refl s
