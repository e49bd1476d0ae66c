-- Where a sign for a number stands in a text, and that the names that a pattern gives are names of files.
use Rattle.std.specs.Prelude.{◌≡◌, true, false, nat_eq, ℕ, ◌+◌, ◌-◌, ◌%◌, ◌<◌, ◌≤◌, ◌^◌, List, [], ◌∷◌, ◌++◌, length, take, drop, replicate, slice_index, All, IsTrue, refl}
use Rattle.std.specs.Fmt.{decimal}
use Rattle.std.specs.Cmp.Lexicographic.{pointwise, same_text, other_text}
use Rattle.std.proofs.Common.{arith, ap, sym, subst, ◌∙◌, inl, inr, length-append, take-append-drop, append_assoc}
use Rattle.std.proofs.lemmas.Bool.Decides.{eqb_tells, leb_tells}
use Rattle.std.proofs.lemmas.Fmt.{decimal_by_steps, length-decimal-le}
use Rattle.std.proofs.lemmas.Grind.{common_steps}
use Rattle.std.proofs.lemmas.List.{length-replicate, length-take, get_or_append_left, get_or-take}
use Rattle.std.proofs.lemmas.List.Elements.{All-append, All-replicate, All-nil, All-push, All-cons, All-head, All-tail}
use Rattle.std.proofs.Math.Seq.{get_or-append_seam, drop-append_seam}
use Rattle.daq_types.specs.Names.{IsFileName, is_file_byte}
use Rattle.sub_files.specs.Patterns.{HasNoPercent, IsPattern, IsFirstPercent, IsSplit, HasSign, plain_parts, numbered_parts, number_sign, four_digits}
use Rattle.daq_types.specs.FileDigits.{five_digits}

-- the first percent sign stands right behind a front that has none
pub percent_behind : (text front tail : List ℕ) (place : ℕ) → IsFirstPercent text place → HasNoPercent front → text ≡ front ++ 37 ∷ tail → place ≡ length front
percent_behind text front tail place first free whole =
    let at : slice_index text (length front) ≡ 37 = subst (λ (t : List ℕ). slice_index t (length front) ≡ 37) (sym whole) (get_or-append_seam front 37 tail 0) in
    let size : length text ≡ length front + (1 + length tail) = ap (λ (t : List ℕ). length t) whole ∙ omega (arith, length-append front (37 ∷ tail)) in
    elim (eqb_tells place (length front)) as (λ w. place ≡ length front) [
      | inl same ↦ same.1
      | inr differs ↦ elim (leb_tells (length front) place) as (λ w. place ≡ length front) [
        | inl behind ↦ absurd (first.before (length front) (omega (arith, behind.1, differs.1)) at)
        | inr ahead ↦ absurd (free place (omega (arith, ahead.1))
            (let here : slice_index text place ≡ 37 = first.here (omega (arith, ahead.1, size)) in
            sym (get_or_append_left front (37 ∷ tail) 0 place (omega (arith, ahead.1))) ∙ subst (λ (t : List ℕ). slice_index t place ≡ 37) whole here))
      ]
    ]

-- Names.

abbrev MayStand : ℕ → Type 0
MayStand b = IsTrue (is_file_byte b)

digit_may_stand : (n : ℕ) → n < 10 → MayStand (48 + n)
digit_may_stand n h = grind (arith, common_steps)

digits_may_stand : (n : ℕ) → n < 2 ^ 32 → All MayStand (decimal n)
digits_may_stand n h = decimal_by_steps (λ k ds. All MayStand ds) (λ k small. All-push MayStand [] (48 + k) (All-nil MayStand) (digit_may_stand k small))
    (λ k ds large front. All-push MayStand ds (48 + k % 10) front (digit_may_stand (k % 10) (omega arith))) n (omega arith)

pub five_digits_stand : (run : ℕ) → run < 2 ^ 32 → All MayStand (five_digits run)
five_digits_stand run h = All-append MayStand (replicate (5 - length (decimal run)) 48) (decimal run) (All-replicate MayStand (5 - length (decimal run)) 48 refl) (digits_may_stand run h)

pub five_digits_fit : (run : ℕ) → run < 2 ^ 32 → length (five_digits run) ≤ 10
five_digits_fit run h =
    let short : length (decimal run) ≤ 10 = length-decimal-le 10 run (omega arith) (omega arith) (omega arith) in
    omega (arith, short, length-append (replicate (5 - length (decimal run)) 48) (decimal run), length-replicate {A = ℕ} (5 - length (decimal run)) 48)

five_digits_some : (run : ℕ) → run < 2 ^ 32 → 1 ≤ length (five_digits run)
five_digits_some run h = omega (arith, length-append (replicate (5 - length (decimal run)) 48) (decimal run), length-replicate {A = ℕ} (5 - length (decimal run)) 48)

All-left : (P : ℕ → Type 0) (xs ys : List ℕ) → All P (xs ++ ys) → All P xs
All-left P [] ys all = All-nil P
All-left P (x ∷ xs) ys all = All-cons P x xs (All-head P x (xs ++ ys) all) (All-left P xs ys (All-tail P x (xs ++ ys) all))

All-right : (P : ℕ → Type 0) (xs ys : List ℕ) → All P (xs ++ ys) → All P ys
All-right P [] ys all = all
All-right P (x ∷ xs) ys all = All-right P xs ys (All-tail P x (xs ++ ys) all)

-- other digits in place of these, of no greater length
swapped : (front xs ys tail : List ℕ) → All MayStand ys → 1 ≤ length ys → length ys ≤ length xs → IsFileName (front ++ (xs ++ tail)) → IsFileName (front ++ (ys ++ tail))
swapped front xs ys tail stand some fits name =
    let bytes : All MayStand (front ++ (xs ++ tail)) = name.bytes in
    let wide : length (front ++ (xs ++ tail)) ≡ length front + (length xs + length tail) = length-append front (xs ++ tail) ∙ ap (λ (n : ℕ). length front + n) (length-append xs tail) in
    let narrow : length (front ++ (ys ++ tail)) ≡ length front + (length ys + length tail) = length-append front (ys ++ tail) ∙ ap (λ (n : ℕ). length front + n) (length-append ys tail) in
    record {
      some = omega (arith, narrow, some);
      short = omega (arith, wide, narrow, fits, name.short);
      bytes = All-append MayStand front (ys ++ tail) (All-left MayStand front (xs ++ tail) bytes)
          (All-append MayStand ys tail stand (All-right MayStand xs tail (All-right MayStand front (xs ++ tail) bytes)));
    }

-- each name that a pattern gives is the name of a file
pub plain_named : (front middle : List ℕ) (run : ℕ) → IsPattern (plain_parts front middle) → run < 2 ^ 32 → IsFileName (front ++ (five_digits run ++ middle))
plain_named front middle run pattern h =
    swapped front (replicate 10 48) (five_digits run) middle (five_digits_stand run h) (five_digits_some run h) (omega (arith, five_digits_fit run h, length-replicate {A = ℕ} 10 48)) pattern.name

four_digits_stand : (sub : ℕ) → sub ≤ 9999 → All MayStand (four_digits sub)
four_digits_stand sub h = All-append MayStand (replicate (4 - length (decimal sub)) 48) (decimal sub) (All-replicate MayStand (4 - length (decimal sub)) 48 refl) (digits_may_stand sub (omega (arith, h)))

four_digits_long : (sub : ℕ) → sub ≤ 9999 → length (four_digits sub) ≡ 4
four_digits_long sub h =
    let short : length (decimal sub) ≤ 4 = length-decimal-le 4 sub (omega (arith, h)) (omega (arith, h)) (omega (arith, h)) in
    omega (arith, short, length-append (replicate (4 - length (decimal sub)) 48) (decimal sub), length-replicate {A = ℕ} (4 - length (decimal sub)) 48)

-- three parts in front of others
three_parts : (a b c d : List ℕ) → a ++ (b ++ (c ++ d)) ≡ (a ++ (b ++ c)) ++ d
three_parts a b c d = sym (append_assoc a (b ++ c) d ∙ ap (λ (t : List ℕ). a ++ t) (append_assoc b c d))

pub numbered_named : (front middle back : List ℕ) (run sub : ℕ) → IsPattern (numbered_parts front middle back) → run < 2 ^ 32 → sub ≤ 9999 → IsFileName (front ++ (five_digits run ++ (middle ++ (four_digits sub ++ back))))
numbered_named front middle back run sub pattern h few =
    let zeros : List ℕ = replicate 4 48 in
    let with_run : IsFileName (front ++ (five_digits run ++ (middle ++ (zeros ++ back)))) =
    swapped front (replicate 10 48) (five_digits run) (middle ++ (zeros ++ back)) (five_digits_stand run h) (five_digits_some run h) (omega (arith, five_digits_fit run h, length-replicate {A = ℕ} 10 48)) pattern.name in
    let behind : IsFileName ((front ++ (five_digits run ++ middle)) ++ (zeros ++ back)) = subst IsFileName (three_parts front (five_digits run) middle (zeros ++ back)) with_run in
    subst IsFileName (sym (three_parts front (five_digits run) middle (four_digits sub ++ back)))
    (swapped (front ++ (five_digits run ++ middle)) zeros (four_digits sub) back (four_digits_stand sub few) (omega (arith, four_digits_long sub few)) (omega (arith, four_digits_long sub few, length-replicate {A = ℕ} 4 48)) behind)

pub too_long : (front middle back : List ℕ) → 255 < length front + (length middle + length back) → IsFileName (front ++ (middle ++ back)) → ⊥
too_long front middle back long name = omega (arith, long, name.short, length-append front (middle ++ back), length-append middle back)

-- The parts of a text around a sign.

-- where the sign does not follow, the text has none
pub no_sign : (text rest : List ℕ) (digit place : ℕ) → IsFirstPercent text place → rest ≡ drop place text → pointwise nat_eq (take 4 rest) (number_sign digit) ≡ false → HasSign text digit → ⊥
no_sign text rest digit place first is differs sign =
    let front : List ℕ = sign.0 in let back : List ℕ = sign.1 in
    let at : place ≡ length front = percent_behind text front (48 ∷ digit ∷ 100 ∷ back) place first sign.2.free sign.2.whole in
    let behind : drop place text ≡ number_sign digit ++ back =
    ap (λ (n : ℕ). drop n text) at ∙ (ap (λ (t : List ℕ). drop (length front) t) sign.2.whole ∙ drop-append_seam front (number_sign digit ++ back)) in
    other_text (take 4 rest) (number_sign digit) (sym differs) (ap (λ (t : List ℕ). take 4 t) (is ∙ behind))

front_free : (text : List ℕ) (place : ℕ) → IsFirstPercent text place → HasNoPercent (take place text)
front_free text place first = λ k within is.
    let inside : k < place = omega (arith, within, length-take {A = ℕ} place text) in
    first.before k inside (sym (get_or-take place text k 0 inside) ∙ is)

pub free_where_none : (text : List ℕ) (place : ℕ) → IsFirstPercent text place → length text ≤ place → HasNoPercent text
free_where_none text place first over = λ k within is. first.before k (omega (arith, within, over)) is

-- the text is split at its sign
pub has_split : (text front rest back : List ℕ) (digit place : ℕ) → IsFirstPercent text place → front ≡ take place text → rest ≡ drop place text → pointwise nat_eq (take 4 rest) (number_sign digit) ≡ true → back ≡ drop 4 rest → IsSplit text digit front back
has_split text front rest back digit place first front_so is same back_so =
    let begins : take 4 rest ≡ number_sign digit = same_text (take 4 rest) (number_sign digit) (sym same) in
    let whole : rest ≡ number_sign digit ++ back = sym (take-append-drop 4 rest) ∙ (ap (λ (t : List ℕ). t ++ drop 4 rest) begins ∙ ap (λ (t : List ℕ). number_sign digit ++ t) (sym back_so)) in
    record {
      free = subst (λ (t : List ℕ). HasNoPercent t) (sym front_so) (front_free text place first);
      whole = sym (take-append-drop place text) ∙ (ap (λ (t : List ℕ). t ++ drop place text) (sym front_so) ∙ ap (λ (t : List ℕ). front ++ t) (sym is ∙ whole));
    }
