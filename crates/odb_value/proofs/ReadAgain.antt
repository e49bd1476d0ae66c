-- The text of an item, read again, is the item.
use Rattle.std.specs.Prelude.{◌≡◌, ℕ, zero, suc, ◌-◌, ◌^◌, ◌==◌, ◌&&◌, ◌<◌, ◌≤◌, Bool, true, false, not, nat_eq, nat_lt, IsTrue, List, [], ◌∷◌, length, Result, Ok, codes, ℤ, pos, negsuc, refl}
use Rattle.std.proofs.Common.{ap, ◌∙◌, arith, ne_eqb, lt-ltb, le-ltb, le-leb}
use lib.Signed.{mag}
use Rattle.std.proofs.lemmas.List.Sums.{position_or_len_is}
use Rattle.std.proofs.lemmas.Str.Parse.{digit_from_value}
use Rattle.std.proofs.lemmas.Fmt.{decimal_is_IsNumeral}
use Rattle.std.specs.List.{starts_with, position_or_len}
use Rattle.std.specs.Char.{digit_value}
use Rattle.std.specs.Fmt.{decimal, signed_decimal}
use Rattle.std.specs.Str.Parse.{AllDigits, IsNumeral, digits_value}
use Rattle.odb_value.specs.declared.items.Item.{Item}
use Rattle.odb_value.specs.declared.items.Item.TheVariants.{UInt8, Int8, Char, UInt16, Int16, UInt32, Int32, Bool as Truth, Text, Int64, UInt64}
use Rattle.odb_value.specs.ItemBytes.{is_printable, is_char_byte, is_text_byte, IsText}
use Rattle.odb_value.specs.Items.{tid_of, IsSound}
use Rattle.odb_value.specs.Values.{IsShorter, size_limit}
use Rattle.daq_text.specs.Numbers.{front, behind, is_blank, is_digit_in, digits_form, unsigned_form, mapped}
use Rattle.odb_value.specs.Forms.{signed_form, negative}
use Rattle.odb_value.specs.ItemTexts.{item_text, item_read, char_text, char_read, truth_text, truth_read, text_read, text_limit, unsigned_read, signed_read}

-- Digits alone.

front_digits : (base : ℕ) (ds : List ℕ) → AllDigits base ds → front (is_digit_in base) ds ≡ ds
front_digits base [] h = refl
front_digits base (d ∷ ds) h = rw (lt-ltb (digit_value d) base h.0) (ap (λ (l : List ℕ). d ∷ l) (front_digits base ds h.1))

behind_digits : (base : ℕ) (ds : List ℕ) → AllDigits base ds → behind (is_digit_in base) ds ≡ []
behind_digits base [] h = refl
behind_digits base (d ∷ ds) h = rw (lt-ltb (digit_value d) base h.0) (behind_digits base ds h.1)

pub digits_form-digits : (base : ℕ) (ds : List ℕ) → IsNumeral base ds → digits_form base ds ≡ Ok (digits_value base ds)
digits_form-digits base ds h =
    let some : nat_eq (length ds) 0 ≡ false = ne_eqb (length ds) 0 (omega (arith, h.0)) in
    rw (front_digits base ds h.1, some, behind_digits base ds h.1) refl

-- A decimal digit is no blank, no `-` and no `x`.

not_blank : (d : ℕ) → digit_value d < 10 → is_blank d ≡ false
not_blank d h =
    let r = digit_from_value d h in
    let space : (d == 32) ≡ false = ne_eqb d 32 (omega (arith, r)) in
    let tab : (d == 9) ≡ false = ne_eqb d 9 (omega (arith, r)) in
    rw (space, tab) refl

no_blanks : (ds : List ℕ) → AllDigits 10 ds → behind is_blank ds ≡ ds
no_blanks [] h = refl
no_blanks (d ∷ ds) h = rw (not_blank d h.0) refl

not_hexadecimal : (ds : List ℕ) → AllDigits 10 ds → starts_with nat_eq ds (codes "0x") ≡ false
not_hexadecimal [] h = refl
not_hexadecimal (a ∷ []) h = elim (nat_eq 48 a) as (λ t. (t && false) ≡ false) [ true ↦ refl | false ↦ refl ]
not_hexadecimal (a ∷ b ∷ ds) h =
    let no_x : nat_eq 120 b ≡ false = ne_eqb 120 b (omega (arith, digit_from_value b h.1.0)) in
    rw no_x (elim (nat_eq 48 a) as (λ t. (t && (false && true)) ≡ false) [ true ↦ refl | false ↦ refl ])

no_sign : (ds : List ℕ) → AllDigits 10 ds → starts_with nat_eq ds (codes "-") ≡ false
no_sign [] h = refl
no_sign (d ∷ ds) h = rw (ne_eqb 45 d (omega (arith, digit_from_value d h.0))) refl

unsigned_form-digits : (ds : List ℕ) → IsNumeral 10 ds → unsigned_form ds ≡ Ok (digits_value 10 ds)
unsigned_form-digits ds h = rw (not_hexadecimal ds h.1) (digits_form-digits 10 ds h)

-- Numbers.

decimal_form : (n : ℕ) → n < 2 ^ 64 → unsigned_form (decimal n) ≡ Ok n
decimal_form n small =
    let numeral = decimal_is_IsNumeral n small in
    unsigned_form-digits (decimal n) numeral.0 ∙ ap (λ (v : ℕ). let r : Result ℕ ℕ = Ok v in r) numeral.1

unsigned_again : (most n : ℕ) → n ≤ most → n < 2 ^ 64 → unsigned_read most (decimal n) ≡ Ok n
unsigned_again most n within small = rw (no_blanks (decimal n) (decimal_is_IsNumeral n small).0.1, decimal_form n small, le-leb n most within) refl

positive_form : (n : ℕ) → n < 2 ^ 64 → signed_form (decimal n) ≡ Ok (pos n)
positive_form n small = rw (no_sign (decimal n) (decimal_is_IsNumeral n small).0.1) (ap (mapped pos) (decimal_form n small))

negative_form : (n : ℕ) → suc n < 2 ^ 64 → signed_form (45 ∷ decimal (suc n)) ≡ Ok (negsuc n)
negative_form n small =
    let numeral = decimal_is_IsNumeral (suc n) small in
    ap (mapped negative) (digits_form-digits 10 (decimal (suc n)) numeral.0 ∙ ap (λ (v : ℕ). let r : Result ℕ ℕ = Ok v in r) numeral.1)

signed_again : (most : ℕ) (z : ℤ) → mag z ≤ most → most < 2 ^ 63 → signed_read most (signed_decimal z) ≡ Ok z
signed_again most (pos n) within small =
    let fits : n < 2 ^ 64 = omega (arith, within, small) in
    rw (no_blanks (decimal n) (decimal_is_IsNumeral n fits).0.1, positive_form n fits, le-leb n most within) refl
signed_again most (negsuc n) within small =
    let fits : suc n < 2 ^ 64 = omega (arith, within, small) in
    rw (negative_form n fits, le-leb n most within) refl

-- Any item.

char_again : (b : ℕ) → IsTrue (is_char_byte b) → char_read (char_text b) ≡ Ok b
char_again zero h = refl
char_again (suc n) h =
    let some : (suc n == 0) ≡ false = ne_eqb (suc n) 0 (omega arith) in
    let printable : is_printable (suc n) ≡ true = (rw some at h) in
    rw (some, printable) refl

text_again : (bytes : List ℕ) → IsText bytes → length bytes < size_limit → text_read bytes ≡ Ok bytes
text_again bytes h short =
    let first : position_or_len (λ (b : ℕ). not (is_text_byte b)) bytes ≡ length bytes =
    position_or_len_is (λ (b : ℕ). not (is_text_byte b)) bytes (length bytes) 0 (omega arith) (λ k inside. ap not (h k 0 inside)) (λ past. absurd (omega (arith, past))) in
    let none : nat_lt (length bytes) (length bytes) ≡ false = le-ltb (length bytes) (length bytes) (omega arith) in
    rw (first, none, le-ltb text_limit (length bytes) (omega (arith, short))) refl

truth_again : (t : Bool) → truth_read (truth_text t) ≡ Ok t
truth_again true = refl
truth_again false = refl

pub item_again : (item : Item) → IsSound item → IsShorter size_limit item → item_read (tid_of item) (item_text item) ≡ Ok item
item_again (UInt8 n) h short = ap (mapped UInt8) (unsigned_again (2 ^ 8 - 1) n (omega (arith, h)) (omega (arith, h)))
item_again (Int8 z) h short = ap (mapped Int8) (signed_again (2 ^ 7 - 1) z (omega (arith, h.sfits)) (omega arith))
item_again (Char b) h short = ap (mapped Char) (char_again b h)
item_again (UInt16 n) h short = ap (mapped UInt16) (unsigned_again (2 ^ 16 - 1) n (omega (arith, h)) (omega (arith, h)))
item_again (Int16 z) h short = ap (mapped Int16) (signed_again (2 ^ 15 - 1) z (omega (arith, h.sfits)) (omega arith))
item_again (UInt32 n) h short = ap (mapped UInt32) (unsigned_again (2 ^ 32 - 1) n (omega (arith, h)) (omega (arith, h)))
item_again (Int32 z) h short = ap (mapped Int32) (signed_again (2 ^ 31 - 1) z (omega (arith, h.sfits)) (omega arith))
item_again (Truth t) h short = ap (mapped Truth) (truth_again t)
item_again (Text bytes) h short = ap (mapped Text) (text_again bytes h short)
item_again (Int64 z) h short = ap (mapped Int64) (signed_again (2 ^ 63 - 1) z (omega (arith, h.sfits)) (omega arith))
item_again (UInt64 n) h short = ap (mapped UInt64) (unsigned_again (2 ^ 64 - 1) n (omega (arith, h)) h)
