-- Blanks and numbers in a text.
--
-- A form is followed from the first byte of a text on. Either the text ends where the form may end, and spells
-- something, or the form cannot go on: then so many bytes of the text are left, 0 where it ends too early.
use Rattle.std.specs.Prelude.{ℕ, ◌==◌, ◌||◌, nat_eq, nat_le, Bool, if◌then◌else◌, List, [], ◌∷◌, length, drop, Option, Some, None, Result, Ok, Err, codes}
use Rattle.std.specs.List.{list_all, starts_with}
use Rattle.std.specs.Char.{is_digit}
use Rattle.std.specs.Str.Parse.{digits_value}

-- the bytes in front that pass a test
abbrev pub front : (ℕ → Bool) → List ℕ → List ℕ
front passes [] = []
front passes (b ∷ bs) = if passes b then b ∷ front passes bs else []

-- what stands behind them
abbrev pub behind : (ℕ → Bool) → List ℕ → List ℕ
behind passes [] = []
behind passes (b ∷ bs) = if passes b then behind passes bs else b ∷ bs

-- a blank is a space or a tab
abbrev pub is_blank : ℕ → Bool
is_blank b = b == 32 || b == 9

-- blanks may stand behind what was spelled, and then the text ends
abbrev pub ended : {A : Type 0} → A → List ℕ → Result A ℕ
ended value rest = if nat_eq (length (behind is_blank rest)) 0 then Ok value else Err (length (behind is_blank rest))

-- a digit of this base; letters are digits in either case
abbrev pub is_digit_in : ℕ → ℕ → Bool
is_digit_in base b = is_digit b base

-- digits of a base, one or more; zeros may stand in front
abbrev pub digits_form : ℕ → List ℕ → Result ℕ ℕ
digits_form base text =
    if nat_eq (length (front (is_digit_in base) text)) 0 then Err (length text)
    else ended (digits_value base (front (is_digit_in base) text)) (behind (is_digit_in base) text)

-- decimal digits, or `0x` and hexadecimal digits
abbrev pub unsigned_form : List ℕ → Result ℕ ℕ
unsigned_form text = if starts_with nat_eq text (codes "0x") then digits_form 16 (drop 2 text) else digits_form 10 text

-- what was spelled, changed
abbrev pub mapped : {A B E : Type 0} → (A → B) → Result A E → Result B E
mapped f (Ok value) = Ok (f value)
mapped f (Err e) = Err e

-- the number, where it is at most this
abbrev pub up_to : (most : ℕ) → ℕ → Option ℕ
up_to most n = if nat_le n most then Some n else None

-- what digits of a base spell, at least one; zeros may stand in front
abbrev pub numeral : (most base : ℕ) → List ℕ → Option ℕ
numeral most base digits =
    if nat_eq (length digits) 0 then None
    else if list_all (is_digit_in base) digits then up_to most (digits_value base digits)
    else None

-- The number that a whole text is: decimal digits, or `0x` and hexadecimal digits of either case, of at most this.
unfoldable pub whole_number : (most : ℕ) → List ℕ → Option ℕ
whole_number most text = if starts_with nat_eq text (codes "0x") then numeral most 16 (drop 2 text) else numeral most 10 text
