-- The forms of signed numbers and truth values in a text.
use Rattle.std.specs.Prelude.{ℕ, ◌==◌, ◌||◌, nat_eq, Bool, true, false, if◌then◌else◌, List, [], ◌∷◌, length, drop, Result, Err, codes, ℤ, pos, neg_ℤ}
use Rattle.std.specs.List.{starts_with}
use Rattle.daq_text.specs.Numbers.{ended, digits_form, unsigned_form, mapped}

abbrev pub negative : ℕ → ℤ
negative n = neg_ℤ (pos n)

-- a number without a sign, or `-` and decimal digits
abbrev pub signed_form : List ℕ → Result ℤ ℕ
signed_form text = if starts_with nat_eq text (codes "-") then mapped negative (digits_form 10 (drop 1 text)) else mapped pos (unsigned_form text)

-- `y`, `Y` or `1`
abbrev pub is_yes : ℕ → Bool
is_yes b = b == 121 || (b == 89 || b == 49)

-- `n`, `N` or `0`
abbrev pub is_no : ℕ → Bool
is_no b = b == 110 || (b == 78 || b == 48)

-- one of these
abbrev pub truth_form : List ℕ → Result Bool ℕ
truth_form [] = Err 0
truth_form (b ∷ bs) = if is_yes b then ended true bs else if is_no b then ended false bs else Err (length (b ∷ bs))
