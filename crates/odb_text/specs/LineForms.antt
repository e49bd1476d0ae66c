-- The forms of single lines of a database text: lines that are passed over, lines of directories, numbers in brackets,
-- and lines of keys.
use Rattle.std.specs.Prelude.{◌≡◌, ℕ, ◌≤◌, ◌==◌, ◌||◌, not, if◌then◌else◌, Bool, true, false, List, [], ◌∷◌, ◌++◌, reverse, Ok, ◌⊎◌, codes}
use Rattle.std.specs.List.{AllByRecursion}
use Rattle.std.specs.Str.Parse.{IsNumeral, digits_value}
use Rattle.daq_types.specs.declared.types.Tid.{Tid}
use Rattle.daq_types.specs.Names.{IsName}
use Rattle.daq_types.specs.Tids.{IsNamed}
use Rattle.daq_text.specs.Numbers.{front, behind, is_blank}
use Rattle.odb_value.specs.PathText.{path_reply}

-- spaces and tabs alone
abbrev pub AreBlanks : List ℕ → Type 0
AreBlanks bs = AllByRecursion (λ b. is_blank b ≡ true) bs

-- no byte has this value
abbrev pub HasNo : ℕ → List ℕ → Type 0
HasNo b bs = AllByRecursion (λ c. (c == b) ≡ false) bs

-- one blank in front is passed over, where there is one
abbrev pub behind_blank : List ℕ → List ℕ
behind_blank [] = []
behind_blank (b ∷ bs) = if is_blank b then bs else b ∷ bs

-- digits in brackets, and what stands behind them
pub record IsBracketed (line digits rest : List ℕ) : Type 0 where
  pub spelled : line ≡ codes "[" ++ (digits ++ (codes "]" ++ rest))
  pub numeral : IsNumeral 10 digits

-- Lines that are passed over: blanks alone, or a semicolon in front.

abbrev pub IsComment : List ℕ → Type 0
IsComment [] = ⊥
IsComment (b ∷ bs) = b ≡ 59

abbrev pub IsPassed : List ℕ → Type 0
IsPassed line = AreBlanks line ⊎ IsComment line

-- `[PATH]`, and blanks behind it
pub record IsDirLine (line : List ℕ) (p : List (List ℕ)) : Type 0 where
  pub text : List ℕ
  pub blanks : List ℕ
  pub spelled : line ≡ codes "[" ++ (text ++ (codes "]" ++ blanks))
  pub inside : HasNo 93 text
  pub blank : AreBlanks blanks
  pub path : path_reply text ≡ Ok p

-- Lines of keys.

-- a text without the blanks at its ends
abbrev pub without_blanks : List ℕ → List ℕ
without_blanks text = behind is_blank (reverse (behind is_blank (reverse text)))

-- the name of a type ends before a blank, a colon or a bracket
abbrev pub is_of_word : ℕ → Bool
is_of_word b = not (is_blank b || (b == 58 || b == 91))

-- `NAME = TYPE`, and what stands behind the type. The name is what stands before the first `=`, without the blanks at
-- its ends. Blanks may stand behind the `=`.
pub record IsKeyLine (line name : List ℕ) (type : Tid) (rest : List ℕ) : Type 0 where
  pub before : List ℕ
  pub after : List ℕ
  pub spelled : line ≡ before ++ (codes "=" ++ after)
  pub first : HasNo 61 before
  pub trimmed : name ≡ without_blanks before
  pub is_name : IsName name
  pub named : IsNamed (front is_of_word (behind is_blank after)) type
  pub behind_word : rest ≡ behind is_of_word (behind is_blank after)

-- behind the type of a key of one item: blanks, a colon, and a text
abbrev pub IsSingle : (rest text : List ℕ) → Type 0
IsSingle rest text = behind is_blank rest ≡ codes ":" ++ text

-- behind the type of an array: blanks, `[n]` with n from 1, blanks, a colon, and blanks alone
pub record IsArray (rest : List ℕ) (n : ℕ) : Type 0 where
  pub digits : List ℕ
  pub more : List ℕ
  pub blanks : List ℕ
  pub bracketed : IsBracketed (behind is_blank rest) digits more
  pub colon : IsSingle more blanks
  pub blank : AreBlanks blanks
  pub count : n ≡ digits_value 10 digits
  pub some : 1 ≤ n
