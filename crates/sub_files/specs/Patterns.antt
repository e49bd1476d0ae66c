-- Patterns for the names of run files.
use Rattle.std.specs.Prelude.{◌≡◌, ◌≢◌, ℕ, ◌-◌, ◌<◌, ◌≤◌, Bool, is_some, IfSome, List, [], ◌∷◌, ◌++◌, length, Option, Some, None, replicate, codes, slice_index}
use Rattle.std.specs.Fmt.{decimal}
use Rattle.daq_types.specs.Names.{IsFileName}
use Rattle.daq_types.specs.FileDigits.{five_digits}

-- what stands in a pattern in place of the run number, and what in place of the file's number
abbrev pub run_sign : List ℕ
run_sign = codes "%05d"

abbrev pub sub_sign : List ℕ
sub_sign = codes "%04d"

-- What a pattern has in front of the run number, what behind that, and what behind the file's number, where there is a place for
-- one.
pub record NamePattern : Type 0 where
  pub front : List ℕ
  pub middle : List ℕ
  pub back : Option (List ℕ)

abbrev pub parts_of : (front middle : List ℕ) → (back : Option (List ℕ)) → NamePattern
parts_of front middle back = record { front = front; middle = middle; back = back }

-- a pattern without a place for the file's number
abbrev pub plain_parts : (front middle : List ℕ) → NamePattern
plain_parts front middle = parts_of front middle None

-- and one with it
abbrev pub numbered_parts : (front middle back : List ℕ) → NamePattern
numbered_parts front middle back = parts_of front middle (Some back)

-- what stands behind the run number, with this for the file's number
abbrev pub behind_run : (middle : List ℕ) → (back : Option (List ℕ)) → (number : List ℕ) → List ℕ
behind_run middle None number = middle
behind_run middle (Some back) number = middle ++ (number ++ back)

-- the pattern with these for the two numbers
abbrev pub filled : NamePattern → (run number : List ℕ) → List ℕ
filled p run number = p.front ++ (run ++ behind_run p.middle p.back number)

abbrev pub pattern_text : NamePattern → List ℕ
pattern_text p = filled p run_sign sub_sign

-- no percent sign stands in the text
abbrev pub HasNoPercent : List ℕ → Type 0
HasNoPercent text = (place : ℕ) → place < length text → slice_index text place ≢ 37

-- a pattern: with ten digits and with four it is the name of a file, and there is no other percent sign
pub record IsPattern (p : NamePattern) : Type 0 where
  pub front_free : HasNoPercent p.front
  pub middle_free : HasNoPercent p.middle
  pub back_free : IfSome p.back HasNoPercent
  pub name : IsFileName (filled p (replicate 10 48) (replicate 4 48))

-- The text is that of the pattern, which has a place for the file's number exactly where `limited` holds.
pub record IsTextOf (text : List ℕ) (limited : Bool) (p : NamePattern) : Type 0 where
  pub is : IsPattern p
  pub numbers : is_some p.back ≡ limited
  pub whole : text ≡ pattern_text p

-- the text of a pattern, with a place for the file's number or without
abbrev pub IsPatternText : List ℕ → (limited : Bool) → Type 0
IsPatternText text limited = (p : NamePattern) × IsTextOf text limited p

-- a number below 10,000 in four decimal digits, with zeros in front
abbrev pub four_digits : ℕ → List ℕ
four_digits n = replicate (4 - length (decimal n)) 48 ++ decimal n

-- the name of the file of this number in the run of this number
unfoldable pub piece_name_by : NamePattern → (run sub : ℕ) → List ℕ
piece_name_by p run sub = filled p (five_digits run) (four_digits sub)

-- How a text is read.

-- the place of the first percent sign; the length, where there is none
pub record IsFirstPercent (text : List ℕ) (place : ℕ) : Type 0 where
  pub within : place ≤ length text
  pub before : (k : ℕ) → k < place → slice_index text k ≢ 37
  pub here : place < length text → slice_index text place ≡ 37

-- the sign for a number of at least so many digits: a percent sign, a zero, the digit of this code and a `d`
abbrev pub number_sign : (digit : ℕ) → List ℕ
number_sign digit = 37 ∷ 48 ∷ digit ∷ 100 ∷ []

-- The first percent sign of the text is that of this sign, and these stand in front of the sign and behind it.
pub record IsSplit (text : List ℕ) (digit : ℕ) (front back : List ℕ) : Type 0 where
  pub free : HasNoPercent front
  pub whole : text ≡ front ++ (number_sign digit ++ back)

abbrev pub HasSign : (text : List ℕ) → (digit : ℕ) → Type 0
HasSign text digit = (front : List ℕ) × (back : List ℕ) × IsSplit text digit front back

-- The pattern has this front, and this is the rest of its text behind the sign for the run number.
pub record IsPatternBehind (front rest : List ℕ) (limited : Bool) (p : NamePattern) : Type 0 where
  pub is : IsPattern p
  pub front_is : p.front ≡ front
  pub numbers : is_some p.back ≡ limited
  pub rest_is : rest ≡ behind_run p.middle p.back sub_sign

abbrev pub HasPattern : (front rest : List ℕ) → (limited : Bool) → Type 0
HasPattern front rest limited = (p : NamePattern) × IsPatternBehind front rest limited p
