-- What a reader of words gives, and how it cuts them out of a line.
use Rattle.std.specs.Prelude.{◌≡◌, ℕ, Bool, true, false, not, ◌||◌, List, [], ◌∷◌}
use Rattle.daq_text.specs.Numbers.{is_blank}
use Rattle.odb_script.specs.LineWords.{LineWords, word, ended, faulty, is_quote}
use Rattle.odb_script.specs.declared.words.NextWord.{NextWord}
use Rattle.odb_script.specs.declared.words.NextWord.TheVariants.{Word, End, Faulty}
use Rattle.odb_script.specs.declared.words.Part.{Part}
use Rattle.odb_script.specs.declared.words.Part.TheVariants.{Blanks, Plain, Quoted}

-- this is the next of the words, and the others stand behind it
abbrev pub IsNextWord : NextWord → LineWords → LineWords → Type 0
IsNextWord (Word at text) old new = old ≡ word at text new
IsNextWord (End at) old new = old ≡ ended at
IsNextWord (Faulty at) old new = old ≡ faulty at

-- a byte that may stand in a part
abbrev pub belongs : Part → ℕ → Bool
belongs Blanks b = is_blank b
belongs Plain b = not (is_blank b || is_quote b)
belongs Quoted b = not (is_quote b)

-- the bytes do not go on with the part
abbrev pub IsBehind : Part → List ℕ → Type 0
IsBehind part [] = Unit {0}
IsBehind part (b ∷ bs) = belongs part b ≡ false

-- the line ends here or goes on with a blank
abbrev pub is_gap : List ℕ → Bool
is_gap [] = true
is_gap (b ∷ bs) = is_blank b
