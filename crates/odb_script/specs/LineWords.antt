-- The words of a script's line.
use Rattle.std.specs.Prelude.{ℕ, ◌+◌, ◌==◌, Bool, if◌then◌else◌, List, [], ◌∷◌, ◌++◌}
use Rattle.daq_text.specs.Numbers.{is_blank}

-- What a line has from a place on: words, each with the place of its first byte and its text, which has no quotes round
-- it; then its end, whose place is the line's length. In place of the end may stand what is no word, with the place at
-- which it is refused.
pub data LineWords : Type 0 where
  word : (at : ℕ) (text : List ℕ) (rest : LineWords) → LineWords
  ended : (at : ℕ) → LineWords
  faulty : (at : ℕ) → LineWords

abbrev pub is_quote : ℕ → Bool
is_quote b = b == 34

-- Where a byte stands: between words; in a word, of which some is there; in quotes; or behind the closing quote. A word
-- has the place at which it began, with its quote.
pub data Standing : Type 0 where
  between : Standing
  inside : (start : ℕ) (so_far : List ℕ) → Standing
  quoted : (start : ℕ) (so_far : List ℕ) → Standing
  closed : (start : ℕ) (text : List ℕ) → Standing

-- The words of the bytes from a place on. Blanks part words. A word in quotes may have blanks and may be empty; it has
-- no quote in it, and a blank or the line's end behind it. A word outside quotes has no quote. Where one of these rules
-- is broken the word is faulty from its first byte on, and quotes that are not closed are faulty at the line's end.
abbrev pub words_from : Standing → ℕ → List ℕ → LineWords
words_from between at [] = ended at
words_from (inside start so_far) at [] = word start so_far (ended at)
words_from (quoted start so_far) at [] = faulty at
words_from (closed start text) at [] = word start text (ended at)
words_from between at (b ∷ bs) =
    if is_blank b then words_from between (at + 1) bs
    else if is_quote b then words_from (quoted at []) (at + 1) bs
    else words_from (inside at (b ∷ [])) (at + 1) bs
words_from (inside start so_far) at (b ∷ bs) =
    if is_blank b then word start so_far (words_from between (at + 1) bs)
    else if is_quote b then faulty start
    else words_from (inside start (so_far ++ b ∷ [])) (at + 1) bs
words_from (quoted start so_far) at (b ∷ bs) =
    if is_quote b then words_from (closed start so_far) (at + 1) bs
    else words_from (quoted start (so_far ++ b ∷ [])) (at + 1) bs
words_from (closed start text) at (b ∷ bs) =
    if is_blank b then word start text (words_from between (at + 1) bs)
    else faulty start

-- the words of a line
unfoldable pub line_words : List ℕ → LineWords
line_words line = words_from between 0 line
