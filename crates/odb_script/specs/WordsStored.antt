-- Words written as a list, by which a proof tells them apart.
use Rattle.std.specs.Prelude.{◌≡◌, ℕ, ◌==◌, if◌then◌else◌, List, [], ◌∷◌, refl}
use Rattle.std.proofs.Common.{ap}
use Rattle.std.specs.Coded.{Coded, code_by, coded_list, coded×, coded_ℕ}
use Rattle.odb_script.specs.LineWords.{LineWords, word, ended, faulty}

-- a word is 0, its place and its text; the end is 1 and its place; what is no word is 2 and its place
abbrev pub words_list : LineWords → List (ℕ × (ℕ × List ℕ))
words_list (word at text ws) = (0, (at, text)) ∷ words_list ws
words_list (ended at) = (1, (at, [])) ∷ []
words_list (faulty at) = (2, (at, [])) ∷ []

abbrev pub listed_words : List (ℕ × (ℕ × List ℕ)) → LineWords
listed_words [] = ended 0
listed_words (p ∷ ps) = if p.0 == 0 then word p.1.0 p.1.1 (listed_words ps) else if p.0 == 1 then ended p.1.0 else faulty p.1.0

pub listed_back : (ws : LineWords) → listed_words (words_list ws) ≡ ws
listed_back (word at text ws) = ap (λ rest. word at text rest) (listed_back ws)
listed_back (ended at) = refl
listed_back (faulty at) = refl

abbrev pub words_code : Coded LineWords
words_code = code_by (List (ℕ × (ℕ × List ℕ))) (coded_list (coded× coded_ℕ (coded× coded_ℕ (coded_list coded_ℕ)))) words_list listed_words listed_back
