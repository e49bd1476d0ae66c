-- The texts of the words, one by one, and the test for `--`.
use Rattle.std.proofs.Common.{◌≡◌, ◌∙◌, ◌||◌, ◌+◌, ◌<◌, ◌++◌, ℕ, Bool, refl, sym, ap, List, [], ◌∷◌, length, map, take, Option, Some, None, codes, arith}
use Rattle.std.specs.Prelude.{slice_get}
use Rattle.std.specs.List.{list_any}
use Rattle.std.specs.Str.{bytes_eq}
use Rattle.std.specs.Borrow.{Bor}
use Rattle.std.proofs.lemmas.List.{map-append, take_more}
use Rattle.std.proofs.lemmas.Option.{get_or_from_slice_get, slice_get-get_or, slice_get_within}
use Rattle.command_words.specs.Reader.{has_separator}

pub texts_next : (words : List (List ℕ)) (at : ℕ) (texts : List (Bor (List ℕ))) (word : Bor (List ℕ)) → map (λ t. t.now) texts ≡ take at words → Some word.now ≡ slice_get words at
    → map (λ t. t.now) (texts ++ word ∷ []) ≡ take (at + 1) words
texts_next words at texts word so_far is =
    map-append (λ (t : Bor (List ℕ)). t.now) texts (word ∷ []) ∙ ap (λ (xs : List (List ℕ)). xs ++ word.now ∷ []) so_far
    ∙ sym (take_more words at word.now (slice_get_within words at word.now (sym is)) ∙ ap (λ (w : List ℕ). take at words ++ w ∷ []) (get_or_from_slice_get words at word.now word.now (sym is)))

pub none_within : (words : List (List ℕ)) (at : ℕ) → None ≡ slice_get words at → at < length words → ⊥
none_within words at none lt = let some = slice_get-get_or words at [] lt in absurd (cc)

-- the test of the texts is that of the words
pub separator_is : (texts : List (Bor (List ℕ))) → list_any (λ (t : Bor (List ℕ)). bytes_eq t.now (codes "--")) texts ≡ has_separator (map (λ t. t.now) texts)
separator_is [] = refl
separator_is (t ∷ rest) = ap (λ (b : Bool). bytes_eq t.now (codes "--") || b) (separator_is rest)

-- ---- words of which the first are known

abbrev some : List ℕ → Option (List ℕ) → List ℕ
some d None = d
some d (Some w) = w

pub only_word : (words : List (List ℕ)) (word : List ℕ) → length words ≡ 1 → Some word ≡ slice_get words 0 → words ≡ word ∷ []
only_word [] word one is = absurd (omega (arith, one))
only_word (w ∷ []) word one is = ap (λ (x : List ℕ). x ∷ []) (sym (ap (some word) is))
only_word (w ∷ v ∷ ws) word one is = absurd (omega (arith, one))

pub two_words : (words : List (List ℕ)) (a b : List ℕ) → length words ≡ 2 → Some a ≡ slice_get words 0 → Some b ≡ slice_get words 1 → words ≡ a ∷ b ∷ []
two_words [] a b two first second = absurd (omega (arith, two))
two_words (v ∷ []) a b two first second = absurd (omega (arith, two))
two_words (v ∷ w ∷ []) a b two first second =
    ap (λ (x : List ℕ). x ∷ w ∷ []) (sym (ap (some a) first)) ∙ ap (λ (x : List ℕ). a ∷ x ∷ []) (sym (ap (some b) second))
two_words (v ∷ w ∷ x ∷ ws) a b two first second = absurd (omega (arith, two))
