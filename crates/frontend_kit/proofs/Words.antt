-- One word more of the generator.
use Rattle.std.proofs.Common.{◌≡◌, ℕ, ◌+◌, ◌/◌, ◌^◌, List, [], ◌∷◌, ◌++◌, ap, sym, ◌∙◌, add-one, append_assoc}
use Rattle.std.proofs.lemmas.List.{append-nil}
use Rattle.std.specs.Int.{to_le_bytes, w32}
use Rattle.event.specs.Generator.{next_state, state_after, generated_words, words_encoded}

pub words_encoded-push : (ws : List ℕ) (w : ℕ) → words_encoded (ws ++ w ∷ []) ≡ words_encoded ws ++ to_le_bytes w32 w
words_encoded-push [] w = append-nil (to_le_bytes w32 w)
words_encoded-push (v ∷ ws) w = ap (λ (bytes : List ℕ). to_le_bytes w32 v ++ bytes) (words_encoded-push ws w) ∙ sym (append_assoc (to_le_bytes w32 v) (words_encoded ws) (to_le_bytes w32 w))

pub words_from-more : (n x : ℕ) → words_encoded (generated_words (n + 1) x) ≡ words_encoded (generated_words n x) ++ to_le_bytes w32 (next_state (state_after n x) / 2 ^ 32)
words_from-more n x = rw (add-one n) (words_encoded-push (generated_words n x) (next_state (state_after n x) / 2 ^ 32))

-- the word behind this state, appended
pub appended_word : (first so_far items word : List ℕ) (n x state : ℕ) → state ≡ next_state (state_after n x)
    → so_far ≡ first ++ words_encoded (generated_words n x) → word ≡ to_le_bytes w32 (state / 2 ^ 32) → items ≡ so_far ++ word
    → items ≡ first ++ words_encoded (generated_words (n + 1) x)
appended_word first so_far items word n x state is_state is_far is_word is_items =
    is_items ∙ ap (λ (bytes : List ℕ). bytes ++ word) is_far
    ∙ append_assoc first (words_encoded (generated_words n x)) word
    ∙ ap (λ (bytes : List ℕ). first ++ bytes) (ap (λ (bytes : List ℕ). words_encoded (generated_words n x) ++ bytes) (is_word ∙ ap (λ (s : ℕ). to_le_bytes w32 (s / 2 ^ 32)) is_state) ∙ sym (words_from-more n x))
