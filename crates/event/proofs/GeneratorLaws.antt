-- How long the generator's events are, and that event n + 1 comes behind the first n.
use Rattle.std.specs.Prelude.{◌≡◌, ℕ, zero, suc, ◌+◌, ◌*◌, ◌%◌, ◌≤◌, List, [], ◌∷◌, ◌++◌, length, replicate, refl}
use Rattle.std.specs.Int.{to_le_bytes, w32}
use Rattle.std.proofs.Common.{ap, ◌∙◌, add-one, arith, length-append}
use Rattle.std.proofs.lemmas.List.{length-replicate}
use Rattle.daq_types.specs.declared.runs.Order.{Order}
use Rattle.event.specs.Events.{slot_size, slot_of_length}
use Rattle.event.specs.Generator.{generated_words, words_encoded, first_state, word_count, generated_body, generated_event, generated_events}

pub length-words_from : (n x : ℕ) → length (generated_words n x) ≡ n
length-words_from zero x = refl
length-words_from (suc n) x = length-append (generated_words n x) (_ ∷ []) ∙ ap (λ k. k + 1) (length-words_from n x) ∙ add-one n

pub length-words_encoded : (ws : List ℕ) → length (words_encoded ws) ≡ 4 * length ws
length-words_encoded [] = refl
length-words_encoded (w ∷ ws) = omega (arith, length-words_encoded ws, length-append (to_le_bytes w32 w) (words_encoded ws))

pub length-generated_body : (id start k : ℕ) → length (generated_body id start k) ≡ 16 + (4 * word_count k + 4 * (word_count k % 2))
unfolding generated_body
length-generated_body id start k =
    let words : List ℕ = generated_words (word_count k) (first_state id start k) in
    omega (
      arith,
      length-append (words_encoded words) (replicate (4 * (word_count k % 2)) 0),
      length-words_encoded words,
      length-words_from (word_count k) (first_state id start k),
      length-replicate {A = ℕ} (4 * (word_count k % 2)) 0,
    )

-- event k has at most 80 bytes of data
pub generated_body_is_small : (id start k : ℕ) → length (generated_body id start k) ≤ 80
generated_body_is_small id start k = omega (arith, length-generated_body id start k)

-- and takes at most 104 bytes of a buffer
pub generated_slot_is_small : (order : Order) (id mask k : ℕ) → slot_size (generated_event order id mask k) ≤ 104
unfolding slot_of_length
generated_slot_is_small order id mask k = omega (arith, generated_body_is_small id order.start k)

pub generated_events-more : (order : Order) (id mask n : ℕ) →
    generated_events order id mask (n + 1) ≡ generated_events order id mask n ++ generated_event order id mask (n + 1) ∷ []
generated_events-more order id mask n = rw (add-one n) refl

pub length-generated_events : (order : Order) (id mask n : ℕ) → length (generated_events order id mask n) ≡ n
length-generated_events order id mask zero = refl
length-generated_events order id mask (suc n) =
    length-append (generated_events order id mask n) (_ ∷ []) ∙ ap (λ k. k + 1) (length-generated_events order id mask n) ∙ add-one n
