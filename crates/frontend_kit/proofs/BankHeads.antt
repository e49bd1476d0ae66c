-- What stands in front of the words of a generated event.
use Rattle.std.specs.Prelude.{◌≡◌, ℕ, ◌+◌, ◌*◌, ◌%◌, ◌++◌, replicate}
use Rattle.std.proofs.Common.{append_assoc}
use Rattle.event.specs.Generator.{generated_words, words_encoded, first_state, word_count, generated_body}
use Rattle.frontend_kit.specs.BankHeads.{heads}

pub generated_body_is : (id start k : ℕ) → let count : ℕ = word_count k in
    generated_body id start k ≡ (heads (4 * count) ++ words_encoded (generated_words count (first_state id start k))) ++ replicate (4 * (count % 2)) 0
unfolding generated_body heads
generated_body_is id start k = simp append_assoc
