-- The body of a generated event is one plain bank.
use Rattle.std.proofs.Common.{ℕ}
use Rattle.std.specs.Prelude.{codes}
use Rattle.event.specs.Generator.{generated_words, words_encoded, first_state, word_count}
use Rattle.bank_format.specs.BankAreas.{BankValue, bank_value}

-- the bank GEN0 of unsigned numbers of 32 bits, which are the words of event k
abbrev pub generated_bank : (id start k : ℕ) → BankValue
generated_bank id start k = bank_value (codes "GEN0") 6 (words_encoded (generated_words (word_count k) (first_state id start k)))
