-- The body of a generated event is one plain bank.
use Rattle.std.proofs.Common.{◌≡◌, ℕ, ◌+◌, ◌*◌, ◌/◌, ◌%◌, List, [], ◌∷◌, ◌++◌, length, replicate, refl, sym, ap, ◌∙◌, arith}
use Rattle.std.specs.Prelude.{codes}
use Rattle.std.specs.Int.{to_le_bytes, w16, w32}
use Rattle.std.proofs.lemmas.List.{append-nil}
use Rattle.event.specs.Generator.{generated_words, first_state, word_count, generated_body}
use Rattle.event.proofs.GeneratorLaws.{length-words_from, length-words_encoded}
use Rattle.bank_format.specs.declared.formats.Format.TheVariants.{Bank16}
use Rattle.bank_format.specs.Formats.{padded, padding_len}
use Rattle.bank_format.specs.BankAreas.{BankValue, plain_bank, plain_banks}
use Rattle.bank_format.proofs.PlainLaws.{length-plain_bank}
use Rattle.bank_format.specs.GeneratedLaws.{generated_bank}

same_area : (a b size size' pad pad' : ℕ) (body : List ℕ) → a ≡ b → size ≡ size' → pad ≡ pad'
    → to_le_bytes w32 a ++ (to_le_bytes w32 1 ++ (codes "GEN0" ++ (to_le_bytes w16 6 ++ (to_le_bytes w16 size ++ (body ++ replicate pad 0)))))
    ≡ to_le_bytes w32 b ++ (to_le_bytes w32 1 ++ (codes "GEN0" ++ (to_le_bytes w16 6 ++ (to_le_bytes w16 size' ++ (body ++ replicate pad' 0)))))
same_area a b size size' pad pad' body ha hs hp = rw (ha, hs, hp) refl

one_bank : (b : BankValue) → plain_banks Bank16 (b ∷ []) ≡ to_le_bytes w32 (length (plain_bank Bank16 b)) ++ (to_le_bytes w32 1 ++ plain_bank Bank16 b)
unfolding plain_banks
one_bank b = ap (λ (xs : List ℕ). to_le_bytes w32 (length xs) ++ (to_le_bytes w32 1 ++ xs)) (append-nil (plain_bank Bank16 b))

pub generated_is_plain : (id start k : ℕ) → generated_body id start k ≡ plain_banks Bank16 (generated_bank id start k ∷ [])
unfolding generated_body
generated_is_plain id start k =
    let b : BankValue = generated_bank id start k in
    let count : ℕ = word_count k in
    let words : List ℕ = generated_words count (first_state id start k) in
    let len : length b.body ≡ 4 * count = length-words_encoded words ∙ ap (λ n. 4 * n) (length-words_from count (first_state id start k)) in
    same_area (8 + (4 * count + 7) / 8 * 8) (length (plain_bank Bank16 b)) (4 * count) (length b.body) (4 * (count % 2)) (padding_len (length b.body)) b.body
    (omega (arith, length-plain_bank Bank16 b refl, ap padded len)) (sym len) (omega (arith, len, ap padding_len len))
    ∙ sym (one_bank b)
