use Rattle.std.proofs.Common.{ℕ, ◌*◌, ◌%◌, List, ◌++◌, arith, ap, sym, ◌∙◌}
use Rattle.std.proofs.lemmas.List.{take-replicate}
use Rattle.event.specs.Generator.{generated_words, words_encoded, first_state, word_count}
use Rattle.frontend_kit.specs.BankHeads.{heads}
use Rattle.frontend_kit.proofs.BankHeads.{generated_body_is}
use Rattle.frontend_kit.proofs.generator.write_body.Goals as goal

pub returns-clause-bytes : goal.returns-clause-bytes
returns-clause-bytes c =
    let count : ℕ = word_count c.args.k in
    let front : List ℕ = heads (4 * count) ++ words_encoded (generated_words count (first_state c.args.id c.args.start c.args.k)) in
    rw (c.append.ensures.items, c.append_words.ensures.bytes, c.write_heads.ensures.bytes)
    (ap (λ (zeros : List ℕ). front ++ zeros) (take-replicate (4 * (count % 2)) 4 0 (omega arith)) ∙ sym (generated_body_is c.args.id c.args.start c.args.k))
