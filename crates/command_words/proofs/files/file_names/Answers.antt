use Rattle.std.proofs.Common.{◌∙◌, ◌∷◌, ◌++◌, [], ℕ, List, ap}
use Rattle.command_words.proofs.FormParts.{names_more}
use Rattle.command_words.proofs.files.file_names.Goals as goal

pub loop-at-preserved : goal.loop-at-preserved
loop-at-preserved c =
    c.in_ok-push.ensures.items ∙ ap (λ (word : List ℕ). c.loop-at.names.items ++ word ∷ []) c.in-Some-file_word.ensures.0
    ∙ names_more c.args.words.now c.loop-at.names.items c.loop-at.at c.in-Some.word.now c.loop-at.invariant c.loop-at.auto.at c.in-Some.ensures
