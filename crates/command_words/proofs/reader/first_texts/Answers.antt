use Rattle.std.proofs.Common.{◌≡◌, ◌∙◌, ◌∷◌, ◌++◌, List, ℕ, map, ap, [], arith}
use Rattle.std.specs.Borrow.{Bor}
use Rattle.command_words.proofs.Texts.{none_within, texts_next}
use Rattle.command_words.proofs.reader.first_texts.Goals as goal
use Rattle.command_words.proofs.reader.first_texts.Goals.{in-Some+in_ok-push, in_default}

pub loop-at-preserved : goal.loop-at-preserved
loop-at-preserved c =
    elim c.match-get.branch [
      | in-Some+in_ok-push w ↦
          let items : c.match-get.texts.items ≡ c.loop-at.texts.items ++ w.in-Some.word ∷ [] = ap (λ t. t.items) w.texts-is ∙ w.in_ok-push.ensures.items in
          ap (map (λ (t : Bor (List ℕ)). t.now)) items ∙ texts_next c.args.words.now c.loop-at.at c.loop-at.texts.items w.in-Some.word c.loop-at.invariant w.in-Some.ensures
      | in_default w ↦
          absurd (none_within c.args.words.now c.loop-at.at w.in_default.ensures (omega (arith, c.loop-at-test.true, c.min-at-end.ensures, c.len.ensures)))
    ]
