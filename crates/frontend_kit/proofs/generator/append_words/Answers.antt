use Rattle.std.proofs.Common.{◌≡◌, arith, add-one, ap, length, ◌∙◌}
use Rattle.event.specs.Generator.{next_state, state_after}
use Rattle.frontend_kit.proofs.Words.{appended_word}
use Rattle.frontend_kit.proofs.generator.append_words.Goals as goal

pub loop-made-preserved : goal.loop-made-preserved
loop-made-preserved c =
    let state : c.advanced-x.result ≡ next_state (state_after c.loop-made._made c.args.state) = c.advanced-x.ensures ∙ ap next_state c.loop-made.invariant.state in
    record {
      bytes = appended_word c.args.body.now.items _ _ _ c.loop-made._made c.args.state _ state c.loop-made.invariant.bytes c.to_le_bytes.ensures c.append.ensures.items;
      length = omega (arith, c.append.ensures.length, ap length c.to_le_bytes.ensures, c.loop-made.invariant.length);
      state = rw (add-one c.loop-made._made) state;
    }
