-- So far the words of so many steps are appended, and the state is that after them.
use Rattle.std.proofs.Common.{◌≡◌, ◌+◌, ◌*◌, ◌++◌}
use Rattle.arrayvec.specs.ArrayVec.{array_vec_len}
use Rattle.event.specs.Generator.{state_after, generated_words, words_encoded}
use Rattle.frontend_kit.proofs.generator.append_words.Given as goal

abbrev pub invariant-loop-made : goal.invariant-loop-made
invariant-loop-made l = record {
  bytes : l.body.items ≡ l.fn.body.items ++ words_encoded (generated_words l._made l.fn.state);
  length : array_vec_len l.body ≡ array_vec_len l.fn.body + 4 * l._made;
  state : l.x ≡ state_after l._made l.fn.state;
}
