use Rattle.std.proofs.Common.{subst}
use Rattle.std.specs.Iterator.{Yields}
use Rattle.std.specs.Vec.Iter.{into_iter_steps}
use Rattle.daq_std.proofs.words.words_behind_name.Goals as goal

pub returns : goal.returns
returns c = record {
  name = c.next-name.result;
  behind = c.next-name.new.self;
  rest = c.loop-word.yielded;
  first_is = c.next-name.ensures.cases;
  rest_is = (
    c.next.new.self,
    (
      c.loop-word.word-iterator,
      subst (λ s. Yields into_iter_steps s c.loop-word.yielded c.loop-word.word-iterator) c.into_iter-word-iterator.ensures.into_iter_gives c.loop-word.yielded_by,
      subst (λ r. into_iter_steps c.loop-word.word-iterator r c.next.new.self) c.in-None.is c.next.ensures.steps,
    ),
  );
  words_are = c.loop-word.invariant;
}
