use Rattle.sub_files.proofs.OnePattern.{behind_text, text_behind}
use Rattle.sub_files.proofs.pattern.Pattern.from_bytes.Goals as goal

pub returns-in-Some-clause-exact : goal.returns-in-Some-clause-exact
returns-in-Some-clause-exact c =
    let text = c.args.text.now in let front = c.in-Some.front.now in let rest = c.in-Some.rest.now in (
      λ ok. let has = c.pattern_behind.ensures.exact.0 ok in (has.0, behind_text text front rest c.args.limited has.0 c.in-Some.ensures.parts has.1),
      λ has. c.pattern_behind.ensures.exact.1 (has.0, text_behind text front rest c.args.limited has.0 c.in-Some.ensures.parts has.1),
    )
