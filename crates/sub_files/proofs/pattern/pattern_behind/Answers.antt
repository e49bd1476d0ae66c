use Rattle.std.proofs.Common.{◌≡◌, Bool, true, subst, sym, refl}
use Rattle.sub_files.specs.Patterns.{IsPatternBehind, numbered_parts}
use Rattle.sub_files.proofs.OnePattern.{read_numbered, numbered_read}
use Rattle.sub_files.proofs.pattern.pattern_behind.Goals as goal

pub returns-in-Some-clause-exact : goal.returns-in-Some-clause-exact
returns-in-Some-clause-exact c =
    let limited : c.args.limited ≡ true = cc (c.if-not-limited.false) in
    let front = c.args.front.now in let rest = c.args.rest.now in let middle = c.in-Some.middle.now in let back = c.in-Some.back.now in (
      λ ok. (
        numbered_parts front middle back,
        subst (λ (b : Bool). IsPatternBehind front rest b (numbered_parts front middle back)) (sym limited)
            (numbered_read front rest middle back (numbered_parts front middle back) c.in-Some.ensures.parts refl (c.numbered_pattern.ensures.exact.0 ok)),
      ),
      λ has. c.numbered_pattern.ensures.exact.1
          (read_numbered front rest middle back has.0 c.in-Some.ensures.parts (subst (λ (b : Bool). IsPatternBehind front rest b has.0) limited has.1)),
    )
