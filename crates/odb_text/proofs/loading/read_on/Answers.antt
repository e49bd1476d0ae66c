use Rattle.std.proofs.Common.{◌≡◌, true, false, refl, sym, ◌∙◌, arith, inl}
use Rattle.odb_text.specs.LineForms.{IsPassed}
use Rattle.odb_text.proofs.loading.read_on.Goals as goal

pub do_block-requires-clause-read : goal.do_block-requires-clause-read
do_block-requires-clause-read g c = λ (p : IsPassed c.args.line.now). (let e : false ≡ true = sym c.if-is_passed.false ∙ c.is_passed.ensures.1 p in absurd (cc))

pub returns-then-is_passed-clause-on : goal.returns-then-is_passed-clause-on
returns-then-is_passed-clause-on g c =
    inl (record {
      own = c.args.line.now;
      whole = c.requires.first;
      passed = c.is_passed.ensures.0 c.if-is_passed.true;
      next = refl;
      same_dir = refl;
      same_count = refl;
      same_state = refl;
    })

pub returns-then-is_passed-clause-room : goal.returns-then-is_passed-clause-room
returns-then-is_passed-clause-room g c = record { lines_fit = omega (arith, c.requires.room.lines_fit, c.requires.less); counts_fit = omega (arith, c.requires.room.counts_fit) }
