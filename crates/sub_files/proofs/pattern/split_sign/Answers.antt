use Rattle.std.proofs.Common.{◌≡◌, ℕ, List, false, nat_eq, subst}
use Rattle.std.specs.Prelude.{take, length}
use Rattle.std.specs.Cmp.Lexicographic.{pointwise}
use Rattle.sub_files.specs.Patterns.{number_sign}
use Rattle.sub_files.proofs.PatternLaws.{no_sign}
use Rattle.sub_files.proofs.pattern.split_sign.Goals as goal

pub returns-in-None-clause-exact : goal.returns-in-None-clause-exact
returns-in-None-clause-exact c =
    let differs : pointwise nat_eq (take 4 c.split_at.result.1.now) (number_sign c.args.digit) ≡ false =
    subst (λ (sign : List ℕ). pointwise nat_eq (take (length sign) c.split_at.result.1.now) sign ≡ false) c.as_slice.ensures c.in-None.ensures.cases in
    (λ e. absurd (cc (e)), λ sign. absurd (no_sign c.args.text.now c.split_at.result.1.now c.args.digit c.first_percent.result c.first_percent.ensures c.split_at.ensures.back differs sign))
