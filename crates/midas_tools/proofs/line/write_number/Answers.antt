use Rattle.std.proofs.Common.{◌≡◌, ◌∙◌, ◌+◌, ◌-◌, ◌≤◌, ◌<◌, ◌∷◌, ℕ, List, length, drop, decimal, ap, arith, rules}
use Rattle.std.proofs.lemmas.Fmt.{length-decimal-le}
use Rattle.std.proofs.lemmas.List.{drop-set}
use Rattle.midas_tools.proofs.line.write_number.Goals as goal

pub write_digits-start-requires : goal.write_digits-start-requires
write_digits-start-requires c = search (rules, length-decimal-le 20)

pub overflow_sub-start : goal.overflow_sub-start
overflow_sub-start c =
    let few : length (decimal c.args.number) ≤ 20 = search (rules, length-decimal-le 20) in
    omega (arith, few, c.write_digits-start.ensures.start)

pub returns-clause-written : goal.returns-clause-written
returns-clause-written c =
    let few : length (decimal c.args.number) ≤ 20 = search (rules, length-decimal-le 20) in
    let w = c.write_digits-start in
    let at = w.result - 1 in
    let inside : at < length w.new.buf = omega (arith, few, w.ensures.start, c.requires.room, c.requires.inside) in
    let next : at + 1 ≡ w.result = omega (arith, few, w.ensures.start, c.requires.room) in
    drop-set w.new.buf at 32 inside ∙ ap (λ (l : List ℕ). 32 ∷ l) (ap (λ (n : ℕ). drop n w.new.buf) next ∙ w.ensures.written)

pub returns-clause-below : goal.returns-clause-below
returns-clause-below c = omega (arith, c.write_digits-start.ensures.start)

pub returns-clause-short : goal.returns-clause-short
returns-clause-short c =
    let few : length (decimal c.args.number) ≤ 20 = search (rules, length-decimal-le 20) in
    omega (arith, few, c.write_digits-start.ensures.start)
