use Rattle.std.proofs.Common.{◌≡◌, ℕ, length, sym, ap, ◌∙◌, subst, arith}
use Rattle.std.specs.Option.{option_copied}
use Rattle.odb_tree.proofs.Along.{IsNumbered, numbers_end, numbers_done, numbered_more, numbered_all}
use Rattle.odb_tree.proofs.lookups.number_rows.Goals as goal

pub returns-in_default-clause-count : goal.returns-in_default-clause-count
returns-in_default-clause-count c =
    (numbered_all c.args.rows.now c.args.names.now c.loop-i.i c.args.numbers.now c.loop-i.numbers (omega (arith, c.told-numbers, c.loop-i.invariant.long)) c.loop-i.invariant
    (numbers_end c.args.rows.now c.args.names.now c.loop-i.i (omega arith) (sym c.row_at.ensures ∙ ap option_copied c.in_default.is))).0

pub returns-in_default-clause-numbers : goal.returns-in_default-clause-numbers
returns-in_default-clause-numbers c =
    (numbered_all c.args.rows.now c.args.names.now c.loop-i.i c.args.numbers.now c.loop-i.numbers (omega (arith, c.told-numbers, c.loop-i.invariant.long)) c.loop-i.invariant
    (numbers_end c.args.rows.now c.args.names.now c.loop-i.i (omega arith) (sym c.row_at.ensures ∙ ap option_copied c.in_default.is))).1

pub loop-i-preserved : goal.loop-i-preserved
loop-i-preserved c =
    numbered_more c.args.rows.now c.args.names.now c.loop-i.i c.args.numbers.now c.loop-i.numbers c.in-Some.row.now (omega arith) (omega (arith, c.told-numbers, c.loop-i.invariant.long)) c.loop-i.invariant
    (sym c.row_at.ensures ∙ ap option_copied c.in-Some.is)

pub returns-clause-count : goal.returns-clause-count
returns-clause-count c =
    let end : c.loop-i.i ≡ length c.args.names.now = omega arith in
    (numbered_all c.args.rows.now c.args.names.now (length c.args.names.now) c.args.numbers.now c.loop-i.numbers (omega (arith, c.told-numbers, c.loop-i.invariant.long, c.requires))
    (subst (λ (i : ℕ). IsNumbered c.args.rows.now c.args.names.now i c.args.numbers.now c.loop-i.numbers) end c.loop-i.invariant)
    (numbers_done c.args.rows.now c.args.names.now (length c.args.names.now) (omega arith))).0

pub returns-clause-numbers : goal.returns-clause-numbers
returns-clause-numbers c =
    let end : c.loop-i.i ≡ length c.args.names.now = omega arith in
    (numbered_all c.args.rows.now c.args.names.now (length c.args.names.now) c.args.numbers.now c.loop-i.numbers (omega (arith, c.told-numbers, c.loop-i.invariant.long, c.requires))
    (subst (λ (i : ℕ). IsNumbered c.args.rows.now c.args.names.now i c.args.numbers.now c.loop-i.numbers) end c.loop-i.invariant)
    (numbers_done c.args.rows.now c.args.names.now (length c.args.names.now) (omega arith))).1
