use Rattle.std.proofs.Common.{List, ℕ, length, sym, subst, ap, arith}
use Rattle.bank_format.specs.Faults.{PassesBanks}
use Rattle.bank_format.specs.Spelled.{IsBytes}
use Rattle.bank_format.proofs.BankLaws.{behind_is_shorter, IsBytes-behind, header_is_some}
use Rattle.bank_format.proofs.AreaLaws.{passes-more, passes-none}
use Rattle.bank_format.proofs.area.check_area.Goals as goal

pub loop-left-init : goal.loop-left-init
loop-left-init c = record { passes = passes-none c.args.format c.args.area.now; small = λ i. (c.type_inv.area i).fits; within = c.requires }

pub loop-left-preserved : goal.loop-left-preserved
loop-left-preserved c =
    let inv = c.loop-left.invariant in
    let has = c.in_ok-left.ensures.whole in
    let rest = c.in_ok-left.ensures.rest in
    record {
      passes = subst (λ (xs : List ℕ). PassesBanks c.args.format c.args.area.now xs) (sym rest) (passes-more c.args.format c.args.area.now c.loop-left.left.now inv.passes has inv.small);
      small = subst (λ (xs : List ℕ). IsBytes xs) (sym rest) (IsBytes-behind c.args.format c.loop-left.left.now inv.small);
      within = omega (arith, ap length rest, behind_is_shorter c.args.format c.loop-left.left.now has);
    }

pub loop-left-smaller : goal.loop-left-smaller
loop-left-smaller c =
    let rest = c.in_ok-left.ensures.rest in
    let has = c.in_ok-left.ensures.whole in
    omega (arith, ap length rest, behind_is_shorter c.args.format c.loop-left.left.now has, header_is_some c.args.format)
