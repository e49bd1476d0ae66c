use Rattle.std.proofs.Common.{◌≡◌, ◌<◌, true, false, List, [], ℕ, length, sym, subst, ap, ◌∙◌, rules, Some}
use Rattle.std.specs.Prelude.{nat_eq}
use Rattle.std.specs.Cmp.Lexicographic.{pointwise}
use Rattle.bank_format.specs.declared.formats.Format.{Format}
use Rattle.bank_format.specs.BankAreas.{BankValue, BanksBefore}
use Rattle.bank_format.specs.Places.{BankReading, banks_in, front_bank, first_named}
use Rattle.bank_format.proofs.AreaLaws.{goes_on}
use Rattle.bank_format.proofs.Named.{named_here, named_later, named_nowhere}
use Rattle.bank_format.proofs.banks.Banks.find.Goals as goal

pub split_bank-requires : goal.split_bank-requires
split_bank-requires c =
    let some : 0 < length c.loop-left.left.now = search rules in
    (goes_on c.self.inside.format c.loop-left.left.now c.loop-left.invariant.whole some).has

pub returns-then-eq : goal.returns-then-eq
returns-then-eq c =
    let f : Format = c.self.inside.format in
    let left : List ℕ = c.loop-left.left.now in
    let some : 0 < length left = search rules in
    let on = goes_on f left c.loop-left.invariant.whole some in
    let same : pointwise nat_eq (front_bank f left).name c.args.name ≡ true =
    ap (λ (b : BankValue). pointwise nat_eq b.name c.args.name) (sym c.split_bank.ensures.bank) ∙ sym c.eq.ensures ∙ c.if-eq.true in
    ap (λ (r : BankReading). first_named c.args.name r.all) (sym c.self.view_is) ∙ sym c.loop-left.invariant.same
    ∙ named_here c.args.name f left on same ∙ ap (λ (b : BankValue). Some b) (sym c.split_bank.ensures.bank)

pub loop-left-preserved : goal.loop-left-preserved
loop-left-preserved c =
    let f : Format = c.self.inside.format in
    let left : List ℕ = c.loop-left.left.now in
    let some : 0 < length left = search rules in
    let on = goes_on f left c.loop-left.invariant.whole some in
    let other : pointwise nat_eq (front_bank f left).name c.args.name ≡ false =
    ap (λ (b : BankValue). pointwise nat_eq b.name c.args.name) (sym c.split_bank.ensures.bank) ∙ sym c.eq.ensures ∙ c.if-eq.false in
    record {
      whole = subst (λ (xs : List ℕ). BanksBefore f (banks_in f xs) [] xs) (sym c.split_bank.ensures.rest) on.whole;
      same = ap (λ (xs : List ℕ). first_named c.args.name (banks_in f xs)) c.split_bank.ensures.rest ∙ named_later c.args.name f left on other ∙ c.loop-left.invariant.same;
    }

pub returns : goal.returns
returns c =
    let none : length c.loop-left.left.now ≡ 0 = search rules in
    ap (λ (r : BankReading). first_named c.args.name r.all) (sym c.self.view_is) ∙ sym c.loop-left.invariant.same ∙ named_nowhere c.args.name c.self.inside.format c.loop-left.left.now none
