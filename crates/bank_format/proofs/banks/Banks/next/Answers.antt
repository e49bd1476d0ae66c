use Rattle.std.proofs.Common.{◌≡◌, ◌<◌, ◌∷◌, List, [], ℕ, length, sym, subst, ap, ◌∙◌, rules}
use Rattle.bank_format.specs.declared.formats.Format.{Format}
use Rattle.bank_format.specs.BankAreas.{BankValue, BanksBefore, bank_value}
use Rattle.bank_format.specs.Places.{BankReading, banks_in, behind_bank}
use Rattle.bank_format.proofs.AreaLaws.{goes_on, banks_in-nil}
use Rattle.bank_format.proofs.banks.Banks.next.Goals as goal

pub returns-then-is_empty-clause-bank : goal.returns-then-is_empty-clause-bank
returns-then-is_empty-clause-bank c =
    let none : length c.self.inside.left.now ≡ 0 = search rules in
    sym (ap (λ (r : BankReading). r.left) c.self.view_is) ∙ banks_in-nil c.self.inside.format c.self.inside.left.now none

pub split_bank-requires : goal.split_bank-requires
split_bank-requires c =
    let some : 0 < length c.self.inside.left.now = search rules in
    (goes_on c.self.inside.format c.self.inside.left.now c.self.invariant.left_is some).has

pub invariant_of-self : goal.invariant_of-self
invariant_of-self c =
    let f : Format = c.self.inside.format in
    let some : 0 < length c.self.inside.left.now = search rules in
    let on = goes_on f c.self.inside.left.now c.self.invariant.left_is some in
    record {
      area_is = c.self.invariant.area_is;
      left_is = subst (λ (xs : List ℕ). BanksBefore f (banks_in f xs) [] xs) (sym c.split_bank.ensures.rest) on.whole;
    }

pub returns-clause-bank : goal.returns-clause-bank
returns-clause-bank c =
    let f : Format = c.self.inside.format in
    let some : 0 < length c.self.inside.left.now = search rules in
    let on = goes_on f c.self.inside.left.now c.self.invariant.left_is some in
    sym (ap (λ (r : BankReading). r.left) c.self.view_is) ∙ on.banks
    ∙ ap (λ (b : BankValue). b ∷ banks_in f (behind_bank f c.self.inside.left.now)) (sym c.split_bank.ensures.bank)
    ∙ ap (λ (xs : List ℕ). bank_value c.split_bank.result.0.name c.split_bank.result.0.tid c.split_bank.result.0.body.now ∷ banks_in f xs) (sym c.split_bank.ensures.rest)
