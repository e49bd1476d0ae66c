use Rattle.std.proofs.Common.{◌≡◌, ◌≤◌, ◌^◌, ℕ, List, length, ap, sym, subst, ◌∙◌, arith}
use Rattle.bank_format.specs.declared.formats.Format.TheVariants.{Bank32A}
use Rattle.bank_format.specs.BankAreas.{BankValue, IsBankArea, plain_area}
use Rattle.bank_format.specs.Places.{BankReading}
use Rattle.bank_format.specs.Faults.{HoldsBanks}
use Rattle.event_builder.proofs.JoinedBanks.{area_small}
use Rattle.event_builder.proofs.joining.event_len.Goals as goal

pub banks_len-requires : goal.banks_len-requires
banks_len-requires c =
    let all : c.in-Ok.banks.left ≡ c.in-Ok.banks.all = ap (λ (r : BankReading). r.left) c.in-Ok.ensures.unread in
    subst (λ (l : List BankValue). length (plain_area Bank32A l) ≤ 2 ^ 34) (sym all) (area_small c.in-Ok.banks.all c.body.result.now c.in-Ok.ensures.found)

pub returns-in-Ok-clause-holds : goal.returns-in-Ok-clause-holds
returns-in-Ok-clause-holds c = (c.in-Ok.banks.all, subst (λ (bytes : List ℕ). HoldsBanks c.in-Ok.banks.all bytes) c.body.ensures c.in-Ok.ensures.found)

pub returns-in-Ok-clause-len : goal.returns-in-Ok-clause-len
returns-in-Ok-clause-len c = λ bs holds.
    let area : IsBankArea holds.0 bs c.body.result.now = subst (λ (bytes : List ℕ). IsBankArea holds.0 bs bytes) (sym c.body.ensures) holds.1 in
    c.banks_len.ensures ∙ ap (λ (r : BankReading). length (plain_area Bank32A r.left)) (c.in-Ok.ensures.only holds.0 bs area)

pub returns-in-Ok-clause-small : goal.returns-in-Ok-clause-small
returns-in-Ok-clause-small c =
    let all : c.in-Ok.banks.left ≡ c.in-Ok.banks.all = ap (λ (r : BankReading). r.left) c.in-Ok.ensures.unread in
    let few : length (plain_area Bank32A c.in-Ok.banks.left) ≤ 2 ^ 34 = subst (λ (l : List BankValue). length (plain_area Bank32A l) ≤ 2 ^ 34) (sym all) (area_small c.in-Ok.banks.all c.body.result.now c.in-Ok.ensures.found) in
    omega (arith, few, c.banks_len.ensures)

pub returns-in-Err-clause-none : goal.returns-in-Err-clause-none
returns-in-Err-clause-none c = λ bs holds. c.in-Err.ensures.only holds.0 bs (subst (λ (bytes : List ℕ). IsBankArea holds.0 bs bytes) (sym c.body.ensures) holds.1)
