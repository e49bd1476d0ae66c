use Rattle.std.proofs.Common.{◌∙◌, ◌<◌, ◌^◌, ℕ, List, length, drop, ap, sym, subst, arith}
use Rattle.bank_format.specs.declared.formats.Format.{Format}
use Rattle.bank_format.specs.BankAreas.{BankValue, IsBankArea, plain_area}
use Rattle.bank_format.specs.Places.{banks_in}
use Rattle.bank_format.proofs.PlainLaws.{plain_is_area, length-plain_banks}
use Rattle.bank_format.specs.Writing.{Written}
use Rattle.bank_format.proofs.writer.BankWriter.finish.Goals as goal

pub returns-clause-area : goal.returns-clause-area
returns-clause-area c =
    let f : Format = c.self.inside.format in
    let banks : List BankValue = banks_in f (drop 8 c.self.inside.bytes.items) in
    let fits : length (plain_area f banks) < 2 ^ 32 =
    omega (arith, length-plain_banks f banks, ap (length {A = ℕ}) c.self.invariant.spelled, c.self.invariant.counted, c.self.invariant.within, c.self.invariant.most) in
    let held : IsBankArea f banks c.as_slice.result.now =
    subst (λ (bytes : List ℕ). IsBankArea f banks bytes) (sym (c.as_slice.ensures.value ∙ c.self.invariant.spelled)) (plain_is_area f banks c.self.invariant.banks fits) in
    subst (λ (w : Written). IsBankArea w.format w.banks c.as_slice.result.now) c.self.view_is held
