use Rattle.std.proofs.Common.{◌≡◌, ℕ, ◌∙◌, ap, Ok, Err, Option, Result}
use Rattle.std.specs.Str.Parse.{digits_value}
use Rattle.daq_text.specs.Numbers.{mapped, up_to}
use Rattle.odb_value.proofs.ReadAgain.{digits_form-digits}
use Rattle.odb_text.proofs.words.spelled.Goals as goal

pub returns-in-Ok : goal.returns-in-Ok
returns-in-Ok c =
    let e : ◌≡◌ {A = Result (Option ℕ) ℕ} (Ok c.in-Ok.number) (Ok (up_to c.args.most (digits_value 10 c.args.numeral.now))) =
    c.in-Ok.ensures.read ∙ ap (mapped (up_to c.args.most)) (digits_form-digits 10 c.args.numeral.now c.requires) in
    cc

pub returns-in-Err : goal.returns-in-Err
returns-in-Err c =
    let e : ◌≡◌ {A = Result (Option ℕ) ℕ} (Err c.in-Err.field-0) (Ok (up_to c.args.most (digits_value 10 c.args.numeral.now))) =
    c.in-Err.ensures.read ∙ ap (mapped (up_to c.args.most)) (digits_form-digits 10 c.args.numeral.now c.requires) in
    absurd (cc)
