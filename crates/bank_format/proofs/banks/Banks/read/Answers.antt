use Rattle.std.proofs.Common.{◌≡◌, List, [], ℕ, length, drop, sym, subst, ap, ◌∙◌}
use Rattle.bank_format.specs.declared.formats.Format.{Format}
use Rattle.bank_format.specs.BankAreas.{BanksBefore, IsBankArea}
use Rattle.bank_format.specs.Places.{banks_in, unread}
use Rattle.bank_format.specs.Faults.{BreaksOff}
use Rattle.bank_format.proofs.AreaLaws.{area_whole}
use Rattle.bank_format.proofs.FrontLaws.{is_bank_area, banks_are, front_broken, broken_area, named_by, one_format}
use Rattle.bank_format.proofs.banks.Banks.read.Goals as goal

pub returns-in_err-format-clause-only : goal.returns-in_err-format-clause-only
returns-in_err-format-clause-only c = λ f bs whole. absurd (front_broken f bs c.args.bytes.now c.in_err-format.field-0.0 whole c.in_err-format.ensures.fault)

pub returns-in_err-check_area-clause-only : goal.returns-in_err-check_area-clause-only
returns-in_err-check_area-clause-only c = λ f bs whole.
    let g : Format = c.in_ok-format.format in
    absurd (broken_area f g bs c.args.bytes.now c.in_err-check_area.field-0.0 whole c.in_ok-format.ensures.named
    (subst (λ (xs : List ℕ). BreaksOff g (length c.args.bytes.now) xs c.in_err-check_area.field-0.0) c.in_ok-format.ensures.area c.in_err-check_area.ensures.fault))

pub invariant_of-result : goal.invariant_of-result
invariant_of-result c =
    let whole = area_whole c.in_ok-format.format c.in_ok-format.area.now c.in_ok-check_area.ensures.whole in
    record { area_is = whole; left_is = whole }

pub returns-clause-found : goal.returns-clause-found
returns-clause-found c =
    let f : Format = c.in_ok-format.format in
    let bytes : List ℕ = c.args.bytes.now in
    let area_eq : c.in_ok-format.area.now ≡ drop 8 bytes = c.in_ok-format.ensures.area in
    let whole : BanksBefore f (banks_in f (drop 8 bytes)) [] (drop 8 bytes) =
    subst (λ (xs : List ℕ). BanksBefore f (banks_in f xs) [] xs) area_eq (area_whole f c.in_ok-format.area.now c.in_ok-check_area.ensures.whole) in
    (f, subst (λ (xs : List ℕ). IsBankArea f (banks_in f xs) bytes) (sym area_eq) (is_bank_area f (banks_in f (drop 8 bytes)) bytes (λ i. (c.type_inv.bytes i).fits) c.in_ok-format.ensures.right c.in_ok-format.ensures.named whole))

pub returns-clause-only : goal.returns-clause-only
returns-clause-only c = λ f bs whole.
    let g : Format = c.in_ok-format.format in
    let bytes : List ℕ = c.args.bytes.now in
    let area_eq : c.in_ok-format.area.now ≡ drop 8 bytes = c.in_ok-format.ensures.area in
    let same : f ≡ g = one_format f g (sym (named_by f bs bytes whole) ∙ c.in_ok-format.ensures.named) in
    let banks_eq : banks_in g c.in_ok-format.area.now ≡ bs =
    ap (λ (xs : List ℕ). banks_in g xs) area_eq ∙ ap (λ (h : Format). banks_in h (drop 8 bytes)) (sym same) ∙ banks_are f bs bytes whole in
    ap unread banks_eq
