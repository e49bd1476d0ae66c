use Rattle.std.proofs.Common.{sym, ◌∙◌}
use Rattle.daq_text.specs.Numbers.{unsigned_form}
use Rattle.odb_value.proofs.FormSteps.{positive_of}
use Rattle.odb_value.proofs.forms.signed.Goals as goal

pub returns-in_ok-number-2 : goal.returns-in_ok-number-2
returns-in_ok-number-2 c =
    rw (sym c.starts_with.ensures.value ∙ c.if-starts_with.false)
    (positive_of (unsigned_form c.args.text.now) c.in_ok-number-2.number c.and_then-else-starts_with.result c.in_ok-number-2.ensures.read c.and_then-else-starts_with.ensures)
