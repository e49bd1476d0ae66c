use Rattle.std.proofs.lemmas.Result.{on_err_weaker}
use Rattle.event_report.proofs.Printed.{begun, on_error}
use Rattle.event_report.proofs.report.Report.append.Goals as goal

pub returns-in_err-append_ids-clause-begins : goal.returns-in_err-append_ids-clause-begins
returns-in_err-append_ids-clause-begins c = on_error c.from_residual-in_err-append_ids.result
    (begun c.args.out.now c.append_events.new.out c.append_ids.new.text _ c.in_ok-append_events.ensures.added c.in_err-append_ids.ensures.begins)

pub returns-in_err-append_banks-clause-begins : goal.returns-in_err-append_banks-clause-begins
returns-in_err-append_banks-clause-begins c = let end = c.append_banks.new.text in on_error c.from_residual-in_err-append_banks.result
    (begun c.args.out.now c.append_events.new.out end _ c.in_ok-append_events.ensures.added
    (begun c.append_events.new.out c.append_ids.new.text end _ c.in_ok-append_ids.ensures.added c.in_err-append_banks.ensures.begins))

pub returns-clause-begins : goal.returns-clause-begins
returns-clause-begins c = let end = c.append_rest.new.out in on_err_weaker c.append_rest.result
    (λ h. begun c.args.out.now c.append_events.new.out end _ c.in_ok-append_events.ensures.added
    (begun c.append_events.new.out c.append_ids.new.text end _ c.in_ok-append_ids.ensures.added
    (begun c.append_ids.new.text c.append_banks.new.text end _ c.in_ok-append_banks.ensures.added h)))
    c.append_rest.ensures.begins
