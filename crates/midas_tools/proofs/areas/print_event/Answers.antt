use Rattle.std.proofs.Common.{ap, inl, inr, refl}
use Rattle.std.proofs.lemmas.Result.{err_from_is_err_and}
use Rattle.event.specs.Headers.{event_of}
use Rattle.midas_tools.specs.Areas.{bank_lines}
use Rattle.midas_tools.specs.Texts.{no_banks_line}
use Rattle.midas_tools.proofs.AreasLaws.{event_cut, event_passes}
use Rattle.midas_tools.proofs.areas.print_event.Goals as goal

pub returns-in_err-print_event_line-clause-passes : goal.returns-in_err-print_event_line-clause-passes
returns-in_err-print_event_line-clause-passes g c =
    let p = err_from_is_err_and c.from_residual.result c.from_residual.ensures.1 in
    rw p.1 (event_cut (event_of c.args.header.now c.args.body.now) (g.O.Sink.told c.args.out.now).written (g.O.Sink.told c.args.out.now).written (g.O.Sink.told c.print_event_line.new.out).written c.args.page.now c.print_event_line.new.page c.print_event_line.new.page
    c.read-area.result c.in_err-print_event_line.field-0.0 c.read-area.ensures.found c.read-area.ensures.fault c.in_err-print_event_line.ensures.passes)

pub returns-in-Ok-clause-passes : goal.returns-in-Ok-clause-passes
returns-in-Ok-clause-passes g c =
    event_passes (event_of c.args.header.now c.args.body.now) (g.O.Sink.told c.args.out.now).written (g.O.Sink.told c.print_event_line.new.out).written (g.O.Sink.told c.print_banks.new.out).written c.args.page.now c.print_event_line.new.page c.print_banks.new.page
    (bank_lines c.in-Ok.banks.left) c.in_ok-print_event_line.field-0 c.print_banks.result
    (inl (record { banks = c.in-Ok.banks.all; held = c.in-Ok.ensures.found; text_is = ap (λ b. bank_lines b.left) c.in-Ok.ensures.unread }))
    c.in_ok-print_event_line.ensures.passes
    c.print_banks.ensures.passes

pub returns-in-Err-clause-passes : goal.returns-in-Err-clause-passes
returns-in-Err-clause-passes g c =
    event_passes (event_of c.args.header.now c.args.body.now) (g.O.Sink.told c.args.out.now).written (g.O.Sink.told c.print_event_line.new.out).written (g.O.Sink.told c.print_no_banks.new.out).written c.args.page.now c.print_event_line.new.page c.print_no_banks.new.page
    (no_banks_line c.in-Err.fault) c.in_ok-print_event_line.field-0 c.print_no_banks.result
    (inr (record { fault = c.in-Err.fault; first = c.in-Err.ensures.fault; text_is = refl }))
    c.in_ok-print_event_line.ensures.passes
    c.print_no_banks.ensures.passes
