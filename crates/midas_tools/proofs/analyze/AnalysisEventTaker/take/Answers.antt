use Rattle.std.proofs.Common.{◌∙◌, arith, ap}
use Rattle.event.specs.Headers.{event_of}
use Rattle.event_report.specs.Reports.{Totals}
use Rattle.event_report.proofs.Reports.{report_bytes}
use Rattle.mid_format.proofs.AtHand.{encoded_more}
use Rattle.midas_tools.proofs.analyze.AnalysisEventTaker.take.Goals as goal

pub fold-requires : goal.fold-requires
fold-requires c =
    let room = c.requires.room in
    omega (arith, ap (λ (t : Totals). t.bytes) room.taken ∙ report_bytes room.events, encoded_more room.events (event_of c.args.header.now c.args.body.now), room.within)
