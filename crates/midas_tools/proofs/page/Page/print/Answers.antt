use Rattle.std.proofs.Common.{◌≡◌, ℕ, List, rules, subst}
use Rattle.std.proofs.lemmas.Result.{err_from_is_err_and}
use Rattle.daq_io.specs.Streams.{AppendsPart}
use Rattle.midas_tools.proofs.Printing.{AppendsPart-more}
use Rattle.midas_tools.proofs.page.Page.print.Goals as goal

pub returns-in_err-flush-clause-passes : goal.returns-in_err-flush-clause-passes
returns-in_err-flush-clause-passes g c =
    let p = err_from_is_err_and c.from_residual.result c.from_residual.ensures.1 in
    let same : c.put.new.self ≡ c.args.self.now = search rules in
    rw p.1 (AppendsPart-more _ _ c.args.self.now c.args.line.now (subst (λ (b : List ℕ). AppendsPart (g.O.Sink.told c.args.out.now).written (g.O.Sink.told c.flush.new.out).written b) same c.in_err-flush.ensures.part))
