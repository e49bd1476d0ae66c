use Rattle.std.proofs.Common.{subst, sym, ◌∙◌, List, ℕ}
use Rattle.daq_io.proofs.Results.{on_err}
use Rattle.daq_io.proofs.Writing.{AppendsAllBut, left_over, more_written, part_written, some_rest}
use Rattle.daq_io.proofs.streams.write_all.Goals as goal

pub returns-in_err-count-clause-part : goal.returns-in_err-count-clause-part
returns-in_err-count-clause-part g c = on_err c.from_residual.result (part_written _ c.loop-rest.invariant.bytes c.in_err-count.ensures.bytes)

pub returns-in_err-count-clause-short : goal.returns-in_err-count-clause-short
returns-in_err-count-clause-short g c =
    on_err c.from_residual.result (left_over _ _ _ _ _ c.loop-rest.invariant.bytes (some_rest c.loop-rest.rest.now (sym c.is_empty.ensures ∙ c.loop-rest-test.true)) c.in_err-count.ensures.bytes)

pub loop-rest-preserved : goal.loop-rest-preserved
loop-rest-preserved g c = record {
  bytes = subst (λ (rest : List ℕ). AppendsAllBut (g.O.Sink.told c.args.out.now).written (g.O.Sink.told c.write.new.self).written rest c.args.bytes.now)
      (sym c.split_at.ensures.back) (more_written _ c.in_ok-count.count c.loop-rest.invariant.bytes c.in_ok-count.ensures.bytes);
  faults = c.in_ok-count.ensures.faults.done ∙ c.loop-rest.invariant.faults;
}
