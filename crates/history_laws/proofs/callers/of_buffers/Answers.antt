use Rattle.history_laws.proofs.callers.of_buffers.Goals as goal

pub returns : goal.returns
returns c =
    record {
      delivers = c.delivers.ensures;
      ordered = c.ordered.ensures;
      events = c.goes_on.ensures.events;
      run = c.goes_on.ensures.run;
      numbers = c.numbers_free.ensures;
      cancels = c.cancels.ensures;
      sends = c.sends_in_runs.ensures;
      counts = c.counts.ensures;
      gives = c.gives.ensures;
      read_got = c.has_read.ensures.got;
      read_all = c.has_read.ensures.drained;
      between = c.reads_all.ensures.between;
    }
