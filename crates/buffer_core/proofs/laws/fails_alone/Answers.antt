use Rattle.buffer_core.proofs.Sampled.{twice_alone, left_alone, refused_alone, much_alone}
use Rattle.buffer_core.proofs.SampledReceives.{before_alone, cancelled_alone, start_alone, missed_alone, together_alone}
use Rattle.buffer_core.proofs.SampledSends.{optional_alone, place_alone, client_alone, owed_alone}
use Rattle.buffer_core.proofs.SampledRefusals.{size_alone, id_alone, large_alone, spent_alone, total_alone, run_alone, gate_alone, no_run_alone}
use Rattle.buffer_core.proofs.laws.fails_alone.Goals as goal

pub returns : goal.returns
returns c =
    record {
      twice = twice_alone;
      before = before_alone;
      cancelled = cancelled_alone;
      start = start_alone;
      less = left_alone;
      missed = missed_alone;
      nobody = refused_alone;
      optional = optional_alone;
      place = place_alone;
      client = client_alone;
      owed = owed_alone;
      size = size_alone;
      id = id_alone;
      large = large_alone;
      spent = spent_alone;
      total = total_alone;
      run = run_alone;
      gate = gate_alone;
      no_run = no_run_alone;
      much = much_alone;
      together = together_alone;
    }
