use Rattle.history_laws.proofs.Sampled.{all_met, read_right, legal_needed, clients_needed, calls_needed, events_needed, drained_needed}
use Rattle.history_laws.proofs.callers.needs_each_premise.Goals as goal

pub returns : goal.returns
returns c =
    record {
      met = all_met;
      right = read_right;
      legal = legal_needed;
      clients = clients_needed;
      calls = calls_needed;
      events = events_needed;
      drained = drained_needed;
    }
