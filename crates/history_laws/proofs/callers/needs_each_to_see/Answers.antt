use Rattle.history_laws.proofs.SampledSeen.{all_seen_met, seen_right, seen_legal_needed, seen_clients_needed, seen_sends_needed, seen_entries_needed, seen_places_needed, seen_given_needed, seen_through_needed}
use Rattle.history_laws.proofs.callers.needs_each_to_see.Goals as goal

pub returns : goal.returns
returns c =
    record {
      met = all_seen_met;
      right = seen_right;
      legal = seen_legal_needed;
      clients = seen_clients_needed;
      sends = seen_sends_needed;
      calls = seen_entries_needed;
      places = seen_places_needed;
      given = seen_given_needed;
      through = seen_through_needed;
    }
