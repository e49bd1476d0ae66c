use Rattle.history_laws.proofs.RefusedAttaches.{attaches_refused, attaches_add}
use Rattle.history_laws.proofs.RefusedRequests.{requests_refused}
use Rattle.history_laws.proofs.RefusedBegins.{begins_refused}
use Rattle.history_laws.proofs.callers.refuses_for_cause.Goals as goal

pub returns : goal.returns
returns c = record { attaches = attaches_refused; sum = attaches_add; requests = requests_refused c.of_buffers.ensures; begins = begins_refused }
