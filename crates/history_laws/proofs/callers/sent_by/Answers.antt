use Rattle.history_laws.proofs.Sending.{sent_by_caller, send_is_among}
use Rattle.history_laws.proofs.SentThere.{send_stands, sends_stand_in_order}
use Rattle.history_laws.proofs.callers.sent_by.Goals as goal

pub returns : goal.returns
returns c = record { sent = sent_by_caller c.of_buffers.ensures; among = send_is_among; stands = send_stands c.of_buffers.ensures; order = sends_stand_in_order c.of_buffers.ensures }
