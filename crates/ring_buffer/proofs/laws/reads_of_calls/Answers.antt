use Rattle.ring_buffer.proofs.CountLaws.{calls_read, calls_read_bytes}
use Rattle.ring_buffer.proofs.laws.reads_of_calls.Goals as goal

pub returns : goal.returns
returns c = record { often = calls_read; much = calls_read_bytes }
