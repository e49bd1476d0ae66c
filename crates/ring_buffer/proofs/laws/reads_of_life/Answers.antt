use Rattle.ring_buffer.proofs.Lives.{life_reads, rest_reads}
use Rattle.ring_buffer.proofs.laws.reads_of_life.Goals as goal

pub returns : goal.returns
returns c = record { whole = life_reads; rest = rest_reads }
