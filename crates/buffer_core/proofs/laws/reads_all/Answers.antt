use Rattle.buffer_core.proofs.Reading.{history_reads, run_reads}
use Rattle.buffer_core.proofs.laws.reads_all.Goals as goal

pub returns : goal.returns
returns c = record { between = history_reads; run = run_reads }
