-- What `gen` writes.
use Rattle.std.specs.Prelude.{◌≡◌, ℕ, List, Option}
use Rattle.std.specs.Io.KnownBytes.{Appends}
use Rattle.daq_io.specs.Counts.{Rose}
use Rattle.daq_io.specs.Streams.{AppendsPart}
use Rattle.midas_tools.specs.Scripts.{generated_script}
use Rattle.midas_cli.specs.declared.causes.Cause.{Cause}
use Rattle.midas_cli.specs.declared.causes.Cause.TheVariants.{Done, CommandRefused, Usage, BadInput, SourceFault, SinkFault, FileFault, NoMemory}

-- What is written of the script of a number, and the sink's count of faults, by the cause: all of it, a part of it where the sink
-- failed, and nothing where there was no memory.
abbrev pub Generates : (number : ℕ) (told_old told_new : Option (List ℕ)) (sink_old sink_new : ℕ) → Cause → Type 0
Generates number told_old told_new sink_old sink_new Done = Appends told_old told_new (generated_script number) × (sink_new ≡ sink_old)
Generates number told_old told_new sink_old sink_new (CommandRefused count first) = ⊥
Generates number told_old told_new sink_old sink_new Usage = ⊥
Generates number told_old told_new sink_old sink_new (BadInput fault) = ⊥
Generates number told_old told_new sink_old sink_new SourceFault = ⊥
Generates number told_old told_new sink_old sink_new SinkFault = AppendsPart told_old told_new (generated_script number) × Rose sink_old sink_new
Generates number told_old told_new sink_old sink_new (FileFault name) = ⊥
Generates number told_old told_new sink_old sink_new NoMemory = (told_new ≡ told_old) × (sink_new ≡ sink_old)
