-- Counts of faults by how the lines of a script ended.
use Rattle.std.specs.Prelude.{◌≡◌, ℕ}
use Rattle.daq_io.specs.Counts.{Rose}
use Rattle.console.specs.declared.endings.Ending.{Ending}
use Rattle.console.specs.declared.endings.Ending.TheVariants.{End, TooLong, SourceFault, Halted}
use Rattle.console.specs.declared.play_end.PlayEnd.{PlayEnd}
use Rattle.console.specs.declared.play_end.PlayEnd.TheVariants.{Ended, Opens}
use Rattle.console.specs.Halts.{SinkBy}

-- the source's count rose exactly at a fault of the source
abbrev pub SourceByEnding : Ending → (old new : ℕ) → Type 0
SourceByEnding End old new = new ≡ old
SourceByEnding TooLong old new = new ≡ old
SourceByEnding SourceFault old new = Rose old new
SourceByEnding (Halted halt) old new = new ≡ old

-- the sink's exactly where one of its calls failed
abbrev pub SinkByEnding : Ending → (old new : ℕ) → Type 0
SinkByEnding End old new = new ≡ old
SinkByEnding TooLong old new = new ≡ old
SinkByEnding SourceFault old new = new ≡ old
SinkByEnding (Halted halt) old new = SinkBy halt old new

-- neither rose where a line was left to another
abbrev pub SourceCounts : PlayEnd → (old new : ℕ) → Type 0
SourceCounts (Ended ending) old new = SourceByEnding ending old new
SourceCounts Opens old new = new ≡ old

abbrev pub SinkCounts : PlayEnd → (old new : ℕ) → Type 0
SinkCounts (Ended ending) old new = SinkByEnding ending old new
SinkCounts Opens old new = new ≡ old
