-- How the next line of a script is read.
use Rattle.std.specs.Prelude.{◌≡◌, ℕ, Bool, true, false, List, Option, Some, None}
use Rattle.daq_io.specs.Counts.{Rose}
use Rattle.daq_io.specs.Told.{SourceTold}
use Rattle.odb_script.specs.Lines.{Reading, ReadsLine, ReadsLast, ReadsNone, ReadsTooMuch, ReadsPart}
use Rattle.console.specs.declared.endings.Ending.{Ending}
use Rattle.console.specs.declared.endings.Ending.TheVariants.{End, TooLong, SourceFault, Halted}

-- this line was read, with its end, or as the last, which has none
abbrev pub ReadsNext : (last : Bool) → (old new : Reading) → (before after : SourceTold) → (line : List ℕ) → Type 0
ReadsNext true old new before after line = ReadsLast old new before after line
ReadsNext false old new before after line = ReadsLine old new before after line

-- a line was read, or the lines ended so
abbrev pub ReadsLineOrEnd : Option Ending → (last : Bool) → (old new : Reading) → (before after : SourceTold) → Type 0
ReadsLineOrEnd None last old new before after = (line : List ℕ) × ReadsNext last old new before after line
ReadsLineOrEnd (Some End) last old new before after = ReadsNone old new before after
ReadsLineOrEnd (Some TooLong) last old new before after = ReadsTooMuch old new before after
ReadsLineOrEnd (Some SourceFault) last old new before after = ReadsPart old new before after
ReadsLineOrEnd (Some (Halted halt)) last old new before after = ⊥

-- the source's count of faults with that
abbrev pub SourceBy : Option Ending → (old new : ℕ) → Type 0
SourceBy None old new = new ≡ old
SourceBy (Some End) old new = new ≡ old
SourceBy (Some TooLong) old new = new ≡ old
SourceBy (Some SourceFault) old new = Rose old new
SourceBy (Some (Halted halt)) old new = new ≡ old
