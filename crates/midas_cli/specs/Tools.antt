-- What a call of a tool comes to.
use Rattle.std.specs.Prelude.{◌≡◌, ℕ, List, Option, Some}
use Rattle.daq_io.specs.Seen.{Seen}
use Rattle.midas_cli.specs.declared.causes.Cause.{Cause}
use Rattle.midas_cli.specs.declared.causes.Cause.TheVariants as causes
use Rattle.midas_tools.specs.Analyses.{analysis_text}
use Rattle.midas_tools.specs.Checks.{check_text}
use Rattle.midas_tools.specs.Dumps.{WritesOn}
use Rattle.midas_tools.specs.Findings.{CallCounts}
use Rattle.midas_tools.specs.Together.{EndsBy, OfFirst, WritesTogether}
use Rattle.midas_tools.specs.declared.ends.ToolEnd.{ToolEnd}
use Rattle.midas_tools.specs.declared.ends.ToolEnd.TheVariants.{Done, Input, FileFault, SinkFault, NoMemory}
use Rattle.command_words.specs.declared.forms.Tool.{Tool}
use Rattle.command_words.specs.declared.forms.Tool.TheVariants.{Check, Dump, Analyze}

-- the cause of a tool's end; a fault of the files names the file of the first fault
abbrev pub IsCauseOf : ToolEnd → (first : Option (List ℕ)) → Cause → Type 0
IsCauseOf Done first cause = cause ≡ causes.Done
IsCauseOf (Input fault) first cause = cause ≡ causes.BadInput fault
IsCauseOf FileFault first cause = (name : List ℕ) × (cause ≡ causes.FileFault name) × (first ≡ Some name)
IsCauseOf SinkFault first cause = cause ≡ causes.SinkFault
IsCauseOf NoMemory first cause = cause ≡ causes.NoMemory

-- what each tool writes; where memory is wanting, `dump`, which reads one file, has read nothing of the files, and no call on
-- them failed or met a clash
abbrev pub ToolWrites : Tool → (seen : Seen) (names : List (List ℕ)) → CallCounts → (told_old told_new : Option (List ℕ)) → ToolEnd → Type 0
ToolWrites Check seen names counts told_old told_new end = WritesTogether check_text seen names told_old told_new end
ToolWrites Dump seen names counts told_old told_new end =
    OfFirst names (λ name. WritesOn seen name counts.read_old counts.read_new told_old told_new end)
    × (end ≡ NoMemory → (counts.files_new ≡ counts.files_old) × (counts.clashes_new ≡ counts.clashes_old) × (counts.read_new ≡ counts.read_old))
ToolWrites Analyze seen names counts told_old told_new end = WritesTogether analysis_text seen names told_old told_new end

-- A tool was run on the files of these names, and this is its cause.
pub record ToolRan (tool : Tool) (seen : Seen) (names : List (List ℕ)) (told_old told_new : Option (List ℕ)) (counts : CallCounts) (first : Option (List ℕ)) (cause : Cause) : Type 0 where
  pub end : ToolEnd
  pub cause_is : IsCauseOf end first cause
  pub writes : ToolWrites tool seen names counts told_old told_new end
  pub ends : EndsBy end seen names counts
