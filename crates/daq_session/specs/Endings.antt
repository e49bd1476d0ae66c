-- Why a script ended.
use Rattle.std.specs.Prelude.{◌≡◌, ◌≤◌, ◌⊎◌, ℕ, ◌==◌, if◌then◌else◌, List, Option, Some, None}
use Rattle.daq_io.specs.Counts.{Rose}
use Rattle.console.specs.declared.endings.Ending.{Ending}
use Rattle.console.specs.declared.endings.Ending.TheVariants.{End, TooLong as too_long, SourceFault as source_fault, Halted}
use Rattle.console.specs.declared.halts.Halt.TheVariants.{NoMemory as no_memory, SinkFault as sink_fault}
use Rattle.console.specs.declared.refusals.Refusals.{Refusals}
use Rattle.daq_session.specs.declared.ends.ScriptEnd.{ScriptEnd}
use Rattle.daq_session.specs.declared.ends.ScriptEnd.TheVariants.{Done, CommandRefused, TooLong, SourceFault, SinkFault, FileFault, NoMemory}

-- The file of this name is that of the first fault, of the run files where their count of faults rose, else of the files of the
-- database where theirs did; or neither grew.
abbrev pub FaultedFile : (run run_later : ℕ) → (run_first : Option (List ℕ)) → (odb odb_later : ℕ) → (odb_first : Option (List ℕ)) → Option (List ℕ) → Type 0
FaultedFile run run_later run_first odb odb_later odb_first (Some name) =
    (Rose run run_later × (run_first ≡ Some name))
    ⊎ ((run_later ≤ run) × Rose odb odb_later × (odb_first ≡ Some name))
FaultedFile run run_later run_first odb odb_later odb_first None = (run_later ≤ run) × (odb_later ≤ odb)

-- the cause where no file failed: the script's length, or the lines that were refused
abbrev pub end_by_refusals : Refusals → ScriptEnd
end_by_refusals refusals = if refusals.count == 0 then Done else CommandRefused refusals.count refusals.first

-- The cause of a script whose lines and what is behind them ended so: want of memory comes first, then the source, the sink, and
-- the files, and last the script's length and its refusals.
abbrev pub script_end : Ending → (faulted : Option (List ℕ)) → Refusals → ScriptEnd
script_end End (Some name) refusals = FileFault name
script_end End None refusals = end_by_refusals refusals
script_end too_long (Some name) refusals = FileFault name
script_end too_long None refusals = TooLong
script_end source_fault faulted refusals = SourceFault
script_end (Halted no_memory) faulted refusals = NoMemory
script_end (Halted sink_fault) faulted refusals = SinkFault
