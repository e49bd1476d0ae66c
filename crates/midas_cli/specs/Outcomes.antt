-- The cause of a call of the program, and its status.
use Rattle.std.specs.Prelude.{ℕ}
use Rattle.daq_session.specs.declared.ends.ScriptEnd.{ScriptEnd}
use Rattle.daq_session.specs.declared.ends.ScriptEnd.TheVariants as ends
use Rattle.midas_cli.specs.declared.causes.Cause.{Cause}
use Rattle.midas_cli.specs.declared.causes.Cause.TheVariants.{Done, CommandRefused, Usage, BadInput, SourceFault, SinkFault, FileFault, NoMemory}
use Rattle.midas_tools.specs.declared.ends.InputFault.TheVariants.{ScriptTooLong}

-- the cause where a script ended so
abbrev pub script_cause : ScriptEnd → Cause
script_cause ends.Done = Done
script_cause (ends.CommandRefused count first) = CommandRefused count first
script_cause ends.TooLong = BadInput ScriptTooLong
script_cause ends.SourceFault = SourceFault
script_cause ends.SinkFault = SinkFault
script_cause (ends.FileFault name) = FileFault name
script_cause ends.NoMemory = NoMemory

-- the status of a cause
abbrev pub status_of : Cause → ℕ
status_of Done = 0
status_of (CommandRefused count first) = 1
status_of Usage = 2
status_of (BadInput fault) = 3
status_of SourceFault = 4
status_of SinkFault = 4
status_of (FileFault name) = 4
status_of NoMemory = 5
