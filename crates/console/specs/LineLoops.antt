-- Where a script is read: before its lines, between them, and where they came to their end.
use Rattle.std.specs.Prelude.{◌≡◌, ◌+◌, ◌≤◌, Bool, false}
use Rattle.daq_io.specs.Told.{SinkTold, SourceTold}
use Rattle.odb_script.specs.declared.commands.Command.{Command}
use Rattle.odb_script.specs.Forms.{Read}
use Rattle.odb_script.specs.Lines.{no_line_read}
use Rattle.console.specs.declared.line_loop.LineLoop.{LineLoop}
use Rattle.console.specs.declared.play_end.PlayEnd.{PlayEnd}
use Rattle.console.specs.Endings.{SinkCounts, SourceCounts}
use Rattle.console.specs.Playing.{FitsOn, LeftLine}

-- No line of the script was read yet, and none was refused or answered.
pub record IsUnreadScript (loop : LineLoop) : Type 0 where
  pub reader : loop.reader ≡ no_line_read
  pub refusals : loop.refusals ≡ record { count = 0; first = 0 }
  pub number : loop.number ≡ 0

-- The line that was read is not answered yet, and no line is left to another.
pub record CanPlayOut (leaves : Read Command → Bool) (loop : LineLoop) : Type 0 where
  pub fits : loop.number + 1 ≤ loop.reader.taken
  pub own : (line : Read Command) → leaves line ≡ false

-- How the lines came to their end: source and sink count the faults of such an end, and a line that is left to another is one that
-- may be, and its bytes were read.
pub record EndsLines (leaves : Read Command → Bool) (end : PlayEnd) (loop : LineLoop) (source source_later : SourceTold)
    (sink sink_later : SinkTold) : Type 0 where
  pub fits : FitsOn end loop.number loop.reader.taken
  pub left : LeftLine leaves end
  pub source_counts : SourceCounts end source.faults source_later.faults
  pub sink_counts : SinkCounts end sink.faults sink_later.faults
