-- All that was read so far is in the text.
use Rattle.std.proofs.Common.{◌≡◌, ◌-◌, ◌<◌, length}
use Rattle.daq_io.specs.Seen.{Reads}
use Rattle.odb_commands.proofs.file_reading.read_on.Given as goal

abbrev pub invariant-loop-files : goal.invariant-loop-files
invariant-loop-files g l = record {
  reads : Reads (g.E.Files.told l.fn.files).seen (g.E.Files.told l.files).seen l.file l.text.items;
  room : 0 < length l.block;
  faults : (g.E.Files.told l.files).faults ≡ (g.E.Files.told l.fn.files).faults;
  clashes : (g.E.Files.told l.files).clashes ≡ (g.E.Files.told l.fn.files).clashes;
  first : (g.E.Files.told l.files).first ≡ (g.E.Files.told l.fn.files).first;
}

abbrev pub decreases-loop-files : goal.decreases-loop-files
decreases-loop-files g l = 268435457 - length l.text.items
