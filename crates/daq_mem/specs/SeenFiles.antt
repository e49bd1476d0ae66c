-- Files in memory, as their callers see them.
use Rattle.daq_io.specs.Uses.{free_numbers}
use Rattle.daq_mem.specs.FilesSeen.{FilesSeen}
use Rattle.daq_mem.specs.MemSeen.{free_slots, seen_of}
use Rattle.daq_mem.specs.declared.files.MemFiles.{MemFiles}

-- all that files in memory tell, with their plan and their room
abbrev pub seen_files : MemFiles → FilesSeen
seen_files files = record {
  told = record {
    seen = seen_of files.slots.slots.items files.numbers.uses.items files.readers.readers.items files.given files.done;
    faults = files.tally.faults;
    clashes = files.tally.clashes;
    first = files.tally.first;
    bytes_read = files.bytes_read;
  };
  plan = files.planned;
  room = files.slots.room;
  free_files = free_slots files.slots.slots.items;
  free_numbers = free_numbers files.numbers.uses.items;
}
