-- What the calls of a command leave alone.
use Rattle.std.specs.Prelude.{List}
use Rattle.daq_types.specs.Callers.{main_caller}
use Rattle.odb_tree.specs.declared.entry.DatabaseEntry.{DatabaseEntry}
use Rattle.odb_watch.specs.DatabasePorts.{calls_by}
use Rattle.odb_runinfo.specs.RunNumberKept.{AllSpareRuninfo}

-- No command removes anything of `/Runinfo`, whatever its calls are answered.

abbrev pub Spares : List DatabaseEntry → Type 0
Spares calls = AllSpareRuninfo (calls_by main_caller calls)
